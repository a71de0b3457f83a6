-- `stream::claimed` meets its contract: what specs/Claims.antt claims is proved in proofs/Claims.antt. Assumes nothing.
use Rattle.stream.proofs.Claims.{claimed}
use Rattle.stream.proofs.claimed.Goals as goal

pub returns : goal.returns
returns c = claimed
