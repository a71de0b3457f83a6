-- `header::claimed` meets its contract: what specs/Claims.antt claims is proved in proofs/Claims.antt. Assumes nothing.
use Rattle.header.proofs.Claims.{claimed}
use Rattle.header.proofs.claimed.Goals as goal

pub returns : goal.returns
returns c = claimed
