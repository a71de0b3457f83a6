-- `encode::claimed` meets its contract: what specs/Claims.antt claims is proved in proofs/Claims.antt. Assumes nothing.
use Rattle.encode.proofs.Claims.{claimed}
use Rattle.encode.proofs.claimed.Goals as goal

pub returns : goal.returns
returns c = claimed
