-- `value::claimed` meets its contract: what specs/Claims.antt claims is proved in proofs/Claims.antt. Assumes nothing.
use Rattle.value.proofs.Claims.{claimed}
use Rattle.value.proofs.claimed.Goals as goal

pub returns : goal.returns
returns c = claimed
