-- What specs/Claims.antt claims is proved in proofs/Claims.antt.
use Rattle.rlp.proofs.Claims.{claimed}
use Rattle.rlp.proofs.claimed.Goals as goal

pub returns : goal.returns
returns c = claimed
