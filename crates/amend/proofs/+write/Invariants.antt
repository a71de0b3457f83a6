-- The path has one index less at each call.
use Rattle.std.proofs.Common.{length}
use Rattle.amend.proofs.+write.Given as goal

abbrev pub decreases-write : goal.decreases-write
decreases-write l = length l.path.now
