-- The path has one index less at each call.
use Rattle.std.proofs.Common.{length}
use Rattle.amend.proofs.+plan.Given as goal

abbrev pub decreases-plan : goal.decreases-plan
decreases-plan l = length l.path.now
