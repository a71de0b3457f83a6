-- `list::walk` meets its contract. The loop's invariant: of the items from `at` on, the one that is asked for has as many before it as are left.
-- Assumes nothing.
use Rattle.std.proofs.Common.{◌≡◌, ◌≤◌, length}
use Rattle.list.specs.Walk.{nth}
use Rattle.list.proofs.Rows.{Rest}
use Rattle.list.proofs.walk.Given as goal

abbrev pub invariant-loop-len : goal.invariant-loop-len
invariant-loop-len l = (l.at ≤ length l.bytes) × (nth (Rest l.bytes l.at) l.left ≡ nth (Rest l.bytes l.from) l.index)

abbrev pub decreases-loop-len : goal.decreases-loop-len
decreases-loop-len l = l.left
