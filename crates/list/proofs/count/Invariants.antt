-- `list::count` meets its contract. The loop's invariant: the items counted and those of the rest are all of the payload's, and there are no more of them
-- than bytes. Assumes nothing.
use Rattle.std.proofs.Common.{◌≡◌, ◌+◌, ◌≤◌, length}
use Rattle.list.proofs.Rows.{counted}
use Rattle.list.proofs.count.Given as goal

abbrev pub invariant-loop-rest : goal.invariant-loop-rest
invariant-loop-rest l = (l.items + length l.rest ≤ length l.payload) × (counted l.items l.rest ≡ counted 0 l.payload)

abbrev pub decreases-loop-rest : goal.decreases-loop-rest
decreases-loop-rest l = length l.rest
