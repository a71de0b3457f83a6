-- The loop of `lists_fit`: the test of the lists that are left is the test of all.
use Rattle.std.specs.Prelude.{◌≡◌, suc, ◌+◌, ◌≤◌}
use Rattle.stream.specs.State.{sound}
use Rattle.stream.specs.Steps.{opens_to, opens_lent}
use Rattle.stream.proofs.lists.Lent.lists_fit.Given as goal

abbrev pub invariant-loop-i : goal.invariant-loop-i
invariant-loop-i l =
    (l.bound ≤ l.written + 1) × (sound l.written l.bound (opens_to l.self l.i) ≡ sound l.written (suc l.written) (opens_lent l.self))
