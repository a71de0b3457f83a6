-- The loop of `total_after`: the total after what is left to count is the total after all.
use Rattle.std.specs.Prelude.{◌≡◌, ◌+◌, ◌*◌, ◌≤◌}
use Rattle.rlp.specs.Limits.{limit, levels}
use Rattle.stream.specs.Steps.{opens_to, opens_lent, total_after, Lists}
use Rattle.stream.proofs.lists.Lent.total_after.Given as goal

abbrev pub invariant-loop-i : goal.invariant-loop-i
invariant-loop-i l =
    (l.add ≤ limit) × (l.t + 8 * l.i ≤ l.written + 8 * levels) × Lists l.t (opens_to l.self l.i)
    × (total_after l.add (opens_to l.self l.i) l.t ≡ total_after l.n (opens_lent l.self) l.written)
