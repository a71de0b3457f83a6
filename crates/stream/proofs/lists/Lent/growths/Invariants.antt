-- The loop of `growths`: the sum so far and that of the lists that are left are the whole.
use Rattle.std.specs.Prelude.{◌≡◌, ◌+◌, ◌*◌, ◌≤◌}
use Rattle.rlp.specs.Limits.{levels}
use Rattle.stream.specs.Sizes.{growths}
use Rattle.stream.specs.Steps.{opens_to, opens_lent, Lists}
use Rattle.stream.proofs.lists.Lent.growths.Given as goal

abbrev pub invariant-loop-i : goal.invariant-loop-i
invariant-loop-i l =
    (l.sum + 8 * l.i ≤ 8 * levels) × Lists l.written (opens_to l.self l.i)
    × (l.sum + growths l.written (opens_to l.self l.i) ≡ growths l.written (opens_lent l.self))
