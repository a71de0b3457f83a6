-- The loop of `count_items`: `At`, what is left of the count is the whole count.
use Rattle.stream.proofs.Cascade.{At}
use Rattle.stream.proofs.lists.Lent.count_items.Given as goal

abbrev pub invariant-loop-i : goal.invariant-loop-i
invariant-loop-i l = At l.self l.initial.buf l.n l.end l.buf l.i l.e l.add
