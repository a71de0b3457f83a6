-- `growths` meets its contract. Assumes nothing.
use native.Mathlib.Omega.{arith}
use Rattle.std.specs.Prelude.{◌-◌}
use Rattle.stream.specs.Sizes.{growths}
use Rattle.stream.specs.Steps.{open_of, Lists}
use Rattle.stream.proofs.OpenLists.{growth-most, none_open, innermost_of}
use Rattle.stream.proofs.lists.Lent.growths.Goals as goal

pub overflow_sub-written : goal.overflow_sub-written
unfolding Lists
overflow_sub-written c =
    let w = c.loop-i in
    (rw (innermost_of c.args.self w.i (open_of c.entry.result) c.loop-i-test.true c.entry.ensures) at w.invariant.1).1

pub overflow_add-sum : goal.overflow_add-sum
overflow_add-sum c =
    omega (arith, c.loop-i.invariant.0, c.growth-sum.ensures, growth-most (c.args.written - c.entry.result.position) (omega (arith, c.requires.1)))

pub loop-i-preserved : goal.loop-i-preserved
unfolding Lists growths
loop-i-preserved c =
    let w = c.loop-i in
    let most = growth-most (c.args.written - c.entry.result.position) (omega (arith, c.requires.1)) in
    let q = innermost_of c.args.self w.i (open_of c.entry.result) c.loop-i-test.true c.entry.ensures in (
      omega (arith, w.invariant.0, c.growth-sum.ensures, most),
      (rw q at w.invariant.1).3,
      omega (arith, c.growth-sum.ensures, rw q at w.invariant.2),
    )

pub returns : goal.returns
unfolding growths
returns c = omega (arith, rw (none_open c.args.self c.loop-i.i c.loop-i-test.false) at c.loop-i.invariant.2)
