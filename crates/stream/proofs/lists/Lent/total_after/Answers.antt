-- `total_after` meets its contract. Assumes nothing.
use native.Mathlib.Omega.{arith}
use Rattle.std.specs.Prelude.{◌≡◌, ◌+◌, ◌-◌, true, false}
use mathlib.Core.Path.{sym, ◌∙◌}
use Rattle.stream.specs.State.{full}
use Rattle.stream.specs.Steps.{opens_to, open_of, total_after, Lists}
use Rattle.stream.proofs.OpenLists.{growth-most, lists-more, none_open, innermost_of}
use Rattle.stream.proofs.lists.Lent.total_after.Goals as goal

pub returns-then-not-fills : goal.returns-then-not-fills
unfolding total_after
returns-then-not-fills c =
    let w = c.loop-i in
    let o = open_of c.entry-list.result in
    let no : full (o.current + w.add) o.most ≡ false = sym c.fills.ensures ∙ c.if-not-fills.true in
    rw (innermost_of c.args.self w.i o c.loop-i-test.true c.entry-list.ensures, no) at w.invariant.3

pub overflow_sub-t : goal.overflow_sub-t
unfolding Lists
overflow_sub-t c =
    let w = c.loop-i in
    (rw (innermost_of c.args.self w.i (open_of c.entry-list.result) c.loop-i-test.true c.entry-list.ensures) at w.invariant.2).1

pub overflow_add-t : goal.overflow_add-t
overflow_add-t c =
    let w = c.loop-i in
    omega (arith, w.invariant.1, c.growth-t.ensures, growth-most (w.t - c.entry-list.result.position) (omega (arith, w.invariant.1, c.requires.2)))

pub loop-i-preserved : goal.loop-i-preserved
unfolding total_after Lists
loop-i-preserved c =
    let w = c.loop-i in
    let o = open_of c.entry-list.result in
    let q = innermost_of c.args.self w.i o c.loop-i-test.true c.entry-list.ensures in
    let yes : full (o.current + w.add) o.most ≡ true = sym c.fills.ensures ∙ c.if-not-fills.false in
    let most = growth-most (w.t - o.position) (omega (arith, w.invariant.1, c.requires.2)) in (
      omega arith,
      omega (arith, w.invariant.1, c.growth-t.ensures, most),
      lists-more w.t (w.t + c.growth-t.result) (opens_to c.args.self (w.i - 1)) (omega arith) (rw q at w.invariant.2).3,
      rw c.growth-t.ensures (rw (q, yes) at w.invariant.3),
    )

pub returns : goal.returns
unfolding total_after
returns c = rw (none_open c.args.self c.loop-i.i c.loop-i-test.false) at c.loop-i.invariant.3
