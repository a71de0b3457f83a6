-- `lists_fit` meets its contract. Assumes nothing.
use native.Mathlib.Omega.{arith}
use Rattle.std.specs.Prelude.{◌≡◌, true, false}
use mathlib.Core.Path.{sym, ◌∙◌}
use Rattle.stream.specs.State.{sane, sound}
use Rattle.stream.specs.Steps.{open_of}
use Rattle.stream.proofs.OpenLists.{sane_facts, none_open, innermost_of}
use Rattle.stream.proofs.lists.Lent.lists_fit.Goals as goal

pub returns-then-not-fits : goal.returns-then-not-fits
unfolding sound
returns-then-not-fits c =
    let w = c.loop-i in
    let o = open_of c.entry-list.result in
    let no : sane c.args.written w.bound o ≡ false = sym c.fits.ensures ∙ c.if-not-fits.true in
    rw (innermost_of c.args.self w.i o c.loop-i-test.true c.entry-list.ensures, no) at w.invariant.1

pub loop-i-preserved : goal.loop-i-preserved
unfolding sound
loop-i-preserved c =
    let w = c.loop-i in
    let o = open_of c.entry-list.result in
    let yes : sane c.args.written w.bound o ≡ true = sym c.fits.ensures ∙ c.if-not-fits.false in
    (omega (arith, sane_facts c.args.written w.bound o yes), rw (innermost_of c.args.self w.i o c.loop-i-test.true c.entry-list.ensures, yes) at w.invariant.1)

pub returns : goal.returns
unfolding sound
returns c = rw (none_open c.args.self c.loop-i.i c.loop-i-test.false) at c.loop-i.invariant.1
