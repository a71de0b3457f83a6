-- `count_items` meets its contract. Assumes nothing.
use native.Mathlib.Omega.{arith}
use Rattle.std.specs.Prelude.{◌≡◌, ◌+◌, ◌-◌, true, false}
use mathlib.Core.Path.{sym, ◌∙◌}
use Rattle.stream.specs.State.{full}
use Rattle.stream.specs.Steps.{open_of}
use Rattle.stream.proofs.OpenLists.{innermost_of}
use Rattle.stream.proofs.Cascade.{at_start, at_list, at_stop, at_room, at_next, at_end}
use Rattle.stream.proofs.lists.Lent.count_items.Goals as goal

pub loop-i-init : goal.loop-i-init
loop-i-init c = at_start c.args.self c.args.buf.now c.args.n c.args.end c.requires

pub overflow_cast-result-then-not-fills : goal.overflow_cast-result-then-not-fills
overflow_cast-result-then-not-fills c =
    let w = c.loop-i in
    let o = open_of c.entry-list.result in
    let q = innermost_of c.args.self w.i o c.loop-i-test.true c.entry-list.ensures in
    omega (arith, at_list w.invariant o c.loop-i-test.true q, w.invariant.items)

pub returns-then-not-fills : goal.returns-then-not-fills
returns-then-not-fills c =
    let w = c.loop-i in
    let o = open_of c.entry-list.result in
    let q = innermost_of c.args.self w.i o c.loop-i-test.true c.entry-list.ensures in
    let no : full (o.current + w.add) o.most ≡ false = sym c.fills.ensures ∙ c.if-not-fills.true in
    at_stop w.invariant o c.loop-i-test.true q no (w.i - 1 + 1) (omega arith)

pub close_list-e-requires : goal.close_list-e-requires
close_list-e-requires c =
    let w = c.loop-i in
    let o = open_of c.entry-list.result in
    let q = innermost_of c.args.self w.i o c.loop-i-test.true c.entry-list.ensures in
    let yes : full (o.current + w.add) o.most ≡ true = sym c.fills.ensures ∙ c.if-not-fills.false in
    let g = at_list w.invariant o c.loop-i-test.true q in
    (omega (arith, g.0), g.1, at_room w.invariant o c.loop-i-test.true q yes)

pub loop-i-preserved : goal.loop-i-preserved
loop-i-preserved c =
    let w = c.loop-i in
    let o = open_of c.entry-list.result in
    let q = innermost_of c.args.self w.i o c.loop-i-test.true c.entry-list.ensures in
    let yes : full (o.current + w.add) o.most ≡ true = sym c.fills.ensures ∙ c.if-not-fills.false in
    let k = c.close_list-e in
    at_next w.invariant o c.loop-i-test.true q yes k.new.buf k.result k.ensures.0 k.ensures.1 (k.auto.buf ∙ w.invariant.long)

pub returns : goal.returns
returns c = at_end c.loop-i.invariant c.loop-i-test.false
