-- `count_item` meets its contract: the first step of the whole count, or all of it. Assumes nothing.
use native.Mathlib.Omega.{arith}
use Rattle.std.specs.Prelude.{◌≡◌, ◌+◌, false}
use mathlib.Core.Path.{refl, sym, ◌∙◌}
use Rattle.stream.specs.State.{full}
use Rattle.stream.specs.Steps.{open_of}
use Rattle.stream.proofs.OpenLists.{innermost_of}
use Rattle.stream.proofs.Cascade.{at_start, at_list, at_stop, at_end}
use Rattle.stream.proofs.lists.Lent.count_item.Goals as goal

pub returns-then-self-eq0 : goal.returns-then-self-eq0
returns-then-self-eq0 c = at_end (at_start c.args.self c.args.buf.now 1 c.args.end c.requires) (omega arith)

pub entry-list-requires : goal.entry-list-requires
entry-list-requires c =
    let w = at_start c.args.self c.args.buf.now 1 c.args.end c.requires in
    omega (arith, w.few)

pub overflow_add-result : goal.overflow_add-result
overflow_add-result c =
    let w = at_start c.args.self c.args.buf.now 1 c.args.end c.requires in
    let o = open_of c.entry-list.result in
    omega (arith, at_list w o (omega arith) (innermost_of c.args.self c.args.self.opened o (omega arith) c.entry-list.ensures))

pub returns-then-not-fills : goal.returns-then-not-fills
returns-then-not-fills c =
    let w = at_start c.args.self c.args.buf.now 1 c.args.end c.requires in
    let o = open_of c.entry-list.result in
    let no : full (o.current + 1) o.most ≡ false = sym c.fills.ensures ∙ c.if-not-fills.true in
    at_stop w o (omega arith) (innermost_of c.args.self c.args.self.opened o (omega arith) c.entry-list.ensures) no c.args.self.opened refl
