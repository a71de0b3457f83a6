-- `finalize_change` meets its contract. Assumes nothing.
use native.Mathlib.Omega.{arith}
use Rattle.std.specs.Prelude.{◌+◌, ◌-◌}
use mathlib.Core.Path.{◌∙◌}
use Rattle.std.proofs.lemmas.Result.{err_from_is_err_and}
use Rattle.rlp.specs.declared.Refusal.TheVariants.{NoOpenList, ListTypeMismatch}
use Rattle.stream.specs.Stream.{finalize, lent, answer}
use Rattle.stream.specs.Steps.{opens_to, state_lent}
use Rattle.stream.proofs.OpenLists.{growth-most, none_open}
use Rattle.stream.proofs.Cascade.{opened-many}
use Rattle.stream.proofs.Calls.{answer_no, answer-past, comes_no, fin_none, fin_counted, fin_outer, fin_no, fin_room, fin_ready, fin_yes}
use Rattle.stream.proofs.Found.{innermost, ending}
use Rattle.stream.proofs.lists.Lent.finalize_change.Goals as goal

pub returns-in_err-guard : goal.returns-in_err-guard
unfolding lent
returns-in_err-guard c =
    let p = err_from_is_err_and c.from_residual.result c.from_residual.ensures.1 in
    rw (p.1, p.2) (answer_no (state_lent c.args.self) c.args.buf.now finalize _ c.in_err-guard.ensures)

pub returns-then-self-eq0 : goal.returns-then-self-eq0
unfolding lent
returns-then-self-eq0 c =
    let s = state_lent c.args.self in
    let b = c.args.buf.now in
    let g = answer-past s b finalize c.in_ok-guard.ensures in
    comes_no s.start b (answer s b finalize) NoOpenList (g.so ∙ fin_none s b (none_open c.args.self c.args.self.opened (omega arith)))

pub entry-list-requires : goal.entry-list-requires
unfolding lent
entry-list-requires c =
    let g = answer-past (state_lent c.args.self) c.args.buf.now finalize c.in_ok-guard.ensures in
    omega (arith, g.past.few, opened-many c.args.self c.args.self.opened)

pub returns-then-list-gt0 : goal.returns-then-list-gt0
returns-then-list-gt0 c =
    let s = state_lent c.args.self in
    let e = c.entry-list.result in
    let I = innermost c.args.self c.args.buf.now c.in_ok-guard.ensures (omega arith) c.entry-list.result c.entry-list.ensures in
    comes_no s.start c.args.buf.now (answer s c.args.buf.now finalize) ListTypeMismatch
    (I.goes.so ∙ fin_counted s c.args.buf.now e.position e.current e.most (opens_to c.args.self (c.args.self.opened - 1)) I.is (omega arith))

pub overflow_add-at : goal.overflow_add-at
overflow_add-at c =
    let I = innermost c.args.self c.args.buf.now c.in_ok-guard.ensures (omega arith) c.entry-list.result c.entry-list.ensures in
    omega (arith, I.list.1, I.goes.past.starts, I.goes.past.ends, I.goes.past.small)

pub overflow_sub-self : goal.overflow_sub-self
overflow_sub-self c =
    let I = innermost c.args.self c.args.buf.now c.in_ok-guard.ensures (omega arith) c.entry-list.result c.entry-list.ensures in
    omega (arith, I.list.1, I.goes.past.starts)

pub room_for-requires : goal.room_for-requires
room_for-requires c =
    let e = c.entry-list.result in
    let I = innermost c.args.self c.args.buf.now c.in_ok-guard.ensures (omega arith) c.entry-list.result c.entry-list.ensures in
    let m = growth-most (c.args.self.end - (c.args.self.start + e.position)) (omega (arith, I.goes.past.ends, I.goes.past.small)) in
    (fin_outer (state_lent c.args.self) c.args.buf.now e.position e.current e.most (opens_to c.args.self (c.args.self.opened - 1)) I.is I.goes.past, omega arith, omega (arith, c.growth-more.ensures, m))

pub returns-in_err-room_for : goal.returns-in_err-room_for
returns-in_err-room_for c =
    let I = innermost c.args.self c.args.buf.now c.in_ok-guard.ensures (omega arith) c.entry-list.result c.entry-list.ensures in
    let E = ending I c.if-list-gt0.false _ c.growth-more.ensures in
    let p = err_from_is_err_and c.from_residual-in_err-room_for.result c.from_residual-in_err-room_for.ensures.1 in
    rw (p.1, p.2) (fin_no E _ c.in_err-room_for.ensures)

pub close_list-requires : goal.close_list-requires
close_list-requires c =
    let I = innermost c.args.self c.args.buf.now c.in_ok-guard.ensures (omega arith) c.entry-list.result c.entry-list.ensures in
    let E = ending I c.if-list-gt0.false _ c.growth-more.ensures in
    let r = fin_room E c.in_ok-room_for.ensures in
    (omega (arith, I.list.0), omega (arith, I.list.1, I.goes.past.starts), rw c.growth-more.ensures at r)

pub count_items-requires : goal.count_items-requires
count_items-requires c =
    let I = innermost c.args.self c.args.buf.now c.in_ok-guard.ensures (omega arith) c.entry-list.result c.entry-list.ensures in
    let E = ending I c.if-list-gt0.false _ c.growth-more.ensures in
    fin_ready E c.in_ok-room_for.ensures _ c.close_list.ensures.1

pub returns : goal.returns
returns c =
    let I = innermost c.args.self c.args.buf.now c.in_ok-guard.ensures (omega arith) c.entry-list.result c.entry-list.ensures in
    let E = ending I c.if-list-gt0.false _ c.growth-more.ensures in
    fin_yes E c.in_ok-room_for.ensures _ c.close_list.ensures.1 _ _ c.count_items.ensures.0 c.count_items.ensures.1
