-- `calls::new_list` meets its contract. Assumes nothing.
use native.Mathlib.Omega.{arith}
use Rattle.loughcable.proofs.Crossings.{new_long, new_empty_refused, new_empty_stores, new_empty_kept, new_list_refused, new_list_stores, new_list_kept}
use Rattle.loughcable.proofs.calls.new_list.Goals as goal

pub returns-in_err-left : goal.returns-in_err-left
returns-in_err-left c =
    let a = c.args in
    let z = new_empty_refused a.state.now a.buf.now a.start c.empty_list_change.new.buf c.in_ok-lent.field-0 c.in_ok-lent.ensures a.most c.in_err-left.field-0.0 c.if-most-eq0.true c.in_err-left.ensures in
    grind (arith, z)

pub renew-requires : goal.renew-requires
renew-requires c = new_long c.args.state.now c.args.buf.now c.args.start c.args.buf.now c.in_ok-lent.field-0 c.in_ok-lent.ensures

pub store-requires : goal.store-requires
store-requires c =
    let a = c.args in
    new_empty_stores a.state.now a.buf.now a.start _ c.in_ok-lent.field-0 c.in_ok-lent.ensures c.renew.new.state c.renew.ensures c.in_ok-left.left c.in_ok-left.ensures

pub returns-then-most-eq0 : goal.returns-then-most-eq0
returns-then-most-eq0 c =
    let a = c.args in
    let z = new_empty_kept a.state.now a.buf.now a.start c.empty_list_change.new.buf c.in_ok-lent.field-0 c.in_ok-lent.ensures c.renew.new.state c.renew.ensures c.in_ok-left.left c.in_ok-left.ensures a.most c.if-most-eq0.true in
    rw c.store.ensures z

pub returns-in_err-left-2 : goal.returns-in_err-left-2
returns-in_err-left-2 c =
    let a = c.args in
    let z = new_list_refused a.state.now a.buf.now a.start c.open_change.new.buf c.in_ok-lent.field-0 c.in_ok-lent.ensures a.most c.in_err-left-2.field-0.0 c.if-most-eq0.false c.in_err-left-2.ensures in
    grind (arith, z)

pub renew-requires-2 : goal.renew-requires-2
renew-requires-2 c = new_long c.args.state.now c.args.buf.now c.args.start c.args.buf.now c.in_ok-lent.field-0 c.in_ok-lent.ensures

pub store_list-requires : goal.store_list-requires
store_list-requires c =
    let a = c.args in
    new_list_stores a.state.now a.buf.now a.start _ c.in_ok-lent.field-0 c.in_ok-lent.ensures c.renew-2.new.state c.renew-2.ensures c.in_ok-left-2.left c.in_ok-left-2.ensures

pub returns : goal.returns
returns c =
    let a = c.args in
    let z = new_list_kept a.state.now a.buf.now a.start c.open_change.new.buf c.in_ok-lent.field-0 c.in_ok-lent.ensures c.renew-2.new.state c.renew-2.ensures c.in_ok-left-2.left c.in_ok-left-2.ensures a.most c.if-most-eq0.false in
    rw c.store_list.ensures z
