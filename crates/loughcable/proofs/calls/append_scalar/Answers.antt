-- `calls::append_scalar` meets its contract. Assumes nothing.
use native.Mathlib.Omega.{arith}
use mathlib.Core.Path.{refl, ap}
use Rattle.std.specs.Prelude.{Ok, Err}
use Rattle.rlp.specs.Bytes.{be}
use Rattle.rlp.specs.Tree.{payload}
use Rattle.stream.specs.Stream.{value, lent}
use Rattle.loughcable.proofs.Crossings.{scalar_lent, lent_refused, call_refused, call_stores, call_kept}
use Rattle.loughcable.proofs.calls.append_scalar.Goals as goal

pub returns-in_err-lent : goal.returns-in_err-lent
unfolding lent payload
returns-in_err-lent g c =
    let a = c.args in
    let x = c.number-number.result in
    let z = lent_refused a.state.now a.buf.now (value (be x)) c.in_err-lent.field-0.0 (scalar_lent a.state.now a.buf.now x (Err c.in_err-lent.field-0.0) (omega arith) c.in_err-lent.ensures) in
    let y = ap payload c.number-number.ensures in
    grind (arith, rw y at z)

pub returns-in_err-left : goal.returns-in_err-left
unfolding lent payload
returns-in_err-left g c =
    let a = c.args in
    let x = c.number-number.result in
    let z = call_refused a.state.now a.buf.now c.scalar_change.new.buf (value (be x)) c.in_ok-lent.field-0 (scalar_lent a.state.now a.buf.now x (Ok c.in_ok-lent.field-0) (omega arith) c.in_ok-lent.ensures) c.in_err-left.field-0.0 c.in_err-left.ensures in
    let y = ap payload c.number-number.ensures in
    grind (arith, rw y at z)

pub store-requires : goal.store-requires
unfolding lent
store-requires g c =
    let a = c.args in
    let x = c.number-number.result in
    call_stores a.state.now a.buf.now _ (value (be x)) c.in_ok-lent.field-0 (scalar_lent a.state.now a.buf.now x (Ok c.in_ok-lent.field-0) (omega arith) c.in_ok-lent.ensures) c.in_ok-left.left refl c.in_ok-left.ensures

pub returns : goal.returns
unfolding lent payload
returns g c =
    let a = c.args in
    let x = c.number-number.result in
    let z = call_kept a.state.now a.buf.now c.scalar_change.new.buf (value (be x)) c.in_ok-lent.field-0 (scalar_lent a.state.now a.buf.now x (Ok c.in_ok-lent.field-0) (omega arith) c.in_ok-lent.ensures) c.in_ok-left.left refl c.in_ok-left.ensures in
    rw (c.store.ensures, ← ap payload c.number-number.ensures) z
