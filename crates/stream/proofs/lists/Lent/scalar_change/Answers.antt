-- `scalar_change` meets its contract. Assumes nothing.
use native.Mathlib.Omega.{arith}
use Rattle.std.specs.Prelude.{length}
use mathlib.Core.Path.{◌∙◌}
use Rattle.std.proofs.lemmas.Result.{err_from_is_err_and}
use Rattle.rlp.specs.Bytes.{be}
use Rattle.stream.specs.Stream.{value, lent}
use Rattle.stream.specs.Steps.{state_lent}
use Rattle.stream.proofs.Calls.{pass_scalar, answer_no, value_size, value_adds, app_no, app_room, app_ready, app_yes}
use Rattle.stream.proofs.Found.{scalar_goes}
use Rattle.stream.proofs.lists.Lent.scalar_change.Goals as goal

pub returns-in_err-guard : goal.returns-in_err-guard
unfolding lent
returns-in_err-guard c =
    let s = state_lent c.args.self in
    let b = c.args.buf.now in
    let p = err_from_is_err_and c.from_residual.result c.from_residual.ensures.1 in
    rw (p.1, p.2) (answer_no s b (value (be c.args.n)) _ (c.in_err-guard.ensures ∙ pass_scalar s (length b) c.args.n (omega (arith, c.ranges))))

pub room_for-requires : goal.room_for-requires
unfolding lent
room_for-requires c =
    let g = scalar_goes c.args.self c.args.buf.now c.args.n (omega (arith, c.ranges)) c.in_ok-guard.ensures in
    (g.past, omega arith, value_size _ _ _ g _ c.scalar_size-size.ensures)

pub returns-in_err-room_for : goal.returns-in_err-room_for
unfolding lent
returns-in_err-room_for c =
    let g = scalar_goes c.args.self c.args.buf.now c.args.n (omega (arith, c.ranges)) c.in_ok-guard.ensures in
    let p = err_from_is_err_and c.from_residual-in_err-room_for.result c.from_residual-in_err-room_for.ensures.1 in
    rw (p.1, p.2) (app_no (value_adds _ _ _ g _ c.scalar_size-size.ensures) _ c.in_err-room_for.ensures)

pub write_scalar-requires : goal.write_scalar-requires
unfolding lent
write_scalar-requires c =
    let g = scalar_goes c.args.self c.args.buf.now c.args.n (omega (arith, c.ranges)) c.in_ok-guard.ensures in
    (c.scalar_size-size.ensures, app_room (value_adds _ _ _ g _ c.scalar_size-size.ensures) c.in_ok-room_for.ensures)

pub overflow_add-self : goal.overflow_add-self
unfolding lent
overflow_add-self c =
    let g = scalar_goes c.args.self c.args.buf.now c.args.n (omega (arith, c.ranges)) c.in_ok-guard.ensures in
    omega (arith, app_room (value_adds _ _ _ g _ c.scalar_size-size.ensures) c.in_ok-room_for.ensures, g.past.small)

pub count_item-requires : goal.count_item-requires
unfolding lent
count_item-requires c =
    let g = scalar_goes c.args.self c.args.buf.now c.args.n (omega (arith, c.ranges)) c.in_ok-guard.ensures in
    app_ready (value_adds _ _ _ g _ c.scalar_size-size.ensures) c.in_ok-room_for.ensures _ c.write_scalar.ensures

pub returns : goal.returns
unfolding lent
returns c =
    let g = scalar_goes c.args.self c.args.buf.now c.args.n (omega (arith, c.ranges)) c.in_ok-guard.ensures in
    app_yes (value_adds _ _ _ g _ c.scalar_size-size.ensures) c.in_ok-room_for.ensures _ c.write_scalar.ensures _ _ c.count_item.ensures.0 c.count_item.ensures.1
