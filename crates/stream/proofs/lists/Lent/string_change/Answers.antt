-- `string_change` meets its contract. Assumes nothing.
use native.Mathlib.Omega.{arith}
use Rattle.std.proofs.lemmas.Result.{err_from_is_err_and}
use Rattle.stream.specs.Stream.{value, lent}
use Rattle.stream.specs.Steps.{state_lent}
use Rattle.stream.proofs.Calls.{answer_no, answer-past, value_size, value_adds, app_no, app_room, app_ready, app_yes}
use Rattle.stream.proofs.lists.Lent.string_change.Goals as goal

pub returns-in_err-guard : goal.returns-in_err-guard
unfolding lent
returns-in_err-guard c =
    let p = err_from_is_err_and c.from_residual.result c.from_residual.ensures.1 in
    rw (p.1, p.2) (answer_no (state_lent c.args.self) c.args.buf.now (value c.args.src.now) _ c.in_err-guard.ensures)

pub room_for-requires : goal.room_for-requires
unfolding lent
room_for-requires c =
    let g = answer-past (state_lent c.args.self) c.args.buf.now (value c.args.src.now) c.in_ok-guard.ensures in
    (g.past, omega arith, value_size _ _ _ g _ c.string_size-size.ensures)

pub returns-in_err-room_for : goal.returns-in_err-room_for
unfolding lent
returns-in_err-room_for c =
    let g = answer-past (state_lent c.args.self) c.args.buf.now (value c.args.src.now) c.in_ok-guard.ensures in
    let p = err_from_is_err_and c.from_residual-in_err-room_for.result c.from_residual-in_err-room_for.ensures.1 in
    rw (p.1, p.2) (app_no (value_adds _ _ _ g _ c.string_size-size.ensures) _ c.in_err-room_for.ensures)

pub write_string-requires : goal.write_string-requires
unfolding lent
write_string-requires c =
    let g = answer-past (state_lent c.args.self) c.args.buf.now (value c.args.src.now) c.in_ok-guard.ensures in
    (c.string_size-size.ensures, app_room (value_adds _ _ _ g _ c.string_size-size.ensures) c.in_ok-room_for.ensures)

pub overflow_add-self : goal.overflow_add-self
unfolding lent
overflow_add-self c =
    let g = answer-past (state_lent c.args.self) c.args.buf.now (value c.args.src.now) c.in_ok-guard.ensures in
    omega (arith, app_room (value_adds _ _ _ g _ c.string_size-size.ensures) c.in_ok-room_for.ensures, g.past.small)

pub count_item-requires : goal.count_item-requires
unfolding lent
count_item-requires c =
    let g = answer-past (state_lent c.args.self) c.args.buf.now (value c.args.src.now) c.in_ok-guard.ensures in
    app_ready (value_adds _ _ _ g _ c.string_size-size.ensures) c.in_ok-room_for.ensures _ c.write_string.ensures

pub returns : goal.returns
unfolding lent
returns c =
    let g = answer-past (state_lent c.args.self) c.args.buf.now (value c.args.src.now) c.in_ok-guard.ensures in
    app_yes (value_adds _ _ _ g _ c.string_size-size.ensures) c.in_ok-room_for.ensures _ c.write_string.ensures _ _ c.count_item.ensures.0 c.count_item.ensures.1
