-- `empty_list_change` meets its contract. Assumes nothing.
use native.Mathlib.Omega.{arith}
use Rattle.std.specs.Prelude.{◌<◌, length}
use Rattle.std.proofs.lemmas.Result.{err_from_is_err_and}
use Rattle.rlp.specs.Limits.{levels}
use Rattle.encode.proofs.Puts.{put_one}
use Rattle.stream.specs.Stream.{begin, lent}
use Rattle.stream.specs.Steps.{state_lent, opens_lent}
use Rattle.stream.proofs.Cascade.{opened-many}
use Rattle.stream.proofs.Calls.{answer_no, answer-past, empty_deep, empty_adds, app_no, app_room, app_ready, app_yes}
use Rattle.stream.proofs.lists.Lent.empty_list_change.Goals as goal

pub returns-in_err-guard : goal.returns-in_err-guard
unfolding lent
returns-in_err-guard c =
    let p = err_from_is_err_and c.from_residual.result c.from_residual.ensures.1 in
    rw (p.1, p.2) (answer_no (state_lent c.args.self) c.args.buf.now (begin 0) _ c.in_err-guard.ensures)

pub returns-then-self-ge-LEVELS : goal.returns-then-self-ge-LEVELS
unfolding lent
returns-then-self-ge-LEVELS c =
    empty_deep _ _ (answer-past (state_lent c.args.self) c.args.buf.now (begin 0) c.in_ok-guard.ensures) (omega (arith, opened-many c.args.self c.args.self.opened))

pub room_for-requires : goal.room_for-requires
unfolding lent
room_for-requires c =
    let g = answer-past (state_lent c.args.self) c.args.buf.now (begin 0) c.in_ok-guard.ensures in
    (g.past, omega arith, omega arith)

pub returns-in_err-room_for : goal.returns-in_err-room_for
unfolding lent
returns-in_err-room_for c =
    let g = answer-past (state_lent c.args.self) c.args.buf.now (begin 0) c.in_ok-guard.ensures in
    let few : length (opens_lent c.args.self) < levels = omega (arith, opened-many c.args.self c.args.self.opened) in
    let p = err_from_is_err_and c.from_residual-in_err-room_for.result c.from_residual-in_err-room_for.ensures.1 in
    rw (p.1, p.2) (app_no (empty_adds _ _ g few) _ c.in_err-room_for.ensures)

pub bounds-buf-self : goal.bounds-buf-self
unfolding lent
bounds-buf-self c =
    let g = answer-past (state_lent c.args.self) c.args.buf.now (begin 0) c.in_ok-guard.ensures in
    let few : length (opens_lent c.args.self) < levels = omega (arith, opened-many c.args.self c.args.self.opened) in
    omega (arith, app_room (empty_adds _ _ g few) c.in_ok-room_for.ensures)

pub overflow_add-self : goal.overflow_add-self
unfolding lent
overflow_add-self c =
    let g = answer-past (state_lent c.args.self) c.args.buf.now (begin 0) c.in_ok-guard.ensures in
    omega (arith, g.past.ends, g.past.small)

pub count_item-requires : goal.count_item-requires
unfolding lent
count_item-requires c =
    let g = answer-past (state_lent c.args.self) c.args.buf.now (begin 0) c.in_ok-guard.ensures in
    let few : length (opens_lent c.args.self) < levels = omega (arith, opened-many c.args.self c.args.self.opened) in
    let d = empty_adds _ _ g few in
    app_ready d c.in_ok-room_for.ensures _ (put_one c.args.buf.now c.args.self.end 192 (omega (arith, app_room d c.in_ok-room_for.ensures)))

pub returns : goal.returns
unfolding lent
returns c =
    let g = answer-past (state_lent c.args.self) c.args.buf.now (begin 0) c.in_ok-guard.ensures in
    let few : length (opens_lent c.args.self) < levels = omega (arith, opened-many c.args.self c.args.self.opened) in
    let d = empty_adds _ _ g few in
    app_yes d c.in_ok-room_for.ensures _ (put_one c.args.buf.now c.args.self.end 192 (omega (arith, app_room d c.in_ok-room_for.ensures))) _ _ c.count_item.ensures.0 c.count_item.ensures.1
