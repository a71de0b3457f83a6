-- `raw_change` meets its contract. Assumes nothing.
use native.Mathlib.Omega.{arith}
use mathlib.Core.Path.{sym, ◌∙◌}
use Rattle.std.proofs.lemmas.Result.{err_from_is_err_and}
use Rattle.rlp.proofs.Slices.{bytes_of}
use Rattle.stream.specs.Stream.{raw, lent}
use Rattle.stream.specs.Steps.{state_lent}
use Rattle.stream.proofs.Calls.{answer_no, answer-past, app_no, app_room, app_ready, app_yes}
use Rattle.stream.proofs.Raws.{raw_unread, raw-other, raw_few, raw-many, raw-deep}
use Rattle.stream.proofs.Found.{tallied, added}
use Rattle.stream.proofs.lists.Lent.raw_change.Goals as goal

pub returns-in_err-guard : goal.returns-in_err-guard
unfolding lent
returns-in_err-guard c =
    let p = err_from_is_err_and c.from_residual.result c.from_residual.ensures.1 in
    rw (p.1, p.2) (answer_no (state_lent c.args.self) c.args.buf.now (raw c.args.src.now c.args.items) _ c.in_err-guard.ensures)

pub returns-in_err-tally : goal.returns-in_err-tally
unfolding lent
returns-in_err-tally c =
    let s = state_lent c.args.self in
    let g = answer-past s c.args.buf.now (raw c.args.src.now c.args.items) c.in_ok-guard.ensures in
    let p = err_from_is_err_and c.from_residual-in_err-tally.result c.from_residual-in_err-tally.ensures.1 in
    rw (p.1, p.2) (raw_unread s c.args.buf.now c.args.src.now c.args.items g _ c.in_err-tally.ensures)

pub returns-then-tally-items : goal.returns-then-tally-items
returns-then-tally-items c =
    let T = tallied c.args.self c.args.buf.now c.args.src.now c.args.items c.in_ok-guard.ensures (bytes_of c.args.src.now (λ i h. (c.type_inv.src i).fits)) _ c.in_ok-tally.ensures in
    raw-other (state_lent c.args.self) c.args.buf.now c.args.src.now c.args.items T.goes _ T.read (λ h. omega arith)

pub takes-requires : goal.takes-requires
takes-requires c =
    let T = tallied c.args.self c.args.buf.now c.args.src.now c.args.items c.in_ok-guard.ensures (bytes_of c.args.src.now (λ i h. (c.type_inv.src i).fits)) _ c.in_ok-tally.ensures in
    (omega (arith, T.goes.past.few, T.opened), raw_few (state_lent c.args.self) c.args.buf.now c.args.src.now c.args.items T.goes _ T.read (omega arith))

pub returns-then-not-takes : goal.returns-then-not-takes
returns-then-not-takes c =
    let T = tallied c.args.self c.args.buf.now c.args.src.now c.args.items c.in_ok-guard.ensures (bytes_of c.args.src.now (λ i h. (c.type_inv.src i).fits)) _ c.in_ok-tally.ensures in
    raw-many (state_lent c.args.self) c.args.buf.now c.args.src.now c.args.items T.goes _ T.read (omega arith) (sym c.takes.ensures ∙ c.if-not-takes.true)

pub overflow_add-self : goal.overflow_add-self
overflow_add-self c =
    let T = tallied c.args.self c.args.buf.now c.args.src.now c.args.items c.in_ok-guard.ensures (bytes_of c.args.src.now (λ i h. (c.type_inv.src i).fits)) _ c.in_ok-tally.ensures in
    omega (arith, T.goes.past.few, T.opened, T.read.depth, T.read.low)

pub returns-then-self-tally-gt-LEVELS : goal.returns-then-self-tally-gt-LEVELS
returns-then-self-tally-gt-LEVELS c =
    let T = tallied c.args.self c.args.buf.now c.args.src.now c.args.items c.in_ok-guard.ensures (bytes_of c.args.src.now (λ i h. (c.type_inv.src i).fits)) _ c.in_ok-tally.ensures in
    raw-deep (state_lent c.args.self) c.args.buf.now c.args.src.now c.args.items T.goes _ T.read (omega arith) (sym c.takes.ensures ∙ c.if-not-takes.false) (omega (arith, T.opened))

pub room_for-requires : goal.room_for-requires
unfolding lent
room_for-requires c =
    let T = tallied c.args.self c.args.buf.now c.args.src.now c.args.items c.in_ok-guard.ensures (bytes_of c.args.src.now (λ i h. (c.type_inv.src i).fits)) _ c.in_ok-tally.ensures in
    (T.goes.past, raw_few (state_lent c.args.self) c.args.buf.now c.args.src.now c.args.items T.goes _ T.read (omega arith), omega (arith, T.goes.lent-few))

pub returns-in_err-room_for : goal.returns-in_err-room_for
returns-in_err-room_for c =
    let T = tallied c.args.self c.args.buf.now c.args.src.now c.args.items c.in_ok-guard.ensures (bytes_of c.args.src.now (λ i h. (c.type_inv.src i).fits)) _ c.in_ok-tally.ensures in
    let A = added T (omega arith) (sym c.takes.ensures ∙ c.if-not-takes.false) (omega arith) in
    let p = err_from_is_err_and c.from_residual-in_err-room_for.result c.from_residual-in_err-room_for.ensures.1 in
    rw (p.1, p.2) (app_no A _ c.in_err-room_for.ensures)

pub copy_at-requires : goal.copy_at-requires
copy_at-requires c =
    let T = tallied c.args.self c.args.buf.now c.args.src.now c.args.items c.in_ok-guard.ensures (bytes_of c.args.src.now (λ i h. (c.type_inv.src i).fits)) _ c.in_ok-tally.ensures in
    let A = added T (omega arith) (sym c.takes.ensures ∙ c.if-not-takes.false) (omega arith) in
    app_room A c.in_ok-room_for.ensures

pub overflow_add-self-2 : goal.overflow_add-self-2
overflow_add-self-2 c =
    let T = tallied c.args.self c.args.buf.now c.args.src.now c.args.items c.in_ok-guard.ensures (bytes_of c.args.src.now (λ i h. (c.type_inv.src i).fits)) _ c.in_ok-tally.ensures in
    let A = added T (omega arith) (sym c.takes.ensures ∙ c.if-not-takes.false) (omega arith) in
    omega (arith, app_room A c.in_ok-room_for.ensures, T.goes.past.small)

pub count_items-requires : goal.count_items-requires
count_items-requires c =
    let T = tallied c.args.self c.args.buf.now c.args.src.now c.args.items c.in_ok-guard.ensures (bytes_of c.args.src.now (λ i h. (c.type_inv.src i).fits)) _ c.in_ok-tally.ensures in
    let A = added T (omega arith) (sym c.takes.ensures ∙ c.if-not-takes.false) (omega arith) in
    app_ready A c.in_ok-room_for.ensures _ c.copy_at.ensures

pub returns : goal.returns
returns c =
    let T = tallied c.args.self c.args.buf.now c.args.src.now c.args.items c.in_ok-guard.ensures (bytes_of c.args.src.now (λ i h. (c.type_inv.src i).fits)) _ c.in_ok-tally.ensures in
    let A = added T (omega arith) (sym c.takes.ensures ∙ c.if-not-takes.false) (omega arith) in
    app_yes A c.in_ok-room_for.ensures _ c.copy_at.ensures _ _ c.count_items.ensures.0 c.count_items.ensures.1
