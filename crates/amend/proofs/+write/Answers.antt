-- `amend::write` meets its contract: it calls itself with one index of the path less. Assumes nothing.
use Rattle.std.proofs.Common.{ℕ, arith, length-take, length-drop}
use Rattle.amend.proofs.Turns.{leaf_room, leaf_written, here, some_level, can_turn, turn_room, turn_small, turn_written}
use Rattle.amend.proofs.+write.Goals as goal

-- ---- at the path's end

pub replace_item-requires : goal.replace_item-requires
replace_item-requires t c = leaf_room _ _ c.requires.0 c.in_default.ensures.cases c.requires.1.ready

pub returns-in_default : goal.returns-in_default
returns-in_default t c =
    λ t u v r R. leaf_written _ _ c.requires.0 c.in_default.ensures.cases R c.replace_item.ensures.0 c.replace_item.ensures.1

-- ---- at a list

pub write-n-requires : goal.write-n-requires
write-n-requires t c =
    let R = c.requires.1.ready in (
      omega (arith, c.decreases, c.in-Some.ensures.cases.1),
      (
        omega (arith, c.requires.0, length-take {A = ℕ}, length-drop {A = ℕ}),
        can_turn _ _ c.args.lens c.args.k c.requires.0 c.in-Some.ensures.cases.0 R (here R c.in-Some-item_of.ensures.kid),
      ),
    )

pub overflow_add-from : goal.overflow_add-from
overflow_add-from t c =
    let R = c.requires.1.ready in
    omega (arith, turn_small _ _ c.args.lens c.args.k c.requires.0 c.in-Some.ensures.cases.0 R (here R c.in-Some-item_of.ensures.kid) c.write-n.auto.buf c.write-n.ensures)

pub replace_header-requires : goal.replace_header-requires
replace_header-requires t c =
    let R = c.requires.1.ready in
    let K = here R c.in-Some-item_of.ensures.kid in
    let f = turn_room _ _ c.args.lens c.args.k c.requires.0 c.in-Some.ensures.cases.0 R K c.write-n.auto.buf c.write-n.ensures in
    (omega (arith, some_level _ _ c.args.lens c.args.k c.requires.0 c.in-Some.ensures.cases.0 R K), f.0, f.1, f.2)

pub returns : goal.returns
returns t c =
    λ t u v r R.
    turn_written _ _ c.args.lens c.args.k c.requires.0 c.in-Some.ensures.cases.0 R (here R c.in-Some-item_of.ensures.kid) c.write-n.auto.buf c.write-n.ensures
    c.replace_header.ensures.0 c.replace_header.ensures.1
