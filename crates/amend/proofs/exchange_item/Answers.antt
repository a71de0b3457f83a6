-- `amend::exchange_item` meets its contract. Assumes nothing.
use Rattle.std.proofs.Common.{arith}
use Rattle.std.proofs.lemmas.Result.{err_from_is_err_and}
use Rattle.amend.proofs.Amending.{refusing, missing, found, too_deep, no_room, can_write, top-said, cleared, uncleared}
use Rattle.amend.proofs.exchange_item.Goals as goal

pub returns-in_err-sizes : goal.returns-in_err-sizes
returns-in_err-sizes c =
    let p = err_from_is_err_and c.from_residual.result c.from_residual.ensures.1 in
    rw (p.1, p.2) (refusing _ _ _ _ (missing c.requires _ c.plan.ensures.planned c.in_err-sizes.ensures.ok_part c.in_err-sizes.ensures.value))

-- below: the plan has found the item, `F`
pub returns-then-path-depth-gt-LEVELS : goal.returns-then-path-depth-gt-LEVELS
returns-then-path-depth-gt-LEVELS c =
    let F = found c.requires _ c.plan.ensures.planned c.in_ok-sizes.ensures.ok_part in
    refusing _ _ _ _ (too_deep c.requires F (omega arith))

pub returns-then-buf-sizes : goal.returns-then-buf-sizes
returns-then-buf-sizes c =
    let F = found c.requires _ c.plan.ensures.planned c.in_ok-sizes.ensures.ok_part in
    refusing _ _ _ _ (no_room c.requires F (omega arith) (omega arith))

pub write-m-requires : goal.write-m-requires
write-m-requires c =
    let F = found c.requires _ c.plan.ensures.planned c.in_ok-sizes.ensures.ok_part in
    (c.requires.inside, can_write c.requires F (omega arith) (omega arith) (omega arith))

pub returns-then-m-n : goal.returns-then-m-n
returns-then-m-n c =
    let F = found c.requires _ c.plan.ensures.planned c.in_ok-sizes.ensures.ok_part in
    top-said c.requires F (omega arith) (omega arith) (omega arith) c.write-m.ensures
    (cleared c.write-m.new.buf (omega arith) (omega (arith, c.write-m.auto.buf, c.requires.inside)) (c.fill.ensures.after (λ y e. e)))

pub returns-else-m-n : goal.returns-else-m-n
returns-else-m-n c =
    let F = found c.requires _ c.plan.ensures.planned c.in_ok-sizes.ensures.ok_part in
    top-said c.requires F (omega arith) (omega arith) (omega arith) c.write-m.ensures (uncleared c.write-m.new.buf {w = c.write-m.result} {n = c.args.n} (omega arith))
