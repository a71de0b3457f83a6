-- `amend::plan` meets its contract: it calls itself with one index of the path less. Assumes nothing.
use Rattle.std.proofs.Common.{arith}
use Rattle.std.proofs.lemmas.List.{drop-set}
use Rattle.rlp.specs.Tree.{headed_size}
use Rattle.amend.proofs.Plans.{plan_leaf, plan_none, kid, some_level, kid_level, kid_gone, kid_found, list_most}
use Rattle.amend.proofs.+plan.Goals as goal

pub returns-in_default-clause-planned : goal.returns-in_default-clause-planned
returns-in_default-clause-planned t c = λ v u L e. plan_leaf v u c.args.path.now _ c.args.x c.in_default.ensures.cases e

pub returns-in_err-child-clause-planned : goal.returns-in_err-child-clause-planned
returns-in_err-child-clause-planned t c =
    rw c.from_residual.ensures (λ v u L e. plan_none _ _ _ c.in_err-child.ensures.kid v u _ _ c.in-Some.ensures.cases.0 L)

pub plan-requires : goal.plan-requires
plan-requires t c =
    let L = c.requires.item.1 in
    let K = kid c.in_ok-child.ensures.kid L in
    (omega (arith, c.decreases, c.in-Some.ensures.cases.1), ((_, kid_level L K), c.requires.short))

pub returns-in_err-sizes-clause-planned : goal.returns-in_err-sizes-clause-planned
returns-in_err-sizes-clause-planned t c =
    rw c.from_residual-in_err-sizes.ensures (λ v u L e.
    let K = kid c.in_ok-child.ensures.kid L in
    kid_gone K u c.in-Some.ensures.cases.0 (c.in_err-sizes.ensures.planned _ u (kid_level L K) e))

pub bounds-sizes-k : goal.bounds-sizes-k
bounds-sizes-k t c =
    let L = c.requires.item.1 in
    some_level L (kid c.in_ok-child.ensures.kid L)

-- below: the new list's size, `n`
pub overflow_cast-sizes : goal.overflow_cast-sizes
overflow_cast-sizes t c =
    let L = c.requires.item.1 in
    let n = list_most L (kid c.in_ok-child.ensures.kid L) c.in_ok-child.ensures.inside c.requires.short c.in_ok-sizes.ensures.small in
    omega (arith, c.header_size.ensures, n, L.small)

pub overflow_add-sizes : goal.overflow_add-sizes
overflow_add-sizes t c =
    let L = c.requires.item.1 in
    let n = list_most L (kid c.in_ok-child.ensures.kid L) c.in_ok-child.ensures.inside c.requires.short c.in_ok-sizes.ensures.small in
    omega (arith, c.header_size.ensures, n, L.small)

pub returns-clause-small : goal.returns-clause-small
returns-clause-small t c =
    let L = c.requires.item.1 in
    let n = list_most L (kid c.in_ok-child.ensures.kid L) c.in_ok-child.ensures.inside c.requires.short c.in_ok-sizes.ensures.small in
    rw c.header_size.ensures n

pub returns-clause-planned : goal.returns-clause-planned
unfolding headed_size
returns-clause-planned t c =
    λ v u L e.
    let K = kid c.in_ok-child.ensures.kid L in
    rw (c.header_size.ensures, drop-set c.in_ok-sizes.sizes.lens c.args.k _ (omega (arith, some_level L K)))
    (kid_found K u c.in-Some.ensures.cases.0 (c.in_ok-sizes.ensures.planned _ u (kid_level L K) e))
