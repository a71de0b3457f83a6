-- `amend::amend` meets its contract. Assumes nothing.
use Rattle.std.proofs.Common.{arith, sym}
use Rattle.std.proofs.lemmas.Result.{err_from_is_err_and}
use Rattle.amend.proofs.Amending.{refusing, bad_sheet, bad_other, both}
use Rattle.amend.proofs.amend.Goals as goal

pub returns-in_err-check : goal.returns-in_err-check
returns-in_err-check c =
    let p = err_from_is_err_and c.from_residual.result c.from_residual.ensures.1 in
    rw (p.1, p.2) (refusing _ _ _ _ (bad_sheet _ _ _ _ (omega arith) (omega arith) (omega arith) (sym c.in_err-check.ensures)))

pub returns-in_err-tally : goal.returns-in_err-tally
returns-in_err-tally c =
    let p = err_from_is_err_and c.from_residual-in_err-tally.result c.from_residual-in_err-tally.ensures.1 in
    rw (p.1, p.2) (refusing _ _ _ _ (bad_other _ _ _ _ (omega arith) (omega arith) (omega arith) (sym c.in_ok-check.ensures) (sym c.in_err-tally.ensures)))

pub exchange_item-requires : goal.exchange_item-requires
exchange_item-requires c =
    both _ _ _ _ (omega arith) (omega arith) (omega arith) (λ i. (c.slice_known-1.given i).fits) (λ i. (c.type_inv.new i).fits)
    (sym c.in_ok-check.ensures) (sym c.in_ok-tally.ensures)
