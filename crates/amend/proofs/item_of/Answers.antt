-- `amend::item_of` meets its contract. Assumes nothing.
use Rattle.std.proofs.Common.{sym, ap, ◌∙◌}
use Rattle.std.specs.Result.{result_ok}
use Rattle.amend.proofs.Kids.{inside, kid_cut, kid_none, kid_at}
use Rattle.amend.proofs.item_of.Goals as goal

pub returns-in_err-info : goal.returns-in_err-info
returns-in_err-info c =
    rw c.from_residual.ensures (record {
      inside = tt;
      kid = λ t r is small. kid_cut c.args.bytes.now c.args.i t r is small (ap result_ok (sym c.payload_info.ensures) ∙ sym c.in_err-info.ensures.value);
    })

pub returns-in_err-item : goal.returns-in_err-item
returns-in_err-item c =
    rw c.from_residual-in_err-item.ensures (record {
      inside = tt;
      kid = kid_none c.args.bytes.now c.args.i (ap result_ok (sym c.at_with_offset.ensures) ∙ sym c.in_err-item.ensures.value);
    })

pub returns : goal.returns
returns c =
    let info = ap result_ok (sym c.payload_info.ensures) ∙ sym c.in_ok-info.ensures.value in
    let item = ap result_ok (sym c.at_with_offset.ensures) ∙ sym c.in_ok-item.ensures.value in
    record {
      inside = inside c.args.bytes.now c.args.i c.in_ok-info.info c.in_ok-item.item info item;
      kid = kid_at c.args.bytes.now c.args.i c.in_ok-info.info c.in_ok-item.item info item;
    }
