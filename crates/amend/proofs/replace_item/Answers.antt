-- `amend::replace_item` meets its contract. Assumes nothing.
use native.Mathlib.Omega.{arith}
use Rattle.amend.proofs.Writing.{slid}
use Rattle.amend.proofs.replace_item.Goals as goal

pub returns : goal.returns
returns c =
    let a = c.args in
    (omega arith, slid a.buf.now c.slide.new.buf _ a.len a.old a.new.now c.requires.0 c.requires.1 c.requires.2 c.slide.ensures c.copy_at.ensures)
