-- `verdict::put_accepted` meets its contract: five pieces, one behind the other. Assumes nothing.
use native.Mathlib.Omega.{arith}
use Rattle.verdict.proofs.Lines.{accepted-put}
use Rattle.verdict.proofs.put_accepted.Goals as goal

pub returns : goal.returns
returns c =
    accepted-put c.args.out.now c.copy_at.new.buf c.put_decimal-items.new.out c.copy_at-2.new.buf c.put_decimal-depth.new.out c.copy_at-3.new.buf
    c.args.tally.items c.args.tally.depth c.put_decimal-items.result c.put_decimal-depth.result (omega arith)
    c.copy_at.ensures c.put_decimal-items.ensures c.copy_at-2.ensures c.put_decimal-depth.ensures c.copy_at-3.ensures
