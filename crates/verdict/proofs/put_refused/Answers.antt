-- `verdict::put_refused` meets its contract: three pieces, one behind the other. Assumes nothing.
use native.Mathlib.Omega.{arith}
use Rattle.verdict.proofs.Lines.{refused-put}
use Rattle.verdict.proofs.put_refused.Goals as goal

pub returns : goal.returns
returns c =
    refused-put c.args.out.now c.copy_at.new.buf c.put_decimal-number.new.out c.copy_at-2.new.buf c.args.e c.put_decimal-number.result (omega arith)
    c.copy_at.ensures (rw (c.from.ensures, c.number.ensures) at c.put_decimal-number.ensures) c.copy_at-2.ensures
