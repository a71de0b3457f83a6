-- `header::be_number` meets its contract. Assumes nothing.
use Rattle.std.proofs.Common.{arith, lit<}
use Rattle.header.proofs.LengthBytes.{value_none, value-more, value_grows}
use Rattle.header.proofs.be_number.Goals as goal

pub loop-byte-init : goal.loop-byte-init
loop-byte-init c = (value_none c.args.bytes.now, lit< tt)

pub loop-byte-preserved : goal.loop-byte-preserved
loop-byte-preserved c =
    let w = c.loop-byte in
    let a = c.args.bytes.now in (
      value-more a w.byte-index w.number c.from.result c.loop-byte-test.true w.invariant.0 c.from.ensures,
      value_grows w.byte-index w.number c.from.result w.invariant.1 (omega (arith, c.type_inv.bytes w.byte-index, c.from.ensures)),
    )
