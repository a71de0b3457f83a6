-- `encode::write_be` meets its contract. Assumes nothing.
use Rattle.std.proofs.Common.{arith}
use Rattle.rlp.specs.Bytes.{be}
use Rattle.encode.proofs.Puts.{down_step}
use Rattle.encode.proofs.Numbers.{be_less}
use Rattle.encode.proofs.write.write_be.Goals as goal

pub loop-i-preserved : goal.loop-i-preserved
loop-i-preserved c =
    let a = c.args in
    let w = c.loop-i in
    let b = be_less a.n w.left w.i c.loop-i-test.true (omega arith) w.invariant.before in
    record {
      within = omega arith;
      before = b.0;
      there = down_step a.buf.now a.at (be a.n) (omega arith) w.i _ w.buf c.loop-i-test.true (omega arith) w.invariant.there b.1;
    }
