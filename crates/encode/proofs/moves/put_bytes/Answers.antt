-- `encode::put_bytes` meets its contract. Assumes nothing.
use Rattle.std.proofs.Common.{arith}
use mathlib.Core.Path.{refl, ◌∙◌}
use lib.ListN.{length-set}
use Rattle.encode.proofs.Puts.{up_start, up_step, up_done}
use Rattle.encode.proofs.moves.put_bytes.Goals as goal

pub loop-i-init : goal.loop-i-init
loop-i-init c = record { within = omega arith; room = refl; there = up_start c.args.buf.now c.args.at c.args.src.now }

pub loop-i-preserved : goal.loop-i-preserved
loop-i-preserved c =
    let w = c.loop-i in
    record {
      within = omega arith;
      room = simp length-set (omega arith);
      there = up_step c.args.buf.now c.args.at c.args.src.now c.requires w.i _ w.buf c.loop-i-test.true w.invariant.there refl;
    }

pub returns : goal.returns
returns c =
    let w = c.loop-i in
    w.invariant.there ∙ up_done c.args.buf.now c.args.at c.args.src.now w.i (omega arith)
