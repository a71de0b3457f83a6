-- `verdict::file::read_file` meets its contract: each turn puts behind what was read what the file gave. Assumes nothing.
use Rattle.std.proofs.Common.{rules, arith, subst}
use Rattle.std.specs.Io.KnownBytes.{Consumes}
use Rattle.std.proofs.KnownBytes.{Consumes-trans}
use Rattle.verdict.proofs.Reading.{read_next}
use Rattle.verdict.proofs.file.read_file.Goals as goal

pub loop-at-preserved : goal.loop-at-preserved
loop-at-preserved g c = (
  search rules,
  search rules,
  subst (Consumes _ _) (read_next c.loop-at.at c.in_ok-n.n c.loop-at.buf c.read.new.buf (omega (arith, c.loop-at-test.true)) c.in_ok-n.ensures.bound.0)
      (Consumes-trans _ _ _ _ _ c.loop-at.invariant.2 c.in_ok-n.ensures.bytes.0),
)
