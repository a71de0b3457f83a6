-- `verdict::file::say` meets its contract: what is written is what `line` put at the front. Assumes nothing.
use Rattle.std.proofs.Common.{subst, ap, ◌∙◌, take}
use Rattle.std.specs.Result.{OnOk}
use Rattle.std.specs.Io.KnownBytes.{Appends}
use Rattle.verdict.proofs.Reading.{front_put}
use Rattle.verdict.proofs.file.say.Goals as goal

pub returns : goal.returns
returns g c =
    subst (λ l. OnOk c.write_all.result (Appends (g.W.Write.contents c.args.out.now) (g.W.Write.contents c.write_all.new.self) l))
    (ap (take c.line-n.result) c.line-n.ensures.out_after ∙ front_put _ _ _ c.line-n.ensures.value) c.write_all.ensures.bytes
