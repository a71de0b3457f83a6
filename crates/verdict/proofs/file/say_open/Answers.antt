-- `verdict::file::say_open` meets its contract: the bytes that were read have the answer of the file's bytes. Assumes nothing.
use Rattle.std.proofs.lemmas.Result.{on_ok_weaker}
use Rattle.verdict.proofs.Reading.{line_known, mapped_ok, on_mapped}
use Rattle.verdict.proofs.file.say_open.Goals as goal

pub returns-clause-line : goal.returns-clause-line
returns-clause-line g c =
    let read = mapped_ok _ _ c.read_file.result c.map_err.ensures.cases c.map_err.ensures.variant c.in_ok-n.was c.read_file.ensures.bytes in
    on_mapped _ c.say.result c.map_err-2.result c.map_err-2.ensures.variant
    (on_ok_weaker c.say.result (line_known _ _ _ _ _ c.read_file.auto.buf read) c.say.ensures)
