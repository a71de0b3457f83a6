-- `Stream::is_empty` meets its contract. Assumes nothing.
use Rattle.std.specs.Prelude.{length}
use Rattle.std.proofs.lemmas.Result.{err_from_is_err_and}
use Rattle.stream.specs.State.{state_of}
use Rattle.stream.proofs.Looks.{empty_no}
use Rattle.stream.proofs.Stream.is_empty.Goals as goal

pub returns-in_err-len : goal.returns-in_err-len
returns-in_err-len c =
    let p = err_from_is_err_and c.from_residual.result c.from_residual.ensures.1 in
    rw (p.1, p.2) (empty_no (state_of c.args.self.now) (length c.args.buf.now) _ c.in_err-len.ensures)
