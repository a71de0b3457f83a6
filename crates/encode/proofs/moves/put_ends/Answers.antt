-- `encode::put_ends` meets its contract. Assumes nothing.
use Rattle.std.proofs.Common.{◌+◌, ◌-◌, ℕ, List, length}
use mathlib.Core.Path.{ap, ◌∙◌}
use Rattle.encode.specs.Put.{put}
use Rattle.encode.proofs.Puts.{last_there}
use Rattle.encode.proofs.moves.put_ends.Goals as goal

pub returns-in-Some-last_chunk : goal.returns-in-Some-last_chunk
returns-in-Some-last_chunk g c =
    let b : List ℕ = c.args.buf.now in
    let i : ℕ = c.args.at in
    let x : List ℕ = c.args.src.now in
    let n : ℕ = g.row.N in
    let one : List ℕ = c.put_piece.new.buf in
    let first = c.in-Some.ensures.cases in
    let last = c.in-Some-last_chunk.ensures.cases.1 in
    c.put_piece-2.ensures
    ∙ ap (put one (i + length x - n)) last.same
    ∙ last_there b i x c.requires.2 n n one c.requires.0 c.requires.0 c.requires.1 (c.put_piece.ensures ∙ ap (put b i) first.same)
