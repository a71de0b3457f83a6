-- `encode::put_long` meets its contract. Assumes nothing.
use Rattle.std.proofs.Common.{arith, ◌≡◌, ◌+◌, ◌-◌, ◌≤◌, ℕ, List, length, take, drop}
use mathlib.Core.Path.{refl, ap, ◌∙◌}
use lib.ListN.{length-drop}
use lib.Seq.{drop-drop}
use Rattle.encode.specs.Put.{put}
use Rattle.encode.proofs.Puts.{up_start, more_there, last_there}
use Rattle.encode.proofs.moves.put_long.Goals as goal

pub loop-piece-init : goal.loop-piece-init
loop-piece-init c = record { within = omega arith; room = refl; rest = refl; there = up_start c.args.buf.now c.args.at c.args.src.now }

pub loop-piece-preserved : goal.loop-piece-preserved
loop-piece-preserved c =
    let w = c.loop-piece in
    let b : List ℕ = c.args.buf.now in
    let x : List ℕ = c.args.src.now in
    let p = c.in-Some.ensures.cases in
    let l : length (drop w.done x) ≡ length x - w.done = length-drop w.done x in
    let h : w.done + 32 ≤ length x = omega (arith, p.2, ap length w.invariant.rest, l, w.invariant.within) in
    record {
      within = h;
      room = omega arith;
      rest = p.1 ∙ ap (drop 32) w.invariant.rest ∙ drop-drop 32 w.done x;
      there = c.put_piece.ensures
          ∙ ap (λ (s : List ℕ). put w.buf (c.args.at + w.done) s) (p.0 ∙ ap (take 32) w.invariant.rest)
          ∙ more_there b c.args.at x c.requires.1 w.done 32 w.buf h w.invariant.there;
    }

pub returns-in-Some-last_chunk : goal.returns-in-Some-last_chunk
returns-in-Some-last_chunk c =
    let w = c.loop-piece in
    let x : List ℕ = c.args.src.now in
    let l : length (drop w.done x) ≡ length x - w.done = length-drop w.done x in
    let few : length x ≤ w.done + 32 = omega (arith, c.in_default.ensures.cases, ap length w.invariant.rest, l, w.invariant.within) in
    let last = c.in-Some-last_chunk.ensures.cases.1 in
    c.put_piece-in-Some-last_chunk.ensures
    ∙ ap (put w.buf (c.args.at + length x - 32)) last.same
    ∙ last_there c.args.buf.now c.args.at x c.requires.1 w.done 32 w.buf w.invariant.within c.requires.0 few w.invariant.there
