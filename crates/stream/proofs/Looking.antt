-- The calls that look: what they answer of a stream that shows what was said, and how they are refused. Assumes nothing.
use Rattle.std.specs.Prelude.{◌≡◌, ℕ, ◌+◌, ◌<◌, ◌≤◌, true, false, eqb, ◌⊎◌, List, ◌∷◌, ◌++◌, length, take, drop, Ok, Err}
use mathlib.Core.Path.{refl, sym, ap, ◌∙◌}
use mathlib.Core.Logic.{inl}
use native.Mathlib.Omega.{arith}
use lib.ListN.{length-append}
use lib.Seq.{take-add}
use Rattle.rlp.specs.declared.Refusal.TheVariants.{TooLarge, StateMismatch}
use Rattle.rlp.specs.Refusals.{unless}
use Rattle.rlp.specs.Limits.{limit}
use Rattle.rlp.specs.Tree.{encs}
use Rattle.rlp.proofs.Tests.{is_eq, not_eq}
use Rattle.stream.specs.declared.Stream.{Stream}
use Rattle.stream.specs.State.{Open, State, state_of, View, view, total, matches}
use Rattle.stream.specs.Stream.{is_finished, finished_of, raw_length, out_length, shown_part}
use Rattle.stream.specs.Sizes.{growths, size_now, estimate_of, len_of, empty_of}
use Rattle.stream.specs.Said.{Said, top, inner, rendered, opens_of, shown, opened}
use Rattle.stream.specs.Claims.{Shows, Looks, LooksRefused}
use Rattle.stream.proofs.Sentence.{matches-is}
use Rattle.stream.proofs.Answered.{guarded_on, guarded_large, guarded_unmatched}
use Rattle.stream.proofs.Saying.{length-opens_of}
use Rattle.stream.proofs.Showing.{shows_total}

-- where nothing is written, no list is open, and the rule gives 0
nothing_grows : (m : Said) → eqb (size_now (opens_of m) (length (rendered m))) 0 ≡ eqb (length (rendered m)) 0
unfolding size_now growths opens_of rendered
nothing_grows (top l) =
    let e : length (encs l) + 0 ≡ length (encs l) = omega arith in
    ap (λ n. eqb n 0) e
nothing_grows (inner m x l) =
    not_eq {a = size_now (opens_of (inner m x l)) (length (rendered (inner m x l)))} {b = 0} (λ e. omega (arith, some, e))
    ∙ sym (not_eq {a = length (rendered (inner m x l))} {b = 0} (λ e. omega (arith, some, e)))
  where
    some : 0 < length (rendered (inner m x l))
    some = omega (arith, length-append (rendered m) (0 ∷ encs l))

module _ (s : Stream) (b : List ℕ) (m : Said) (h : Shows s b m) where
  on : matches (state_of s) (length b) ≡ true
  on = (matches-is s (length b)).1 h.matching

  opens_are : (state_of s).opens ≡ opens_of m
  unfolding view shown
  opens_are = ap (λ (v : View). v.opens) h.same

  total-is : total (state_of s) ≡ length (rendered m)
  unfolding total state_of
  total-is = shows_total s b m h

  size_is : (n k : ℕ) → n ≡ total (state_of s) + k → size_now (state_of s).opens n ≡ size_now (opens_of m) (length (rendered m) + k)
  size_is n k e = ap (λ (os : List Open). size_now os n) opens_are ∙ ap (size_now (opens_of m)) (e ∙ ap (λ x. x + k) total-is)

  size_now_lem : size_now (state_of s).opens (total (state_of s)) ≡ size_now (opens_of m) (length (rendered m))
  size_now_lem = ap (λ (os : List Open). size_now os (total (state_of s))) opens_are ∙ ap (size_now (opens_of m)) total-is

  end_is : (state_of s).end ≡ s.start + length (rendered m)
  unfolding state_of
  end_is = omega (arith, shows_total s b m h, h.matching.starts)

  none_open : is_finished (state_of s) ≡ eqb (opened m) 0
  unfolding is_finished
  none_open = ap (λ (os : List Open). eqb (length os) 0) opens_are ∙ ap (λ n. eqb n 0) (length-opens_of m)

  shown-part : take (s.start + length (rendered m)) b ≡ take s.start b ++ rendered m
  unfolding view state_of total shown
  shown-part =
      take-add s.start (length (rendered m)) b
      ∙ ap (λ n. take s.start b ++ take n (drop s.start b)) (sym (shows_total s b m h))
      ∙ ap (λ (v : View). take s.start b ++ v.written) h.same

  raw-is : raw_length (state_of s) (length b) ≡ Ok (s.start + length (rendered m))
  unfolding raw_length
  raw-is = guarded_on (state_of s) (length b) 0 _ h.small (omega arith) on ∙ ap Ok end_is

  pub looks : Looks (state_of s) b m
  unfolding finished_of out_length len_of estimate_of empty_of shown_part state_of unless
  looks =
      record {
        finished = guarded_on (state_of s) (length b) 0 _ h.small (omega arith) on ∙ ap Ok none_open;
        raw-length = raw-is;
        raw = ap (shown_part b) raw-is ∙ shown-part;
        out = λ e. guarded_on (state_of s) (length b) 0 _ h.small (omega arith) on ∙ rw (none_open, is_eq {a = opened m} {b = 0} e) (ap Ok end_is) ∙ sym raw-is;
        unfinished = λ l. guarded_on (state_of s) (length b) 0 _ h.small (omega arith) on ∙ rw (none_open, not_eq {a = opened m} {b = 0} (λ e. omega arith));
        len = guarded_on (state_of s) (length b) 0 _ h.small (omega arith) on ∙ ap Ok size_now_lem;
        estimate = λ n l. guarded_on (state_of s) (length b) n _ h.small l on ∙ ap Ok (size_is (total (state_of s) + n) n refl);
        empty = guarded_on (state_of s) (length b) 0 _ h.small (omega arith) on ∙ ap Ok (ap (λ n. eqb n 0) size_now_lem ∙ nothing_grows m);
      }

module _ (s : State) (room : ℕ) where
  pub looks_large : limit < room → LooksRefused s room TooLarge
  unfolding finished_of raw_length out_length len_of empty_of
  looks_large h =
      record {
        finished = guarded_large s room 0 _ (inl h);
        raw = guarded_large s room 0 _ (inl h);
        out = guarded_large s room 0 _ (inl h);
        len = guarded_large s room 0 _ (inl h);
        empty = guarded_large s room 0 _ (inl h);
      }

  pub estimate_large : (n : ℕ) → (limit < room) ⊎ (limit < n) → estimate_of s room n ≡ Err TooLarge
  unfolding estimate_of
  estimate_large n h = guarded_large s room n _ h

  module _ (small : room ≤ limit) (off : matches s room ≡ false) where
    pub looks_unmatched : LooksRefused s room StateMismatch
    unfolding finished_of raw_length out_length len_of empty_of
    looks_unmatched =
        record {
          finished = guarded_unmatched s room 0 _ small (omega arith) off;
          raw = guarded_unmatched s room 0 _ small (omega arith) off;
          out = guarded_unmatched s room 0 _ small (omega arith) off;
          len = guarded_unmatched s room 0 _ small (omega arith) off;
          empty = guarded_unmatched s room 0 _ small (omega arith) off;
        }

    pub estimate_unmatched : (n : ℕ) → n ≤ limit → estimate_of s room n ≡ Err StateMismatch
    unfolding estimate_of
    estimate_unmatched n h = guarded_unmatched s room n _ small h off
