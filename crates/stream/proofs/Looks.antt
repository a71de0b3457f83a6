-- The calls that only look, `clear`, and the raw append with a maximum, branch by branch. Assumes nothing.
use Rattle.std.specs.Prelude.{◌≡◌, ℕ, ◌+◌, ◌<◌, ◌≤◌, ⊤, true, false, eqb, List, length, take, Ok, Err}
use Rattle.std.specs.Result.{result_unwrap_or}
use mathlib.Core.Path.{refl, sym, ap, ◌∙◌}
use native.Mathlib.Omega.{arith}
use native.Mathlib.Nat.{add-zero}
use lib.Seq.{length-take-le}
use Rattle.std.proofs.lemmas.Grind.{common_steps}
use Rattle.rlp.specs.declared.Refusal.{Refusal}
use Rattle.rlp.specs.declared.Refusal.TheVariants.{Unfinished}
use Rattle.rlp.specs.Refusals.{Or, also, unless}
use Rattle.rlp.proofs.Tests.{is_lt, not_lt, is_le}
use Rattle.rlp.proofs.Answers.{got_inj, unless-got}
use Rattle.encode.proofs.Puts.{put-none}
use Rattle.stream.specs.declared.lists.Lent.{Lent}
use Rattle.stream.specs.declared.Stream.{Stream}
use Rattle.stream.specs.State.{State, state_of, total, view, placed, stored, laid}
use Rattle.stream.specs.Stream.{raw, clear, lent, own, roomed, guarded, answer, after, called, is_finished, raw_length, out_length, shown_part}
use Rattle.stream.specs.Sizes.{size_now, estimate_of, len_of, empty_of, unless_over, checked}
use Rattle.stream.specs.Answers.{leaves}
use Rattle.stream.specs.Steps.{state_lent, step_of, Past}
use Rattle.stream.proofs.OpenLists.{length-opens}
use Rattle.stream.proofs.Answered.{guarded-got, guarded-also}
use Rattle.stream.proofs.Calls.{pass, matches_facts, guard_no, guard_past}

-- ---- what `guard` says of the state of s, lent
module _ {A : Type 0} (s : Stream) (L : Lent) (is : (L.start ≡ s.start) × (state_lent L ≡ state_of s)) (room : ℕ) (o : Or A) where
  pub lent_no : (e : Refusal) → Err e ≡ pass (state_lent L) room 0 → Err e ≡ guarded (state_of s) room 0 o
  lent_no e r = sym (guard_no (state_of s) room 0 o e (rw is.1 at r))

  pub lent_past : Ok tt ≡ pass (state_lent L) room 0 → (guarded (state_of s) room 0 o ≡ o) × Past (state_of s) room
  lent_past r =
      let g = guard_past (state_of s) room 0 o (rw is.1 at r) in
      (g.0, g.1)

-- ---- what is handed back
pub shown_as : (b : List ℕ) (o : Or ℕ) → take (result_unwrap_or o 0) b ≡ shown_part b o
unfolding shown_part
shown_as b (Err e) = refl
shown_as b (Ok n) = refl

-- it lies inside the buffer
inside : (b : List ℕ) (o : Or ℕ) → ((n : ℕ) → o ≡ Ok n → n ≤ length b) → result_unwrap_or o 0 ≡ length (take (result_unwrap_or o 0) b)
inside b (Err e) h = sym (length-take-le 0 b (omega arith))
inside b (Ok n) h = sym (length-take-le n b (h n refl))

module _ (s : State) (b : List ℕ) where
  raw-within : (n : ℕ) → raw_length s (length b) ≡ Ok n → n ≤ length b
  unfolding raw_length
  raw-within n p =
      let g = guarded-got s (length b) 0 (Ok s.end) n p in
      rw (← got_inj g.3) (matches_facts s (length b) g.0 g.2).ends

  pub raw-inside : result_unwrap_or (raw_length s (length b)) 0 ≡ length (take (result_unwrap_or (raw_length s (length b)) 0) b)
  raw-inside = inside b (raw_length s (length b)) raw-within

  out-within : (n : ℕ) → out_length s (length b) ≡ Ok n → n ≤ length b
  unfolding out_length
  out-within n p =
      let g = guarded-got s (length b) 0 (unless (is_finished s) Unfinished (Ok s.end)) n p in
      rw (← got_inj (unless-got (is_finished s) Unfinished (Ok s.end) n g.3).1) (matches_facts s (length b) g.0 g.2).ends

  pub out-inside : result_unwrap_or (out_length s (length b)) 0 ≡ length (take (result_unwrap_or (out_length s (length b)) 0) b)
  out-inside = inside b (out_length s (length b)) out-within

-- ---- the size
module _ (s : State) (room : ℕ) where
  -- nothing more: the size now
  pub len_now : estimate_of s room 0 ≡ len_of s room
  unfolding estimate_of len_of
  len_now = rw (add-zero (total s))

  pub empty_len : also (len_of s room) (λ n. Ok (eqb n 0)) ≡ empty_of s room
  unfolding empty_of len_of also
  empty_len =
      ap (λ (o : Or ℕ). also o (λ n. Ok (eqb n 0))) (guarded-also s room 0 (Ok (size_now s.opens (total s)))) ∙ also_twice (pass s room 0)
      ∙ sym (guarded-also s room 0 (Ok (eqb (size_now s.opens (total s)) 0)))
    where
      also_twice : (o : Or ⊤) → also (also o (λ k. Ok (size_now s.opens (total s)))) (λ n. Ok (eqb n 0)) ≡ also o (λ k. Ok (eqb (size_now s.opens (total s)) 0))
      also_twice (Err e) = refl
      also_twice (Ok k) = refl

  pub empty_no : (e : Refusal) → Err e ≡ len_of s room → Err e ≡ empty_of s room
  unfolding also
  empty_no e r = rw (sym r) at empty_len

  pub empty_got : (n : ℕ) → Ok n ≡ len_of s room → Ok (eqb n 0) ≡ empty_of s room
  unfolding also
  empty_got n r = rw (sym r) at empty_len

-- ---- clear
module _ (s : Stream) (b : List ℕ) (L : Lent) (is : (L.start ≡ s.start) × (state_lent L ≡ state_of s)) where
  pub clear_refused : (e : Refusal) → Err e ≡ pass (state_lent L) (length b) 0 → leaves (step_of (Err e) s) b ≡ called s b clear
  unfolding called answer lent after leaves
  clear_refused e p = rw (← lent_no s L is (length b) (also (own clear (view (state_of s) b)) (roomed (state_of s).start (length b))) e p)

  pub clear_yes : Ok tt ≡ pass (state_lent L) (length b) 0
      → leaves (step_of (Ok true) (record { start = s.start; end = s.start; opened = 0; positions = s.positions; currents = s.currents; maxima = s.maxima })) b ≡ called s b clear
  unfolding called answer lent own also roomed unless after leaves state_of stored placed laid
  clear_yes p =
      let g = lent_past s L is (length b) (also (own clear (view (state_of s) b)) (roomed (state_of s).start (length b))) p in
      rw (g.0, is_le {a = s.start + 0} {b = length b} (omega (arith, g.1.starts, g.1.ends)), add-zero s.start, put-none b s.start)

-- ---- raw items, up to a size
module _ (s : Stream) (b x : List ℕ) (n most : ℕ) (L : Lent) (is : (L.start ≡ s.start) × (state_lent L ≡ state_of s)) where
  pub within-refused : (e : Refusal) → Err e ≡ estimate_of (state_lent L) (length b) (length x) → leaves (step_of (Err e) s) b ≡ checked s b x n most
  unfolding checked unless_over leaves
  within-refused e p = rw (← (rw is.1 at p))

  module _ (size : ℕ) (p : Ok size ≡ estimate_of (state_lent L) (length b) (length x)) where
    pub within_no : most < size → leaves (step_of (Ok false) s) b ≡ checked s b x n most
    unfolding checked unless_over leaves
    within_no h = rw (← (rw is.1 at p), is_lt h)

    pub within_yes : size ≤ most → called s b (raw x n) ≡ checked s b x n most
    unfolding checked unless_over
    within_yes h = rw (← (rw is.1 at p), not_lt h)

-- ---- the sets of these that find the methods' proofs

pub ruleset look_steps = (length-opens, common_steps)

pub ruleset shown_steps = (raw-inside, out-inside, shown_as, common_steps)

pub ruleset empty_steps = (empty_no, empty_got, common_steps)

pub ruleset clear_steps = (clear_refused, clear_yes, common_steps)

pub ruleset within_steps = (within-refused, within_no, within_yes, common_steps)
