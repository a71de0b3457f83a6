-- The calls that look, `clear`, and the raw append with a maximum, over the numbers. Assumes nothing.
use mathlib.Core.Path.{◌≡◌, refl, sym, ap, ◌∙◌}
use mathlib.Core.Bool.{true, false, ◌&&◌}
use Prim.Native.Nat.{ℕ, ◌+◌, ◌≤◌, ◌<◌}
use native.Mathlib.Omega.{arith}
use native.Mathlib.Nat.{add-zero}
use mathlib.Core.List.{List, []}
use lib.Dec.{leb, eqb}
use lib.ListN.{length}
use borrow.Author.Tests.{eqb-true}
use Rattle.std.specs.Prelude.{Ok, Err, ⊤}
use Rattle.rlp.specs.declared.Refusal.{Refusal}
use Rattle.rlp.specs.declared.Refusal.TheVariants.{Unfinished}
use Rattle.rlp.specs.Refusals.{Or, also, unless}
use Rattle.rlp.specs.Limits.{limit}
use Rattle.rlp.proofs.Tests.{is_lt, not_lt, is_le, by_test}
use Rattle.rlp.proofs.Answers.{refused_inj, got_inj, unless-got}
use Rattle.encode.proofs.Puts.{put-none}
use Rattle.stream.specs.declared.Stream.{Stream}
use Rattle.stream.specs.declared.lists.Lent.{Lent}
use Rattle.stream.specs.State.{State, opens_in, state_of, total, matches, View, view, placed, stored, laid}
use Rattle.stream.specs.Stream.{raw, clear, lent, own, roomed, guarded, answer, after, called, is_finished, finished_of, raw_length, out_length}
use Rattle.stream.specs.Sizes.{size_now, estimate_of, len_of, empty_of, unless_over, checked}
use Rattle.stream.specs.Steps.{state_lent, set_last, keeping}
use Rattle.stream.proofs.OpenLists.{length-opens}
use Rattle.stream.proofs.Answered.{guarded-got, guarded-also}
use Rattle.stream.proofs.Calls.{matches_facts}
use Rattle.loughcable.specs.Answers.{asked}
use Rattle.loughcable.specs.Crossing.{size, numbers, stream_in, state_in, misfit, fitting, leaves, numbers_after, in_numbers, across, crossed, crossed_checked}
use Rattle.loughcable.specs.Steps.{lends, Stores}
use Rattle.loughcable.proofs.Numbers.{numbers_in}
use Rattle.loughcable.proofs.Crossings.{crosses, unlent_across}

-- ---- after the tests of a call

-- what comes after them has no part in them
pub fitting_also : {A : Type 0} (ns : List ℕ) (room n : ℕ) (o : Or A) → fitting ns room n o ≡ also (fitting ns room n (Ok (state_in ns))) (λ (s : State). o)
unfolding fitting unless also
fitting_also ns room n o = by_test (eqb (length ns) size) (λ t. rw t) (λ t. rw t)

pub guarded_also : {A : Type 0} (s : State) (room n : ℕ) (o : Or A) → guarded s room n o ≡ also (guarded s room n (Ok s)) (λ (k : State). o)
unfolding also
guarded_also {A} s room n o =
    guarded-also s room n o ∙ go (guarded {A = ⊤} s room n (Ok tt)) ∙ ap (λ (x : Or State). also x (λ (k : State). o)) (sym (guarded-also s room n (Ok s)))
  where
    go : (g : Or ⊤) → also g (λ (k : ⊤). o) ≡ also (also g (λ (k : ⊤). Ok s)) (λ (k : State). o)
    go (Err e) = refl
    go (Ok k) = refl

module _ (ns : List ℕ) (room : ℕ) where
  -- the state that is looked at, past the tests
  abbrev pub looked : Or State
  looked = fitting ns room 0 (guarded (state_in ns) room 0 (Ok (state_in ns)))

  looked_also : {A : Type 0} (f : State → Or A) → fitting ns room 0 (guarded (state_in ns) room 0 (f (state_in ns))) ≡ also looked f
  unfolding fitting unless guarded also
  looked_also f =
      by_test (eqb (length ns) size)
      (λ t. rw t
      (by_test (leb room limit && leb 0 limit)
      (λ u. rw u (by_test (matches (state_in ns) room) (λ v. rw v) (λ v. rw v)))
      (λ u. rw u)))
      (λ t. rw t)

  pub finished_also : fitting ns room 0 (finished_of (state_in ns) room) ≡ also looked (λ (s : State). Ok (eqb (length s.opens) 0))
  unfolding finished_of is_finished
  finished_also = looked_also (λ s. Ok (is_finished s))

  pub raw_also : fitting ns room 0 (raw_length (state_in ns) room) ≡ also looked (λ (s : State). Ok s.end)
  unfolding raw_length
  raw_also = looked_also (λ s. Ok s.end)

  pub out_also : fitting ns room 0 (out_length (state_in ns) room) ≡ also looked (λ (s : State). unless (eqb (length s.opens) 0) Unfinished (Ok s.end))
  unfolding out_length is_finished
  out_also = looked_also (λ s. unless (is_finished s) Unfinished (Ok s.end))

  pub looked_fits : (l : Lent) → lends (Ok l) ≡ looked → (length ns ≡ size) × (◌≡◌ {A = Or State} (guarded (state_in ns) room 0 (Ok (state_in ns))) (Ok (state_lent l)))
  unfolding lends fitting
  looked_fits l p =
      let g = unless-got (eqb (length ns) size) (misfit room 0) (guarded (state_in ns) room 0 (Ok (state_in ns))) (state_lent l) (sym p) in
      (eqb-true (length ns) size g.0, g.1)

pub opens_count : (p c m : List ℕ) (i : ℕ) → length (opens_in p c m i) ≡ i
opens_count = length-opens

-- ---- the size

module _ (ns : List ℕ) (s : State) (room : ℕ) where
  pub len_seen : fitting ns room 0 (estimate_of s room 0) ≡ fitting ns room 0 (len_of s room)
  unfolding estimate_of len_of
  len_seen = rw (add-zero (total s))

  pub empty_also : fitting ns room 0 (empty_of s room) ≡ also (fitting ns room 0 (estimate_of s room 0)) (λ (k : ℕ). Ok (eqb k 0))
  unfolding fitting unless also estimate_of empty_of
  empty_also =
      by_test (eqb (length ns) size)
      (λ t. rw (t, add-zero (total s), guarded-also s room 0 (Ok (size_now s.opens (total s))), guarded-also s room 0 (Ok (eqb (size_now s.opens (total s)) 0)))
      (twice (guarded {A = ⊤} s room 0 (Ok tt))))
      (λ t. rw t)
    where
      twice : (o : Or ⊤) → also o (λ (k : ⊤). Ok (eqb (size_now s.opens (total s)) 0)) ≡ also (also o (λ (k : ⊤). Ok (size_now s.opens (total s)))) (λ (k : ℕ). Ok (eqb k 0))
      twice (Err e) = refl
      twice (Ok k) = refl

-- ---- clear

module _ (ns b : List ℕ) where
  bare : View
  bare = record { opens = []; written = [] }

  nothing : Or View
  nothing = also (own clear (view (state_in ns) b)) (roomed (state_in ns).start (length b))

  after_clear : (o : Or View) → answer (state_in ns) b clear ≡ o → after (stream_in ns) b o ≡ called (stream_in ns) b clear
  unfolding called state_in
  after_clear o p = ap (after (stream_in ns) b) (sym p)

  answer_clear : (g : Or State) → guarded (state_in ns) (length b) 0 (Ok (state_in ns)) ≡ g → answer (state_in ns) b clear ≡ also g (λ (k : State). nothing)
  unfolding answer lent nothing
  answer_clear g p = guarded_also (state_in ns) (length b) 0 nothing ∙ ap (λ (x : Or State). also x (λ (k : State). nothing)) p

  pub clear_refused : (e : Refusal) → lends (Err e) ≡ looked ns (length b) → leaves (asked (Err e)) ns b ≡ crossed ns b clear
  unfolding lends fitting unless also after numbers_after crossed lent
  clear_refused e p =
      by_test (eqb (length ns) size)
      (λ t. let k : guarded {A = State} (state_in ns) (length b) 0 (Ok (state_in ns)) ≡ Err e = sym (rw t at p) in
      crosses ns b 0 (called (stream_in ns) b clear) (Err e) (stream_in ns) b (eqb-true (length ns) size t) (after_clear (Err e) (answer_clear (Err e) k)))
      (λ t. let k : ◌≡◌ {A = Or State} (Err e) (Err (misfit (length b) 0)) = rw t at p in
      unlent_across ns b 0 (called (stream_in ns) b clear) e (ap (λ (x : Refusal). Err x) (refused_inj k) ∙ rw t))

  module _ (l : Lent) (p : lends (Ok l) ≡ looked ns (length b)) where
    begins : ((state_in ns).start ≤ length b) × (length b ≤ limit) × (state_in ns ≡ state_lent l)
    begins =
        let g = guarded-got (state_in ns) (length b) 0 (Ok (state_in ns)) (state_lent l) (looked_fits ns (length b) l p).1 in
        let h = matches_facts (state_in ns) (length b) g.0 g.2 in
        (omega (arith, h.starts, h.ends), g.0, got_inj g.3)

    begin_is : (state_in ns).start ≡ l.start
    begin_is = ap (λ (s : State). s.start) begins.2

    pub clear-stores : Stores ns (record { end = l.start; opened = 0; current = 0 })
    clear-stores = record { long = (looked_fits ns (length b) l p).0; few = omega arith; near = omega (arith, begins.0, begins.1, begin_is) }

    nothing-got : nothing ≡ Ok bare
    unfolding nothing bare own roomed also unless
    nothing-got = rw (is_le {a = (state_in ns).start + 0} {b = length b} (omega (arith, begins.0)))

    cleared : stored (stream_in ns) bare ≡ keeping (stream_in ns) (record { end = l.start; opened = 0; current = 0 })
    unfolding stored placed keeping set_last bare state_in state_of
    cleared = rw (add-zero (stream_in ns).start, begin_is)

    pub clear_kept : leaves (asked (Ok true)) (numbers (keeping (stream_in ns) (record { end = l.start; opened = 0; current = 0 }))) b ≡ crossed ns b clear
    unfolding after numbers_after laid also bare crossed lent
    clear_kept =
        let f = looked_fits ns (length b) l p in
        let s = stored (stream_in ns) bare in
        ap (λ (x : Stream). leaves (asked (Ok true)) (numbers x) b) (sym cleared)
        ∙ ap (leaves (asked (Ok true)) (numbers s)) (sym (put-none b (stream_in ns).start))
        ∙ crosses ns b 0 (called (stream_in ns) b clear) (Ok true) s (laid (stream_in ns).start b bare) f.0 (after_clear (Ok bare) (answer_clear (Ok (state_lent l)) f.1 ∙ nothing-got))

-- ---- raw items, up to a size

module _ (ns b x : List ℕ) (n most : ℕ) where
  pub checked_refused : (e : Refusal) → Err e ≡ fitting ns (length b) (length x) (estimate_of (state_in ns) (length b) (length x)) → leaves (asked (Err e)) ns b ≡ crossed_checked ns b x n most
  unfolding crossed_checked across fitting unless checked unless_over in_numbers numbers_after asked leaves state_in
  checked_refused e p =
      by_test (eqb (length ns) size)
      (λ t. let k : estimate_of (state_in ns) (length b) (length x) ≡ Err e = sym (rw t at p) in rw (t, k))
      (λ t. let k : e ≡ misfit (length b) (length x) = refused_inj (rw t at p) in rw (t, k))

  module _ (z : ℕ) (p : Ok z ≡ fitting ns (length b) (length x) (estimate_of (state_in ns) (length b) (length x))) where
    estimated : (eqb (length ns) size ≡ true) × (estimate_of (state_in ns) (length b) (length x) ≡ Ok z)
    unfolding fitting
    estimated = unless-got (eqb (length ns) size) (misfit (length b) (length x)) (estimate_of (state_in ns) (length b) (length x)) z (sym p)

    pub checked_no : most < z → leaves (asked (Ok false)) ns b ≡ crossed_checked ns b x n most
    unfolding crossed_checked across checked unless_over in_numbers numbers_after leaves state_in
    checked_no h =
        let g = estimated in
        rw (g.0, g.1, is_lt h, numbers_in ns (eqb-true (length ns) size g.0))

    pub checked_yes : z ≤ most → crossed ns b (raw x n) ≡ crossed_checked ns b x n most
    unfolding crossed_checked crossed across checked unless_over lent state_in
    checked_yes h =
        let g = estimated in
        rw (g.0, g.1, not_lt h)
