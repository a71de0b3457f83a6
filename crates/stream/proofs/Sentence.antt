-- The sentence of refusal 20, list by list, and that the test `matches` is it. Assumes nothing.
use Rattle.std.specs.Prelude.{◌≡◌, ℕ, zero, suc, ◌-◌, ◌<◌, ◌≤◌, Bool, true, false, ◌&&◌, ltb, leb, ◌⊎◌, List, [], ◌∷◌, length, get_or}
use mathlib.Core.Path.{refl, sym, subst}
use mathlib.Core.Bool.{false≢true}
use mathlib.Core.Logic.{inl, inr}
use native.Mathlib.Omega.{arith}
use borrow.Author.Tests.{ltb-true, leb-true}
use Rattle.rlp.specs.Limits.{levels}
use Rattle.rlp.proofs.Tests.{is_lt, is_le, by_eq}
use Rattle.stream.specs.declared.Stream.{Stream}
use Rattle.stream.specs.State.{waits, Open, State, state_of, total, most_of, opens_in, sane, sound, matches}
use Rattle.stream.specs.Claims.{Matches}
use Rattle.stream.proofs.OpenLists.{both, length-opens}
use Rattle.stream.proofs.Stores.{Waiting}

-- what the sentence says of the first n lists, whose positions lie below a bound, with so many bytes written
record Good (p c m : List ℕ) (written bound n : ℕ) : Type 0 where
  rise : (i : ℕ) → suc i < n → get_or p i 0 < get_or p (suc i) 0
  low : (i : ℕ) → i < n → 1 ≤ get_or p i 0
  high : (i : ℕ) → i < n → get_or p i 0 < bound
  counts : (i : ℕ) → i < n → get_or c i 0 ≤ written - get_or p i 0
  waiting : (i : ℕ) → i < n → (get_or m i 0 ≡ 0) ⊎ (get_or c i 0 < get_or m i 0)

pub all : (t u : Bool) → t ≡ true → u ≡ true → t && u ≡ true
all true u e f = f
all false u e f = absurd (false≢true e)

waits_kept : (c n : ℕ) → waits c (most_of n) ≡ true → (n ≡ 0) ⊎ (c < n)
unfolding waits most_of
waits_kept c zero e = inl refl
waits_kept c (suc n) e = inr (ltb-true c (suc n) e)

kept_waits : (c n : ℕ) → (n ≡ 0) ⊎ (c < n) → waits c (most_of n) ≡ true
unfolding waits most_of
kept_waits c zero h = refl
kept_waits c (suc n) (inl e) = absurd (omega arith)
kept_waits c (suc n) (inr h) = is_lt {a = c} {b = suc n} h

at_or_below {ℓ} : (P : ℕ → Type ℓ) (n : ℕ) → P n → ((i : ℕ) → i < n → P i) → (i : ℕ) → i < suc n → P i
at_or_below P n here f i h = by_eq i n (λ e. subst P (sym e) here) (λ d. f i (omega (arith, d)))

good_of : (p c m : List ℕ) (written bound n : ℕ) → sound written bound (opens_in p c m n) ≡ true → Good p c m written bound n
unfolding sound sane opens_in
good_of p c m written bound zero e =
    record {
      rise = λ i h. absurd (omega arith);
      low = λ i h. absurd (omega arith);
      high = λ i h. absurd (omega arith);
      counts = λ i h. absurd (omega arith);
      waiting = λ i h. absurd (omega arith);
    }
good_of p c m written bound (suc n) e =
    let a = both _ _ e in
    let b = both _ _ a.0 in
    let d = both _ _ b.0 in
    let f = both _ _ b.1 in
    let G = good_of p c m written (get_or p n 0) n a.1 in
    let lo : 0 < get_or p n 0 = ltb-true 0 (get_or p n 0) d.0 in
    let hi : get_or p n 0 < bound = ltb-true (get_or p n 0) bound d.1 in
    record {
      rise = λ i h. by_eq (suc i) n (λ q. subst (λ (k : ℕ). get_or p i 0 < get_or p k 0) (sym q) (G.high i (omega arith))) (λ q. G.rise i (omega (arith, q)));
      low = at_or_below (λ i. 1 ≤ get_or p i 0) n (omega arith) G.low;
      high = at_or_below (λ i. get_or p i 0 < bound) n hi (λ i h. omega (arith, G.high i h, hi));
      counts = at_or_below (λ i. get_or c i 0 ≤ written - get_or p i 0) n (leb-true (get_or c n 0) (written - get_or p n 0) f.0) G.counts;
      waiting = at_or_below (λ i. (get_or m i 0 ≡ 0) ⊎ (get_or c i 0 < get_or m i 0)) n (waits_kept (get_or c n 0) (get_or m n 0) f.1) G.waiting;
    }

below : (p c m : List ℕ) (written bound n : ℕ) → Good p c m written bound (suc n) → Good p c m written (get_or p n 0) n
below p c m written bound n G =
    record {
      rise = λ i h. G.rise i (omega arith);
      low = λ i h. G.low i (omega arith);
      high = rising p n G.rise;
      counts = λ i h. G.counts i (omega arith);
      waiting = λ i h. G.waiting i (omega arith);
    }
  where
    rising : (p : List ℕ) (n : ℕ) → ((i : ℕ) → suc i < suc n → get_or p i 0 < get_or p (suc i) 0) → (i : ℕ) → i < n → get_or p i 0 < get_or p n 0
    rising p zero f i h = absurd (omega arith)
    rising p (suc n) f i h =
        by_eq i n (λ e. subst (λ (k : ℕ). get_or p k 0 < get_or p (suc n) 0) (sym e) (f n (omega arith)))
        (λ d. let a : get_or p i 0 < get_or p n 0 = rising p n (λ j k. f j (omega arith)) i (omega (arith, d)) in omega (arith, a, f n (omega arith)))

of_good : (p c m : List ℕ) (written bound n : ℕ) → Good p c m written bound n → sound written bound (opens_in p c m n) ≡ true
unfolding sound sane opens_in
of_good p c m written bound zero G = refl
of_good p c m written bound (suc n) G =
    all _ _
    (all _ _ (all _ _ (is_lt (G.low n (omega arith))) (is_lt (G.high n (omega arith))))
    (all _ _ (is_le (G.counts n (omega arith))) (kept_waits (get_or c n 0) (get_or m n 0) (G.waiting n (omega arith)))))
    (of_good p c m written (get_or p n 0) n (below p c m written bound n G))

pub matches-is : (s : Stream) (room : ℕ) → (matches (state_of s) room ≡ true → Matches s room) × (Matches s room → matches (state_of s) room ≡ true)
unfolding matches state_of total
matches-is s room = (to, back)
  where
    many_open : length (opens_in s.positions s.currents s.maxima s.opened) ≡ s.opened
    many_open = length-opens s.positions s.currents s.maxima s.opened

    to : matches (state_of s) room ≡ true → Matches s room
    to e =
        let a = both _ _ e in
        let b = both _ _ a.0 in
        let d = both _ _ a.1 in
        let f = leb-true (length (opens_in s.positions s.currents s.maxima s.opened)) levels d.0 in
        let G = good_of s.positions s.currents s.maxima (s.end - s.start) (suc (s.end - s.start)) s.opened d.1 in
        record {
          starts = leb-true s.start s.end b.0;
          ends = leb-true s.end room b.1;
          few = omega (arith, f, many_open);
          rise = G.rise;
          low = G.low;
          high = λ i h. omega (arith, G.high i h);
          counts = G.counts;
          waiting = G.waiting;
        }

    back : Matches s room → matches (state_of s) room ≡ true
    back M =
        all _ _ (all _ _ (is_le M.starts) (is_le M.ends))
        (all _ _ (is_le {a = length (opens_in s.positions s.currents s.maxima s.opened)} {b = levels} (omega (arith, M.few, many_open)))
        (of_good s.positions s.currents s.maxima (s.end - s.start) (suc (s.end - s.start)) s.opened
        (record { rise = M.rise; low = M.low; high = λ i h. omega (arith, M.high i h); counts = M.counts; waiting = M.waiting })))

-- the lists of a state that matches wait
sound-waiting : (written bound : ℕ) (os : List Open) → sound written bound os ≡ true → Waiting os
unfolding sound sane Waiting
sound-waiting written bound [] e = tt
sound-waiting written bound (o ∷ os) e =
    let a = both (sane written bound o) (sound written o.position os) e in
    let b = both (ltb 0 o.position && ltb o.position bound) (leb o.current (written - o.position) && waits o.current o.most) a.0 in
    ((both (leb o.current (written - o.position)) (waits o.current o.most) b.1).1, sound-waiting written o.position os a.1)

pub matches-waiting : (s : Stream) (room : ℕ) → Matches s room → Waiting (state_of s).opens
unfolding matches
matches-waiting s room M =
    let t : State = state_of s in
    let a = both (leb t.start t.end && leb t.end room) (leb (length t.opens) levels && sound (total t) (suc (total t)) t.opens) ((matches-is s room).1 M) in
    sound-waiting (total t) (suc (total t)) t.opens (both (leb (length t.opens) levels) (sound (total t) (suc (total t)) t.opens) a.1).1
