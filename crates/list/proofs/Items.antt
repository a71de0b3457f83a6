-- The items of a list lie in a row inside its payload, as many as are counted, and a walk may start at any of them. Assumes nothing.
use Rattle.std.specs.Prelude.{Ok, Err}
use mathlib.Core.Path.{◌≡◌, refl, sym, ap, ◌∙◌, subst}
use Prim.Native.Nat.{ℕ, zero, suc, ◌+◌, ◌-◌, ◌≤◌, ◌<◌}
use native.Mathlib.Omega.{arith}
use mathlib.Core.List.{List, [], ◌∷◌}
use lib.ListN.{length, take, drop, length-drop}
use lib.Seq.{length-take-le}
use Rattle.rlp.specs.declared.Refusal.{Refusal}
use Rattle.rlp.specs.declared.Refusal.TheVariants.{RlpIsTooShort}
use Rattle.rlp.specs.Refusals.{Or, also}
use Rattle.rlp.proofs.Tests.{by_lt}
use Rattle.rlp.proofs.Answers.{refused-got, got_inj, refused_inj, also-got, also-refused}
use Rattle.header.specs.declared.PayloadInfo.{PayloadInfo}
use Rattle.header.specs.Header.{size, payload_info}
use Rattle.value.specs.declared.Part.{Part}
use Rattle.list.specs.declared.OffsetCache.{OffsetCache}
use Rattle.list.specs.Walk.{Row, done, broken, item, row_from, nth, count_in, payload_at, row_in, item_at, item_within, cached_at}
use Rattle.list.specs.Claims.{Whole, none, more}
use Rattle.list.proofs.Rows.{info-sized, row-item, row-broken, Rest, rest-item, rest-fits, rest-there}
use Rattle.list.proofs.Asked.{payload_inside, row_between, at_got, cached_fresh, cached_rest, rest-within, within-there}

-- ---- a walk that arrives

-- what a walk of the bytes b from `at` on, that arrives at q, i items on, tells of q
pub record Arrived (b : List ℕ) (at i : ℕ) (q : Part) : Type 0 where
  pub from : at ≤ q.start
  pub some : 0 < q.len
  pub upto : q.start + q.len ≤ length b
  pub first : i ≡ 0 → q.start ≡ at
  pub prior : (j : ℕ) (r : Part) → i ≡ suc j → nth (Rest b at) j ≡ Ok r → q.start ≡ r.start + r.len
  pub onward : (k : ℕ) → nth (Rest b at) (i + k) ≡ nth (Rest b q.start) k
  pub past : (k : ℕ) → nth (Rest b at) (suc (i + k)) ≡ nth (Rest b (q.start + q.len)) k

-- the item before, where a walk has taken one step
prior_step : (b : List ℕ) (at i n : ℕ) (q : Part) → Rest b at ≡ item (record { start = at; len = n }) (Rest b (at + n)) → Arrived b (at + n) i q
    → (j : ℕ) (t : Part) → suc i ≡ suc j → nth (Rest b at) j ≡ Ok t → q.start ≡ t.start + t.len
unfolding nth
prior_step b at i n q r A zero t h g =
    let z : ◌≡◌ {A = Part} (record { start = at; len = n }) t = got_inj (sym (ap (λ (l : Row). nth l 0) r) ∙ g) in
    A.first (omega arith) ∙ subst (λ (t : Part). at + n ≡ t.start + t.len) z refl
prior_step b at i n q r A (suc j) t h g = A.prior j t (omega arith) (sym (ap (λ (l : Row). nth l (suc j)) r) ∙ g)

pub arrives : (b : List ℕ) (at i : ℕ) (q : Part) → at ≤ length b → nth (Rest b at) i ≡ Ok q → Arrived b at i q
unfolding nth
arrives b at zero q le e =
    let s = rest-there b at 0 q e in
    let f = rest-fits b at s.0 s.1 le in
    let z : ◌≡◌ {A = Part} (record { start = at; len = s.0 }) q = got_inj (sym (ap (λ (l : Row). nth l 0) (rest-item b at s.0 s.1)) ∙ e) in
    subst (Arrived b at 0) z
    (record {
      from = omega arith;
      some = f.0;
      upto = f.1;
      first = λ h. refl;
      prior = λ j r h. absurd (omega arith);
      onward = λ k. let y : 0 + k ≡ k = omega arith in ap (nth (Rest b at)) y;
      past = λ k. let y : 0 + k ≡ k = omega arith in rw y (ap (λ (l : Row). nth l (suc k)) (rest-item b at s.0 s.1));
    })
arrives b at (suc i) q le e =
    let s = rest-there b at (suc i) q e in
    let n : ℕ = s.0 in
    let f = rest-fits b at n s.1 le in
    let r = rest-item b at n s.1 in
    let step : (k : ℕ) → nth (Rest b at) (suc k) ≡ nth (Rest b (at + n)) k = λ k. ap (λ (l : Row). nth l (suc k)) r in
    let A : Arrived b (at + n) i q = arrives b (at + n) i q f.1 (sym (step i) ∙ e) in
    record {
      from = omega (arith, A.from, f.0);
      some = A.some;
      upto = A.upto;
      first = λ h. absurd (omega arith);
      prior = prior_step b at i n q r A;
      onward = λ k. let y : suc i + k ≡ suc (i + k) = omega arith in ap (nth (Rest b at)) y ∙ step (i + k) ∙ A.onward k;
      past = λ k. let y : suc i + k ≡ suc (i + k) = omega arith in rw y (step (suc (i + k)) ∙ A.past k);
    }

-- ---- over the list's payload

-- a walk that arrives, of the bytes up to an end
pub arrives_within : (b : List ℕ) (end at i : ℕ) (q : Part) → at ≤ end → end ≤ length b → nth (Rest (take end b) at) i ≡ Ok q
    → Arrived (take end b) at i q × (q.start + q.len ≤ end)
arrives_within b end at i q le inside e =
    let z = length-take-le end b inside in
    let A = arrives (take end b) at i q (omega (arith, z)) e in
    (A, omega (arith, A.upto, z))

module _ (b : List ℕ) (p : Part) (h : payload_at b ≡ Ok p) where
  -- the bytes up to the payload's end
  bounded : List ℕ
  bounded = take (p.start + p.len) b

  -- item i is where a walk of the payload arrives
  at_walk : (i : ℕ) → nth (Rest (take (p.start + p.len) b) p.start) i ≡ item_at b i
  at_walk i =
      let z : p.start + p.len - p.start ≡ p.len = omega arith in
      ap (λ (l : Row). nth l i) (row_between b p.start (p.start + p.len) (omega arith))
      ∙ ap (λ (n : ℕ). nth (row_in b (record { start = p.start; len = n })) i) z
      ∙ at_got b i p h

  pub item_arrived : (i : ℕ) (q : Part) → item_at b i ≡ Ok q → Arrived (take (p.start + p.len) b) p.start i q × (q.start + q.len ≤ p.start + p.len)
  item_arrived i q e = arrives_within b (p.start + p.len) p.start i q (omega arith) (payload_inside b p h) (at_walk i ∙ e)

  pub item_prior : (i j : ℕ) (q r : Part) → item_at b i ≡ Ok q → item_at b j ≡ Ok r → i ≡ suc j → q.start ≡ r.start + r.len
  item_prior i j q r e f z = (item_arrived i q e).0.prior j r z (at_walk j ∙ f)

  -- a walk may start at any item
  pub cached_right : (c : OffsetCache) (i : ℕ) (q : Part) → item_at b c.index ≡ Ok q → q.start ≡ c.offset → cached_at b c i ≡ item_at b i
  unfolding bounded
  cached_right c i q e o =
      by_lt i c.index
      (λ l. sym (cached_fresh b c i l))
      (λ l.
      let A = item_arrived c.index q e in
      let z : c.index + (i - c.index) ≡ i = omega arith in
      sym (cached_rest b c i p l h)
      ∙ sym (rest-within b c.offset (i - c.index) p (omega (arith, A.0.from)) (omega (arith, A.1)))
      ∙ ap (λ (s : ℕ). nth (Rest bounded s) (i - c.index)) (sym o)
      ∙ sym (A.0.onward (i - c.index))
      ∙ ap (nth (Rest bounded p.start)) z
      ∙ at_walk i)

  -- or right behind one
  pub cached_next : (i j : ℕ) (q : Part) → item_at b i ≡ Ok q → i < j → cached_at b (record { index = suc i; offset = q.start + q.len }) j ≡ item_at b j
  unfolding bounded
  cached_next i j q e l =
      let A = item_arrived i q e in
      let z : suc (i + (j - suc i)) ≡ j = omega arith in
      sym (cached_rest b (record { index = suc i; offset = q.start + q.len }) j p (omega arith) h)
      ∙ sym (rest-within b (q.start + q.len) (j - suc i) p (omega (arith, A.0.from)) A.1)
      ∙ sym (A.0.past (j - suc i))
      ∙ ap (nth (Rest bounded p.start)) z
      ∙ at_walk j

  -- a walk by steps
  pub step-first : item_within b p.start (p.start + p.len) ≡ item_at b 0
  step-first = sym (within-there b p.start (p.start + p.len) (omega arith) (payload_inside b p h)) ∙ at_walk 0

  pub step-next : (i : ℕ) (q : Part) → item_at b i ≡ Ok q → item_within b (q.start + q.len) (p.start + p.len) ≡ item_at b (suc i)
  unfolding bounded
  step-next i q e =
      let A = item_arrived i q e in
      let z : suc (i + 0) ≡ suc i = omega arith in
      sym (within-there b (q.start + q.len) (p.start + p.len) A.1 (payload_inside b p h))
      ∙ sym (A.0.past 0)
      ∙ ap (nth (Rest bounded p.start)) z
      ∙ at_walk (suc i)

-- an item is found only in a list
pub item-payload : (b : List ℕ) (i : ℕ) (q : Part) → item_at b i ≡ Ok q → (p : Part) × (payload_at b ≡ Ok p)
unfolding item_at
item-payload b i q e = let a = also-got (payload_at b) (λ p. nth (row_in b p) i) q e in (a.0, a.1)

-- ---- counts

-- the row of a whole payload has so many items
pub whole-count : (at n : ℕ) (s : List ℕ) → Whole n s → count_in (row_from at 0 s) ≡ Ok n
unfolding row_from count_in also
whole-count at zero s w = go s w
  where
    go : (s : List ℕ) → Whole 0 s → count_in (row_from at 0 s) ≡ Ok 0
    go s none = refl
whole-count at (suc n) s (more p e w) =
    ap count_in (row-item at s p e) ∙ rw (whole-count (at + size p) n (drop (size p) s) w)

-- a count of a row with an item at the front is one more than that of the rest
counted-item : (at : ℕ) (s : List ℕ) (p : PayloadInfo) (n : ℕ) → payload_info s ≡ Ok p → count_in (row_from at 0 s) ≡ Ok n
    → (m : ℕ) × (count_in (row_from (at + size p) 0 (drop (size p) s)) ≡ Ok m) × (suc m ≡ n)
unfolding count_in
counted-item at s p n q e =
    let a = also-got (count_in (row_from (at + size p) 0 (drop (size p) s))) (λ n. Ok (suc n)) n (sym (ap count_in (row-item at s p q)) ∙ e) in
    (a.0, a.1, got_inj a.2)

-- a row that is counted is whole
pub counted-whole : (fuel at : ℕ) (s : List ℕ) (n : ℕ) → length s ≤ fuel → count_in (row_from at 0 s) ≡ Ok n → Whole n s
unfolding row_from count_in
counted-whole zero at [] n l e = subst (λ (n : ℕ). Whole n []) (got_inj e) none
counted-whole (suc fuel) at [] n l e = subst (λ (n : ℕ). Whole n []) (got_inj e) none
counted-whole zero at (x ∷ s) n l e = absurd (omega arith)
counted-whole (suc fuel) at (x ∷ s) n l e = go (payload_info (x ∷ s)) refl (λ t k a m q. counted-whole fuel a t k m q)
  where
    go : (o : Or PayloadInfo) → payload_info (x ∷ s) ≡ o → ((t : List ℕ) (k a : ℕ) → length t ≤ fuel → count_in (row_from a 0 t) ≡ Ok k → Whole k t) → Whole n (x ∷ s)
    go (Err f) q again = absurd (refused-got (sym (ap count_in (row-broken at (x ∷ s) f (omega arith) q)) ∙ e))
    go (Ok p) q again =
        let c = counted-item at (x ∷ s) p n q e in
        let z = info-sized (x ∷ s) p q in
        subst (λ (n : ℕ). Whole n (x ∷ s)) c.2 (more p q (again (drop (size p) (x ∷ s)) c.0 (at + size p) (omega (arith, length-drop (size p) (x ∷ s), z)) c.1))

-- as many indexes as are counted are answered
pub count-refusal : (l : Row) (e : Refusal) → count_in l ≡ Err e → (i : ℕ) × (nth l i ≡ Err e)
unfolding count_in nth
count-refusal done e q = absurd (refused-got (sym q))
count-refusal (broken d) e q = (0, ap Err (refused_inj q))
count-refusal (item p l) e q = let r = count-refusal l e (also-refused (count_in l) suc e q) in (suc r.0, r.1)

pub count-nth : (l : Row) (n i : ℕ) → count_in l ≡ Ok n → (i < n → (q : Part) × (nth l i ≡ Ok q)) × (n ≤ i → nth l i ≡ Err RlpIsTooShort)
unfolding nth count_in
count-nth done n i e = let z : 0 ≡ n = got_inj e in (λ h. absurd (omega arith), λ h. refl)
count-nth (broken f) n i e = absurd (refused-got e)
count-nth (item p l) n zero e =
    let a = also-got (count_in l) (λ n. Ok (suc n)) n e in
    let z : suc a.0 ≡ n = got_inj a.2 in
    (λ h. (p, refl), λ h. absurd (omega arith))
count-nth (item p l) n (suc i) e =
    let a = also-got (count_in l) (λ n. Ok (suc n)) n e in
    let z : suc a.0 ≡ n = got_inj a.2 in
    let r = count-nth l a.0 i a.1 in
    (λ h. r.0 (omega arith), λ h. r.1 (omega arith))
