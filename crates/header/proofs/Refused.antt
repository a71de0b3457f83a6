-- The header's refusals, each for its reason. Assumes nothing.
use Rattle.std.specs.Prelude.{Err}
use Rattle.std.proofs.Common.{◌≡◌, ℕ, zero, suc, ◌+◌, ◌-◌, ◌<◌, ◌≤◌, ltb, leb, ◌⊎◌, List, [], ◌∷◌, ◌++◌, length, take, drop, sym, refl, ap, ◌∙◌, subst, inl, inr, arith, length-append, take-append-drop, length-take-le}
use lib.Seq.{take-append_seam}
use Rattle.rlp.specs.declared.Refusal.{Refusal}
use Rattle.rlp.specs.declared.Refusal.TheVariants.{RlpIsTooShort, RlpInvalidIndirection}
use Rattle.rlp.specs.Refusals.{unless}
use Rattle.rlp.specs.Bytes.{Bytes, be_value, Trim}
use Rattle.rlp.specs.Tree.{strings, lists}
use Rattle.rlp.proofs.Tests.{is_lt, not_lt, is_le, not_le, by_lt}
use Rattle.rlp.proofs.Answers.{refused-got, refused_inj, unless-true, unless-false}
use Rattle.header.specs.Header.{told, long_header, header_of}
use Rattle.header.specs.Claims.{LongForm, Headless, none, zeroed, cut, small}
use Rattle.header.proofs.Ranges.{range_3, range_5, by_range}

-- ---- a long form, at the bytes after the first

module _ (k y : ℕ) (r : List ℕ) where
  long-is : long_header k (suc y ∷ r) ≡ unless (leb k (length (suc y ∷ r))) RlpIsTooShort (unless (ltb 55 (be_value (take k (suc y ∷ r)))) RlpInvalidIndirection (told (suc k) (be_value (take k (suc y ∷ r)))))
  unfolding long_header
  long-is = refl

  left_cut : length (suc y ∷ r) < k → long_header k (suc y ∷ r) ≡ Err RlpIsTooShort
  left_cut h = long-is ∙ unless-false RlpIsTooShort _ (not_le h)

  left_small : k ≤ length (suc y ∷ r) → be_value (take k (suc y ∷ r)) ≤ 55 → long_header k (suc y ∷ r) ≡ Err RlpInvalidIndirection
  left_small h s = long-is ∙ unless-true RlpIsTooShort _ (is_le h) ∙ unless-false RlpInvalidIndirection _ (not_lt s)

  left_read : k ≤ length (suc y ∷ r) → 55 < be_value (take k (suc y ∷ r)) → long_header k (suc y ∷ r) ≡ told (suc k) (be_value (take k (suc y ∷ r)))
  left_read h s = long-is ∙ unless-true RlpIsTooShort _ (is_le h) ∙ unless-true RlpInvalidIndirection _ (is_lt s)

first_left : (k y : ℕ) (r : List ℕ) → Trim (take k (suc y ∷ r))
unfolding Trim
first_left zero y r = tt
first_left (suc k) y r = omega arith

-- refused, it is for one of these reasons
long_reason : (x k : ℕ) (r : List ℕ) (e : Refusal) → LongForm x k → long_header k r ≡ Err e → Headless (x ∷ r) e
unfolding long_header Trim
long_reason x k [] e L q = subst (Headless (x ∷ [])) (refused_inj q) (cut [] L tt (omega (arith, L.some)))
long_reason x k (zero ∷ r) e L q = subst (Headless (x ∷ 0 ∷ r)) (refused_inj q) (zeroed r L)
long_reason x k (suc y ∷ r) e L q =
    by_lt (length (suc y ∷ r)) k
    (λ h. subst (Headless (x ∷ suc y ∷ r)) (refused_inj (sym (left_cut k y r h) ∙ q)) (cut (suc y ∷ r) L (omega arith) h))
    (λ h. by_lt 55 (be_value (take k (suc y ∷ r)))
    (λ s. absurd (refused-got (sym q ∙ left_read k y r h s)))
    (λ s.
    let n : List ℕ = take k (suc y ∷ r) in
    let d : List ℕ = drop k (suc y ∷ r) in
    let z : Headless (x ∷ (n ++ d)) RlpInvalidIndirection = small n d L (first_left k y r) (length-take-le k (suc y ∷ r) h) s in
    subst (Headless (x ∷ suc y ∷ r)) (refused_inj (sym (left_small k y r h s) ∙ q))
    (subst (λ (s : List ℕ). Headless (x ∷ s) RlpInvalidIndirection) (take-append-drop k (suc y ∷ r)) z)))

-- and for each of them it is refused so
long-cut-is : (k : ℕ) (r : List ℕ) → Trim r → length r < k → long_header k r ≡ Err RlpIsTooShort
unfolding long_header Trim
long-cut-is k [] t h = refl
long-cut-is k (zero ∷ r) t h = absurd (omega arith)
long-cut-is k (suc y ∷ r) t h = left_cut k y r h

long-small-is : (k : ℕ) (n r : List ℕ) → Trim n → length n ≡ k → 1 ≤ k → be_value n ≤ 55 → long_header k (n ++ r) ≡ Err RlpInvalidIndirection
unfolding Trim
long-small-is k [] r t z h s = absurd (omega arith)
long-small-is k (zero ∷ n) r t z h s = absurd (omega arith)
long-small-is k (suc y ∷ n) r t z h s =
    let w : take k (suc y ∷ (n ++ r)) ≡ suc y ∷ n = ap (λ (j : ℕ). take j (suc y ∷ (n ++ r))) (sym z) ∙ take-append_seam (suc y ∷ n) r in
    left_small k y (n ++ r) (omega (arith, length-append n r)) (subst (λ (m : List ℕ). be_value m ≤ 55) (sym w) s)

-- ---- by the first byte

long_at_first : (x k : ℕ) (r : List ℕ) → LongForm x k → header_of (x ∷ r) ≡ long_header k r
long_at_first x k r L = go L.first
  where
    go : (x ≡ strings + 55 + k) ⊎ (x ≡ lists + 55 + k) → header_of (x ∷ r) ≡ long_header k r
    go (inl e) = range_3 x r (omega (arith, L.some)) (omega (arith, L.few)) ∙ ap (λ (j : ℕ). long_header j r) (omega arith)
    go (inr e) = range_5 x r (omega (arith, L.some)) ∙ ap (λ (j : ℕ). long_header j r) (omega arith)

pub header_reason : (b : List ℕ) (e : Refusal) → Bytes b → header_of b ≡ Err e → Headless b e
unfolding header_of Bytes
header_reason [] e w q = subst (Headless []) (refused_inj q) none
header_reason (x ∷ r) e w q =
    by_range x r (Err e) q
    (λ a t. absurd (refused-got (sym t)))
    (λ a c t. absurd (refused-got (sym t)))
    (λ a c t. long_reason x (x - 0xb7) r e (record { some = omega arith; few = omega arith; first = inl (omega arith) }) t)
    (λ a c t. absurd (refused-got (sym t)))
    (λ a t. long_reason x (x - 0xf7) r e (record { some = omega arith; few = omega (arith, w.0); first = inr (omega arith) }) t)

pub reason_header : (b : List ℕ) (e : Refusal) → Headless b e → header_of b ≡ Err e
unfolding header_of long_header
reason_header b e none = refl
reason_header b e (zeroed {x} {k} r L) = long_at_first x k (0 ∷ r) L
reason_header b e (cut {x} {k} r L t h) = long_at_first x k r L ∙ long-cut-is k r t h
reason_header b e (small {x} {k} n r L t z s) = long_at_first x k (n ++ r) L ∙ long-small-is k n r t z L.some s
