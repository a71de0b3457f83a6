-- The five ranges of the first byte, and the long form: the rules that the code follows. Assumes nothing.
use Rattle.std.specs.Prelude.{Ok}
use Rattle.std.proofs.Common.{◌≡◌, ℕ, zero, suc, ◌-◌, ◌<◌, ◌≤◌, ltb, leb, List, [], ◌∷◌, length, take, sym, refl, ◌∙◌, subst, arith, ltb-true, leb-true}
use Rattle.rlp.specs.declared.Refusal.TheVariants.{RlpIsTooShort, RlpInvalidIndirection}
use Rattle.rlp.specs.Refusals.{Or, unless}
use Rattle.rlp.specs.Bytes.{be_value, Trim}
use Rattle.rlp.proofs.Tests.{is_le, not_le, by_lt}
use Rattle.rlp.proofs.Answers.{refused-got, got_inj, unless-got}
use Rattle.header.specs.declared.PayloadInfo.{PayloadInfo}
use Rattle.header.specs.Header.{told, long_header, header_of}

-- ---- by the first byte

module _ (x : ℕ) (r : List ℕ) where
  pub range_1 : x ≤ 0x7f → header_of (x ∷ r) ≡ told 0 1
  unfolding header_of
  range_1 h = rw (is_le h)

  pub range_2 : 0x7f < x → x ≤ 0xb7 → header_of (x ∷ r) ≡ told 1 (x - 0x80)
  unfolding header_of
  range_2 a h = rw (not_le a, is_le h)

  pub range_3 : 0xb7 < x → x ≤ 0xbf → header_of (x ∷ r) ≡ long_header (x - 0xb7) r
  unfolding header_of
  range_3 a h = rw (not_le {a = x} {b = 0x7f} (omega arith), not_le a, is_le h)

  pub range_4 : 0xbf < x → x ≤ 0xf7 → header_of (x ∷ r) ≡ told 1 (x - 0xc0)
  unfolding header_of
  range_4 a h = rw (not_le {a = x} {b = 0x7f} (omega arith), not_le {a = x} {b = 0xb7} (omega arith), not_le a, is_le h)

  pub range_5 : 0xf7 < x → header_of (x ∷ r) ≡ long_header (x - 0xf7) r
  unfolding header_of
  range_5 a = rw (not_le {a = x} {b = 0x7f} (omega arith), not_le {a = x} {b = 0xb7} (omega arith), not_le {a = x} {b = 0xbf} (omega arith), not_le a)

-- ---- what was read

-- a long form that was read: the header is the first byte and k length bytes, which have no leading zero and are the length's
pub record Long (k : ℕ) (r : List ℕ) (p : PayloadInfo) : Type 0 where
  pub len : p.header_len ≡ suc k
  pub big : 55 < p.value_len
  pub cut : k ≤ length r
  pub trim : Trim (take k r)
  pub num : be_value (take k r) ≡ p.value_len

trim_take : (k x : ℕ) (r : List ℕ) → Trim (take k (suc x ∷ r))
unfolding Trim
trim_take zero x r = tt
trim_take (suc k) x r = omega arith

pub long_read : (k : ℕ) (r : List ℕ) (p : PayloadInfo) → long_header k r ≡ Ok p → Long k r p
unfolding long_header
long_read k [] p e = absurd (refused-got e)
long_read k (zero ∷ r) p e = absurd (refused-got e)
long_read k (suc x ∷ r) p e =
    let s : List ℕ = suc x ∷ r in
    let v : ℕ = be_value (take k s) in
    let a = unless-got (leb k (length s)) RlpIsTooShort (unless (ltb 55 v) RlpInvalidIndirection (told (suc k) v)) p e in
    let b = unless-got (ltb 55 v) RlpInvalidIndirection (told (suc k) v) p a.1 in
    subst (Long k s) (got_inj b.1)
    (record { len = refl; big = ltb-true 55 v b.0; cut = leb-true k (length s) a.0; trim = trim_take k x r; num = refl })

-- by the range of the first byte, with what the header is there
pub by_range {ℓ} : {P : Type ℓ} (x : ℕ) (r : List ℕ) (o : Or PayloadInfo) → header_of (x ∷ r) ≡ o
    → (x ≤ 0x7f → told 0 1 ≡ o → P)
    → (0x7f < x → x ≤ 0xb7 → told 1 (x - 0x80) ≡ o → P)
    → (0xb7 < x → x ≤ 0xbf → long_header (x - 0xb7) r ≡ o → P)
    → (0xbf < x → x ≤ 0xf7 → told 1 (x - 0xc0) ≡ o → P)
    → (0xf7 < x → long_header (x - 0xf7) r ≡ o → P)
    → P
by_range x r o e f₁ f₂ f₃ f₄ f₅ =
    by_lt 0x7f x
    (λ a. by_lt 0xb7 x
    (λ b. by_lt 0xbf x
    (λ c. by_lt 0xf7 x (λ d. f₅ d (sym (range_5 x r d) ∙ e)) (λ d. f₄ c d (sym (range_4 x r c d) ∙ e)))
    (λ c. f₃ b c (sym (range_3 x r b c) ∙ e)))
    (λ b. f₂ a b (sym (range_2 x r a b) ∙ e)))
    (λ a. f₁ a (sym (range_1 x r a) ∙ e))
