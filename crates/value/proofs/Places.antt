-- Where a value lies: the rules that the code follows, and that it lies inside the bytes. Assumes nothing.
use Rattle.std.specs.Prelude.{Ok, Err}
use mathlib.Core.Path.{◌≡◌, sym, ◌∙◌, subst}
use mathlib.Core.Bool.{not}
use Prim.Native.Nat.{ℕ, suc, ◌+◌, ◌-◌, ◌^◌, ◌≤◌, ◌<◌}
use native.Mathlib.Omega.{arith}
use mathlib.Core.List.{List, [], ◌∷◌}
use lib.Dec.{ltb, leb}
use lib.ListN.{length, take}
use borrow.Author.Tests.{leb-true}
use Rattle.rlp.specs.declared.Refusal.TheVariants.{RlpInvalidIndirection, RlpInconsistentLengthAndData, RlpInvalidLength, RlpExpectedToBeData}
use Rattle.rlp.proofs.Tests.{is_le, not_le, by_lt}
use Rattle.rlp.proofs.Answers.{refused-got, got_inj, also-got, unless-got}
use Rattle.header.specs.Header.{length_of, size, payload_info}
use Rattle.header.proofs.Fits.{info_fits}
use Rattle.value.specs.declared.Part.{Part}
use Rattle.value.specs.Value.{placed, spare, short_value, long_end, long_value, value_at, data_at, part}
use Rattle.value.specs.Answers.{part_in}

-- ---- by the first byte

module _ (x : ℕ) (r : List ℕ) where
  pub range_1 : x ≤ 0x7f → value_at (x ∷ r) ≡ placed 0 1
  unfolding value_at
  range_1 h = rw (is_le h)

  pub range_2 : 0x7f < x → x ≤ 0xb7 → value_at (x ∷ r) ≡ short_value (x - 0x80) r
  unfolding value_at
  range_2 a h = rw (not_le a, is_le h)

  pub range_3 : 0xb7 < x → x ≤ 0xbf → value_at (x ∷ r) ≡ long_value (x - 0xb7) r
  unfolding value_at
  range_3 a h = rw (not_le {a = x} {b = 0x7f} (omega arith), not_le a, is_le h)

  pub range_4 : 0xbf < x → value_at (x ∷ r) ≡ Err RlpExpectedToBeData
  unfolding value_at
  range_4 a = rw (not_le {a = x} {b = 0x7f} (omega arith), not_le {a = x} {b = 0xb7} (omega arith), not_le a)

-- ---- inside

short-inside : (n : ℕ) (r : List ℕ) (p : Part) → short_value n r ≡ Ok p → p.start + p.len ≤ suc (length r)
unfolding short_value
short-inside n r p e =
    let a = unless-got (leb n (length r)) RlpInconsistentLengthAndData _ p e in
    let c = unless-got (not (spare n r)) RlpInvalidIndirection (placed 1 n) p a.1 in
    subst (λ (p : Part). p.start + p.len ≤ suc (length r)) (got_inj c.1) (omega (arith, leb-true n (length r) a.0))

long-inside : (k : ℕ) (r : List ℕ) (p : Part) → long_value k r ≡ Ok p → p.start + p.len ≤ suc (length r)
unfolding long_value long_end
long-inside k r p e =
    let a = unless-got (leb k (length r)) RlpInconsistentLengthAndData _ p e in
    let b = also-got (length_of (take k r)) (long_end k r) p a.1 in
    let n : ℕ = b.0 in
    let c = unless-got (ltb (suc k + n) (2 ^ 64)) RlpInvalidLength _ p b.2 in
    let d = unless-got (leb (k + n) (length r)) RlpInconsistentLengthAndData (placed (suc k) n) p c.1 in
    subst (λ (p : Part). p.start + p.len ≤ suc (length r)) (got_inj d.1) (omega (arith, leb-true (k + n) (length r) d.0))

pub value_inside : (b : List ℕ) (p : Part) → value_at b ≡ Ok p → p.start + p.len ≤ length b
unfolding value_at
value_inside [] p e = absurd (refused-got e)
value_inside (x ∷ r) p e =
    by_lt 0x7f x
    (λ a. by_lt 0xb7 x
    (λ c. by_lt 0xbf x (λ d. absurd (refused-got (sym (range_4 x r d) ∙ e))) (λ d. long-inside (x - 0xb7) r p (sym (range_3 x r c d) ∙ e)))
    (λ c. short-inside (x - 0x80) r p (sym (range_2 x r a c) ∙ e)))
    (λ a. subst (λ (p : Part). p.start + p.len ≤ suc (length r)) (got_inj (sym (range_1 x r a) ∙ e)) (omega arith))

-- ---- `data`

pub data_inside : (b : List ℕ) (p : Part) → data_at b ≡ Ok p → p.start + p.len ≤ length b
unfolding data_at size
data_inside b p e =
    let a = also-got (payload_info b) (λ p. placed p.header_len p.value_len) p e in
    subst (λ (p : Part). p.start + p.len ≤ length b) (got_inj a.2) (omega (arith, (info_fits b a.0 a.1).1))

-- ---- the bytes of a place

pub part-whole : (b : List ℕ) (p : Part) → p.start + p.len ≤ length b → part_in b (Ok p) ≡ part b p
unfolding part_in
part-whole b p h = rw (is_le h)
