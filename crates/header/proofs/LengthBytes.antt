-- Length bytes: the rules that the code follows, and that exactly the shortest big-endian bytes of a number are taken. Assumes nothing.
use Rattle.std.specs.Prelude.{Ok, Err}
use Rattle.std.proofs.Common.{◌≡◌, ℕ, zero, suc, ◌+◌, ◌*◌, ◌^◌, ◌<◌, ◌≤◌, leb, List, [], ◌∷◌, ◌++◌, length, get_or, take, sym, refl, ap, ◌∙◌, pow-suc, add-one, arith, lit<, take-suc, leb-true}
use native.Mathlib.Nat.{pow-le-pow_right}
use Rattle.rlp.specs.declared.Refusal.TheVariants.{RlpIsTooShort, RlpInvalidIndirection, RlpIsTooBig}
use Rattle.rlp.specs.Bytes.{Bytes, be_from, be_value, be, Trim}
use Rattle.rlp.proofs.Tests.{is_le, not_le}
use Rattle.rlp.proofs.Answers.{refused-got, got_inj, unless-got, unless-true, unless-false}
use Rattle.rlp.proofs.BigEndian.{value-be, be-value, be_trim, be-short, value_upper, value_lower}
use Rattle.header.specs.Header.{length_in, length_of}

-- ---- up to 8 bytes, one after the other

from_snoc : (a : ℕ) (s : List ℕ) (x : ℕ) → be_from a (s ++ (x ∷ [])) ≡ be_from a s * 256 + x
unfolding be_from
from_snoc a [] x = refl
from_snoc a (y ∷ s) x = from_snoc (a * 256 + y) s x

pub value_none : (s : List ℕ) → 0 ≡ be_value (take 0 s)
unfolding be_value be_from
value_none s = refl

pub value-more : (s : List ℕ) (i r x : ℕ) → i < length s → r ≡ be_value (take i s) → x ≡ get_or s i 0 → r * 256 + x ≡ be_value (take (i + 1) s)
unfolding be_value
value-more s i r x h e p = rw (add-one i, take-suc s i 0 h, from_snoc 0 (take i s) (get_or s i 0), e, p)

-- before the last of at most 8 bytes there is room for one more
pub value_room : (i n r : ℕ) → i < n → n ≤ 8 → r < 256 ^ i → r < 256 ^ 7
value_room i n r h k p = omega (arith, pow-le-pow_right {n = 256} (lit< tt) {i = i} {j = 7} (omega arith))

pub value_grows : (i r x : ℕ) → r < 256 ^ i → x < 256 → r * 256 + x < 256 ^ (i + 1)
value_grows i r x p q = rw (add-one i, pow-suc 256 i) (omega arith)

-- ---- the rules

pub length-big : (b : List ℕ) → 8 < length b → Err RlpIsTooBig ≡ length_of b
unfolding length_of
length-big b h = sym (unless-false RlpIsTooBig (length_in b) (not_le h))

module _ (b : List ℕ) (h : length b ≤ 8) where
  short : length_of b ≡ length_in b
  unfolding length_of
  short = unless-true RlpIsTooBig (length_in b) (is_le h)

  pub length_none : length b ≡ 0 → Err RlpIsTooShort ≡ length_of b
  unfolding length_in
  length_none e = sym (short ∙ go b e)
    where
      go : (b : List ℕ) → length b ≡ 0 → length_in b ≡ Err RlpIsTooShort
      go [] e = refl
      go (x ∷ b) e = absurd (omega arith)

  pub length-zero : 0 < length b → get_or b 0 0 ≡ 0 → Err RlpInvalidIndirection ≡ length_of b
  unfolding length_in
  length-zero l e = sym (short ∙ go b l e)
    where
      go : (b : List ℕ) → 0 < length b → get_or b 0 0 ≡ 0 → length_in b ≡ Err RlpInvalidIndirection
      go [] l e = absurd (omega arith)
      go (zero ∷ b) l e = refl
      go (suc x ∷ b) l e = absurd (omega arith)

-- ---- exactly the shortest bytes of a number from 1 to 2 ^ 64 - 1

in_sound : (b : List ℕ) (n : ℕ) → Bytes b → length_in b ≡ Ok n → (0 < n) × (be n ≡ b) × (n ≡ be_value b)
unfolding length_in Trim
in_sound [] n w e = absurd (refused-got e)
in_sound (zero ∷ b) n w e = absurd (refused-got e)
in_sound (suc x ∷ b) n w e =
    let v : be_value (suc x ∷ b) ≡ n = got_inj e in
    let p : be (be_value (suc x ∷ b)) ≡ suc x ∷ b = be-value (suc x ∷ b) (omega arith) w in
    (positive b v, rw v at p, sym v)
  where
    positive : (b : List ℕ) → be_value (suc x ∷ b) ≡ n → 0 < n
    positive b v = omega (arith, value_lower (suc x) b (omega arith), some (length b))
      where
        some : (k : ℕ) → 0 < 256 ^ k
        some k = pow-le-pow_right {n = 256} (lit< tt) {i = 0} {j = k} (omega arith)

pub length-sound : (b : List ℕ) (n : ℕ) → Bytes b → length_of b ≡ Ok n → (0 < n) × (n < 256 ^ 8) × (be n ≡ b)
unfolding length_of
length-sound b n w e =
    let p = unless-got (leb (length b) 8) RlpIsTooBig (length_in b) n e in
    let q = in_sound b n w p.1 in
    let k : length b ≤ 8 = leb-true (length b) 8 p.0 in
    (q.0, omega (arith, q.2, value_upper b w, pow-le-pow_right {n = 256} (lit< tt) {i = length b} {j = 8} k), q.1)

in_complete : (s : List ℕ) (n : ℕ) → 0 < n → Trim s → be_value s ≡ n → length_in s ≡ Ok n
unfolding length_in Trim be_value be_from
in_complete [] n h t v = absurd (omega arith)
in_complete (zero ∷ s) n h t v = absurd (omega arith)
in_complete (suc x ∷ s) n h t v = ap Ok v

pub length_complete : (n : ℕ) → 0 < n → n < 256 ^ 8 → length_of (be n) ≡ Ok n
unfolding length_of
length_complete n h l = unless-true RlpIsTooBig (length_in (be n)) (is_le (be-short 8 n l)) ∙ in_complete (be n) n h (be_trim n) (value-be n)
