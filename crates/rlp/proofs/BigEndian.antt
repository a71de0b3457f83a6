-- The shortest big-endian bytes of a number, and the number of some bytes, are inverse to each other. Assumes nothing.
use mathlib.Core.Path.{◌≡◌, refl, sym, ap, ◌∙◌}
use Prim.Native.Nat.{ℕ, zero, suc, ◌+◌, ◌*◌, ◌/◌, ◌%◌, ◌^◌, ◌≤◌, ◌<◌}
use native.Mathlib.Nat.{pow-suc, pow-zero, mul-le-mul_right, pow-le-pow_right}
use native.Mathlib.Decide.{dec_le}
use native.Mathlib.Omega.{arith}
use mathlib.Core.List.{List, [], ◌∷◌, ◌++◌, append-nil}
use lib.ListN.{length, length-append}
use lib.Seq.{append_snoc}
use Rattle.rlp.specs.Bytes.{Bytes, be_from, be_value, be_up_to, be, Trim}

be_from_append : (a : ℕ) (s t : List ℕ) → be_from a (s ++ t) ≡ be_from (be_from a s) t
unfolding be_from
be_from_append a [] t = refl
be_from_append a (x ∷ s) t = be_from_append (a * 256 + x) s t

up_to_value : (k n : ℕ) → n ≤ k → be_from 0 (be_up_to k n) ≡ n
unfolding be_from be_up_to
up_to_value zero n h = omega arith
up_to_value (suc k) zero h = refl
up_to_value (suc k) (suc n) h =
    be_from_append 0 (be_up_to k (suc n / 256)) (suc n % 256 ∷ []) ∙ rw (up_to_value k (suc n / 256) (omega arith)) (omega arith)

pub value-be : (n : ℕ) → be_value (be n) ≡ n
unfolding be_value be
value-be n = up_to_value n n (omega arith)

-- more bound changes nothing
up_to_same : (k j n : ℕ) → n ≤ k → n ≤ j → be_up_to k n ≡ be_up_to j n
unfolding be_up_to
up_to_same zero zero n h l = refl
up_to_same zero (suc j) zero h l = refl
up_to_same zero (suc j) (suc n) h l = absurd (omega arith)
up_to_same (suc k) zero zero h l = refl
up_to_same (suc k) zero (suc n) h l = absurd (omega arith)
up_to_same (suc k) (suc j) zero h l = refl
up_to_same (suc k) (suc j) (suc n) h l = rw (up_to_same k j (suc n / 256) (omega arith) (omega arith))

be_positive : (n q r : ℕ) → suc n / 256 ≡ q → suc n % 256 ≡ r → be (suc n) ≡ be q ++ r ∷ []
unfolding be be_up_to
be_positive n q r p e = rw (p, e, up_to_same n q q (omega arith) (omega arith))

-- one more byte
pub be_snoc : (a x : ℕ) → x < 256 → 0 < a * 256 + x → be (a * 256 + x) ≡ be a ++ x ∷ []
be_snoc a x h p = go (a * 256 + x) refl p
  where
    go : (m : ℕ) → a * 256 + x ≡ m → 0 < m → be m ≡ be a ++ x ∷ []
    go zero e l = absurd (omega arith)
    go (suc m) e l = be_positive m a x (omega arith) (omega arith)

be_from_lem : (a : ℕ) (s : List ℕ) → 0 < a → Bytes s → be (be_from a s) ≡ be a ++ s
unfolding be_from Bytes
be_from_lem a [] p b = sym (append-nil (be a))
be_from_lem a (x ∷ s) p b = be_from_lem (a * 256 + x) s (omega arith) b.1 ∙ rw (be_snoc a x b.0 (omega arith)) (append_snoc (be a) x s)

-- bytes with no leading zero are the shortest bytes of their value
pub be-value : (s : List ℕ) → Trim s → Bytes s → be (be_value s) ≡ s
unfolding be_value be_from Trim Bytes be be_up_to
be-value [] t b = refl
be-value (x ∷ s) t b = be_from_lem (0 * 256 + x) s (omega arith) b.1 ∙ rw (be_snoc 0 x b.0 (omega arith))

pub bytes_append : (s t : List ℕ) → Bytes s → Bytes t → Bytes (s ++ t)
unfolding Bytes
bytes_append [] t b c = c
bytes_append (x ∷ s) t b c = (b.0, bytes_append s t b.1 c)

up_to_bytes : (k n : ℕ) → Bytes (be_up_to k n)
unfolding be_up_to Bytes
up_to_bytes zero n = tt
up_to_bytes (suc k) zero = tt
up_to_bytes (suc k) (suc n) = bytes_append (be_up_to k (suc n / 256)) (suc n % 256 ∷ []) (up_to_bytes k (suc n / 256)) (omega arith, tt)

pub be-bytes : (n : ℕ) → Bytes (be n)
unfolding be
be-bytes n = up_to_bytes n n

trim_snoc : (s : List ℕ) (x : ℕ) → Trim s → (s ≡ [] → 0 < x) → Trim (s ++ x ∷ [])
unfolding Trim
trim_snoc [] x t f = f refl
trim_snoc (y ∷ s) x t f = t

up_to_trim : (k n : ℕ) → n ≤ k → Trim (be_up_to k n)
unfolding be_up_to Trim
up_to_trim zero n h = tt
up_to_trim (suc k) zero h = tt
up_to_trim (suc k) (suc n) h =
    trim_snoc (be_up_to k (suc n / 256)) (suc n % 256) (up_to_trim k (suc n / 256) (omega arith))
    (λ e. let z : be_from 0 (be_up_to k (suc n / 256)) ≡ 0 = ap (be_from 0) e ∙ unfold be_from in refl in omega (arith, up_to_value k (suc n / 256) (omega arith)))

pub be_trim : (n : ℕ) → Trim (be n)
unfolding be
be_trim n = up_to_trim n n (omega arith)

-- ---- how many bytes

-- the value lies between the powers: with a before s, from a * 256 ^ n up to (a + 1) * 256 ^ n, where s has n bytes
from_upper : (a : ℕ) (s : List ℕ) → Bytes s → be_from a s < (a + 1) * 256 ^ length s
unfolding be_from Bytes
from_upper a [] b = omega (arith, pow-zero 256)
from_upper a (x ∷ s) b =
    let h : be_from (a * 256 + x) s < (a * 256 + x + 1) * 256 ^ length s = from_upper (a * 256 + x) s b.1 in
    let l : (a * 256 + x + 1) * 256 ^ length s ≤ (a + 1) * 256 * 256 ^ length s = mul-le-mul_right (256 ^ length s) (omega arith) in
    rw (pow-suc 256 (length s)) (omega arith)

from_lower : (a : ℕ) (s : List ℕ) → a * 256 ^ length s ≤ be_from a s
unfolding be_from
from_lower a [] = omega (arith, pow-zero 256)
from_lower a (x ∷ s) =
    let h : (a * 256 + x) * 256 ^ length s ≤ be_from (a * 256 + x) s = from_lower (a * 256 + x) s in
    rw (pow-suc 256 (length s)) (omega arith)

pub value_upper : (s : List ℕ) → Bytes s → be_value s < 256 ^ length s
unfolding be_value
value_upper s b = omega (arith, from_upper 0 s b)

pub value_lower : (x : ℕ) (s : List ℕ) → 0 < x → 256 ^ length s ≤ be_value (x ∷ s)
unfolding be_value be_from
value_lower x s h =
    let l : (0 * 256 + x) * 256 ^ length s ≤ be_from (0 * 256 + x) s = from_lower (0 * 256 + x) s in
    let m : 1 * 256 ^ length s ≤ (0 * 256 + x) * 256 ^ length s = mul-le-mul_right (256 ^ length s) (omega arith) in
    omega arith

up_to_short : (k j n : ℕ) → n < 256 ^ j → length (be_up_to k n) ≤ j
unfolding be_up_to
up_to_short zero j n h = omega arith
up_to_short (suc k) j zero h = omega arith
up_to_short (suc k) zero (suc n) h = absurd (omega (arith, pow-zero 256))
up_to_short (suc k) (suc j) (suc n) h =
    simp length-append (omega (arith, up_to_short k j (suc n / 256) (omega (arith, pow-suc 256 j))))

-- length (be n) is at most k exactly where n is below 256 ^ k
pub be-short : (k n : ℕ) → n < 256 ^ k → length (be n) ≤ k
unfolding be
be-short k n h = up_to_short n k n h

pub be_upper : (n : ℕ) → n < 256 ^ length (be n)
be_upper n = omega (arith, value_upper (be n) (be-bytes n), value-be n)

pub be-length : (n k : ℕ) → 256 ^ k ≤ n → n < 256 ^ suc k → length (be n) ≡ suc k
be-length n k h l = go (dec_le (suc k) (length (be n)))
  where
    go : Dec (suc k ≤ length (be n)) → length (be n) ≡ suc k
    go (yes m) = omega (arith, be-short (suc k) n l)
    go (no m) =
        let p : 256 ^ length (be n) ≤ 256 ^ k = pow-le-pow_right (omega arith) (omega arith) in
        absurd (omega (arith, be_upper n))

pub be_lower : (n k : ℕ) → length (be n) ≡ suc k → 256 ^ k ≤ n
unfolding Trim
be_lower n k e = go (be n) refl (be_trim n) (value-be n)
  where
    go : (s : List ℕ) → be n ≡ s → Trim s → be_value s ≡ n → 256 ^ k ≤ n
    go [] p t v = let z : 0 ≡ suc k = cc in absurd (omega arith)
    go (x ∷ s) p t v = let z : length s ≡ k = omega (arith, ap length p) in omega (arith, rw z at (value_lower x s t))
