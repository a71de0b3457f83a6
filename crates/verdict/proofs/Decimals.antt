-- A number in decimal is read back, and is what `io` spells. Assumes nothing.
use mathlib.Core.Path.{◌≡◌, refl, sym, ap, ◌∙◌}
use Prim.Native.Nat.{ℕ, zero, suc, ◌+◌, ◌-◌, ◌*◌, ◌/◌, ◌%◌, ◌^◌, ◌≤◌, ◌<◌}
use native.Mathlib.Omega.{arith}
use native.Mathlib.Nat.{pow-suc, pow-le-pow_right}
use mathlib.Core.List.{List, [], ◌∷◌, ◌++◌}
use lib.Dec.{lit<}
use lib.ListN.{get_or}
use Rattle.io.specs.Digits.{last_digits, IsDigitCount}
use Rattle.rlp.proofs.Tests.{is_lt, not_lt, by_lt}
use Rattle.verdict.specs.Decimal.{decimal_up_to, decimal, AreDigits, read_on, InDecimal}

-- ---- one digit, or one more

up_to_one : (k n : ℕ) → n < 10 → decimal_up_to (suc k) n ≡ (48 + n) ∷ []
unfolding decimal_up_to
up_to_one k n h =
    let e : n % 10 ≡ n = omega arith in
    rw (is_lt h, e)

up_to_more : (k n : ℕ) → 10 ≤ n → decimal_up_to (suc k) n ≡ decimal_up_to k (n / 10) ++ (48 + n % 10) ∷ []
unfolding decimal_up_to
up_to_more k n h = rw (not_lt h)

-- more bound changes nothing
up_to_same : (k j n : ℕ) → n < k → n < j → decimal_up_to k n ≡ decimal_up_to j n
up_to_same zero j n h l = absurd (omega arith)
up_to_same (suc k) zero n h l = absurd (omega arith)
up_to_same (suc k) (suc j) n h l =
    by_lt n 10 (λ s. up_to_one k n s ∙ sym (up_to_one j n s)) (λ s.
    up_to_more k n s ∙ ap (λ (l : List ℕ). l ++ (48 + n % 10) ∷ []) (up_to_same k j (n / 10) (omega arith) (omega arith)) ∙ sym (up_to_more j n s))

pub decimal-one : (n : ℕ) → n < 10 → decimal n ≡ (48 + n) ∷ []
unfolding decimal
decimal-one n h = up_to_one n n h

pub decimal-more : (n : ℕ) → 10 ≤ n → decimal n ≡ decimal (n / 10) ++ (48 + n % 10) ∷ []
unfolding decimal
decimal-more n h = up_to_more n n h ∙ ap (λ (l : List ℕ). l ++ (48 + n % 10) ∷ []) (up_to_same n (suc (n / 10)) (n / 10) (omega arith) (omega arith))

-- ---- what is written reads as the number

digits_snoc : (s : List ℕ) (x : ℕ) → AreDigits s → 48 ≤ x → x ≤ 57 → AreDigits (s ++ x ∷ [])
unfolding AreDigits
digits_snoc [] x a h l = (h, l, tt)
digits_snoc (y ∷ s) x a h l = (a.0, a.1, digits_snoc s x a.2 h l)

read_snoc : (a : ℕ) (s : List ℕ) (x : ℕ) → read_on a (s ++ x ∷ []) ≡ read_on a s * 10 + (x - 48)
unfolding read_on
read_snoc a [] x = refl
read_snoc a (y ∷ s) x = read_snoc (a * 10 + (y - 48)) s x

first_snoc : (s : List ℕ) (x : ℕ) → 48 < get_or s 0 48 → 48 < get_or (s ++ x ∷ []) 0 48
first_snoc [] x h = absurd (omega arith)
first_snoc (y ∷ s) x h = h

-- a decimal number with one more digit
more : (m x : ℕ) (s : List ℕ) → 0 < m → x < 10 → InDecimal m s → InDecimal (m * 10 + x) (s ++ (48 + x) ∷ [])
more m x s p h D = record {
  digits = digits_snoc s (48 + x) D.digits (omega arith) (omega arith);
  value = read_snoc 0 s (48 + x) ∙ rw D.value (omega arith);
  nought = λ e. absurd (omega arith);
  first = λ l. first_snoc s (48 + x) (D.first p);
}

in_one : (n : ℕ) → n < 10 → InDecimal n ((48 + n) ∷ [])
unfolding AreDigits read_on
in_one n h = record {
  digits = (omega arith, omega arith, tt);
  value = omega arith;
  nought = λ e. rw e refl;
  first = λ l. omega arith;
}

in_up_to : (k n : ℕ) → n < k → InDecimal n (decimal n)
in_up_to zero n h = absurd (omega arith)
in_up_to (suc k) n h =
    by_lt n 10 (λ s. rw (decimal-one n s) (in_one n s)) (λ s.
    let e : n / 10 * 10 + n % 10 ≡ n = omega arith in
    rw (decimal-more n s) (rw e at (more (n / 10) (n % 10) (decimal (n / 10)) (omega arith) (omega arith) (in_up_to k (n / 10) (omega arith)))))

pub in_decimal : (n : ℕ) → InDecimal n (decimal n)
in_decimal n = in_up_to (suc n) n (omega arith)

-- so a number is told by its decimal
pub decimal_inj : (n m : ℕ) → decimal n ≡ decimal m → n ≡ m
decimal_inj n m e = sym (in_decimal n).value ∙ ap (read_on 0) e ∙ (in_decimal m).value

-- ---- what `io` spells

-- the fewest digits that hold n are those of n in decimal
pub spelled : (k n : ℕ) → IsDigitCount 10 1 n k → last_digits 10 k n ≡ decimal n
spelled zero n f = absurd (omega (arith, f.0))
spelled (suc zero) n f =
    let h : n < 10 = omega (arith, f.1) in
    let e : n % 10 ≡ n = omega arith in
    rw (e, is_lt h) (sym (decimal-one n h))
spelled (suc (suc k)) n f =
    let z : suc (suc k) - 1 ≡ suc k = omega arith in
    let p : 10 ^ suc k ≤ n = rw z at (f.2 (omega arith)) in
    let q : n < 10 ^ suc (suc k) = f.1 in
    let o : 10 ^ 1 ≤ 10 ^ suc k = pow-le-pow_right {n = 10} (lit< tt) {i = 1} {j = suc k} (omega arith) in
    let h : 10 ≤ n = omega arith in
    let d : n % 10 < 10 = omega arith in
    let y : suc k - 1 ≡ k = omega arith in
    let g : IsDigitCount 10 1 (n / 10) (suc k) = (omega arith, omega (arith, pow-suc 10 (suc k)), λ l. rw y (omega (arith, pow-suc 10 k))) in
    let r : last_digits 10 (suc k) (n / 10) ≡ decimal (n / 10) = spelled (suc k) (n / 10) g in
    rw (r, is_lt d) (sym (decimal-more n h))

-- and a number of 64 bits has at most 20
pub few : (k n : ℕ) → n < 2 ^ 64 → IsDigitCount 10 1 n k → k ≤ 20
few k n h f = by_lt 20 k (λ l.
    let p : 10 ^ (k - 1) ≤ n = f.2 (omega arith) in
    let q : 10 ^ 20 ≤ 10 ^ (k - 1) = pow-le-pow_right {n = 10} (lit< tt) {i = 20} {j = k - 1} (omega arith) in
    absurd (omega arith)) (λ l. l)
