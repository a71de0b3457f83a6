-- Numbers in decimal, as ASCII. These are definitions.
use Rattle.std.specs.Prelude.{◌≡◌, ℕ, zero, suc, ◌+◌, ◌-◌, ◌*◌, ◌/◌, ◌%◌, ◌≤◌, ◌<◌, cond, List, [], ◌∷◌, ◌++◌, ltb, get_or}

-- the digits of n / 10, where n has more than one, and the last digit of n; at most so many as the first argument says
unfoldable pub decimal_up_to : ℕ → ℕ → List ℕ
decimal_up_to zero n = []
decimal_up_to (suc k) n = cond (ltb n 10) [] (decimal_up_to k (n / 10)) ++ (48 + n % 10) ∷ []

-- n in decimal. A number has no more digits than its value and one, so that bounds them
unfoldable pub decimal : ℕ → List ℕ
decimal n = decimal_up_to (suc n) n

-- every element is an ASCII digit, 0 to 9
unfoldable pub AreDigits : List ℕ → Type 0
AreDigits [] = Unit {0}
AreDigits (x ∷ s) = (48 ≤ x) × (x ≤ 57) × AreDigits s

-- the number that is read from digits, behind a number that is read already
unfoldable pub read_on : ℕ → List ℕ → ℕ
read_on a [] = a
read_on a (x ∷ s) = read_on (a * 10 + (x - 48)) s

-- s is n in decimal: digits that read as n, the first of them no 0 unless n is 0, and then there is one
pub record InDecimal (n : ℕ) (s : List ℕ) : Type 0 where
  pub digits : AreDigits s
  pub value : read_on 0 s ≡ n
  pub nought : n ≡ 0 → s ≡ 48 ∷ []
  pub first : 0 < n → 48 < get_or s 0 48
