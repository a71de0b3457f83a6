-- Numbers as bytes, most significant first: Appendix B's BE. These are definitions.
use Rattle.std.specs.Prelude.{ℕ, zero, suc, ◌+◌, ◌*◌, ◌/◌, ◌%◌, ◌<◌, List, [], ◌∷◌, ◌++◌}

-- every element is a byte
unfoldable pub Bytes : List ℕ → Type 0
Bytes [] = Unit {0}
Bytes (x ∷ s) = (x < 256) × Bytes s

-- the number whose digits to the base 256 are a, then s
unfoldable pub be_from : ℕ → List ℕ → ℕ
be_from a [] = a
be_from a (x ∷ s) = be_from (a * 256 + x) s

-- the number of some bytes, most significant first
unfoldable pub be_value : List ℕ → ℕ
be_value s = be_from 0 s

-- the digits of n, at most so many as the first argument says
unfoldable pub be_up_to : ℕ → ℕ → List ℕ
be_up_to zero n = []
be_up_to (suc k) zero = []
be_up_to (suc k) (suc n) = be_up_to k (suc n / 256) ++ suc n % 256 ∷ []

-- the shortest big-endian bytes of n, and none for zero. A number has no more digits than its value, so n bounds them
unfoldable pub be : ℕ → List ℕ
be n = be_up_to n n

-- no leading zero
unfoldable pub Trim : List ℕ → Type 0
Trim [] = Unit {0}
Trim (x ∷ s) = 0 < x
