-- What the inner calls promise: a number and a line in place. These are definitions.
use Rattle.std.specs.Prelude.{◌≡◌, ℕ, ◌+◌, ◌≤◌, List, length}
use Rattle.encode.specs.Put.{put}
use Rattle.verdict.specs.Decimal.{decimal}

-- c is b with n in decimal from the place i on, and j is the place behind it, at most 20 further
pub record Spelled (b c : List ℕ) (i n j : ℕ) : Type 0 where
  pub bytes : c ≡ put b i (decimal n)
  pub behind : j ≡ i + length (decimal n)
  pub few : j ≤ i + 20

-- c is b with the line x at the front, r bytes, which fit
pub record Lined (b c x : List ℕ) (r : ℕ) : Type 0 where
  pub bytes : c ≡ put b 0 x
  pub count : r ≡ length x
  pub fits : r ≤ length c
