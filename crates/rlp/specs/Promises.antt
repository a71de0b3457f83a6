-- How promises and tables of refusals are said. These are definitions.
use Rattle.std.specs.Prelude.{◌≡◌, Bool, true, ◌&&◌, ℕ, List, [], ◌∷◌, eqb, Ok, Err}
use Rattle.rlp.specs.Refusals.{number_of, Or}

-- a promise of the form `says r ≡ d` leaves no choice: two answers that meet it are equal
abbrev pub Determined : {A B : Type 0} → (A → B) → Type 0
Determined {A} {B} says = (d : B) (x y : A) → says x ≡ d → says y ≡ d → x ≡ y

-- what an answer says is the answer: a promise `result ≡ d` is `said result ≡ d`
unfoldable pub said : {A : Type 0} → A → A
said r = r

-- the number of a refusal, and 0 for an answer
unfoldable pub refusal_in : {A : Type 0} → Or A → ℕ
refusal_in (Err e) = number_of e
refusal_in (Ok a) = 0

-- what a call refuses some bytes with
pub record Tried : Type 0 where
  pub call : List ℕ → ℕ
  pub bytes : List ℕ
  pub number : ℕ

unfoldable pub try : (List ℕ → ℕ) → List ℕ → ℕ → Tried
try f b n = record { call = f; bytes = b; number = n }

-- each call of a table refuses its bytes with the number beside them
unfoldable pub all_refuse : List Tried → Bool
all_refuse [] = true
all_refuse (t ∷ l) = eqb (t.call t.bytes) t.number && all_refuse l
