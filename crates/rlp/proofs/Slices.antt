-- A slice's list by its first byte, and that the elements of a slice of bytes, or of a part of one, are bytes. Assumes nothing.
use mathlib.Core.Path.{◌≡◌, refl, sym, ap, ◌∙◌}
use Prim.Native.Nat.{ℕ, zero, suc, ◌<◌}
use native.Mathlib.Omega.{arith}
use mathlib.Core.List.{List, [], ◌∷◌}
use lib.ListN.{length, take, drop, get_or}
use lib.Seq.{drop-cons}
use Rattle.rlp.specs.Bytes.{Bytes}

pub no_bytes : (b : List ℕ) → length b ≡ 0 → [] ≡ b
no_bytes [] e = refl
no_bytes (x ∷ b) e = absurd (omega arith)

first_byte : (b : List ℕ) → 0 < length b → get_or b 0 0 ∷ drop 1 b ≡ b
first_byte b h = sym (drop-cons b 0 0 h)

-- a function of the bytes, by their first byte
pub at_first : {A : Type 0} (f : List ℕ → A) (b : List ℕ) (a : A) → 0 < length b → f (get_or b 0 0 ∷ drop 1 b) ≡ a → a ≡ f b
at_first f b a h e = sym e ∙ ap f (first_byte b h)

pub second_byte : (b : List ℕ) → 1 < length b → get_or b 1 0 ∷ drop 2 b ≡ drop 1 b
second_byte b h = sym (drop-cons b 1 0 h)

pub bytes_of : (b : List ℕ) → ((i : ℕ) → i < length b → get_or b i 0 < 256) → Bytes b
unfolding Bytes
bytes_of [] f = tt
bytes_of (x ∷ s) f = (f 0 (omega arith), bytes_of s (λ i h. f (suc i) (omega arith)))

pub bytes_take : (n : ℕ) (s : List ℕ) → Bytes s → Bytes (take n s)
unfolding Bytes
bytes_take zero s b = tt
bytes_take (suc n) [] b = tt
bytes_take (suc n) (x ∷ s) b = (b.0, bytes_take n s b.1)

pub bytes_drop : (n : ℕ) (s : List ℕ) → Bytes s → Bytes (drop n s)
unfolding Bytes
bytes_drop zero s b = b
bytes_drop (suc n) [] b = tt
bytes_drop (suc n) (x ∷ s) b = bytes_drop n s b.1
