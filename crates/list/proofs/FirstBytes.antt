-- What an item is: the rules that the code follows. Assumes nothing.
use mathlib.Core.Path.{◌≡◌, refl, sym, ap}
use mathlib.Core.Bool.{true, false}
use Prim.Native.Nat.{ℕ, ◌-◌, ◌≤◌, ◌<◌}
use native.Mathlib.Omega.{arith}
use mathlib.Core.List.{List, [], ◌∷◌}
use lib.Dec.{eqb}
use lib.ListN.{length, drop, drop_of_length-le}
use borrow.Author.Tests.{leb-true}
use Rattle.rlp.proofs.Tests.{not_lt, is_le, not_le, not_eq}
use Rattle.list.specs.Kinds.{is_empty, is_list, is_data, is_set, is_int, size_of}

pub list_no_data : (b : List ℕ) → is_list b ≡ true → is_data b ≡ false
unfolding is_list is_data
list_no_data [] e = refl
list_no_data (x ∷ b) e = not_lt (leb-true 0xc0 x e)

-- ---- at the first byte

module _ (x : ℕ) (r : List ℕ) where
  pub empty_else : (x ≡ 0x80 → ⊥) → is_empty (x ∷ r) ≡ eqb x 0xc0
  unfolding is_empty
  empty_else e = rw (not_eq e)

  pub int_small : x ≤ 0x80 → is_int (x ∷ r) ≡ true
  unfolding is_int
  int_small h = rw (is_le h)

  pub int_short : 0x80 < x → x ≤ 0xb7 → is_int (x ∷ r) ≡ is_set r
  unfolding is_int
  int_short a h = rw (not_le a, is_le h)

  pub int_long : 0xb7 < x → x ≤ 0xbf → is_int (x ∷ r) ≡ is_set (drop (x - 0xb7) r)
  unfolding is_int
  int_long a h = rw (not_le {a = x} {b = 0x80} (omega arith), not_le a, is_le h)

  pub int_list : 0xbf < x → is_int (x ∷ r) ≡ false
  unfolding is_int
  int_list a = rw (not_le {a = x} {b = 0x80} (omega arith), not_le {a = x} {b = 0xb7} (omega arith), not_le a)

-- ---- at an index

pub set-none : (b : List ℕ) (at : ℕ) → length b ≤ at → false ≡ is_set (drop at b)
unfolding is_set
set-none b at h = sym (ap is_set (drop_of_length-le b {i = at} h))

-- ---- size

pub size_none : (b : List ℕ) → is_data b ≡ false → 0 ≡ size_of b
unfolding size_of
size_none b h = sym (rw h)
