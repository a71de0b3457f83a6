-- What an item is, by its first bytes: docs/RULES.md, "Lists", where R decides. These are definitions.
use Rattle.std.specs.Prelude.{ℕ, ◌-◌, Bool, true, false, cond, not, ◌||◌, List, [], ◌∷◌, ltb, leb, eqb, drop, Ok, Err}
use Rattle.rlp.specs.Refusals.{Or}
use Rattle.header.specs.declared.PayloadInfo.{PayloadInfo}
use Rattle.header.specs.Header.{payload_info}

-- there are no bytes
unfoldable pub is_null : List ℕ → Bool
is_null [] = true
is_null (x ∷ r) = false

-- the first byte alone: 80 or c0
unfoldable pub is_empty : List ℕ → Bool
is_empty [] = false
is_empty (x ∷ r) = eqb x 0x80 || eqb x 0xc0

unfoldable pub is_list : List ℕ → Bool
is_list [] = false
is_list (x ∷ r) = leb 0xc0 x

unfoldable pub is_data : List ℕ → Bool
is_data [] = false
is_data (x ∷ r) = ltb x 0xc0

-- the first byte is there, and is not 0
unfoldable pub is_set : List ℕ → Bool
is_set [] = false
is_set (x ∷ r) = not (eqb x 0)

-- up to 80 yes; up to b7 where the value's first byte is there and not 0, and likewise after the length bytes up to bf; lists are not
unfoldable pub is_int : List ℕ → Bool
is_int [] = false
is_int (x ∷ r) =
    cond (leb x 0x80) true
    (cond (leb x 0xb7) (is_set r)
    (cond (leb x 0xbf) (is_set (drop (x - 0xb7) r))
    false))

-- the value's length, and 0 where it is refused
unfoldable pub value_in : Or PayloadInfo → ℕ
value_in (Ok p) = p.value_len
value_in (Err e) = 0

-- of data the value's length, and 0 where it is damaged; of a list 0
unfoldable pub size_of : List ℕ → ℕ
size_of b = cond (is_data b) (value_in (payload_info b)) 0
