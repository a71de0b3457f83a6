-- Appendix B of the Yellow Paper: the items, and their encodings. These are definitions.
use Rattle.std.specs.Prelude.{ℕ, suc, ◌+◌, max, Bool, false, cond, List, [], ◌∷◌, ◌++◌, ltb, length}
use Rattle.rlp.specs.Bytes.{be, Bytes}

-- an item is a string of bytes or a list of items
mutual
  pub data Item : Type 0 where
    str : List ℕ → Item
    list : Items → Item

  pub data Items : Type 0 where
    end : Items
    ◌then◌ : Item → Items → Items

infixr 40 ◌then◌
-- where the first bytes of strings begin, and those of lists
abbrev pub strings : ℕ
strings = 128

abbrev pub lists : ℕ
lists = 192

-- what stands before n bytes: first + n if n < 56; else first + 55 + the number of n's big-endian bytes, then those bytes.
-- Appendix B writes 183 for 128 + 55 and 247 for 192 + 55. It encodes only lengths below 2 ^ 64; from there on, where
-- this definition goes on, a first byte would run out of its range. Nothing within the limit comes near
unfoldable pub header : ℕ → ℕ → List ℕ
header first n = cond (ltb n 56) ((first + n) ∷ []) ((first + 55 + length (be n)) ∷ be n)

-- how many bytes that takes, alone and with the n bytes themselves
unfoldable pub header_size : ℕ → ℕ
header_size n = cond (ltb n 56) 1 (suc (length (be n)))

unfoldable pub headed_size : ℕ → ℕ
headed_size n = header_size n + n

-- a string of one byte below 128
unfoldable pub itself : List ℕ → Bool
itself [] = false
itself (x ∷ []) = ltb x 128
itself (x ∷ y ∷ s) = false

-- a one-byte string below 128 is itself; any other is its header, then the string; a list is its header, then the joined
-- encodings of its items
unfoldable mutual
  pub enc : Item → List ℕ
  enc (str s) = cond (itself s) s (header strings (length s) ++ s)
  enc (list l) = header lists (length (encs l)) ++ encs l

  pub encs : Items → List ℕ
  encs end = []
  encs (t then l) = enc t ++ encs l

-- how many items stand in a row, not counting those inside them; and one row after another
unfoldable pub many : Items → ℕ
many end = 0
many (t then l) = suc (many l)

unfoldable pub joined : Items → Items → Items
joined end m = m
joined (t then l) m = t then joined l m

-- what an item's header stands before: the string, or the joined encodings
unfoldable pub payload : Item → List ℕ
payload (str s) = s
payload (list l) = encs l

-- the number of items, itself included
unfoldable mutual
  pub items : Item → ℕ
  items (str s) = 1
  items (list l) = suc (items_in l)

  pub items_in : Items → ℕ
  items_in end = 0
  items_in (t then l) = items t + items_in l

-- data has depth 0, an empty list 1, other lists one more than their deepest item
unfoldable mutual
  pub depth : Item → ℕ
  depth (str s) = 0
  depth (list l) = suc (deepest l)

  pub deepest : Items → ℕ
  deepest end = 0
  deepest (t then l) = max (depth t) (deepest l)

-- every string is made of bytes
unfoldable mutual
  pub Well : Item → Type 0
  Well (str s) = Bytes s
  Well (list l) = Wells l

  pub Wells : Items → Type 0
  Wells end = Unit {0}
  Wells (t then l) = Well t × Wells l
