-- Computed tables of amendments: docs/RULES.md, "Sheets to try", and the order of refusals. These are definitions.
use Rattle.std.specs.Prelude.{ℕ, zero, suc, ◌+◌, Bool, true, false, ◌&&◌, List, [], ◌∷◌, ◌++◌, eqb, replicate, Ok, Err}
use Rattle.rlp.specs.Refusals.{Or}
use Rattle.rlp.specs.Promises.{refusal_in}
use Rattle.amend.specs.Amend.{After, amended}

-- the buffer, the sheet's length, the path and the replacement; then the refusal's number, 0 where it is accepted, the new length, 0 where
-- it is refused, and the buffer
pub record Case : Type 0 where
  pub buffer : List ℕ
  pub n : ℕ
  pub path : List ℕ
  pub new : List ℕ
  pub number : ℕ
  pub size : ℕ
  pub leaves : List ℕ

unfoldable pub gives : List ℕ → ℕ → List ℕ → List ℕ → ℕ → List ℕ → Case
gives b n path new m c = record { buffer = b; n = n; path = path; new = new; number = 0; size = m; leaves = c }

unfoldable pub refuses : List ℕ → ℕ → List ℕ → List ℕ → ℕ → Case
refuses b n path new e = record { buffer = b; n = n; path = path; new = new; number = e; size = 0; leaves = b }

unfoldable pub size_in : Or ℕ → ℕ
size_in (Err e) = 0
size_in (Ok m) = m

unfoldable pub same_bytes : List ℕ → List ℕ → Bool
same_bytes [] [] = true
same_bytes [] (y ∷ t) = false
same_bytes (x ∷ s) [] = false
same_bytes (x ∷ s) (y ∷ t) = eqb x y && same_bytes s t

unfoldable pub meets : Case → After → Bool
meets c a = (eqb (refusal_in a.answer) c.number && eqb (size_in a.answer) c.size) && same_bytes a.buffer c.leaves

unfoldable pub answered : List Case → Bool
answered [] = true
answered (c ∷ l) = meets c (amended c.buffer c.n c.path c.new) && answered l

-- c8 83 63 61 74 83 64 6f 67
unfoldable pub p6 : List ℕ
p6 = 0xc8 ∷ 0x83 ∷ 0x63 ∷ 0x61 ∷ 0x74 ∷ 0x83 ∷ 0x64 ∷ 0x6f ∷ 0x67 ∷ []

-- so many lists, each the only item of the one around it
unfoldable pub nest : ℕ → List ℕ
nest zero = []
nest (suc k) = (0xc0 + k) ∷ nest k

-- P6 with path 1 and replacement 05; the same before other bytes; the whole sheet; f7 and 55 bytes 01, whose header grows with its first item
unfoldable pub examples : List Case
examples =
    gives p6 9 (1 ∷ []) (0x05 ∷ []) 6 (0xc5 ∷ 0x83 ∷ 0x63 ∷ 0x61 ∷ 0x74 ∷ 0x05 ∷ 0 ∷ 0 ∷ 0 ∷ [])
    ∷ gives (p6 ++ 7 ∷ 8 ∷ []) 9 (1 ∷ []) (0x05 ∷ []) 6 (0xc5 ∷ 0x83 ∷ 0x63 ∷ 0x61 ∷ 0x74 ∷ 0x05 ∷ 0 ∷ 0 ∷ 0 ∷ 7 ∷ 8 ∷ [])
    ∷ gives p6 9 [] (0xc0 ∷ []) 1 (0xc0 ∷ replicate 8 0)
    ∷ gives (0xf7 ∷ replicate 55 1 ++ 9 ∷ 9 ∷ []) 56 (0 ∷ []) (0x81 ∷ 0x80 ∷ []) 58 (0xf8 ∷ 0x38 ∷ 0x81 ∷ 0x80 ∷ replicate 54 1)
    ∷ refuses (0xf7 ∷ replicate 55 1 ++ 9 ∷ []) 56 (0 ∷ []) (0x81 ∷ 0x80 ∷ []) 13
    ∷ refuses p6 9 (0 ∷ 0 ∷ []) (0x05 ∷ []) 19
    ∷ []

-- each line has the fact of the line after it too. That 12 comes before 1, whatever the length, is claimed by itself
unfoldable pub order : List Case
order =
    refuses (0xc2 ∷ 0x81 ∷ 0x05 ∷ []) 4 (1 ∷ []) (0xb8 ∷ 0x00 ∷ []) 1
    ∷ refuses (0xc2 ∷ 0x81 ∷ 0x05 ∷ []) 3 (1 ∷ []) (0xb8 ∷ 0x00 ∷ []) 3
    ∷ refuses (0xc1 ∷ 0x05 ∷ []) 2 (1 ∷ []) (0xb8 ∷ 0x00 ∷ []) 2
    ∷ refuses (0xc1 ∷ 0x05 ∷ []) 2 (1 ∷ []) (nest 16) 19
    ∷ refuses (0xc1 ∷ 0x05 ∷ []) 2 (0 ∷ []) (nest 16) 11
    ∷ refuses (0xc1 ∷ 0x05 ∷ []) 2 (0 ∷ []) (nest 15) 13
    ∷ []
