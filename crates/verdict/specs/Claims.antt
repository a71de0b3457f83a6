-- What is claimed of a file's answer and of its line. proofs/Claims.antt proves each claim under the same name in small letters; the record
-- at the end holds them all, and src/lib.rt asks for it.
use Rattle.std.specs.Prelude.{◌≡◌, ℕ, ◌^◌, ◌≤◌, ◌<◌, List, [], ◌∷◌, length, Ok, Err}
use Rattle.rlp.specs.declared.Refusal.TheVariants.{TooLarge}
use Rattle.rlp.specs.Refusals.{Or}
use Rattle.rlp.specs.Bytes.{Bytes}
use Rattle.rlp.specs.Tree.{Item, items, depth}
use Rattle.strict.specs.declared.Tally.{Tally}
use Rattle.strict.specs.Strict.{strict}
use Rattle.strict.specs.Claims.{Sheet}
use Rattle.verdict.specs.Decimal.{decimal, InDecimal}
use Rattle.verdict.specs.Verdict.{verdict}
use Rattle.verdict.specs.Line.{line_of}

-- ---- the answer

-- a file of at most 65,536 bytes gets the strict check's answer
abbrev pub FilesAreChecked : Type 0
FilesAreChecked = (b : List ℕ) → length b ≤ 2 ^ 16 → verdict b ≡ strict b

-- 12 is given exactly for more bytes
abbrev pub LargeIs12 : Type 0
LargeIs12 = (b : List ℕ) → (verdict b ≡ Err TooLarge → 2 ^ 16 < length b) × (2 ^ 16 < length b → verdict b ≡ Err TooLarge)

-- accepted with n items and depth d exactly if the file is the encoding, in at most 65,536 bytes, of a tree with n items and depth d
abbrev pub AnswersAreTheTrees : Type 0
AnswersAreTheTrees = (b : List ℕ) (n d : ℕ) → Bytes b
    → (verdict b ≡ Ok (record { items = n; depth = d }) → (t : Item) × Sheet b t × (length b ≤ 2 ^ 16) × (items t ≡ n) × (depth t ≡ d))
    × ((t : Item) → Sheet b t → length b ≤ 2 ^ 16 → items t ≡ n → depth t ≡ d → verdict b ≡ Ok (record { items = n; depth = d }))

-- ---- the line

-- numbers are in decimal: ASCII digits that read as the number, the first of them no 0 but for 0 itself
abbrev pub NumbersAreDecimal : Type 0
NumbersAreDecimal = (n : ℕ) → InDecimal n (decimal n)

-- the line tells the answer: two answers with the same line are equal
abbrev pub LinesTellTheAnswer : Type 0
LinesTellTheAnswer = (a c : Or Tally) → line_of a ≡ line_of c → a ≡ c

-- the lines of P6, P9, P13 and no bytes, and the line of 12, in ASCII
abbrev pub LinesAreWritten : Type 0
LinesAreWritten =
    -- accepted items=3 depth=1
    (line_of (verdict (0xc8 ∷ 0x83 ∷ 0x63 ∷ 0x61 ∷ 0x74 ∷ 0x83 ∷ 0x64 ∷ 0x6f ∷ 0x67 ∷ []))
    ≡ 97 ∷ 99 ∷ 99 ∷ 101 ∷ 112 ∷ 116 ∷ 101 ∷ 100 ∷ 32 ∷ 105 ∷ 116 ∷ 101 ∷ 109 ∷ 115 ∷ 61 ∷ 51 ∷ 32 ∷ 100 ∷ 101 ∷ 112 ∷ 116 ∷ 104 ∷ 61 ∷ 49 ∷ 10 ∷ [])
    -- refused 10
    × (line_of (verdict (0xc1 ∷ 0x05 ∷ 0x06 ∷ [])) ≡ 114 ∷ 101 ∷ 102 ∷ 117 ∷ 115 ∷ 101 ∷ 100 ∷ 32 ∷ 49 ∷ 48 ∷ 10 ∷ [])
    -- refused 1
    × (line_of (verdict (0xc2 ∷ 0x82 ∷ 0x01 ∷ [])) ≡ 114 ∷ 101 ∷ 102 ∷ 117 ∷ 115 ∷ 101 ∷ 100 ∷ 32 ∷ 49 ∷ 10 ∷ [])
    -- refused 1
    × (line_of (verdict []) ≡ 114 ∷ 101 ∷ 102 ∷ 117 ∷ 115 ∷ 101 ∷ 100 ∷ 32 ∷ 49 ∷ 10 ∷ [])
    -- refused 12
    × (line_of (Err TooLarge) ≡ 114 ∷ 101 ∷ 102 ∷ 117 ∷ 115 ∷ 101 ∷ 100 ∷ 32 ∷ 49 ∷ 50 ∷ 10 ∷ [])

-- ---- all of them

pub record Claimed : Type 0 where
  pub files_are_checked : FilesAreChecked
  pub large_is_12 : LargeIs12
  pub answers_are_the_trees : AnswersAreTheTrees
  pub numbers_are_decimal : NumbersAreDecimal
  pub lines_tell_the_answer : LinesTellTheAnswer
  pub lines_are_written : LinesAreWritten
