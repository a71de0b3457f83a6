-- An answer as one line of ASCII, with its end: for P6 `accepted items=3 depth=1`, for P9 `refused 10` (docs/RULES.md, "Sheets to try"). These are definitions.
use Rattle.std.specs.Prelude.{ℕ, List, [], ◌∷◌, ◌++◌, Ok, Err}
use Rattle.rlp.specs.declared.Refusal.{Refusal}
use Rattle.rlp.specs.Refusals.{number_of, Or}
use Rattle.strict.specs.declared.Tally.{Tally}
use Rattle.verdict.specs.Decimal.{decimal}

-- `accepted items=`
abbrev pub accepted_items : List ℕ
accepted_items = 97 ∷ 99 ∷ 99 ∷ 101 ∷ 112 ∷ 116 ∷ 101 ∷ 100 ∷ 32 ∷ 105 ∷ 116 ∷ 101 ∷ 109 ∷ 115 ∷ 61 ∷ []

-- ` depth=`
abbrev pub and_depth : List ℕ
and_depth = 32 ∷ 100 ∷ 101 ∷ 112 ∷ 116 ∷ 104 ∷ 61 ∷ []

-- `refused `
abbrev pub refused_with : List ℕ
refused_with = 114 ∷ 101 ∷ 102 ∷ 117 ∷ 115 ∷ 101 ∷ 100 ∷ 32 ∷ []

abbrev pub newline : List ℕ
newline = 10 ∷ []

-- `accepted items=N depth=D`
unfoldable pub accepted_line : ℕ → ℕ → List ℕ
accepted_line n d = accepted_items ++ (decimal n ++ (and_depth ++ (decimal d ++ newline)))

-- `refused N`, N being the refusal's number
unfoldable pub refused_line : Refusal → List ℕ
refused_line e = refused_with ++ (decimal (number_of e) ++ newline)

unfoldable pub line_of : Or Tally → List ℕ
line_of (Ok t) = accepted_line t.items t.depth
line_of (Err e) = refused_line e
