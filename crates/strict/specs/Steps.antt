-- The check as the calls that call each other see it, for their contracts: numbers in place of trees. These are definitions.
use Rattle.std.specs.Prelude.{ℕ, List, Ok}
use Rattle.rlp.specs.Refusals.{Or, also}
use Rattle.rlp.specs.Tree.{Items, items, items_in, depth, deepest, many}
use Rattle.strict.specs.declared.Took.{Took}
use Rattle.strict.specs.declared.Run.{Run}
use Rattle.strict.specs.Strict.{Front, front, row, contents}

-- a string, in numbers
abbrev pub string_of : ℕ → Took
string_of n = record { tally = record { items = 1; depth = 0 }; size = n }

-- an item's items, depth and bytes
unfoldable pub took_of : Front → Took
took_of f = record { tally = record { items = items f.item; depth = depth f.item }; size = f.size }

-- a row's items at the top, in all, and its depth
unfoldable pub run_of : Items → Run
run_of l = record { top = many l; tally = record { items = items_in l; depth = deepest l } }

unfoldable pub front_at : ℕ → List ℕ → Or Took
front_at k b = also (front (contents k) b) (λ f. Ok (took_of f))

unfoldable pub row_at : ℕ → List ℕ → Or Run
row_at k b = also (row (contents k) 0 b) (λ l. Ok (run_of l))
