-- The bytes that an answered place names. This is a definition.
use Rattle.std.specs.Prelude.{ℕ, ◌+◌, cond, List, [], leb, length, Ok, Err}
use Rattle.rlp.specs.Refusals.{Or}
use Rattle.value.specs.declared.Part.{Part}
use Rattle.value.specs.Value.{part}

-- none where it does not lie inside the bytes, and none for a refusal
unfoldable pub part_in : List ℕ → Or Part → List ℕ
part_in b (Ok p) = cond (leb (p.start + p.len) (length b)) (part b p) []
part_in b (Err e) = []
