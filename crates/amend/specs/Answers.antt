-- The amender's answer, with the buffer that it leaves. These are definitions.
use Rattle.std.specs.Prelude.{ℕ, List}
use Rattle.rlp.specs.Refusals.{Or}
use Rattle.amend.specs.Amend.{After}

unfoldable pub leaves : Or ℕ → List ℕ → After
leaves r b = record { answer = r; buffer = b }
