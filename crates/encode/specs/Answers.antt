-- What a call that writes one encoding leaves: its answer, with the buffer. This is a definition.
use Rattle.std.specs.Prelude.{ℕ, List}
use Rattle.rlp.specs.Refusals.{Or}
use Rattle.encode.specs.Encode.{Wrote}

unfoldable pub leaves : Or ℕ → List ℕ → Wrote
leaves r b = record { answer = r; buffer = b }
