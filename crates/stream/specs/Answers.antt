-- What the stream's calls leave. This is a definition.
use Rattle.std.specs.Prelude.{ℕ, List}
use Rattle.stream.specs.declared.Step.{Step}
use Rattle.stream.specs.Stream.{After}

-- a call's answer and state, with the buffer that it leaves
unfoldable pub leaves : Step → List ℕ → After
leaves r b = record { answer = r.answer; stream = r.stream; buffer = b }
