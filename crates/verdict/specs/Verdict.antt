-- What a file is answered: docs/RULES.md, "Sheets to try". These are definitions.
use Rattle.std.specs.Prelude.{ℕ, List, leb, length}
use Rattle.rlp.specs.declared.Refusal.TheVariants.{TooLarge}
use Rattle.rlp.specs.Refusals.{Or, unless}
use Rattle.strict.specs.declared.Tally.{Tally}
use Rattle.strict.specs.Strict.{strict}

-- a program checks a file of at most so many bytes
unfoldable pub largest : ℕ
largest = 65536

-- a longer one is 12; else the strict check's answer
unfoldable pub verdict : List ℕ → Or Tally
verdict b = unless (leb (length b) largest) TooLarge (strict b)
