-- The limits. These are definitions.
use Rattle.std.specs.Prelude.{ℕ}

-- a lent byte slice has at most so many bytes
abbrev pub limit : ℕ
limit = 1048576

-- a strict sheet has at most so many levels of lists
abbrev pub levels : ℕ
levels = 16
