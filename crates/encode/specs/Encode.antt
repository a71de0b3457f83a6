-- What is encoded, and where it is written: docs/RULES.md, "Sources, and which decides" and "Encoder and stream". These are definitions.
use Rattle.std.specs.Prelude.{ℕ, Bool, true, false, ◌&&◌, List, [], ◌∷◌, leb, length, Ok, Err}
use Rattle.rlp.specs.declared.Refusal.TheVariants.{TooLarge, NoRoom}
use Rattle.rlp.specs.Refusals.{Or, unless}
use Rattle.rlp.specs.Limits.{limit}
use Rattle.rlp.specs.Bytes.{be}
use Rattle.rlp.specs.Tree.{Item, str, enc}
use Rattle.encode.specs.Put.{put}

-- a scalar is its shortest big-endian string; zero is empty
abbrev pub numeral : ℕ → Item
numeral n = str (be n)

-- bool is 80 or 01: the empty string, or the string 01
unfoldable pub flag : Bool → Item
flag true = str (1 ∷ [])
flag false = str []

-- what a call that writes one encoding leaves: its answer, the number of bytes written or a refusal, and the buffer
pub record Wrote : Type 0 where
  pub answer : Or ℕ
  pub buffer : List ℕ

-- some bytes written to the front of b, or b as it was
unfoldable pub wrote : List ℕ → Or (List ℕ) → Wrote
wrote b (Err e) = record { answer = Err e; buffer = b }
wrote b (Ok x) = record { answer = Ok (length x); buffer = put b 0 x }

-- an item's encoding into the buffer b, with n bytes lent beside it: 12 for either, then 13 exactly where the encoding passes the buffer
unfoldable pub encoded : List ℕ → ℕ → Item → Wrote
encoded b n t =
    wrote b
    (unless (leb (length b) limit && leb n limit) TooLarge
    (unless (leb (length (enc t)) (length b)) NoRoom
    (Ok (enc t))))
