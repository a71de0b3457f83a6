-- Computed tables: for each two neighbours in a call's order of refusals, an input at which both facts hold, which gets the first, and
-- the same input without the first fact, which gets the second; and the rule of `len`. These are definitions.
use Rattle.std.specs.Prelude.{ℕ, zero, suc, Bool, true, false, ◌&&◌, List, [], ◌∷◌, ◌++◌, length, replicate, ◌==◌, Ok, Err}
use Rattle.rlp.specs.Refusals.{Or}
use Rattle.rlp.specs.Limits.{levels}
use Rattle.rlp.specs.Promises.{refusal_in}
use Rattle.stream.specs.declared.Stream.{Stream}
use Rattle.stream.specs.State.{Most, any, up_to, kept_most, Open, list_at, state_of, placed}
use Rattle.stream.specs.Stream.{Call, value, begin, unbounded, finalize, raw, closed, called, out_length}
use Rattle.stream.specs.Sizes.{size_now, checked}

-- a stream at the buffer's front, with so many bytes written and these lists open
unfoldable pub stream_of : ℕ → List Open → Stream
stream_of written os =
    record {
      start = 0;
      end = written;
      opened = length os;
      positions = placed (λ o. o.position) os (replicate levels 0);
      currents = placed (λ o. o.current) os (replicate levels 0);
      maxima = placed (λ o. kept_most o.most) os (replicate levels 0);
    }

-- n lists, each the only thing in the one around it, the innermost taking so many items and the others any number
unfoldable pub nested : Most → ℕ → List Open
nested most zero = []
nested most (suc n) = list_at (suc n) 0 most ∷ nested any n

-- what a call is refused with, over a buffer of so many bytes
unfoldable pub asked : Stream → ℕ → Call → ℕ
asked s room c = refusal_in (called s (replicate room 0) c).answer

-- the number that was given is the one that must be; 0 is an accepted call
pub record Due : Type 0 where
  pub given : ℕ
  pub due : ℕ

unfoldable pub gives : ℕ → ℕ → Due
gives given due = record { given = given; due = due }

unfoldable pub ordered : List Due → Bool
ordered [] = true
ordered (r ∷ l) = r.given == r.due && ordered l

-- begin_list and the unbounded begin: 20, 11, 13. The buffer is full in the first three rows
unfoldable pub begins : Call → List Due
begins c =
    gives (asked (stream_of 16 (nested any 16)) 15 c) 20
    ∷ gives (asked (stream_of 16 (nested any 16)) 16 c) 11
    ∷ gives (asked (stream_of 15 (nested any 15)) 15 c) 13
    ∷ gives (asked (stream_of 15 (nested any 15)) 16 c) 0
    ∷ []

-- values: 20, 13
unfoldable pub values : List Due
values =
    gives (asked (stream_of 1 (nested any 1)) 0 (value (5 ∷ []))) 20
    ∷ gives (asked (stream_of 1 (nested any 1)) 1 (value (5 ∷ []))) 13
    ∷ gives (asked (stream_of 1 (nested any 1)) 2 (value (5 ∷ []))) 0
    ∷ []

-- raw, into 16 lists of which the innermost takes one item, in a full buffer: 20, the strict refusal, 18, 14, 11, 13
unfoldable pub raws : List Due
raws =
    gives (asked (stream_of 16 (nested (up_to 1) 16)) 15 (raw (0x81 ∷ 5 ∷ []) 3)) 20
    ∷ gives (asked (stream_of 16 (nested (up_to 1) 16)) 16 (raw (0x81 ∷ 5 ∷ []) 3)) 3
    ∷ gives (asked (stream_of 16 (nested (up_to 1) 16)) 16 (raw (0xc0 ∷ 0xc0 ∷ []) 3)) 18
    ∷ gives (asked (stream_of 16 (nested (up_to 1) 16)) 16 (raw (0xc0 ∷ 0xc0 ∷ []) 2)) 14
    ∷ gives (asked (stream_of 16 (nested (up_to 1) 16)) 16 (raw (0xc0 ∷ []) 1)) 11
    ∷ gives (asked (stream_of 16 (nested (up_to 1) 16)) 16 (raw (5 ∷ []) 1)) 13
    ∷ gives (asked (stream_of 16 (nested (up_to 1) 16)) 17 (raw (5 ∷ []) 1)) 0
    ∷ []

-- finalize, of a list of 56 bytes, whose header takes one byte more: 20, 16, 13; and 20 before 15
unfoldable pub finals : List Due
finals =
    gives (asked (stream_of 57 (list_at 1 1 (up_to 2) ∷ [])) 56 finalize) 20
    ∷ gives (asked (stream_of 57 (list_at 1 1 (up_to 2) ∷ [])) 57 finalize) 16
    ∷ gives (asked (stream_of 57 (list_at 1 1 any ∷ [])) 57 finalize) 13
    ∷ gives (asked (stream_of 57 (list_at 1 1 any ∷ [])) 58 finalize) 0
    ∷ gives (asked (stream_of 1 []) 0 finalize) 20
    ∷ gives (asked (stream_of 1 []) 1 finalize) 15
    ∷ []

-- the checked append of 81 05: 20, no, the strict refusal
unfoldable pub said_no : Or Bool → ℕ
said_no (Ok false) = 1
said_no (Ok true) = 0
said_no (Err e) = 0

unfoldable pub checkeds : List Due
checkeds =
    gives (refusal_in (checked (stream_of 1 []) (replicate 0 0) (0x81 ∷ 5 ∷ []) 1 2).answer) 20
    ∷ gives (said_no (checked (stream_of 1 []) (replicate 1 0) (0x81 ∷ 5 ∷ []) 1 2).answer) 1
    ∷ gives (refusal_in (checked (stream_of 1 []) (replicate 1 0) (0x81 ∷ 5 ∷ []) 1 3).answer) 3
    ∷ []

-- `out`: 20, 17
unfoldable pub outs : List Due
outs =
    gives (refusal_in (out_length (state_of (stream_of 1 (nested any 1))) 0)) 20
    ∷ gives (refusal_in (out_length (state_of (stream_of 1 (nested any 1))) 1)) 17
    ∷ gives (refusal_in (out_length (state_of (stream_of 1 [])) 1)) 0
    ∷ []

unfoldable pub pairs : List Due
pairs = begins (begin 0) ++ begins (begin 1) ++ begins unbounded ++ values ++ raws ++ finals ++ checkeds ++ outs

-- one list in another, the inner holding 254 bytes 01: 256 bytes written, `len` 258, and 259 bytes once both are closed
unfoldable pub two : List Open
two = list_at 2 254 any ∷ list_at 1 0 any ∷ []

unfoldable pub sizes : Bool
sizes =
    (size_now two 256 == 258)
    && length (closed 1 (closed 2 (0 ∷ 0 ∷ replicate 254 1))) == 259
