-- Any calls on one stream, one after the other, with the caller's own writing between them. These are definitions.
use Rattle.std.specs.Prelude.{◌≡◌, ℕ, ◌≤◌, Bool, true, false, List, [], ◌∷◌, length, Ok, Err}
use Rattle.rlp.specs.Refusals.{Or}
use Rattle.rlp.specs.Limits.{limit, levels}
use Rattle.rlp.specs.Bytes.{Bytes}
use Rattle.stream.specs.declared.Stream.{Stream}
use Rattle.stream.specs.State.{state_of, view}
use Rattle.stream.specs.Stream.{Call, value, begin, unbounded, finalize, raw, clear, lent, After, called}
use Rattle.stream.specs.Sizes.{checked}

-- what may happen: a call; a checked raw append, with its bytes, count and maximum; the caller's own writing, which leaves this buffer
pub data Event : Type 0 where
  calls : Call → Event
  checks : List ℕ → ℕ → ℕ → Event
  writes : List ℕ → Event

-- the state and the buffer, and the accepted calls since the last clear, the latest first
pub record Run : Type 0 where
  pub stream : Stream
  pub buffer : List ℕ
  pub since : List Call

unfoldable pub since_then : Call → List Call → List Call
since_then (value x) l = value x ∷ l
since_then (begin n) l = begin n ∷ l
since_then unbounded l = unbounded ∷ l
since_then finalize l = finalize ∷ l
since_then (raw x n) l = raw x n ∷ l
since_then clear l = []

-- a call counts if it was answered yes
unfoldable pub counting : Or Bool → Call → List Call → List Call
counting (Err e) c l = l
counting (Ok false) c l = l
counting (Ok true) c l = since_then c l

-- the state and the buffer that a call leaves are handed on
unfoldable pub noted : Run → Call → After → Run
noted r c a = record { stream = a.stream; buffer = a.buffer; since = counting a.answer c r.since }

unfoldable pub one : Run → Event → Run
one r (calls c) = noted r c (called r.stream r.buffer c)
one r (checks x n most) = noted r (raw x n) (checked r.stream r.buffer x n most)
one r (writes b) = record { stream = r.stream; buffer = b; since = r.since }

unfoldable pub run : Run → List Event → Run
run r [] = r
run r (e ∷ l) = run (one r e) l

-- the caller writes anywhere but between start and end
pub record Elsewhere (r : Run) (b : List ℕ) : Type 0 where
  pub long : length b ≡ length r.buffer
  pub same : view (state_of r.stream) b ≡ view (state_of r.stream) r.buffer

-- what is lent are bytes, and the caller keeps its hands off what is written
unfoldable pub May : Run → Event → Type 0
May r (calls c) = Bytes (lent c)
May r (checks x n most) = Bytes x
May r (writes b) = Elsewhere r b

unfoldable pub Allowed : Run → List Event → Type 0
Allowed r [] = Unit {0}
Allowed r (e ∷ l) = May r e × Allowed (one r e) l

-- a state's arrays have 16 entries each, by their type
pub record Sized (s : Stream) : Type 0 where
  pub positions : length s.positions ≡ levels
  pub currents : length s.currents ≡ levels
  pub maxima : length s.maxima ≡ levels

-- a new stream: its end is its start, which lies in the buffer, and no list is open, whatever the arrays hold
pub record New (s : Stream) (b : List ℕ) : Type 0 where
  pub sized : Sized s
  pub nothing : s.end ≡ s.start
  pub none : s.opened ≡ 0
  pub inside : s.start ≤ length b
  pub small : length b ≤ limit

-- nothing has happened yet
unfoldable pub fresh : Stream → List ℕ → Run
fresh s b = record { stream = s; buffer = b; since = [] }

-- what a new stream comes to, by any events
pub record Reached (r : Run) : Type 0 where
  pub stream : Stream
  pub buffer : List ℕ
  pub events : List Event
  pub new : New stream buffer
  pub allowed : Allowed (fresh stream buffer) events
  pub is : r ≡ run (fresh stream buffer) events
