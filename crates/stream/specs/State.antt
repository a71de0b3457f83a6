-- What a stream's state says, and when it can belong to its buffer: docs/RULES.md, "Encoder and stream". These are definitions.
use Rattle.std.specs.Prelude.{ℕ, zero, suc, ◌+◌, ◌-◌, Bool, true, false, ◌&&◌, List, [], ◌∷◌, length, take, drop, ◌==◌, nat_le, nat_lt, slice_index, slice_set}
use Rattle.rlp.specs.Limits.{levels}
use Rattle.encode.specs.Put.{put}
use Rattle.stream.specs.declared.Stream.{Stream}

-- how many items a list takes: any number, or up to so many
pub data Most : Type 0 where
  any : Most
  up_to : ℕ → Most

-- with c items a list still waits for one; has all; has no more than it takes
unfoldable pub waits : ℕ → Most → Bool
waits c any = true
waits c (up_to n) = nat_lt c n

unfoldable pub full : ℕ → Most → Bool
full c any = false
full c (up_to n) = c == n

unfoldable pub holds : ℕ → Most → Bool
holds c any = true
holds c (up_to n) = nat_le c n

-- an open list: where its contents start, counted from the stream's start; its items so far; how many it takes
pub record Open : Type 0 where
  pub position : ℕ
  pub current : ℕ
  pub most : Most

abbrev pub list_at : ℕ → ℕ → Most → Open
list_at position current most = record { position = position; current = current; most = most }

-- a stream from its start to its end, with the open lists, innermost first
pub record State : Type 0 where
  pub start : ℕ
  pub end : ℕ
  pub opens : List Open

-- the written total
unfoldable pub total : State → ℕ
total s = s.end - s.start

-- ---- the state as it is kept: the maximum 0 stands for any number. No list that is open takes up to 0, for `begin_list(0)` opens none

unfoldable pub most_of : ℕ → Most
most_of zero = any
most_of (suc n) = up_to (suc n)

unfoldable pub kept_most : Most → ℕ
kept_most any = 0
kept_most (up_to n) = n

-- the first n lists of the arrays, the last of them innermost
unfoldable pub opens_in : List ℕ → List ℕ → List ℕ → ℕ → List Open
opens_in positions currents maxima zero = []
opens_in positions currents maxima (suc n) =
    list_at (slice_index positions n) (slice_index currents n) (most_of (slice_index maxima n)) ∷ opens_in positions currents maxima n

unfoldable pub state_of : Stream → State
state_of s = record { start = s.start; end = s.end; opens = opens_in s.positions s.currents s.maxima s.opened }

-- ---- what a state and its buffer show: the open lists, innermost first, and the bytes from the start to the end

pub record View : Type 0 where
  pub opens : List Open
  pub written : List ℕ

unfoldable pub view : State → List ℕ → View
view s b = record { opens = s.opens; written = take (total s) (drop s.start b) }

-- ---- and back: an array with a number of each open list at its place. What it holds above the open lists is kept

unfoldable pub placed : (Open → ℕ) → List Open → List ℕ → List ℕ
placed f [] a = a
placed f (o ∷ os) a = slice_set (placed f os a) (length os) (f o)

unfoldable pub stored : Stream → View → Stream
stored s v =
    record {
      start = s.start;
      end = s.start + length v.written;
      opened = length v.opens;
      positions = placed (λ o. o.position) v.opens s.positions;
      currents = placed (λ o. o.current) v.opens s.currents;
      maxima = placed (λ o. kept_most o.most) v.opens s.maxima;
    }

-- the buffer then: the bytes before the start and from the end on are kept
unfoldable pub laid : ℕ → List ℕ → View → List ℕ
laid start b v = put b start v.written

-- ---- 20: "start exceeds end, end exceeds the buffer, there are over 16 open lists, positions (counted from the start, just past the
-- reserved byte) don't rise strictly or one lies outside 1 to the written total, a current exceeds the bytes written after its position,
-- or a counted list's current isn't below its max"

-- a list whose position must lie below the bound, with so many bytes written
unfoldable pub sane : ℕ → ℕ → Open → Bool
sane written bound o =
    (nat_lt 0 o.position && nat_lt o.position bound) && (nat_le o.current (written - o.position) && waits o.current o.most)

-- from the innermost list out, each position is the next one's bound
unfoldable pub sound : ℕ → ℕ → List Open → Bool
sound written bound [] = true
sound written bound (o ∷ os) = sane written bound o && sound written o.position os

unfoldable pub matches : State → ℕ → Bool
matches s room =
    (nat_le s.start s.end && nat_le s.end room) && (nat_le (length s.opens) levels && sound (total s) (suc (total s)) s.opens)
