-- What the inner functions of the stream work out, in numbers: for their contracts alone. These are definitions.
use Rattle.std.specs.Prelude.{Bool, true, ℕ, zero, suc, ◌+◌, ◌-◌, ◌<◌, ◌≤◌, ⊤, cond, List, [], ◌∷◌, nat_le, length, take, drop, slice_set, Ok, Err}
use Rattle.rlp.specs.declared.Refusal.TheVariants.{NoRoom}
use Rattle.rlp.specs.Refusals.{Or, unless}
use Rattle.rlp.specs.Limits.{limit, levels}
use Rattle.stream.specs.declared.lists.Lent.{Lent}
use Rattle.stream.specs.declared.lists.Left.{Left}
use Rattle.stream.specs.declared.lists.Entry.{Entry}
use Rattle.stream.specs.declared.Stream.{Stream}
use Rattle.stream.specs.declared.Step.{Step}
use Rattle.stream.specs.State.{full, Open, list_at, State, most_of, opens_in, View, laid}
use Rattle.stream.specs.Stream.{counted}
use Rattle.stream.specs.Sizes.{growth}

-- a state by its numbers and its arrays, one that is lent, the first i of its open lists, and all
abbrev pub state_at : ℕ → ℕ → List ℕ → List ℕ → List ℕ → ℕ → State
state_at start end positions currents maxima opened = record { start = start; end = end; opens = opens_in positions currents maxima opened }

abbrev pub state_lent : Lent → State
state_lent l = state_at l.start l.end l.positions.now l.currents.now l.maxima.now l.opened

abbrev pub opens_to : Lent → ℕ → List Open
opens_to l i = opens_in l.positions.now l.currents.now l.maxima.now i

abbrev pub opens_lent : Lent → List Open
opens_lent l = opens_to l l.opened

-- an entry of the three arrays
abbrev pub open_of : Entry → Open
open_of e = list_at e.position e.current (most_of e.most)

-- the written total after n items are counted, with the headers of the lists that close; `counted`'s bytes are not made for it
unfoldable pub total_after : ℕ → List Open → ℕ → ℕ
total_after n [] written = written
total_after n (o ∷ os) written =
    cond (full (o.current + n) o.most) (total_after 1 os (written + growth (written - o.position))) written

-- every position lies in 1 to the written total, and no count is above it
unfoldable pub Lists : ℕ → List Open → Type 0
Lists written [] = Unit {0}
Lists written (o ∷ os) = (0 < o.position) × (o.position ≤ written) × (o.current ≤ written) × Lists written os

-- what holds of a state past 12 and 20, with a buffer of so many bytes
pub record Past (s : State) (room : ℕ) : Type 0 where
  pub small : room ≤ limit
  pub starts : s.start ≤ s.end
  pub ends : s.end ≤ room
  pub few : length s.opens ≤ levels
  pub lists : Lists (s.end - s.start) s.opens

-- 13, of n items in so many bytes that follow what is written
unfoldable pub room_for : State → ℕ → ℕ → ℕ → Or ⊤
room_for s room n size = unless (nat_le (s.start + total_after n s.opens (s.end - s.start + size)) room) NoRoom (Ok tt)

-- n items end at a place of a buffer of so many bytes, and there is room for what closes then
pub record Ready (room start : ℕ) (os : List Open) (n end : ℕ) : Type 0 where
  pub small : room ≤ limit
  pub few : length os ≤ levels
  pub starts : start ≤ end
  pub items : n ≤ limit
  pub lists : Lists (end - start) os
  pub fits : start + total_after n os (end - start) ≤ room

-- the view once n items that end at a place of the buffer are counted
unfoldable pub counted_in : ℕ → List ℕ → List Open → ℕ → ℕ → View
counted_in start b os n end = counted n os (take (end - start) (drop start b))

-- what an accepted change leaves of the state that it was worked out for
unfoldable pub set_last : ℕ → ℕ → List ℕ → List ℕ
set_last zero x a = a
set_last (suc n) x a = slice_set a n x

unfoldable pub keeping : Stream → Left → Stream
keeping s l =
    record {
      start = s.start;
      end = l.end;
      opened = l.opened;
      positions = s.positions;
      currents = set_last l.opened l.current s.currents;
      maxima = s.maxima;
    }

-- the state then, and the call's answer
abbrev pub step_of : Or Bool → Stream → Step
step_of r s = record { stream = s; answer = r }

unfoldable pub kept_step : Stream → Or Left → Step
kept_step s (Ok l) = step_of (Ok true) (keeping s l)
kept_step s (Err e) = step_of (Err e) s

-- the same where the change opens a list that takes so many items, 0 for any number
unfoldable pub opening : Stream → Left → ℕ → Stream
opening s l most =
    record {
      start = s.start;
      end = l.end;
      opened = l.opened;
      positions = set_last l.opened (l.end - s.start) s.positions;
      currents = set_last l.opened l.current s.currents;
      maxima = set_last l.opened most s.maxima;
    }

unfoldable pub opened_step : Stream → Or Left → ℕ → Step
opened_step s (Ok l) most = step_of (Ok true) (opening s l most)
opened_step s (Err e) most = step_of (Err e) s

-- the list that was opened has its place in a state's arrays
abbrev pub Opens : ℕ → Left → Type 0
Opens start l = (0 < l.opened) × (l.opened ≤ levels) × (start ≤ l.end) × (l.end - start ≤ limit)

-- what of a state a view changes: the end, how many lists are open, and the innermost one's items
unfoldable pub innermost : List Open → ℕ
innermost [] = 0
innermost (o ∷ os) = o.current

unfoldable pub changed : ℕ → View → Left
changed start v = record { end = start + length v.written; opened = length v.opens; current = innermost v.opens }

-- the answer of a call over the lent state, with the buffer that it leaves
pub record Changed : Type 0 where
  pub answer : Or Left
  pub buffer : List ℕ

unfoldable pub change_leaves : Or Left → List ℕ → Changed
change_leaves r b = record { answer = r; buffer = b }

unfoldable pub changes : ℕ → List ℕ → Or View → Changed
changes start b (Err e) = record { answer = Err e; buffer = b }
changes start b (Ok v) = record { answer = Ok (changed start v); buffer = laid start b v }
