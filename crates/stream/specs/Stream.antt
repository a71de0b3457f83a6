-- The stream, call by call: docs/RULES.md, "Encoder and stream". These are definitions.
use Rattle.std.specs.Prelude.{ℕ, zero, suc, ◌+◌, ◌-◌, Bool, true, cond, ◌&&◌, List, [], ◌∷◌, ◌++◌, length, take, drop, replicate, ◌==◌, nat_le, Ok, Err}
use Rattle.rlp.specs.declared.Refusal.TheVariants.{TooDeep, TooLarge, NoRoom, TooManyItems, NoOpenList, ListTypeMismatch, Unfinished, CountMismatch, StateMismatch}
use Rattle.rlp.specs.Refusals.{Or, also, unless}
use Rattle.rlp.specs.Limits.{limit, levels}
use Rattle.rlp.specs.Tree.{Items, str, list, end, lists, header, enc, many, deepest}
use Rattle.strict.specs.Strict.{row_tree}
use Rattle.stream.specs.declared.Stream.{Stream}
use Rattle.stream.specs.State.{Most, any, up_to, full, holds, Open, list_at, State, state_of, View, view, stored, laid, matches}

-- a stream that starts at a place of its buffer, with nothing written and no open list
abbrev pub new_of : ℕ → Stream
new_of at = record { start = at; end = at; opened = 0; positions = replicate levels 0; currents = replicate levels 0; maxima = replicate levels 0 }

-- ---- what a call does to what is shown

-- the list whose contents start at p closes: its reserved byte gives way to its header
unfoldable pub closed : ℕ → List ℕ → List ℕ
closed p w = take (p - 1) w ++ (header lists (length w - p) ++ drop p w)

-- the innermost list counts n items; a full one closes, and its parent then counts one, and may close too
unfoldable pub counted : ℕ → List Open → List ℕ → View
counted n [] w = record { opens = []; written = w }
counted n (o ∷ os) w =
    cond (full (o.current + n) o.most) (counted 1 os (closed o.position w))
    (record { opens = list_at o.position (o.current + n) o.most ∷ os; written = w })

-- n items, with these encodings, follow what is written
unfoldable pub appended : ℕ → List ℕ → View → View
appended n x v = counted n v.opens (v.written ++ x)

-- a list opens, with its reserved byte, which is 0
unfoldable pub begun : Most → View → View
begun most v =
    record { opens = list_at (suc (length v.written)) 0 most ∷ v.opens; written = v.written ++ 0 ∷ [] }

-- 11 exactly when open lists plus the levels being added pass 16
unfoldable pub level : ℕ → View → View → Or View
level n v r = unless (nat_le (length v.opens + n) levels) TooDeep (Ok r)

-- the innermost list ends: 15 where there is none, 16 where it is counted
unfoldable pub unless_counted : {A : Type 0} → Most → A → Or A
unless_counted any a = Ok a
unless_counted (up_to n) a = Err ListTypeMismatch

unfoldable pub finalized : List Open → List ℕ → Or View
finalized [] w = Err NoOpenList
finalized (o ∷ os) w = unless_counted o.most (counted 1 os (closed o.position w))

-- whether the innermost list takes n more
unfoldable pub takes : ℕ → List Open → Bool
takes n [] = true
takes n (o ∷ os) = holds (o.current + n) o.most

-- the items l, encoded as x and said to be n: 18, 14, 11
unfoldable pub raw_items : List ℕ → ℕ → View → Items → Or View
raw_items x n v l =
    unless (many l == n) CountMismatch
    (unless (takes n v.opens) TooManyItems
    (level (deepest l) v (appended n x v)))

-- ---- the calls

-- a string (empty data is the empty one, a scalar its shortest bytes, true 01 and false empty), begin_list, begin_unbounded_list,
-- finalize_unbounded_list, append_raw with its count, clear
pub data Call : Type 0 where
  value : List ℕ → Call
  begin : ℕ → Call
  unbounded : Call
  finalize : Call
  raw : List ℕ → ℕ → Call
  clear : Call

-- the bytes lent beside the buffer
unfoldable pub lent : Call → List ℕ
lent (value x) = x
lent (begin n) = []
lent unbounded = []
lent finalize = []
lent (raw x n) = x
lent clear = []

-- a call's own refusals but 13, or what is shown after it. Raw: first the strict refusal of the bytes, read as a list's payload
unfoldable pub own : Call → View → Or View
own (value x) v = Ok (appended 1 (enc (str x)) v)
own (begin zero) v = level 1 v (appended 1 (enc (list end)) v)
own (begin (suc n)) v = level 1 v (begun (up_to (suc n)) v)
own unbounded v = level 1 v (begun any v)
own finalize v = finalized v.opens v.written
own (raw x n) v = also (row_tree x) (raw_items x n v)
own clear v = Ok (record { opens = []; written = [] })

-- 13 exactly when the end after the call, with the headers of every list that it closes, passes the buffer
unfoldable pub roomed : ℕ → ℕ → View → Or View
roomed start room v = unless (nat_le (start + length v.written) room) NoRoom (Ok v)

-- every call, with a buffer of so many bytes and n bytes lent beside it: 12, 20, then its own
unfoldable pub guarded : {A : Type 0} → State → ℕ → ℕ → Or A → Or A
guarded s room n o =
    unless (nat_le room limit && nat_le n limit) TooLarge
    (unless (matches s room) StateMismatch
    o)

unfoldable pub answer : State → List ℕ → Call → Or View
answer s b c = guarded s (length b) (length (lent c)) (also (own c (view s b)) (roomed s.start (length b)))

-- ---- what a call leaves: its answer, yes or no, the state, the buffer. A refusal leaves both as handed in

pub record After : Type 0 where
  pub answer : Or Bool
  pub stream : Stream
  pub buffer : List ℕ

unfoldable pub after : Stream → List ℕ → Or View → After
after s b (Err e) = record { answer = Err e; stream = s; buffer = b }
after s b (Ok v) = record { answer = Ok true; stream = stored s v; buffer = laid s.start b v }

unfoldable pub called : Stream → List ℕ → Call → After
called s b c = after s b (answer (state_of s) b c)

-- ---- the calls that only look

unfoldable pub is_finished : State → Bool
is_finished s = length s.opens == 0

unfoldable pub finished_of : State → ℕ → Or Bool
finished_of s room = guarded s room 0 (Ok (is_finished s))

-- `as_raw` and `out` show the buffer up to the end, so many bytes; `out` gives 17 while a list is open
unfoldable pub raw_length : State → ℕ → Or ℕ
raw_length s room = guarded s room 0 (Ok s.end)

unfoldable pub out_length : State → ℕ → Or ℕ
out_length s room = guarded s room 0 (unless (is_finished s) Unfinished (Ok s.end))

-- the part that is handed back: nothing on a refusal
unfoldable pub shown_part : List ℕ → Or ℕ → List ℕ
shown_part b (Err e) = []
shown_part b (Ok n) = take n b
