-- What is claimed of the calls that Rust and C link. proofs/Claims.antt proves each claim under the same name in small letters; the record at
-- the end holds them all, and src/lib.rt asks for it.
use Rattle.std.specs.Prelude.{◌≡◌, Bool, true, false, ◌⊎◌, ℕ, suc, ◌-◌, ◌≤◌, ◌<◌, List, [], ◌∷◌, ◌++◌, length, replicate, Ok, Err}
use Rattle.rlp.specs.declared.Refusal.{Refusal}
use Rattle.rlp.specs.declared.Refusal.TheVariants.{TooLarge, StateMismatch}
use Rattle.rlp.specs.Refusals.{number_of, Or}
use Rattle.rlp.specs.Limits.{limit, levels}
use Rattle.rlp.specs.Tree.{Item}
use Rattle.header.specs.declared.PayloadInfo.{PayloadInfo}
use Rattle.value.specs.declared.Part.{Part}
use Rattle.list.specs.declared.OffsetCache.{OffsetCache}
use Rattle.list.specs.declared.kinds.Prototype.TheVariants as prototype
use Rattle.list.specs.Walk as walk
use Rattle.strict.specs.declared.Tally.{Tally}
use Rattle.strict.specs.Strict as strict
use Rattle.encode.specs.Put.{put}
use Rattle.encode.specs.Encode.{Wrote, encoded}
use Rattle.amend.specs.Amend as amend
use Rattle.stream.specs.declared.Stream.{Stream}
use Rattle.stream.specs.State.{State, state_of}
use Rattle.stream.specs.Stream.{new_of, Call, begin, lent, After, called, finished_of, raw_length, out_length}
use Rattle.stream.specs.Sizes.{estimate_of, len_of, empty_of, checked}
use Rattle.loughcable.specs.declared.Answer.{Answer}
use Rattle.loughcable.specs.Answers.{yes_no, truth_of, answered, asked, informed, situated, found, prototyped, tallied, Filled, fills, written, exchanged}
use Rattle.loughcable.specs.Crossing.{size, Full, numbers, stream_in, state_in, fitting, Crossed, leaves, crossed, crossed_checked, crossed_new, crossed_new_list}

-- ---- the answers

-- two answers, with the numbers and the buffers that they leave, that meet a promise are equal
abbrev pub AnswersAreDetermined : Type 0
AnswersAreDetermined = ((d : Filled) (r q : Answer) (b c : List ℕ) → fills r b ≡ d → fills q c ≡ d → (r ≡ q) × (b ≡ c))
    × ((d : Crossed) (r q : Answer) (ns ms b c : List ℕ) → leaves r ns b ≡ d → leaves q ms c ≡ d → (r ≡ q) × (ns ≡ ms) × (b ≡ c))

-- for a promise is of the answer itself, and of the very numbers and bytes that are left
abbrev pub PromisesAreOfTheAnswer : Type 0
PromisesAreOfTheAnswer = ((r : Answer) (b : List ℕ) → ((fills r b).answer ≡ r) × ((fills r b).buffer ≡ b))
    × ((r : Answer) (ns b : List ℕ) → ((leaves r ns b).answer ≡ r) × ((leaves r ns b).state ≡ ns) × ((leaves r ns b).buffer ≡ b))

-- a refusal's field: 0 where something was answered and nowhere else, and else the refusal's number
pub record Numbered {A : Type 0} (o : Or A) (n : ℕ) : Type 0 where
  pub accepted : (a : A) → o ≡ Ok a → n ≡ 0
  pub denied : (e : Refusal) → o ≡ Err e → (n ≡ number_of e) × (1 ≤ n) × (n ≤ 20)

abbrev pub RefusalsAreNumbered : Type 0
RefusalsAreNumbered = ((o : _) → Numbered o (answered o).refusal)
    × ((o : _) → Numbered o (asked o).refusal)
    × ((o : _) → Numbered o (informed o).refusal)
    × ((o : _) → Numbered o (situated o).refusal)
    × ((a : walk.Answer) → Numbered a.place (found a).refusal)
    × ((o : _) → Numbered o (prototyped o).refusal)
    × ((o : _) → Numbered o (tallied o).refusal)

-- what was answered stands in the fields of its name: a number, yes or no, an item's lengths, a part's place, and that of a cached item with
-- the place to hand in next time; the strict check's counts
abbrev pub FieldsAreWhatWasAnswered : Type 0
FieldsAreWhatWasAnswered = ((n : ℕ) → (answered (Ok n)).value ≡ n)
    × ((t : Bool) → (asked (Ok t)).value ≡ yes_no t)
    × ((p : PayloadInfo) → ((informed (Ok p)).header_len ≡ p.header_len) × ((informed (Ok p)).value_len ≡ p.value_len))
    × ((p : Part) → ((situated (Ok p)).start ≡ p.start) × ((situated (Ok p)).len ≡ p.len))
    × ((a : walk.Answer) (p : Part) → a.place ≡ Ok p → ((found a).start ≡ p.start) × ((found a).len ≡ p.len))
    × ((a : walk.Answer) → ((found a).index ≡ a.cache.index) × ((found a).offset ≡ a.cache.offset))
    × ((t : Tally) → ((tallied (Ok t)).items ≡ t.items) × ((tallied (Ok t)).depth ≡ t.depth))

-- what an item is: kind 0 nothing, 1 data of so many bytes, 2 a list of so many items
abbrev pub KindsAreNumbered : Type 0
KindsAreNumbered = ((prototyped (Ok prototype.Null)).kind ≡ 0) × ((prototyped (Ok prototype.Null)).count ≡ 0)
    × ((n : ℕ) → ((prototyped (Ok (prototype.Data n))).kind ≡ 1) × ((prototyped (Ok (prototype.Data n))).count ≡ n))
    × ((n : ℕ) → ((prototyped (Ok (prototype.List n))).kind ≡ 2) × ((prototyped (Ok (prototype.List n))).count ≡ n))

-- yes is 1 and no is 0; of the numbers that are handed in as a truth, 0 is false and every other true
abbrev pub TruthsAreNumbers : Type 0
TruthsAreNumbers = (yes_no true ≡ 1) × (yes_no false ≡ 0) × (truth_of 0 ≡ false) × ((n : ℕ) → truth_of (suc n) ≡ true)

-- where a call is refused every other field is 0. Only a cached place is handed back as it came
abbrev pub RefusedFieldsAre0 : Type 0
RefusedFieldsAre0 = (e : Refusal)
    → ((answered (Err e)).value ≡ 0)
    × ((asked (Err e)).value ≡ 0)
    × ((informed (Err e)).header_len ≡ 0) × ((informed (Err e)).value_len ≡ 0)
    × ((situated (Err e)).start ≡ 0) × ((situated (Err e)).len ≡ 0)
    × ((prototyped (Err e)).kind ≡ 0) × ((prototyped (Err e)).count ≡ 0)
    × ((tallied (Err e)).items ≡ 0) × ((tallied (Err e)).depth ≡ 0)
    × ((b : List ℕ) (c : OffsetCache) (i : ℕ) → (walk.cached_answer b c i).place ≡ Err e
    → ((found (walk.cached_answer b c i)).start ≡ 0) × ((found (walk.cached_answer b c i)).len ≡ 0)
    × ((found (walk.cached_answer b c i)).index ≡ c.index) × ((found (walk.cached_answer b c i)).offset ≡ c.offset))

-- ---- one encoding, and an amending

-- a linked call answers the call's own answer, in numbers, and leaves the buffer that the call leaves
abbrev pub WritingIsTheCall : Type 0
WritingIsTheCall = ((w : Wrote) → ((written w).answer ≡ answered w.answer) × ((written w).buffer ≡ w.buffer))
    × ((a : amend.After) → ((exchanged a).answer ≡ answered a.answer) × ((exchanged a).buffer ≡ a.buffer))

-- a refusal changes no byte
abbrev pub RefusalsKeepTheBuffer : Type 0
RefusalsKeepTheBuffer = (b : List ℕ) (n : ℕ)
    → ((t : Item) → ((written (encoded b n t)).answer.refusal ≡ 0 → ⊥) → (written (encoded b n t)).buffer ≡ b)
    × ((path new : List ℕ) → ((exchanged (amend.amended b n path new)).answer.refusal ≡ 0 → ⊥) → (exchanged (amend.amended b n path new)).buffer ≡ b)

-- ---- the stream's state

-- start, end and the count of open lists come first, then all positions, all currents, all maxima
abbrev pub NumbersStandInOrder : Type 0
NumbersStandInOrder = (s : Stream) → numbers s ≡ s.start ∷ s.end ∷ s.opened ∷ (s.positions ++ (s.currents ++ s.maxima))

-- a state with an entry for each level is its 51 numbers, and 51 numbers are one state
abbrev pub NumbersAreTheState : Type 0
NumbersAreTheState = ((s : Stream) → Full s → stream_in (numbers s) ≡ s)
    × ((ns : List ℕ) → length ns ≡ size → numbers (stream_in ns) ≡ ns)

-- what a method leaves, in numbers
unfoldable pub told : After → Crossed
told a = record { answer = asked a.answer; state = numbers a.stream; buffer = a.buffer }

-- a call on the numbers of such a state leaves what the method leaves of the state: answer, state and buffer
abbrev pub CrossingIsTheMethod : Type 0
CrossingIsTheMethod = (s : Stream) → Full s → (b : List ℕ)
    → ((c : Call) → crossed (numbers s) b c ≡ told (called s b c))
    × ((x : List ℕ) (n most : ℕ) → crossed_checked (numbers s) b x n most ≡ told (checked s b x n most))

-- and a call that looks at them sees what the method sees, whatever it looks for
abbrev pub SeesAs : (A : Type 0) → Type 0
SeesAs A = (s : Stream) → Full s → (room n : ℕ) (f : State → Or A)
    → fitting (numbers s) room n (f (state_in (numbers s))) ≡ f (state_of s)

abbrev pub LookingIsTheMethod : Type 0
LookingIsTheMethod = SeesAs ℕ × SeesAs Bool

-- ---- a new stream

-- the numbers of a stream that starts at a place, with nothing written; and of one with a list open there, which takes so many items: its
-- contents start 1 further on, behind its reserved byte
unfoldable pub new_numbers : ℕ → List ℕ
new_numbers at = at ∷ at ∷ replicate 49 0

unfoldable pub first_only : ℕ → List ℕ
first_only n = n ∷ replicate (levels - 1) 0

unfoldable pub list_numbers : ℕ → ℕ → List ℕ
list_numbers at most = at ∷ suc at ∷ 1 ∷ (first_only 1 ++ (first_only 0 ++ first_only most))

-- a new stream starts where it is asked to, whatever the numbers were; so does the stream's own
abbrev pub NewStartsWhereAsked : Type 0
NewStartsWhereAsked = (at : ℕ)
    → ((ns : List ℕ) → length ns ≡ size → crossed_new ns at ≡ leaves (answered (Ok 1)) (new_numbers at) [])
    × (numbers (new_of at) ≡ new_numbers at)

-- one with a list is answered as a list that begins on such numbers, and accepted leaves the same
abbrev pub NewListIsNewThenBegin : Type 0
NewListIsNewThenBegin = (ns b : List ℕ) (at most : ℕ) → length ns ≡ size
    → ((crossed_new_list ns b at most).answer ≡ (crossed (new_numbers at) b (begin most)).answer)
    × ((crossed_new_list ns b at most).answer.refusal ≡ 0 → crossed_new_list ns b at most ≡ crossed (new_numbers at) b (begin most))

-- and where the buffer has a byte for it, the list stands at the start, with so many items to take
abbrev pub NewListStandsAtTheStart : Type 0
NewListStandsAtTheStart = (ns b : List ℕ) (at n : ℕ) → length ns ≡ size → length b ≤ limit → at < length b
    → crossed_new_list ns b at (suc n) ≡ leaves (answered (Ok 1)) (list_numbers at (suc n)) (put b at (0 ∷ []))

-- ---- its refusals

pub record Unchanged (ns b : List ℕ) (x : Crossed) : Type 0 where
  pub state : x.state ≡ ns
  pub buffer : x.buffer ≡ b

-- an answer whose refusal is not 0 leaves the numbers and the buffer as they were lent, be the numbers a state or not
abbrev pub RefusalsChangeNothing : Type 0
RefusalsChangeNothing = (ns b : List ℕ)
    → ((c : Call) → ((crossed ns b c).answer.refusal ≡ 0 → ⊥) → Unchanged ns b (crossed ns b c))
    × ((x : List ℕ) (n most : ℕ) → ((crossed_checked ns b x n most).answer.refusal ≡ 0 → ⊥) → Unchanged ns b (crossed_checked ns b x n most))
    × ((at most : ℕ) → ((crossed_new_list ns b at most).answer.refusal ≡ 0 → ⊥) → Unchanged ns b (crossed_new_list ns b at most))
    × ((at : ℕ) → ((crossed_new ns at).answer.refusal ≡ 0 → ⊥) → (crossed_new ns at).state ≡ ns)

-- numbers that are not 51 are 20, where the slices are within the limit
abbrev pub LooksAre20 : List ℕ → ℕ → Type 0 → Type 0
LooksAre20 ns room A = (n : ℕ) (o : Or A) → n ≤ limit → fitting ns room n o ≡ Err StateMismatch

abbrev pub WrongLengthIs20 : Type 0
WrongLengthIs20 = (ns b : List ℕ) → (length ns ≡ size → ⊥) → length b ≤ limit
    → ((c : Call) → length (lent c) ≤ limit → (crossed ns b c).answer ≡ answered (Err StateMismatch))
    × ((x : List ℕ) (n most : ℕ) → length x ≤ limit → (crossed_checked ns b x n most).answer ≡ answered (Err StateMismatch))
    × ((at most : ℕ) → (crossed_new_list ns b at most).answer ≡ answered (Err StateMismatch))
    × ((at : ℕ) → (crossed_new ns at).answer ≡ answered (Err StateMismatch))
    × LooksAre20 ns (length b) ℕ × LooksAre20 ns (length b) Bool

-- ---- 12

-- the calls that look, of some numbers with a buffer of so many bytes
pub record LooksRefused (ns : List ℕ) (room : ℕ) (e : Refusal) : Type 0 where
  pub finished : fitting ns room 0 (finished_of (state_in ns) room) ≡ Err e
  pub raw : fitting ns room 0 (raw_length (state_in ns) room) ≡ Err e
  pub out : fitting ns room 0 (out_length (state_in ns) room) ≡ Err e
  pub len : fitting ns room 0 (len_of (state_in ns) room) ≡ Err e
  pub empty : fitting ns room 0 (empty_of (state_in ns) room) ≡ Err e

-- one of two slices is over the limit
abbrev pub Over : ℕ → ℕ → Type 0
Over m n = (limit < m) ⊎ (limit < n)

-- a slice over the limit is 12 before all else, whatever the numbers: in the stream's calls, one encoding, an amending, the strict checks
abbrev pub LargeIs12 : Type 0
LargeIs12 = (ns b : List ℕ)
    → ((c : Call) → Over (length b) (length (lent c)) → (crossed ns b c).answer ≡ answered (Err TooLarge))
    × ((x : List ℕ) (n most : ℕ) → Over (length b) (length x) → (crossed_checked ns b x n most).answer ≡ answered (Err TooLarge))
    × ((at most : ℕ) → limit < length b → (crossed_new_list ns b at most).answer ≡ answered (Err TooLarge))
    × ((n : ℕ) → Over (length b) n → fitting ns (length b) n (estimate_of (state_in ns) (length b) n) ≡ Err TooLarge)
    × (limit < length b → LooksRefused ns (length b) TooLarge)
    × ((n : ℕ) (t : Item) → Over (length b) n → (written (encoded b n t)).answer ≡ answered (Err TooLarge))
    × ((n : ℕ) (path new : List ℕ) → Over (length b) (length new) → (exchanged (amend.amended b n path new)).answer ≡ answered (Err TooLarge))
    × (limit < length b → tallied (strict.strict b) ≡ tallied (Err TooLarge))
    × (limit < length b → tallied (strict.strict_items b) ≡ tallied (Err TooLarge))

-- ---- all of them

pub record Claimed : Type 0 where
  pub answers_are_determined : AnswersAreDetermined
  pub promises_are_of_the_answer : PromisesAreOfTheAnswer
  pub refusals_are_numbered : RefusalsAreNumbered
  pub fields_are_what_was_answered : FieldsAreWhatWasAnswered
  pub kinds_are_numbered : KindsAreNumbered
  pub truths_are_numbers : TruthsAreNumbers
  pub refused_fields_are_0 : RefusedFieldsAre0
  pub writing_is_the_call : WritingIsTheCall
  pub refusals_keep_the_buffer : RefusalsKeepTheBuffer
  pub numbers_stand_in_order : NumbersStandInOrder
  pub numbers_are_the_state : NumbersAreTheState
  pub crossing_is_the_method : CrossingIsTheMethod
  pub looking_is_the_method : LookingIsTheMethod
  pub new_starts_where_asked : NewStartsWhereAsked
  pub new_list_is_new_then_begin : NewListIsNewThenBegin
  pub new_list_stands_at_the_start : NewListStandsAtTheStart
  pub refusals_change_nothing : RefusalsChangeNothing
  pub wrong_length_is_20 : WrongLengthIs20
  pub large_is_12 : LargeIs12
