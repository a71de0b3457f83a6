-- What is claimed of the stream. proofs/Claims.antt proves each claim under the same name in small letters; the record at the end holds
-- them all, and src/lib.rt asks for it.
use Rattle.std.specs.Prelude.{◌≡◌, ℕ, suc, ◌+◌, ◌-◌, ◌^◌, ◌<◌, ◌≤◌, Bool, true, false, cond, T, ◌⊎◌, List, ◌++◌, length, take, drop, replicate, ◌==◌, ◌≢◌, slice_index, Ok, Err}
use Rattle.rlp.specs.declared.Refusal.{Refusal}
use Rattle.rlp.specs.declared.Refusal.TheVariants.{TooLarge, Unfinished, StateMismatch}
use Rattle.rlp.specs.Refusals.{Or, also}
use Rattle.rlp.specs.Limits.{limit, levels}
use Rattle.rlp.specs.Bytes.{Bytes, be_value, be}
use Rattle.rlp.specs.Tree.{Item, Items, str, end, ◌then◌, enc, encs, deepest}
use Rattle.rlp.specs.Promises.{Determined, said}
use Rattle.value.specs.Value.{uint, boolean}
use Rattle.encode.specs.Encode.{flag}
use Rattle.strict.specs.Strict.{tree}
use Rattle.stream.specs.declared.Stream.{Stream}
use Rattle.stream.specs.declared.Step.{Step}
use Rattle.stream.specs.State.{State, state_of, view, total, matches}
use Rattle.stream.specs.Stream.{new_of, finished_of, raw_length, out_length, shown_part, Call, raw, clear, lent, roomed, answer, After, called}
use Rattle.stream.specs.Sizes.{size_now, estimate_of, len_of, empty_of, checked}
use Rattle.stream.specs.Answers.{leaves}
use Rattle.stream.specs.Said.{Said, top, inner, step, meaning, rendered, opens_of, shown, opened, says}
use Rattle.stream.specs.Runs.{Run, Sized, New, Reached}
use Rattle.stream.specs.Tables as tables

-- ---- every call

-- two answers, with the states and the buffers that they leave, that meet the promise are equal
abbrev pub AnswersAreDetermined : Type 0
AnswersAreDetermined = (d : After) (r q : Step) (b c : List ℕ) → leaves r b ≡ d → leaves q c ≡ d → (r ≡ q) × (b ≡ c)

-- and so are two answers of a call that looks and says yes or no. (Of those that answer a length it is claimed in crate header.)
abbrev pub LooksAreDetermined : Type 0
LooksAreDetermined = Determined {A = Or Bool} said

-- for a promise is of the answer itself: what it says is what the answer holds
abbrev pub PromisesAreOfTheAnswer : Type 0
PromisesAreOfTheAnswer = ((r : Or Bool) → said r ≡ r)
    × ((r : Step) (b : List ℕ) → ((leaves r b).answer ≡ r.answer) × ((leaves r b).stream ≡ r.stream) × ((leaves r b).buffer ≡ b))

-- a refusal, or a no, changes no byte and no part of the state
pub record Unchanged (s : Stream) (b : List ℕ) (a : After) : Type 0 where
  pub stream : a.stream ≡ s
  pub buffer : a.buffer ≡ b

abbrev pub RefusalsChangeNothing : Type 0
RefusalsChangeNothing = (s : Stream) (b : List ℕ) (c : Call) (e : Refusal) → (called s b c).answer ≡ Err e → Unchanged s b (called s b c)

abbrev pub CheckedRefusalsChangeNothing : Type 0
CheckedRefusalsChangeNothing = (s : Stream) (b x : List ℕ) (n most : ℕ) → ((checked s b x n most).answer ≢ Ok true) → Unchanged s b (checked s b x n most)

-- the stream keeps its start and the buffer its length; bytes before the start and from the new end on are kept
pub record Keeps (s : Stream) (b : List ℕ) (a : After) : Type 0 where
  pub start : a.stream.start ≡ s.start
  pub long : length a.buffer ≡ length b
  pub before : take s.start a.buffer ≡ take s.start b
  pub behind : drop a.stream.end a.buffer ≡ drop a.stream.end b

abbrev pub OtherBytesAreKept : Type 0
OtherBytesAreKept = (s : Stream) (b : List ℕ) (c : Call) → Keeps s b (called s b c)

abbrev pub CheckedKeepsOtherBytes : Type 0
CheckedKeepsOtherBytes = (s : Stream) (b x : List ℕ) (n most : ℕ) → Keeps s b (checked s b x n most)

-- what the arrays hold above the open lists is kept
pub record ArraysKept (s : Stream) (a : After) : Type 0 where
  pub positions : drop a.stream.opened a.stream.positions ≡ drop a.stream.opened s.positions
  pub currents : drop a.stream.opened a.stream.currents ≡ drop a.stream.opened s.currents
  pub maxima : drop a.stream.opened a.stream.maxima ≡ drop a.stream.opened s.maxima

abbrev pub ArraysAboveAreKept : Type 0
ArraysAboveAreKept = (s : Stream) (b : List ℕ) → ((c : Call) → ArraysKept s (called s b c)) × ((x : List ℕ) (n most : ℕ) → ArraysKept s (checked s b x n most))

-- 12 comes first, whatever the state
abbrev pub LargeIs12 : Type 0
LargeIs12 = (s : Stream) (b : List ℕ) (c : Call) → (limit < length b) ⊎ (limit < length (lent c)) → (called s b c).answer ≡ Err TooLarge

-- ---- 20

-- the state matches a buffer of so many bytes, list by list, the outermost first
pub record Matches (s : Stream) (room : ℕ) : Type 0 where
  pub starts : s.start ≤ s.end
  pub ends : s.end ≤ room
  pub few : s.opened ≤ levels
  pub rise : (i : ℕ) → suc i < s.opened → slice_index s.positions i < slice_index s.positions (suc i)
  pub low : (i : ℕ) → i < s.opened → 1 ≤ slice_index s.positions i
  pub high : (i : ℕ) → i < s.opened → slice_index s.positions i ≤ s.end - s.start
  pub counts : (i : ℕ) → i < s.opened → slice_index s.currents i ≤ s.end - s.start - slice_index s.positions i
  pub waiting : (i : ℕ) → i < s.opened → (slice_index s.maxima i ≡ 0) ⊎ (slice_index s.currents i < slice_index s.maxima i)

-- the test is that sentence
abbrev pub MatchingIsTheSentence : Type 0
MatchingIsTheSentence = (s : Stream) (room : ℕ) → (matches (state_of s) room ≡ true → Matches s room) × (Matches s room → matches (state_of s) room ≡ true)

-- within the limit of bytes, 20 is given exactly where the state does not match
abbrev pub StateMismatchIsExact : Type 0
StateMismatchIsExact = (s : Stream) (b : List ℕ) (c : Call) → length b ≤ limit → length (lent c) ≤ limit
    → ((called s b c).answer ≡ Err StateMismatch → Matches s (length b) → ⊥)
    × ((Matches s (length b) → ⊥) → (called s b c).answer ≡ Err StateMismatch)

-- ---- any calls, from a new stream on

-- nothing that was said lies deeper than 16 levels
unfoldable pub Deep : Said → Type 0
Deep (top l) = deepest l ≤ levels
Deep (inner m x l) = Deep m × (suc (opened m) + deepest l ≤ levels)

-- state and buffer show what was said
pub record Shows (s : Stream) (b : List ℕ) (m : Said) : Type 0 where
  pub sized : Sized s
  pub small : length b ≤ limit
  pub matching : Matches s (length b)
  pub same : view (state_of s) b ≡ shown m
  pub deep : Deep m

-- `new` gives a stream that starts and ends where it was told, with no open list and nothing in its arrays
abbrev pub NewStartsWhereItWasTold : Type 0
NewStartsWhereItWasTold = (at : ℕ) → ((new_of at).start ≡ at) × ((new_of at).end ≡ at) × ((new_of at).opened ≡ 0)
    × ((new_of at).positions ≡ replicate levels 0) × ((new_of at).currents ≡ replicate levels 0) × ((new_of at).maxima ≡ replicate levels 0)

-- and that is a new stream wherever its start lies in the buffer
abbrev pub NewIsNew : Type 0
NewIsNew = (at : ℕ) (b : List ℕ) → at ≤ length b → length b ≤ limit → New (new_of at) b

-- a new stream shows nothing, and an accepted clear of any state, over any buffer, leaves a new stream
abbrev pub NewShowsNothing : Type 0
NewShowsNothing = (s : Stream) (b : List ℕ) → New s b → Shows s b (top end)

abbrev pub ClearIsNew : Type 0
ClearIsNew = (s : Stream) (b : List ℕ) → Sized s → (called s b clear).answer ≡ Ok true → New (called s b clear).stream (called s b clear).buffer

-- where state and buffer show what was said, a call is answered by that: its own refusals in their order, then 13 exactly where the end
-- after the call passes the buffer; and what is shown then is what was said with the call
abbrev pub CallsAreAnsweredByWhatWasSaid : Type 0
CallsAreAnsweredByWhatWasSaid = (s : Stream) (b : List ℕ) (m : Said) (c : Call) → Shows s b m → Bytes (lent c) → length (lent c) ≤ limit
    → answer (state_of s) b c ≡ also (says m c) (λ k. roomed s.start (length b) (shown k))

abbrev pub CallsShowWhatTheySay : Type 0
CallsShowWhatTheySay = (s : Stream) (b : List ℕ) (m : Said) (c : Call) → Shows s b m → Bytes (lent c) → (called s b c).answer ≡ Ok true
    → Shows (called s b c).stream (called s b c).buffer (step m c)

-- so any calls, with the caller free to write anywhere but between start and end, leave what the accepted calls since the last clear say
abbrev pub StreamHoldsWhatWasSaid : Type 0
StreamHoldsWhatWasSaid = (r : Run) → Reached r → Shows r.stream r.buffer (meaning r.since)

-- the bytes from start to end
unfoldable pub written : Run → List ℕ
written r = take (r.stream.end - r.stream.start) (drop r.stream.start r.buffer)

-- unfinished, they are the encodings so far, with one byte 0 for each open list
abbrev pub UnfinishedStreamsShowTheReservedBytes : Type 0
UnfinishedStreamsShowTheReservedBytes = (r : Run) → Reached r → (written r ≡ rendered (meaning r.since)) × (r.stream.opened ≡ opened (meaning r.since))

-- finished, they are exactly the encodings of the top-level items, joined
pub record Finished (r : Run) : Type 0 where
  pub items : Items
  pub said : meaning r.since ≡ top items
  pub bytes : written r ≡ encs items

abbrev pub FinishedStreamsAreEncodings : Type 0
FinishedStreamsAreEncodings = (r : Run) → Reached r → r.stream.opened ≡ 0 → Finished r

-- and with one item the strict check takes them for that tree
abbrev pub OneItemIsASheet : Type 0
OneItemIsASheet = (r : Run) (t : Item) → Reached r → meaning r.since ≡ top (t then end) → tree (written r) ≡ Ok t

-- ---- the calls that look

-- what they answer of a stream that shows what was said: whether no list is open; the buffer up to the end, for `out` once no list is open;
-- the size by the rule, and whether it is 0, which is where nothing was said
pub record Looks (s : State) (b : List ℕ) (m : Said) : Type 0 where
  pub finished : finished_of s (length b) ≡ Ok (opened m == 0)
  pub raw-length : raw_length s (length b) ≡ Ok (s.start + length (rendered m))
  pub raw : shown_part b (raw_length s (length b)) ≡ take s.start b ++ rendered m
  pub out : opened m ≡ 0 → out_length s (length b) ≡ raw_length s (length b)
  pub unfinished : 0 < opened m → out_length s (length b) ≡ Err Unfinished
  pub len : len_of s (length b) ≡ Ok (size_now (opens_of m) (length (rendered m)))
  pub estimate : (n : ℕ) → n ≤ limit → estimate_of s (length b) n ≡ Ok (size_now (opens_of m) (length (rendered m) + n))
  pub empty : empty_of s (length b) ≡ Ok (length (rendered m) == 0)

abbrev pub LooksShowWhatWasSaid : Type 0
LooksShowWhatWasSaid = (r : Run) → Reached r → Looks (state_of r.stream) r.buffer (meaning r.since)

-- they are refused as every call is: over the limit with 12, else with 20 where the state does not match
pub record LooksRefused (s : State) (room : ℕ) (e : Refusal) : Type 0 where
  pub finished : finished_of s room ≡ Err e
  pub raw : raw_length s room ≡ Err e
  pub out : out_length s room ≡ Err e
  pub len : len_of s room ≡ Err e
  pub empty : empty_of s room ≡ Err e

abbrev pub LargeLooksAre12 : Type 0
LargeLooksAre12 = (s : State) (room : ℕ) → (limit < room → LooksRefused s room TooLarge)
    × ((n : ℕ) → (limit < room) ⊎ (limit < n) → estimate_of s room n ≡ Err TooLarge)

abbrev pub UnmatchedLooksAre20 : Type 0
UnmatchedLooksAre20 = (s : State) (room : ℕ) → room ≤ limit → matches s room ≡ false
    → LooksRefused s room StateMismatch × ((n : ℕ) → n ≤ limit → estimate_of s room n ≡ Err StateMismatch)

-- `append_raw_checked` says no exactly where neither 12 nor 20 is given and the estimate passes the maximum
abbrev pub CheckedSaysNo : Type 0
CheckedSaysNo = (s : Stream) (b x : List ℕ) (n most : ℕ)
    → ((checked s b x n most).answer ≡ Ok false
    → (length b ≤ limit) × (length x ≤ limit) × (matches (state_of s) (length b) ≡ true) × (most < size_now (state_of s).opens (total (state_of s) + length x)))
    × ((length b ≤ limit) × (length x ≤ limit) × (matches (state_of s) (length b) ≡ true) × (most < size_now (state_of s).opens (total (state_of s) + length x))
    → (checked s b x n most).answer ≡ Ok false)

-- and is `append_raw` where it does not
abbrev pub CheckedIsRaw : Type 0
CheckedIsRaw = (s : Stream) (b x : List ℕ) (n most : ℕ) → ((checked s b x n most).answer ≢ Ok false) → checked s b x n most ≡ called s b (raw x n)

-- a scalar's string, read back by Appendix B, is the number, whatever the width of its reader
abbrev pub ScalarsReadBack : Type 0
ScalarsReadBack = (n w : ℕ) → w ≤ 8 → n < 256 ^ w → (be_value (be n) ≡ n) × (uint w (enc (str (be n))) ≡ Ok n)

-- and a truth is the number 1 or 0, and reads back as itself
abbrev pub TruthsReadBack : Type 0
TruthsReadBack = (b : Bool) → (flag b ≡ str (be (cond b 1 0))) × (boolean (enc (flag b)) ≡ Ok b)

-- ---- the tables: the order of refusals, and the rule of `len` beside the closed size

abbrev pub RefusalsStandInOrder : Type 0
RefusalsStandInOrder = T (tables.ordered tables.pairs)

abbrev pub SizesAreTheRule : Type 0
SizesAreTheRule = T tables.sizes

-- ---- all of them

pub record Claimed : Type 0 where
  pub answers_are_determined : AnswersAreDetermined
  pub looks_are_determined : LooksAreDetermined
  pub promises_are_of_the_answer : PromisesAreOfTheAnswer
  pub refusals_change_nothing : RefusalsChangeNothing
  pub checked_refusals_change_nothing : CheckedRefusalsChangeNothing
  pub other_bytes_are_kept : OtherBytesAreKept
  pub checked_keeps_other_bytes : CheckedKeepsOtherBytes
  pub arrays_above_are_kept : ArraysAboveAreKept
  pub large_is_12 : LargeIs12
  pub matching_is_the_sentence : MatchingIsTheSentence
  pub state_mismatch_is_exact : StateMismatchIsExact
  pub new_starts_where_it_was_told : NewStartsWhereItWasTold
  pub new_is_new : NewIsNew
  pub new_shows_nothing : NewShowsNothing
  pub clear_is_new : ClearIsNew
  pub calls_are_answered_by_what_was_said : CallsAreAnsweredByWhatWasSaid
  pub calls_show_what_they_say : CallsShowWhatTheySay
  pub stream_holds_what_was_said : StreamHoldsWhatWasSaid
  pub unfinished_streams_show_the_reserved_bytes : UnfinishedStreamsShowTheReservedBytes
  pub finished_streams_are_encodings : FinishedStreamsAreEncodings
  pub one_item_is_a_sheet : OneItemIsASheet
  pub looks_show_what_was_said : LooksShowWhatWasSaid
  pub large_looks_are_12 : LargeLooksAre12
  pub unmatched_looks_are_20 : UnmatchedLooksAre20
  pub checked_says_no : CheckedSaysNo
  pub checked_is_raw : CheckedIsRaw
  pub scalars_read_back : ScalarsReadBack
  pub truths_read_back : TruthsReadBack
  pub refusals_stand_in_order : RefusalsStandInOrder
  pub sizes_are_the_rule : SizesAreTheRule
