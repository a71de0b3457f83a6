-- The claims of specs/Claims.antt, proved. Assumes nothing.
use Rattle.std.specs.Prelude.{◌≡◌, ℕ, ◌^◌, ◌<◌, ◌≤◌, true, false, List, [], ◌++◌, length, Ok, Err}
use mathlib.Core.Path.{refl, sym, ap, ◌∙◌}
use native.Mathlib.Omega.{arith}
use native.Mathlib.Nat.{pow-le-pow_right}
use mathlib.Core.List.{append-nil}
use lib.Dec.{lit<}
use lib.ListN.{length-append}
use Rattle.rlp.specs.Refusals.{Or, also, unless}
use Rattle.rlp.specs.Bytes.{be, be_up_to, be_from, be_value}
use Rattle.rlp.specs.Tree.{str, strings, header, itself, enc, encs, payload, many, depth}
use Rattle.rlp.specs.Promises.{said, refusal_in}
use Rattle.rlp.proofs.Tests.{by_test}
use Rattle.rlp.proofs.Answers.{refused-got}
use Rattle.rlp.proofs.BigEndian.{value-be, be-short}
use Rattle.rlp.proofs.Sizes.{header-short, enc-itself, enc-string}
use Rattle.header.specs.Header.{header_of, size, payload_info}
use Rattle.header.specs.Header.{within as in_buffer}
use Rattle.value.specs.Value.{spare, short_value, value_at, part, scalar, uint, truth, boolean}
use Rattle.encode.specs.Encode.{flag}
use Rattle.value.proofs.Encodings.{value_of_lem, part-payload, scalar_complete}
use Rattle.value.proofs.Scalars.{uint-got}
use Rattle.stream.specs.declared.Stream.{Stream}
use Rattle.stream.specs.Stream.{closed, counted, appended, begun, level, unless_counted, finalized, takes, raw_items, raw, lent, own, roomed, guarded, answer, After, after, called, is_finished, out_length}
use Rattle.list.specs.Kinds.{is_list}
use Rattle.strict.specs.Strict.{is_spare, value_of, item_of, front, row, contents, row_tree}
use Rattle.stream.specs.State.{waits, full, holds, total, most_of, kept_most, opens_in, state_of, View, view, placed, stored, sane, sound, matches}
use Rattle.stream.specs.Answers.{leaves}
use Rattle.stream.specs.Steps.{step_of}
use Rattle.stream.specs.Sizes.{growth, growths, size_now, estimate_of, unless_over, checked}
use Rattle.stream.specs.Tables.{stream_of, nested, asked, gives, ordered, values, raws, finals, said_no, checkeds, outs, pairs, two, sizes}
use Rattle.stream.specs.Tables as tables
use Rattle.stream.specs.Claims.{AnswersAreDetermined, LooksAreDetermined, PromisesAreOfTheAnswer, Unchanged, RefusalsChangeNothing, CheckedRefusalsChangeNothing, Keeps, OtherBytesAreKept, CheckedKeepsOtherBytes, ArraysKept, ArraysAboveAreKept, LargeIs12, MatchingIsTheSentence, StateMismatchIsExact, NewShowsNothing, NewStartsWhereItWasTold, NewIsNew, ClearIsNew, CallsAreAnsweredByWhatWasSaid, CallsShowWhatTheySay, StreamHoldsWhatWasSaid, UnfinishedStreamsShowTheReservedBytes, FinishedStreamsAreEncodings, OneItemIsASheet, LooksShowWhatWasSaid, LargeLooksAre12, UnmatchedLooksAre20, CheckedSaysNo, CheckedIsRaw, ScalarsReadBack, TruthsReadBack, RefusalsStandInOrder, SizesAreTheRule, Claimed}
use Rattle.stream.proofs.Stores.{above_placed}
use Rattle.stream.proofs.Sentence.{matches-is}
use Rattle.stream.proofs.Answered.{called_unchanged, called_keeps, called_large, matching-other, unmatched_20, checked_either, no_passes, passes_no}
use Rattle.stream.proofs.Showing.{shows_opened, answer-is, called_shows, new_shows, clear-new, reached_holds, held_written, held_finished, held_tree}
use Rattle.stream.proofs.Looking.{looks, looks_large, estimate_large, looks_unmatched, estimate_unmatched}

-- ---- every call

pub looks_are_determined : LooksAreDetermined
unfolding said
looks_are_determined d x y p q = p ∙ sym q

pub answers_are_determined : AnswersAreDetermined
unfolding leaves
answers_are_determined d r q b c e f = (
  ap (λ (a : After). step_of a.answer a.stream) (e ∙ sym f),
  ap (λ (a : After). a.buffer) (e ∙ sym f),
)

pub promises_are_of_the_answer : PromisesAreOfTheAnswer
unfolding said leaves
promises_are_of_the_answer = (λ r. refl, λ r b. (refl, refl, refl))

pub refusals_change_nothing : RefusalsChangeNothing
refusals_change_nothing s b c e p = called_unchanged s b c (λ q. refused-got (sym p ∙ q))

pub checked_refusals_change_nothing : CheckedRefusalsChangeNothing
checked_refusals_change_nothing s b x n most =
    checked_either s b x n most (λ a. (a.answer ≡ Ok true → ⊥) → Unchanged s b a)
    (λ f. record { stream = refl; buffer = refl }) (called_unchanged s b (raw x n))

pub other_bytes_are_kept : OtherBytesAreKept
other_bytes_are_kept = called_keeps

pub checked_keeps_other_bytes : CheckedKeepsOtherBytes
checked_keeps_other_bytes s b x n most =
    checked_either s b x n most (Keeps s b) (record { start = refl; long = refl; before = refl; behind = refl }) (called_keeps s b (raw x n))

pub large_is_12 : LargeIs12
large_is_12 = called_large

-- ---- 20

after_above : (s : Stream) (b : List ℕ) (o : Or View) → ArraysKept s (after s b o)
unfolding after stored
after_above s b (Err e) = record { positions = refl; currents = refl; maxima = refl }
after_above s b (Ok v) =
    record {
      positions = above_placed (λ o. o.position) v.opens (length v.opens) s.positions (omega arith);
      currents = above_placed (λ o. o.current) v.opens (length v.opens) s.currents (omega arith);
      maxima = above_placed (λ o. kept_most o.most) v.opens (length v.opens) s.maxima (omega arith);
    }

pub arrays_above_are_kept : ArraysAboveAreKept
unfolding called
arrays_above_are_kept s b = (
  λ c. after_above s b (answer (state_of s) b c),
  λ x n most. checked_either s b x n most (ArraysKept s) (record { positions = refl; currents = refl; maxima = refl }) (after_above s b (answer (state_of s) b (raw x n))),
)

pub matching_is_the_sentence : MatchingIsTheSentence
matching_is_the_sentence = matches-is

pub state_mismatch_is_exact : StateMismatchIsExact
state_mismatch_is_exact s b c h l = (matching-other s b c h l, unmatched_20 s b c h l)

-- ---- any calls

pub new_starts_where_it_was_told : NewStartsWhereItWasTold
new_starts_where_it_was_told at = (refl, refl, refl, refl, refl, refl)

pub new_shows_nothing : NewShowsNothing
new_shows_nothing = new_shows

pub new_is_new : NewIsNew
new_is_new at b h l =
    record { sized = record { positions = refl; currents = refl; maxima = refl }; nothing = refl; none = refl; inside = omega arith; small = l }

pub clear_is_new : ClearIsNew
clear_is_new = clear-new

pub calls_are_answered_by_what_was_said : CallsAreAnsweredByWhatWasSaid
calls_are_answered_by_what_was_said = answer-is

pub calls_show_what_they_say : CallsShowWhatTheySay
calls_show_what_they_say = called_shows

pub stream_holds_what_was_said : StreamHoldsWhatWasSaid
stream_holds_what_was_said = reached_holds

pub unfinished_streams_show_the_reserved_bytes : UnfinishedStreamsShowTheReservedBytes
unfinished_streams_show_the_reserved_bytes r R =
    let h = reached_holds r R in
    (held_written r h, shows_opened r.stream r.buffer _ h)

pub finished_streams_are_encodings : FinishedStreamsAreEncodings
finished_streams_are_encodings r R = held_finished r (reached_holds r R)

pub one_item_is_a_sheet : OneItemIsASheet
one_item_is_a_sheet r t R = held_tree r t (reached_holds r R)

-- ---- the calls that look

pub looks_show_what_was_said : LooksShowWhatWasSaid
looks_show_what_was_said r R = looks r.stream r.buffer _ (reached_holds r R)

pub large_looks_are_12 : LargeLooksAre12
large_looks_are_12 s room = (looks_large s room, estimate_large s room)

pub unmatched_looks_are_20 : UnmatchedLooksAre20
unmatched_looks_are_20 s room h off = (looks_unmatched s room h off, estimate_unmatched s room h off)

pub checked_says_no : CheckedSaysNo
checked_says_no s b x n most = (no_passes s b x n most, passes_no s b x n most)

pub checked_is_raw : CheckedIsRaw
checked_is_raw s b x n most =
    checked_either s b x n most (λ a. (a.answer ≡ Ok false → ⊥) → a ≡ called s b (raw x n)) (λ f. absurd (f refl)) (λ f. refl)

-- a number's bytes are few, so their encoding is
scalar_size : (s : List ℕ) → length s ≤ 8 → length (enc (str s)) ≤ 9
scalar_size s h =
    by_test (itself s)
    (λ i. rw (enc-itself s i) (omega arith))
    (λ i. rw (enc-string s i, length-append, header-short strings (length s) (omega arith)) (omega arith))

pub scalars_read_back : ScalarsReadBack
unfolding payload
scalars_read_back n w h l =
    let m : n < 256 ^ 8 = omega (arith, l, pow-le-pow_right {n = 256} (lit< tt) {i = w} {j = 8} h) in
    let s : List ℕ = be n in
    let z : length (enc (str s)) < 2 ^ 64 = omega (arith, scalar_size s (be-short 8 n m)) in (
      value-be n,
      ap (uint w) (sym (append-nil (enc (str s))))
          ∙ sym (uint-got w (enc (str s) ++ []) _ (value_of_lem s [] z))
          ∙ ap (scalar w) (part-payload (str s) [])
          ∙ scalar_complete w n h l m,
    )

pub truths_read_back : TruthsReadBack
unfolding flag be be_up_to enc itself header boolean uint value_at short_value scalar part truth also unless be_value be_from spare
truths_read_back true = (refl, refl)
truths_read_back false = (refl, refl)

-- ---- the tables

pub refusals_stand_in_order : RefusalsStandInOrder
unfolding also unless refusal_in be be_up_to header_of size in_buffer payload_info spare part is_list is_spare value_of item_of front row contents row_tree header itself encs many depth waits full holds total most_of kept_most opens_in state_of view placed sane sound matches closed counted appended begun level unless_counted finalized takes raw_items lent own roomed guarded answer after called is_finished out_length growths size_now estimate_of unless_over checked stream_of nested asked gives ordered tables.begins values raws finals said_no checkeds outs pairs
refusals_stand_in_order = tt

pub sizes_are_the_rule : SizesAreTheRule
unfolding be be_up_to header closed growth growths size_now two sizes
sizes_are_the_rule = tt

pub claimed : Claimed
claimed =
    record {
      answers_are_determined = answers_are_determined;
      looks_are_determined = looks_are_determined;
      promises_are_of_the_answer = promises_are_of_the_answer;
      refusals_change_nothing = refusals_change_nothing;
      checked_refusals_change_nothing = checked_refusals_change_nothing;
      other_bytes_are_kept = other_bytes_are_kept;
      checked_keeps_other_bytes = checked_keeps_other_bytes;
      arrays_above_are_kept = arrays_above_are_kept;
      large_is_12 = large_is_12;
      matching_is_the_sentence = matching_is_the_sentence;
      state_mismatch_is_exact = state_mismatch_is_exact;
      new_starts_where_it_was_told = new_starts_where_it_was_told;
      new_is_new = new_is_new;
      new_shows_nothing = new_shows_nothing;
      clear_is_new = clear_is_new;
      calls_are_answered_by_what_was_said = calls_are_answered_by_what_was_said;
      calls_show_what_they_say = calls_show_what_they_say;
      stream_holds_what_was_said = stream_holds_what_was_said;
      unfinished_streams_show_the_reserved_bytes = unfinished_streams_show_the_reserved_bytes;
      finished_streams_are_encodings = finished_streams_are_encodings;
      one_item_is_a_sheet = one_item_is_a_sheet;
      looks_show_what_was_said = looks_show_what_was_said;
      large_looks_are_12 = large_looks_are_12;
      unmatched_looks_are_20 = unmatched_looks_are_20;
      checked_says_no = checked_says_no;
      checked_is_raw = checked_is_raw;
      scalars_read_back = scalars_read_back;
      truths_read_back = truths_read_back;
      refusals_stand_in_order = refusals_stand_in_order;
      sizes_are_the_rule = sizes_are_the_rule;
    }
