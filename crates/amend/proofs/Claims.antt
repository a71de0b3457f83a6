-- The claims of specs/Claims.antt, proved. Assumes nothing.
use Rattle.std.specs.Prelude.{Ok, Err}
use mathlib.Core.Path.{◌≡◌, refl, sym, ap, ◌∙◌, subst}
use Prim.Native.Nat.{ℕ}
use mathlib.Core.List.{List}
use lib.ListN.{length, take, drop, take-append-drop}
use Rattle.rlp.specs.Refusals.{Or, also, unless}
use Rattle.rlp.specs.Bytes.{be_from, be_value, be_up_to, be}
use Rattle.rlp.specs.Tree.{Item, header, itself, enc, encs, depth, deepest}
use Rattle.rlp.specs.Paths.{fetch, exchange, exchange_in, offset}
use Rattle.rlp.specs.Promises.{refusal_in}
use Rattle.rlp.proofs.Answers.{refused-got}
use Rattle.rlp.proofs.Paths.{Lies, lies_before, lies_cut, kept}
use Rattle.header.specs.Header.{long_header, header_of, size, within, payload_info}
use Rattle.value.specs.Value.{spare, part}
use Rattle.list.specs.Kinds.{is_list}
use Rattle.strict.specs.Strict.{is_spare, value_of, item_of, front, row, contents, whole, tree}
use Rattle.amend.specs.Amend.{fitting, new_tree, After, after, amended}
use Rattle.amend.specs.Answers.{leaves}
use Rattle.amend.specs.Tables.{gives, refuses, size_in, same_bytes, meets, answered, p6, nest, examples, order}
use Rattle.amend.specs.Claims.{AnswersAreDetermined, PromisesAreOfTheAnswer, RefusalsKeepTheBuffer, Amends, Amending, AcceptedExactly, LargeIs12, LengthPastTheBufferIs1, TheSheetsRefusal, TheReplacementsRefusal, NoItemIs19, DeepIs11, FullIs13, Exchanged, TheSheetIsExchanged, WalkFindsTheItem, OtherItemsKeepTheirBytes, ExamplesAreAnswered, RefusalsStandInOrder, Claimed}
use Rattle.amend.proofs.NewTrees.{answer-refused, answer-got, answered-got, large, past-buffer, bad_sheet, bad_other, no_item, too_deep, no_room, amends-tree, tree-amends}
use Rattle.amend.proofs.Buffers.{left}
use Rattle.amend.proofs.Walks.{lies_there, walk-there}

pub answers_are_determined : AnswersAreDetermined
unfolding leaves
answers_are_determined d r q b c x y = (ap (λ (a : After). a.answer) (x ∙ sym y), ap (λ (a : After). a.buffer) (x ∙ sym y))

pub promises_are_of_the_answer : PromisesAreOfTheAnswer
unfolding leaves
promises_are_of_the_answer r b = (refl, refl)

pub refusals_keep_the_buffer : RefusalsKeepTheBuffer
unfolding amended after
refusals_keep_the_buffer b n path new e h = go (new_tree b n path new) h
  where
    go : (o : Or Item) → (after b n o).answer ≡ Err e → (after b n o).buffer ≡ b
    go (Err x) h = refl
    go (Ok v) h = absurd (refused-got (sym h))

-- ---- demand 3

pub accepted_exactly : AcceptedExactly
accepted_exactly b n path new m w x = (
  λ e.
      let a = answered-got b n path new m e in
      let c = tree-amends b n path new a.0 w x a.1 in
      record { old = c.0; replacement = c.1; result = a.0; amends = c.2; size = a.2 },
  λ (A : Amending b n path new m).
      answer-got b n path new A.result (amends-tree b n path new A.old A.replacement A.result A.amends) ∙ ap Ok A.size,
)

pub large_is_12 : LargeIs12
large_is_12 b n path new h = answer-refused b n path new _ (large b n path new h)

pub length_past_the_buffer_is_1 : LengthPastTheBufferIs1
length_past_the_buffer_is_1 b n path new small light h = answer-refused b n path new _ (past-buffer b n path new small light h)

pub the_sheets_refusal : TheSheetsRefusal
the_sheets_refusal b n path new e small light inside h = answer-refused b n path new e (bad_sheet b n path new small light inside e h)

pub the_replacements_refusal : TheReplacementsRefusal
the_replacements_refusal b n path new t e small light inside h k = answer-refused b n path new e (bad_other b n path new small light inside t e h k)

pub no_item_is_19 : NoItemIs19
no_item_is_19 b n path new t u small inside S R h = answer-refused b n path new _ (no_item b n path new t u small inside S R h)

pub deep_is_11 : DeepIs11
deep_is_11 b n path new t u v small inside S R e h = answer-refused b n path new _ (too_deep b n path new t u small inside S R v e h)

pub full_is_13 : FullIs13
full_is_13 b n path new t u v small inside S R e h k = answer-refused b n path new _ (no_room b n path new t u small inside S R v e h k)

-- what it leaves
left_by : (b : List ℕ) (n : ℕ) (path new : List ℕ) (t u v : Item) → Amends b n path new t u v → Exchanged b n v (amended b n path new)
unfolding amended
left_by b n path new t u v A = subst (λ (o : Or Item). Exchanged b n v (after b n o)) (sym (amends-tree b n path new t u v A)) (left b n path new t u v A)

pub the_sheet_is_exchanged : TheSheetIsExchanged
the_sheet_is_exchanged = left_by

-- ---- the other items

pub walk_finds_the_item : WalkFindsTheItem
unfolding part
walk_finds_the_item b t q w S e = (walk-there b t S q w e, lies_cut b (enc w) (offset t q) (lies_there b t S q w e))

-- an item of the sheet at the front of some bytes
cut-front : (b : List ℕ) (n : ℕ) (x : List ℕ) (at : ℕ) → Lies (take n b) at x → take (length x) (drop at b) ≡ x
cut-front b n x at L = lies_cut b x at (subst (λ (s : List ℕ). Lies s at x) (take-append-drop n b) (lies_before (take n b) (drop n b) x at L))

pub other_items_keep_their_bytes : OtherItemsKeepTheirBytes
unfolding part
other_items_keep_their_bytes b n path new t u v A q w far e =
    let c : List ℕ = (amended b n path new).buffer in
    let L : Exchanged b n v (amended b n path new) = left_by b n path new t u v A in
    let f : fetch v q ≡ Ok w = kept t path u v q A.exchanged far ∙ e in
    record {
      before = record { start = offset t q; len = length (enc w) };
      after = record { start = offset v q; len = length (enc w) };
      was = walk-there (take n b) t A.sheet q w e;
      is = walk-there (take (length (enc v)) c) v L.strict q w f;
      same =
          cut-front c (length (enc v)) (enc w) (offset v q) (lies_there (take (length (enc v)) c) v L.strict q w f)
          ∙ sym (cut-front b n (enc w) (offset t q) (lies_there (take n b) t A.sheet q w e));
    }

-- ---- the tables

pub examples_are_answered : ExamplesAreAnswered
unfolding also unless be_value be_from be_up_to be header itself enc encs depth deepest exchange exchange_in long_header header_of size within payload_info spare part is_list is_spare value_of item_of front row contents whole tree fitting new_tree after amended refusal_in gives refuses size_in same_bytes meets answered p6 examples
examples_are_answered = tt

pub refusals_stand_in_order : RefusalsStandInOrder
unfolding also unless be_value be_from be_up_to be header itself enc encs depth deepest exchange exchange_in long_header header_of size within payload_info spare part is_list is_spare value_of item_of front row contents whole tree fitting new_tree after amended refusal_in gives refuses size_in same_bytes meets answered nest order
refusals_stand_in_order = tt

pub claimed : Claimed
claimed =
    record {
      answers_are_determined = answers_are_determined;
      promises_are_of_the_answer = promises_are_of_the_answer;
      refusals_keep_the_buffer = refusals_keep_the_buffer;
      accepted_exactly = accepted_exactly;
      large_is_12 = large_is_12;
      length_past_the_buffer_is_1 = length_past_the_buffer_is_1;
      the_sheets_refusal = the_sheets_refusal;
      the_replacements_refusal = the_replacements_refusal;
      no_item_is_19 = no_item_is_19;
      deep_is_11 = deep_is_11;
      full_is_13 = full_is_13;
      the_sheet_is_exchanged = the_sheet_is_exchanged;
      walk_finds_the_item = walk_finds_the_item;
      other_items_keep_their_bytes = other_items_keep_their_bytes;
      examples_are_answered = examples_are_answered;
      refusals_stand_in_order = refusals_stand_in_order;
    }
