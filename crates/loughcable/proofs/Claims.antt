-- The claims of specs/Claims.antt, proved. Assumes nothing.
use Rattle.std.specs.Prelude.{Ok, Err}
use mathlib.Core.Path.{◌≡◌, refl, sym, ap, ◌∙◌}
use mathlib.Core.Bool.{Bool, true, false, ◌&&◌}
use mathlib.Core.Logic.{inl, inr}
use Prim.Native.Nat.{ℕ, suc, ◌+◌, ◌≤◌, ◌<◌}
use native.Mathlib.Omega.{arith}
use native.Mathlib.Nat.{sub_self}
use mathlib.Core.List.{List, [], ◌∷◌}
use lib.Dec.{ltb, leb, eqb}
use lib.ListN.{length}
use Rattle.rlp.specs.declared.Refusal.{Refusal}
use Rattle.rlp.specs.declared.Refusal.TheVariants.{TooLarge, StateMismatch}
use Rattle.rlp.specs.Refusals.{number_of, Or, also, unless}
use Rattle.rlp.specs.Limits.{limit}
use Rattle.rlp.specs.Tree.{Item, Items}
use Rattle.rlp.proofs.Tests.{by_test, is_le, not_le, is_eq, not_eq}
use Rattle.rlp.proofs.Answers.{refused-got, refused_inj, unless-true, unless-false}
use Rattle.rlp.proofs.Claims.{numbers_are_names}
use Rattle.header.specs.declared.PayloadInfo.{PayloadInfo}
use Rattle.value.specs.declared.Part.{Part}
use Rattle.list.specs.declared.kinds.Prototype.{Prototype}
use Rattle.list.specs.declared.kinds.Prototype.TheVariants as prototype
use Rattle.list.specs.Walk as walk
use Rattle.strict.specs.declared.Tally.{Tally}
use Rattle.strict.specs.Strict as strict
use Rattle.encode.specs.Put.{put}
use Rattle.encode.specs.Encode.{wrote, encoded}
use Rattle.amend.specs.Amend as amend
use Rattle.stream.specs.declared.Stream.{Stream}
use Rattle.stream.specs.State.{up_to, list_at, opens_in, state_of, total, View, view, placed, stored, kept_most, laid, sound, matches}
use Rattle.stream.specs.Stream.{new_of, begun, level, Call, begin, raw, lent, own, roomed, answer, After, after, called}
use Rattle.stream.specs.Sizes.{estimate_of, unless_over, checked}
use Rattle.stream.proofs.Answered.{guarded_on, called_unchanged, called_large, checked_either}
use Rattle.stream.proofs.Looking.{looks_large, estimate_large}
use Rattle.loughcable.specs.Answers.{yes_no, truth_of, answered, asked, informed, situated, found, prototyped, tallied, Filled, fills, written, exchanged}
use Rattle.loughcable.specs.Crossing.{size, Full, laid_out, numbers, stream_in, state_in, misfit, fitting, Crossed, leaves, numbers_after, in_numbers, across, crossed, crossed_checked, new_after, crossed_new, crossed_new_list}
use Rattle.loughcable.specs.Claims.{AnswersAreDetermined, PromisesAreOfTheAnswer, Numbered, RefusalsAreNumbered, FieldsAreWhatWasAnswered, KindsAreNumbered, TruthsAreNumbers, RefusedFieldsAre0, WritingIsTheCall, RefusalsKeepTheBuffer, NumbersStandInOrder, NumbersAreTheState, told, CrossingIsTheMethod, SeesAs, LookingIsTheMethod, new_numbers, first_only, list_numbers, NewStartsWhereAsked, NewListIsNewThenBegin, NewListStandsAtTheStart, Unchanged, RefusalsChangeNothing, LooksAre20, WrongLengthIs20, LooksRefused, Over, LargeIs12, Claimed}
use Rattle.loughcable.proofs.Numbers.{in_numbers_lem, numbers_in, numbers-long, full-new}
use Rattle.loughcable.proofs.Crossings.{new_made}

-- ---- the answers

pub answers_are_determined : AnswersAreDetermined
unfolding fills leaves
answers_are_determined = (
  λ d r q b c e f. (ap (λ (x : Filled). x.answer) (e ∙ sym f), ap (λ (x : Filled). x.buffer) (e ∙ sym f)),
  λ d r q ns ms b c e f. (ap (λ (x : Crossed). x.answer) (e ∙ sym f), ap (λ (x : Crossed). x.state) (e ∙ sym f), ap (λ (x : Crossed). x.buffer) (e ∙ sym f)),
)

pub promises_are_of_the_answer : PromisesAreOfTheAnswer
unfolding fills leaves
promises_are_of_the_answer = (λ r b. (refl, refl), λ r ns b. (refl, refl, refl))

got_numbered : {A : Type 0} (a : A) → Numbered (Ok a) 0
got_numbered a = record { accepted = λ x p. refl; denied = λ e p. absurd (refused-got (sym p)) }

refused_numbered : {A : Type 0} (e : Refusal) → Numbered {A = A} (Err e) (number_of e)
refused_numbered e =
    let n = numbers_are_names e e in
    record { accepted = λ x p. absurd (refused-got p); denied = λ d p. (ap number_of (refused_inj p), n.0, n.1) }

answer_numbered : (o : Or ℕ) → Numbered o (answered o).refusal
unfolding answered
answer_numbered (Err e) = refused_numbered e
answer_numbered (Ok a) = got_numbered a

asked_numbered : (o : Or Bool) → Numbered o (asked o).refusal
unfolding asked answered
asked_numbered (Err e) = refused_numbered e
asked_numbered (Ok a) = got_numbered a

info_numbered : (o : Or PayloadInfo) → Numbered o (informed o).refusal
unfolding informed
info_numbered (Err e) = refused_numbered e
info_numbered (Ok a) = got_numbered a

spot_numbered : (o : Or Part) → Numbered o (situated o).refusal
unfolding situated
spot_numbered (Err e) = refused_numbered e
spot_numbered (Ok a) = got_numbered a

find_numbered : (a : walk.Answer) → Numbered a.place (found a).refusal
unfolding found
find_numbered a = spot_numbered a.place

kind_numbered : (o : Or Prototype) → Numbered o (prototyped o).refusal
unfolding prototyped
kind_numbered (Err e) = refused_numbered e
kind_numbered (Ok prototype.Null) = got_numbered prototype.Null
kind_numbered (Ok (prototype.Data n)) = got_numbered (prototype.Data n)
kind_numbered (Ok (prototype.List n)) = got_numbered (prototype.List n)

count_numbered : (o : Or Tally) → Numbered o (tallied o).refusal
unfolding tallied
count_numbered (Err e) = refused_numbered e
count_numbered (Ok a) = got_numbered a

pub refusals_are_numbered : RefusalsAreNumbered
refusals_are_numbered = (answer_numbered, asked_numbered, info_numbered, spot_numbered, find_numbered, kind_numbered, count_numbered)

pub fields_are_what_was_answered : FieldsAreWhatWasAnswered
unfolding answered asked informed situated found tallied
fields_are_what_was_answered =
    (λ n. refl, λ t. refl, λ p. (refl, refl), λ p. (refl, refl), λ a p e. rw e (refl, refl), λ a. (refl, refl), λ t. (refl, refl))

pub kinds_are_numbered : KindsAreNumbered
unfolding prototyped
kinds_are_numbered = (refl, refl, λ n. (refl, refl), λ n. (refl, refl))

pub truths_are_numbers : TruthsAreNumbers
unfolding yes_no truth_of
truths_are_numbers = (refl, refl, refl, λ n. refl)

pub refused_fields_are_0 : RefusedFieldsAre0
unfolding answered asked informed situated prototyped tallied found walk.cached_answer walk.cache_after
refused_fields_are_0 e =
    (refl, refl, refl, refl, refl, refl, refl, refl, refl, refl, λ b c i p. rw p (refl, refl, refl, refl))

-- ---- one encoding, and an amending

pub writing_is_the_call : WritingIsTheCall
unfolding written exchanged
writing_is_the_call = (λ w. (refl, refl), λ a. (refl, refl))

wrote_keeps : (b : List ℕ) (o : Or (List ℕ)) → ((answered (wrote b o).answer).refusal ≡ 0 → ⊥) → (wrote b o).buffer ≡ b
unfolding wrote answered
wrote_keeps b (Err e) h = refl
wrote_keeps b (Ok x) h = absurd (h refl)

after_keeps : (b : List ℕ) (n : ℕ) (o : Or Item) → ((answered (amend.after b n o).answer).refusal ≡ 0 → ⊥) → (amend.after b n o).buffer ≡ b
unfolding amend.after answered
after_keeps b n (Err e) h = refl
after_keeps b n (Ok v) h = absurd (h refl)

pub refusals_keep_the_buffer : RefusalsKeepTheBuffer
unfolding written exchanged encoded amend.amended
refusals_keep_the_buffer b n = (λ t. wrote_keeps b _, λ path new. after_keeps b n (amend.new_tree b n path new))

-- ---- the stream's state

pub numbers_stand_in_order : NumbersStandInOrder
unfolding numbers laid_out
numbers_stand_in_order s = refl

pub numbers_are_the_state : NumbersAreTheState
numbers_are_the_state = (in_numbers_lem, numbers_in)

module _ (s : Stream) (f : Full s) (b : List ℕ) where
  across-told : (n : ℕ) (a : After) → in_numbers (numbers s) a ≡ told a → across (numbers s) b n a ≡ told a
  unfolding across
  across-told n a h = rw (is_eq (numbers-long s f)) h

  after-told : (o : Or View) → in_numbers (numbers s) (after s b o) ≡ told (after s b o)
  unfolding after in_numbers numbers_after told
  after-told (Err e) = refl
  after-told (Ok v) = refl

  called-told : (c : Call) → in_numbers (numbers s) (called s b c) ≡ told (called s b c)
  unfolding called
  called-told c = after-told (answer (state_of s) b c)

  over_told : (x : List ℕ) (n most : ℕ) (o : Or ℕ) → in_numbers (numbers s) (unless_over s b x n o most) ≡ told (unless_over s b x n o most)
  unfolding unless_over in_numbers numbers_after told
  over_told x n most (Err e) = refl
  over_told x n most (Ok k) = by_test (ltb most k) (λ t. rw t) (λ t. rw t (called-told (raw x n)))

  crossed-told : (c : Call) → crossed (numbers s) b c ≡ told (called s b c)
  unfolding crossed
  crossed-told c = rw (in_numbers_lem s f) (across-told (length (lent c)) (called s b c) (called-told c))

  checked-told : (x : List ℕ) (n most : ℕ) → crossed_checked (numbers s) b x n most ≡ told (checked s b x n most)
  unfolding crossed_checked checked
  checked-told x n most =
      rw (in_numbers_lem s f) (across-told (length x) (checked s b x n most) (over_told x n most (estimate_of (state_of s) (length b) (length x))))

pub crossing_is_the_method : CrossingIsTheMethod
crossing_is_the_method s f b = (crossed-told s f b, checked-told s f b)

sees_as : {A : Type 0} → SeesAs A
unfolding fitting state_in
sees_as s f room n o = rw (in_numbers_lem s f) (unless-true (misfit room n) (o (state_of s)) (is_eq (numbers-long s f)))

pub looking_is_the_method : LookingIsTheMethod
looking_is_the_method = (sees_as, sees_as)

-- ---- a new stream

new-numbers : (at : ℕ) → new_numbers at ≡ numbers (new_of at)
unfolding new_numbers numbers laid_out
new-numbers at = refl

pub new_starts_where_asked : NewStartsWhereAsked
unfolding asked yes_no
new_starts_where_asked at = (λ ns h. sym (rw (new-numbers at) (new_made ns at h)), sym (new-numbers at))

module _ (ns b : List ℕ) (at : ℕ) (h : length ns ≡ size) where
  list-across : (most : ℕ) → crossed_new_list ns b at most ≡ in_numbers ns (called (new_of at) b (begin most))
  unfolding crossed_new_list across
  list-across most = rw (is_eq h)

  begun-told : (most : ℕ) → crossed (new_numbers at) b (begin most) ≡ told (called (new_of at) b (begin most))
  begun-told most = rw (new-numbers at) (crossed-told (new_of at) (full-new at) b (begin most))

  accepted-told : (a : After) (o : Or Bool) → a.answer ≡ o → (asked o).refusal ≡ 0 → in_numbers ns a ≡ told a
  unfolding in_numbers numbers_after told asked answered
  accepted-told a (Err e) p z = absurd (omega (arith, z, (numbers_are_names e e).0))
  accepted-told a (Ok t) p z = rw p

  list-accepted : (most : ℕ) → (crossed_new_list ns b at most).answer.refusal ≡ 0 → crossed_new_list ns b at most ≡ crossed (new_numbers at) b (begin most)
  unfolding in_numbers
  list-accepted most z =
      let a = called (new_of at) b (begin most) in
      list-across most
      ∙ accepted-told a a.answer refl (sym (ap (λ (x : Crossed). x.answer.refusal) (list-across most)) ∙ z)
      ∙ sym (begun-told most)

  list-answered : (most : ℕ) → (crossed_new_list ns b at most).answer ≡ (crossed (new_numbers at) b (begin most)).answer
  unfolding in_numbers told
  list-answered most = ap (λ (x : Crossed). x.answer) (list-across most) ∙ sym (ap (λ (x : Crossed). x.answer) (begun-told most))

  module _ (n : ℕ) (small : length b ≤ limit) (inside : at < length b) where
    -- what is shown once its list is open
    abbrev listed : View
    listed = record { opens = list_at 1 0 (up_to (suc n)) ∷ []; written = 0 ∷ [] }

    new-view : view (state_of (new_of at)) b ≡ record { opens = []; written = [] }
    unfolding view state_of opens_in total
    new-view = rw (sub_self at)

    new-matches : matches (state_of (new_of at)) (length b) ≡ true
    unfolding matches state_of opens_in sound
    new-matches = rw (is_le {a = at} {b = at} (omega arith), is_le {a = at} {b = length b} (omega arith))

    list-own : own (begin (suc n)) (record { opens = []; written = [] }) ≡ Ok listed
    unfolding own level begun unless
    list-own = refl

    list-roomed : roomed at (length b) listed ≡ Ok listed
    unfolding roomed
    list-roomed = unless-true _ _ (is_le {a = at + 1} {b = length b} (omega arith))

    list-answer : answer (state_of (new_of at)) b (begin (suc n)) ≡ Ok listed
    unfolding answer lent also state_of
    list-answer =
        guarded_on (state_of (new_of at)) (length b) 0 _ small (omega arith) new-matches
        ∙ rw (new-view, list-own) list-roomed

    list_stands : in_numbers ns (called (new_of at) b (begin (suc n))) ≡ leaves (answered (Ok 1)) (list_numbers at (suc n)) (put b at (0 ∷ []))
    unfolding called after in_numbers numbers_after asked yes_no leaves stored placed kept_most laid numbers laid_out list_numbers first_only
    list_stands =
        let e : at + 1 ≡ suc at = omega arith in
        rw (list-answer, e)

pub new_list_is_new_then_begin : NewListIsNewThenBegin
new_list_is_new_then_begin ns b at most h = (list-answered ns b at h most, list-accepted ns b at h most)

pub new_list_stands_at_the_start : NewListStandsAtTheStart
new_list_stands_at_the_start ns b at n h small inside = list-across ns b at h (suc n) ∙ list_stands ns b at h n small inside

-- ---- its refusals

-- a call that was refused kept the buffer
unfoldable Keeps : List ℕ → After → Type 0
Keeps b a = (e : Refusal) → a.answer ≡ Err e → a.buffer ≡ b

module _ (ns b : List ℕ) where
  refused_in : (a : After) (o : Or Bool) → a.answer ≡ o → Keeps b a → ((asked o).refusal ≡ 0 → ⊥) → Unchanged ns b (in_numbers ns a)
  unfolding Keeps in_numbers numbers_after asked answered
  refused_in a (Err e) p k h = record { state = rw p; buffer = k e p }
  refused_in a (Ok t) p k h = absurd (h refl)

  across-refused : (n : ℕ) (a : After) → Keeps b a → ((across ns b n a).answer.refusal ≡ 0 → ⊥) → Unchanged ns b (across ns b n a)
  unfolding across in_numbers asked
  across-refused n a k h =
      by_test (eqb (length ns) size)
      (λ t. rw t (refused_in a a.answer refl k (inside t)))
      (λ t. rw t (record { state = refl; buffer = refl }))
    where
      inside : eqb (length ns) size ≡ true → (asked a.answer).refusal ≡ 0 → ⊥
      inside t z = h (rw t z)

module _ (s : Stream) (b : List ℕ) where
  called_keeps : (c : Call) → Keeps b (called s b c)
  unfolding Keeps
  called_keeps c e p = (called_unchanged s b c (λ q. refused-got (sym p ∙ q))).buffer

  checked_keeps : (x : List ℕ) (n most : ℕ) → Keeps b (checked s b x n most)
  unfolding Keeps
  checked_keeps x n most e p =
      checked_either s b x n most (λ a. a.answer ≡ Err e → a.buffer ≡ b) (λ q. refl) (λ q. called_keeps (raw x n) e q) p

pub refusals_change_nothing : RefusalsChangeNothing
unfolding crossed crossed_checked crossed_new_list crossed_new Keeps
refusals_change_nothing ns b = (
  λ c. across-refused ns b (length (lent c)) (called (stream_in ns) b c) (called_keeps (stream_in ns) b c),
  λ x n most. across-refused ns b (length x) (checked (stream_in ns) b x n most) (checked_keeps (stream_in ns) b x n most),
  λ at most. across-refused ns b 0 (called (new_of at) b (begin most)) (called_keeps (new_of at) b (begin most)),
  λ at h. (across-refused ns [] 0 (new_after at) (λ e p. refl) h).state,
)

misfit_20 : (room n : ℕ) → room ≤ limit → n ≤ limit → misfit room n ≡ StateMismatch
unfolding misfit
misfit_20 room n h k = rw (is_le h, is_le k)

module _ (ns b : List ℕ) (h : length ns ≡ size → ⊥) where
  across_20 : (n : ℕ) (a : After) → length b ≤ limit → n ≤ limit → (across ns b n a).answer ≡ answered (Err StateMismatch)
  unfolding across
  across_20 n a k l = rw (not_eq h, misfit_20 (length b) n k l)

  looks_20 : {A : Type 0} → length b ≤ limit → LooksAre20 ns (length b) A
  unfolding fitting unless
  looks_20 k n o l = rw (not_eq h, misfit_20 (length b) n k l)

pub wrong_length_is_20 : WrongLengthIs20
unfolding crossed crossed_checked crossed_new_list crossed_new
wrong_length_is_20 ns b h k = (
  λ c l. across_20 ns b h (length (lent c)) (called (stream_in ns) b c) k l,
  λ x n most l. across_20 ns b h (length x) (checked (stream_in ns) b x n most) k l,
  λ at most. across_20 ns b h 0 (called (new_of at) b (begin most)) k (omega arith),
  λ at. across_20 ns [] h 0 (new_after at) (omega arith) (omega arith),
  looks_20 ns b h k,
  looks_20 ns b h k,
)

-- ---- 12

over_test : (m n : ℕ) → Over m n → leb m limit && leb n limit ≡ false
over_test m n (inl h) = rw (not_le h)
over_test m n (inr h) = by_test (leb m limit) (λ t. rw (t, not_le h)) (λ t. rw t)

misfit_12 : (room n : ℕ) → Over room n → misfit room n ≡ TooLarge
unfolding misfit
misfit_12 room n h = rw (over_test room n h)

checked_large : (s : Stream) (b x : List ℕ) (n most : ℕ) → Over (length b) (length x) → (checked s b x n most).answer ≡ Err TooLarge
unfolding checked unless_over
checked_large s b x n most h =
    ap (λ (o : Or ℕ). (unless_over s b x n o most).answer) (estimate_large (state_of s) (length b) (length x) h)

module _ (ns : List ℕ) where
  across_12 : (b : List ℕ) (n : ℕ) (a : After) → Over (length b) n → a.answer ≡ Err TooLarge → (across ns b n a).answer ≡ answered (Err TooLarge)
  unfolding across in_numbers asked
  across_12 b n a h p =
      by_test (eqb (length ns) size)
      (λ t. rw (t, p))
      (λ t. rw (t, misfit_12 (length b) n h))

  fitting_12 : {A : Type 0} (room n : ℕ) (o : Or A) → Over room n → o ≡ Err TooLarge → fitting ns room n o ≡ Err TooLarge
  unfolding fitting unless
  fitting_12 room n o h p =
      by_test (eqb (length ns) size)
      (λ t. rw (t, p))
      (λ t. rw (t, misfit_12 room n h))

  looks_12 : (room : ℕ) → limit < room → LooksRefused ns room TooLarge
  looks_12 room h =
      let l = looks_large (state_in ns) room h in
      record {
        finished = fitting_12 room 0 _ (inl h) l.finished;
        raw = fitting_12 room 0 _ (inl h) l.raw;
        out = fitting_12 room 0 _ (inl h) l.out;
        len = fitting_12 room 0 _ (inl h) l.len;
        empty = fitting_12 room 0 _ (inl h) l.empty;
      }

pub large_is_12 : LargeIs12
unfolding crossed crossed_checked crossed_new_list written exchanged encoded wrote amend.amended amend.after amend.new_tree strict.strict strict.tree strict.strict_items strict.row_tree also
large_is_12 ns b = (
  λ c h. across_12 ns b (length (lent c)) (called (stream_in ns) b c) h (called_large (stream_in ns) b c h),
  λ x n most h. across_12 ns b (length x) (checked (stream_in ns) b x n most) h (checked_large (stream_in ns) b x n most h),
  λ at most h. across_12 ns b 0 (called (new_of at) b (begin most)) (inl h) (called_large (new_of at) b (begin most) (inl h)),
  λ n h. fitting_12 ns (length b) n (estimate_of (state_in ns) (length b) n) h (estimate_large (state_in ns) (length b) n h),
  looks_12 ns (length b),
  λ n t h. ap (λ (o : Or (List ℕ)). answered (wrote b o).answer) (unless-false TooLarge _ (over_test (length b) n h)),
  λ n path new h. ap (λ (o : Or Item). answered (amend.after b n o).answer) (unless-false TooLarge _ (over_test (length b) (length new) h)),
  λ h. ap (λ (o : Or Item). tallied (also o (λ t. Ok (strict.tally_of t)))) (unless-false TooLarge _ (not_le h)),
  λ h. ap (λ (o : Or Items). tallied (also o (λ l. Ok (strict.row_tally_of l)))) (unless-false TooLarge _ (not_le h)),
)

-- ---- all of it

pub claimed : Claimed
claimed =
    record {
      answers_are_determined = answers_are_determined;
      promises_are_of_the_answer = promises_are_of_the_answer;
      refusals_are_numbered = refusals_are_numbered;
      fields_are_what_was_answered = fields_are_what_was_answered;
      kinds_are_numbered = kinds_are_numbered;
      truths_are_numbers = truths_are_numbers;
      refused_fields_are_0 = refused_fields_are_0;
      writing_is_the_call = writing_is_the_call;
      refusals_keep_the_buffer = refusals_keep_the_buffer;
      numbers_stand_in_order = numbers_stand_in_order;
      numbers_are_the_state = numbers_are_the_state;
      crossing_is_the_method = crossing_is_the_method;
      looking_is_the_method = looking_is_the_method;
      new_starts_where_asked = new_starts_where_asked;
      new_list_is_new_then_begin = new_list_is_new_then_begin;
      new_list_stands_at_the_start = new_list_stands_at_the_start;
      refusals_change_nothing = refusals_change_nothing;
      wrong_length_is_20 = wrong_length_is_20;
      large_is_12 = large_is_12;
    }
