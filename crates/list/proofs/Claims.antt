-- The claims of specs/Claims.antt, proved. Assumes nothing.
use Rattle.std.specs.Prelude.{Ok, Err}
use mathlib.Core.Path.{◌≡◌, refl, sym, ap, ◌∙◌}
use mathlib.Core.Bool.{Bool, true, ◌||◌, false≢true}
use mathlib.Core.Logic.{◌⊎◌, inl, inr}
use Prim.Native.Nat.{ℕ, suc, ◌+◌, ◌-◌, ◌≤◌, ◌<◌}
use native.Mathlib.Omega.{arith}
use mathlib.Core.List.{List, [], ◌∷◌, ◌++◌}
use lib.Dec.{eqb}
use lib.ListN.{length, take, drop}
use lib.Seq.{drop_at}
use Rattle.std.proofs.lemmas.List.{drop-take}
use borrow.Author.Tests.{eqb-true}
use Rattle.rlp.specs.declared.Refusal.{Refusal}
use Rattle.rlp.specs.declared.Refusal.TheVariants.{RlpIsTooShort}
use Rattle.rlp.specs.Refusals.{Or, also, unless}
use Rattle.rlp.specs.Bytes.{be_from, be_value}
use Rattle.rlp.specs.Promises.{said, refusal_in, try, all_refuse}
use Rattle.rlp.proofs.Tests.{is_lt, not_lt, is_le, not_le, is_eq, not_eq, by_lt, by_eq}
use Rattle.rlp.proofs.Answers.{refused_inj, also-got, determined}
use Rattle.header.specs.Header.{long_header, header_of, size, within, payload_info}
use Rattle.value.specs.declared.Part.{Part}
use Rattle.value.specs.Value.{data_at, part}
use Rattle.list.specs.declared.OffsetCache.{OffsetCache}
use Rattle.list.specs.declared.Found.{Found}
use Rattle.list.specs.declared.kinds.Prototype.TheVariants as prototype
use Rattle.list.specs.Kinds.{is_null, is_empty, is_list, is_data, is_set, is_int, value_in, size_of}
use Rattle.list.specs.Walk.{item_then, row_from, nth, count_in, payload_at, row_in, item_count, item_at, item_within, prototype_of, rest_at, cached_at, cache_after, Answer, found_says, cached_answer}
use Rattle.list.specs.Claims.{AnswersAreDetermined, PromisesAreOfTheAnswer, FirstBytesTell, IntsBeginWithNoZero, SizesAreOfData, PrototypesTell, RefusalsKeepThePlace, ItemsLieInARow, RowsAreFronts, CountsAreExact, CountsMeetTheFirstRefusal, IndexesBelowTheCount, Right, PlacesGiveTheFreshAnswer, NextPlacesToo, StepsWalkTheList, StepsAreHeaders, WalksStartAtThePlace, RefusalsLast, ListsAreAskedFor, ItemsOfEncoding, CountOfEncoding, order, OrderOfRefusals, Claimed}
use Rattle.list.proofs.Asked.{found_of_said, payload-list, payload-other, payload_inside, count-refused, count-got, at_refused, at_got, proto_data, proto_refused, proto_list, proto_null, rest-before, rest-behind, rest-within, within-behind, within_outside, within-there, cached_fresh, cached_refused, cached_rest}
use Rattle.list.proofs.FirstBytes.{int_small, int_short, int_long, int_list, set-none, list_no_data}
use Rattle.list.proofs.Rows.{row-none, row-front, row_first, row-first-refused, nth-refused, Rest}
use Rattle.list.proofs.Items.{arrives_within, item_arrived, item_prior, item-payload, cached_right, cached_next, step-first, step-next, whole-count, counted-whole, count-refusal, count-nth}
use Rattle.list.proofs.Encodings.{count_of, item_of, item-bytes}

found_back : (f : Found) → found_of_said (found_says f) ≡ f
unfolding found_says found_of_said
found_back f = refl

pub answers_are_determined : AnswersAreDetermined
unfolding said
answers_are_determined = (
  determined said said (λ t. refl),
  determined said said (λ p. refl),
  determined said said (λ n. refl),
  determined found_says found_of_said found_back,
)

pub promises_are_of_the_answer : PromisesAreOfTheAnswer
unfolding said found_says
promises_are_of_the_answer t p n f = (refl, refl, refl, refl, refl)

-- ---- what an item is

pub first_bytes_tell : FirstBytesTell
unfolding is_null is_empty is_data is_list is_int
first_bytes_tell = (refl, refl, refl, refl, refl, λ x r. (refl, is-empty x r, empty-is x r, λ h. (is_lt h, not_le h), λ h. (not_lt h, is_le h)))
  where
    is-empty : (x : ℕ) (r : List ℕ) → is_empty (x ∷ r) ≡ true → (x ≡ 0x80) ⊎ (x ≡ 0xc0)
    is-empty x r e = by_eq x 0x80 inl (λ n. inr (eqb-true x 0xc0 (sym (ap (λ (t : Bool). t || eqb x 0xc0) (not_eq n)) ∙ e)))

    empty-is : (x : ℕ) (r : List ℕ) → (x ≡ 0x80) ⊎ (x ≡ 0xc0) → is_empty (x ∷ r) ≡ true
    empty-is x r (inl e) = ap (λ (t : Bool). t || eqb x 0xc0) (is_eq e)
    empty-is x r (inr e) = ap (λ (t : Bool). t || eqb x 0xc0) (not_eq {a = x} {b = 0x80} (λ z. absurd (omega arith))) ∙ is_eq e

pub ints_begin_with_no_zero : IntsBeginWithNoZero
unfolding is_set
ints_begin_with_no_zero x y k r = (
  int_small x r,
  λ a h. (int_short x [] a h, int_short x (y ∷ r) a h),
  λ a h. (λ c. int_long x k a h ∙ sym (set-none k (x - 0xb7) c), λ e. int_long x (k ++ (y ∷ r)) a h ∙ ap is_set (drop_at k (y ∷ r) (x - 0xb7) e)),
  int_list x r,
)

pub sizes_are_of_data : SizesAreOfData
unfolding size_of value_in
sizes_are_of_data b = (λ d. (λ p e. rw (d, e), λ f e. rw (d, e)), λ d. rw d)

pub prototypes_tell : PrototypesTell
unfolding is_null
prototypes_tell b = (
  nothing b,
  λ d. sym (proto_data b d),
  λ l. let d = list_no_data b l in (λ n c. sym (proto_list b d n l c), λ e c. sym (proto_refused b d e l c)),
)
  where
    nothing : (b : List ℕ) → is_null b ≡ true → prototype_of b ≡ Ok prototype.Null
    nothing [] e = sym (proto_null [] first_bytes_tell.2 first_bytes_tell.3)
    nothing (x ∷ b) e = absurd (false≢true e)

-- ---- items

pub refusals_keep_the_place : RefusalsKeepThePlace
unfolding cached_answer cache_after
refusals_keep_the_place b c i e h = ap (cache_after c i) h

pub items_lie_in_a_row : ItemsLieInARow
items_lie_in_a_row b i p q h e =
    let A = item_arrived b p h i q e in
    (A.0.from, A.0.some, A.1, A.0.first, λ j r z f. item_prior b p h i j q r e f z)

pub rows_are_fronts : RowsAreFronts
rows_are_fronts at = (row-none at [] refl, row-front at)

pub counts_are_exact : CountsAreExact
unfolding row_in
counts_are_exact b n p h = (
  λ e. counted-whole (length (part b p)) p.start (part b p) n (omega arith) (count-got b p h ∙ e),
  λ w. sym (count-got b p h) ∙ whole-count p.start n (part b p) w,
)

pub counts_meet_the_first_refusal : CountsMeetTheFirstRefusal
counts_meet_the_first_refusal b e q = go (payload_at b) refl
  where
    go : (o : Or Part) → payload_at b ≡ o → (i : ℕ) × (item_at b i ≡ Err e)
    go (Err d) h = (0, sym (at_refused b 0 d h) ∙ ap Err (refused_inj (count-refused b d h ∙ q)))
    go (Ok p) h = let r = count-refusal (row_in b p) e (count-got b p h ∙ q) in (r.0, sym (at_got b r.0 p h) ∙ r.1)

pub indexes_below_the_count : IndexesBelowTheCount
unfolding item_count
indexes_below_the_count b n i e =
    let a = also-got (payload_at b) (λ p. count_in (row_in b p)) n e in
    let r = count-nth (row_in b a.0) n i a.2 in
    let z = at_got b i a.0 a.1 in
    (λ l. let q = r.0 l in (q.0, sym z ∙ q.1), λ l. sym z ∙ r.1 l)

pub places_give_the_fresh_answer : PlacesGiveTheFreshAnswer
unfolding cached_answer cache_after
places_give_the_fresh_answer b c i R =
    let p = item-payload b c.index R.item R.found in
    let f : cached_at b c i ≡ item_at b i = cached_right b p.0 p.1 c i R.item R.found R.there in
    (f, kept (cached_at b c i) f)
  where
    kept : (o : Or Part) → o ≡ item_at b i → Right b (cache_after c i o)
    kept (Ok q) f = record { item = q; found = sym f; there = refl }
    kept (Err e) f = R

pub next_places_too : NextPlacesToo
next_places_too b i j q e l = let p = item-payload b i q e in cached_next b p.0 p.1 i j q e l

pub steps_walk_the_list : StepsWalkTheList
steps_walk_the_list b p h = (step-first b p h, λ i q e. step-next b p h i q e)

pub steps_are_headers : StepsAreHeaders
steps_are_headers b from end = (
  λ h k. (
    λ p e. sym (within-there b from end h k) ∙ row_first from (drop from (take end b)) p (ap payload_info (between h) ∙ e),
    λ e q. sym (within-there b from end h k) ∙ row-first-refused from (drop from (take end b)) e (ap payload_info (between h) ∙ q),
  ),
  outside,
)
  where
    between : from ≤ end → drop from (take end b) ≡ take (end - from) (drop from b)
    between h = let z : from + (end - from) ≡ end = omega arith in ap (λ (k : ℕ). drop from (take k b)) (sym z) ∙ drop-take from (end - from) b

    outside : (end < from) ⊎ (length b < end) → item_within b from end ≡ Err RlpIsTooShort
    outside (inl h) = sym (within-behind b from end h)
    outside (inr h) = sym (within_outside b from end h)

-- the walk from a place in the payload
module _ (b : List ℕ) (p : Part) (c : OffsetCache) (there : payload_at b ≡ Ok p) where
  bound : ℕ
  bound = p.start + p.len

  outside_place : (i : ℕ) → c.index ≤ i → (c.offset < p.start) ⊎ (p.start + p.len < c.offset) → cached_at b c i ≡ Err RlpIsTooShort
  outside_place i h (inl k) = sym (cached_rest b c i p h there) ∙ sym (rest-before b c.offset (i - c.index) p k)
  outside_place i h (inr k) = sym (cached_rest b c i p h there) ∙ sym (rest-behind b c.offset (i - c.index) p k)

  module _ (from : p.start ≤ c.offset) (upto : c.offset ≤ p.start + p.len) where
    walked : (i : ℕ) → c.index ≤ i → cached_at b c i ≡ nth (Rest (take bound b) c.offset) (i - c.index)
    unfolding bound
    walked i h = sym (cached_rest b c i p h there) ∙ sym (rest-within b c.offset (i - c.index) p from upto)

    further : (i : ℕ) → c.index ≤ i → cached_at b c (suc i) ≡ nth (Rest (take bound b) c.offset) (suc (i - c.index))
    further i h = walked (suc i) (omega arith) ∙ ap (nth (Rest (take bound b) c.offset)) (omega arith)

    first_step : cached_at b c c.index ≡ item_within b c.offset bound
    unfolding bound
    first_step =
        let z : c.index - c.index ≡ 0 = omega arith in
        walked c.index (omega arith) ∙ ap (nth (Rest (take bound b) c.offset)) z ∙ within-there b c.offset bound upto (payload_inside b p there)

    next-step : (i : ℕ) (q : Part) → c.index ≤ i → cached_at b c i ≡ Ok q → cached_at b c (suc i) ≡ item_within b (q.start + q.len) bound
    unfolding bound
    next-step i q h e =
        let A = arrives_within b bound c.offset (i - c.index) q upto (payload_inside b p there) (sym (walked i h) ∙ e) in
        let z : suc (i - c.index) ≡ suc (i - c.index + 0) = omega arith in
        further i h ∙ ap (nth (Rest (take bound b) c.offset)) z ∙ A.0.past 0 ∙ within-there b (q.start + q.len) bound A.1 (payload_inside b p there)

    refused_on : (i : ℕ) (e : Refusal) → c.index ≤ i → cached_at b c i ≡ Err e → cached_at b c (suc i) ≡ Err e
    refused_on i e h q = further i h ∙ nth-refused (Rest (take bound b) c.offset) (i - c.index) e (sym (walked i h) ∙ q)

pub walks_start_at_the_place : WalksStartAtThePlace
unfolding bound
walks_start_at_the_place b p c h = (
  λ f u. (first_step b p c h f u, next-step b p c h f u, refused_on b p c h f u),
  outside_place b p c h,
  λ i l. sym (cached_fresh b c i l),
)

pub refusals_last : RefusalsLast
refusals_last b i e q = go (payload_at b) refl
  where
    go : (o : Or Part) → payload_at b ≡ o → item_at b (suc i) ≡ Err e
    go (Err d) h = sym (at_refused b (suc i) d h) ∙ at_refused b i d h ∙ q
    go (Ok p) h = sym (at_got b (suc i) p h) ∙ nth-refused (row_in b p) i e (at_got b i p h ∙ q)

pub lists_are_asked_for : ListsAreAskedFor
lists_are_asked_for b = (
  λ l. sym (payload-other b l),
  λ l. sym (payload-list b l),
  λ e h. (
    sym (count-refused b e h),
    λ i. sym (at_refused b i e h),
    λ c i. by_lt i c.index
        (λ l. sym (cached_fresh b c i l) ∙ sym (at_refused b i e h))
        (λ l. sym (cached_refused b c i e l h)),
  ),
)

pub items_of_encoding : ItemsOfEncoding
items_of_encoding before after t r h = (item_of before after t r h, item-bytes before after t r h)

pub count_of_encoding : CountOfEncoding
count_of_encoding = count_of

pub order_of_refusals : OrderOfRefusals
unfolding order try all_refuse refusal_in also unless be_value be_from long_header header_of size within payload_info data_at part is_list is_data value_in size_of item_then row_from nth count_in payload_at row_in item_count item_at item_within prototype_of rest_at cached_at
order_of_refusals = tt

pub claimed : Claimed
claimed =
    record {
      answers_are_determined = answers_are_determined;
      promises_are_of_the_answer = promises_are_of_the_answer;
      first_bytes_tell = first_bytes_tell;
      ints_begin_with_no_zero = ints_begin_with_no_zero;
      sizes_are_of_data = sizes_are_of_data;
      prototypes_tell = prototypes_tell;
      refusals_keep_the_place = refusals_keep_the_place;
      items_lie_in_a_row = items_lie_in_a_row;
      rows_are_fronts = rows_are_fronts;
      counts_are_exact = counts_are_exact;
      counts_meet_the_first_refusal = counts_meet_the_first_refusal;
      indexes_below_the_count = indexes_below_the_count;
      places_give_the_fresh_answer = places_give_the_fresh_answer;
      next_places_too = next_places_too;
      steps_walk_the_list = steps_walk_the_list;
      steps_are_headers = steps_are_headers;
      walks_start_at_the_place = walks_start_at_the_place;
      refusals_last = refusals_last;
      lists_are_asked_for = lists_are_asked_for;
      items_of_encoding = items_of_encoding;
      count_of_encoding = count_of_encoding;
      order_of_refusals = order_of_refusals;
    }
