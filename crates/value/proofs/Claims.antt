-- The claims of specs/Claims.antt, proved. Assumes nothing.
use Rattle.std.specs.Prelude.{Ok, Err}
use mathlib.Core.Path.{◌≡◌, refl, sym, ap, ◌∙◌, subst}
use Prim.Native.Nat.{ℕ, zero, suc, ◌+◌, ◌≤◌, ◌<◌}
use native.Mathlib.Omega.{arith}
use native.Mathlib.Nat.{pow-le-pow_right}
use mathlib.Core.List.{List, ◌++◌}
use lib.Dec.{lit<}
use lib.ListN.{length, drop, length-drop}
use lib.Seq.{length-take-le}
use Rattle.rlp.specs.declared.Refusal.TheVariants.{RlpIsTooBig, InvalidBoolean}
use Rattle.rlp.specs.Refusals.{also, unless}
use Rattle.rlp.specs.Bytes.{Bytes, be_from, be_value}
use Rattle.rlp.specs.Tree.{str, enc, payload}
use Rattle.rlp.specs.Promises.{said, refusal_in, try, all_refuse}
use Rattle.rlp.proofs.Tests.{is_le, not_le}
use Rattle.rlp.proofs.Answers.{unless-true, determined}
use Rattle.rlp.proofs.Slices.{bytes_take, bytes_drop}
use Rattle.header.specs.Header.{length_in, length_of, long_header, header_of, size, within, payload_info}
use Rattle.value.specs.declared.Part.{Part}
use Rattle.value.specs.Value.{spare, short_value, long_end, long_value, value_at, data_at, part, scalar, uint, boolean}
use Rattle.value.specs.Value as rule
use Rattle.value.specs.Answers.{part_in}
use Rattle.value.specs.Claims.{AnswersAreDetermined, PromisesAreOfTheAnswer, PartsAreInside, OnlyPlacesInsideHaveBytes, ValuesAreExact, RefusedValues, ValueOfEncoding, ListsHaveNoValue, DataIsThePayload, DataOfEncoding, NumbersAreShortest, NumbersAreRefused, TruthsAreZeroAndOne, order, OrderOfRefusals, Claimed}
use Rattle.value.proofs.Places.{value_inside, data_inside, part-whole}
use Rattle.value.proofs.Scalars.{scalar-big, scalar_fits, uint-got}
use Rattle.value.proofs.Exact.{value-is, value_not, is-value, no_value}
use Rattle.value.proofs.Encodings.{value_of_lem, part-payload, data_of, list_no_value, scalar-sound, scalar_complete}

pub answers_are_determined : AnswersAreDetermined
unfolding said
answers_are_determined = (determined said said (λ p. refl), determined said said (λ n. refl), determined said said (λ t. refl))

pub promises_are_of_the_answer : PromisesAreOfTheAnswer
unfolding said
promises_are_of_the_answer p n t = (refl, refl, refl)

part-long : (b : List ℕ) (p : Part) → p.start + p.len ≤ length b → length (part b p) ≡ p.len
unfolding part
part-long b p h = length-take-le p.len (drop p.start b) (omega (arith, length-drop p.start b))

pub parts_are_inside : PartsAreInside
parts_are_inside b p = (λ e. let h = value_inside b p e in (h, part-long b p h), λ e. let h = data_inside b p e in (h, part-long b p h))

pub only_places_inside_have_bytes : OnlyPlacesInsideHaveBytes
unfolding part_in part
only_places_inside_have_bytes b p = (part-whole b p, λ h. rw (not_le h), λ e. refl)

pub values_are_exact : ValuesAreExact
values_are_exact b p = (value-is b p, is-value b p)

pub refused_values : RefusedValues
refused_values b e = (value_not b e, no_value b e)

pub value_of_encoding : ValueOfEncoding
unfolding payload
value_of_encoding s r l = (
  value_of_lem s r l,
  ap (part_in (enc (str s) ++ r)) (value_of_lem s r l) ∙ part-whole (enc (str s) ++ r) _ (value_inside (enc (str s) ++ r) _ (value_of_lem s r l)) ∙ part-payload (str s) r,
)

pub lists_have_no_value : ListsHaveNoValue
lists_have_no_value = list_no_value

pub data_is_the_payload : DataIsThePayload
unfolding data_at also
data_is_the_payload b = (λ p h. rw h, λ e h. rw h)

pub data_of_encoding : DataOfEncoding
data_of_encoding t r l = (
  data_of t r l,
  ap (part_in (enc t ++ r)) (data_of t r l) ∙ part-whole (enc t ++ r) _ (data_inside (enc t ++ r) _ (data_of t r l)) ∙ part-payload t r,
)

pub numbers_are_shortest : NumbersAreShortest
unfolding part
numbers_are_shortest w b n p h s e =
    let bs : Bytes (part b p) = bytes_take p.len (drop p.start b) (bytes_drop p.start b s) in (
      λ u. let g : scalar w (part b p) ≡ Ok n = uint-got w b p e ∙ u in (scalar_fits w (part b p) n bs g, scalar-sound w (part b p) n h bs g),
      λ t. sym (uint-got w b p e) ∙ ap (scalar w) t.1 ∙ scalar_complete w n h t.0 (omega (arith, t.0, pow-le-pow_right {n = 256} (lit< tt) {i = w} {j = 8} h)),
    )

pub numbers_are_refused : NumbersAreRefused
unfolding uint also scalar
numbers_are_refused w b = (
  λ e h. rw h,
  λ p h. (λ l. rw h (sym (scalar-big w (part b p) l)), λ r l z. rw (h, z) (unless-true RlpIsTooBig _ (is_le (subst (λ (s : List ℕ). length s ≤ w) z l)))),
)

pub truths_are_zero_and_one : TruthsAreZeroAndOne
unfolding boolean also rule.truth
truths_are_zero_and_one b = (λ e. rw e, λ e. rw e, λ n e h. rw e (more n h), λ f e. rw e)
  where
    more : (n : ℕ) → 1 < n → rule.truth n ≡ Err InvalidBoolean
    more zero h = absurd (omega arith)
    more (suc zero) h = absurd (omega arith)
    more (suc (suc n)) h = refl

pub order_of_refusals : OrderOfRefusals
unfolding order try all_refuse refusal_in also unless be_value be_from length_in length_of long_header header_of size within payload_info spare short_value long_end long_value value_at data_at part scalar uint rule.truth boolean
order_of_refusals = tt

pub claimed : Claimed
claimed =
    record {
      answers_are_determined = answers_are_determined;
      promises_are_of_the_answer = promises_are_of_the_answer;
      parts_are_inside = parts_are_inside;
      only_places_inside_have_bytes = only_places_inside_have_bytes;
      values_are_exact = values_are_exact;
      refused_values = refused_values;
      value_of_encoding = value_of_encoding;
      lists_have_no_value = lists_have_no_value;
      data_is_the_payload = data_is_the_payload;
      data_of_encoding = data_of_encoding;
      numbers_are_shortest = numbers_are_shortest;
      numbers_are_refused = numbers_are_refused;
      truths_are_zero_and_one = truths_are_zero_and_one;
      order_of_refusals = order_of_refusals;
    }
