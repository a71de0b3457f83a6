-- On strict bytes the lenient calls agree with the tree. Assumes nothing.
use Rattle.std.specs.Prelude.{Ok, Err}
use mathlib.Core.Path.{◌≡◌, refl, sym, ap, ◌∙◌, subst}
use mathlib.Core.Bool.{Bool, true, false, cond, not, false≢true}
use mathlib.Core.Logic.{◌⊎◌, inl, inr, ⊎_elim}
use Prim.Native.Nat.{ℕ, zero, suc, ◌+◌, ◌-◌, ◌^◌, ◌≤◌, ◌<◌}
use native.Mathlib.Nat.{pos_of_ne-zero}
use native.Mathlib.Omega.{arith}
use mathlib.Core.List.{List, [], ◌∷◌, ◌++◌, append-nil, append_assoc}
use lib.ListN.{length, drop, length-append}
use lib.Seq.{drop-append_seam}
use Rattle.rlp.specs.declared.Refusal.TheVariants.{RlpExpectedToBeList, RlpExpectedToBeData}
use Rattle.rlp.specs.Refusals.{also}
use Rattle.rlp.specs.Bytes.{Bytes, be_up_to, be, Trim}
use Rattle.rlp.specs.Tree.{Item, Items, str, list, end, ◌then◌, strings, lists, header, header_size, itself, enc, encs, many, joined, payload}
use Rattle.rlp.proofs.Tests.{is_lt, not_lt, is_le, not_le, not_eq, by_lt, by_eq, by_test}
use Rattle.rlp.proofs.Answers.{refused-got, got_inj, also-got, unless-true}
use Rattle.rlp.proofs.BigEndian.{be-short}
use Rattle.rlp.proofs.Sizes.{header-short, header-long, enc-itself, enc-string, enc-list, itself-one, payload-short, enc-bytes, enc-some, be-some}
use Rattle.header.proofs.Encodings.{header_of_enc}
use Rattle.value.specs.declared.Part.{Part}
use Rattle.value.specs.Value.{placed, value_at, data_at, part, uint, boolean}
use Rattle.value.specs.Value as rule
use Rattle.value.specs.Answers.{part_in}
use Rattle.value.proofs.Claims.{value_of_encoding, lists_have_no_value, data_of_encoding, numbers_are_shortest}
use Rattle.value.proofs.Encodings.{value_of_lem, part-payload, data_of}
use Rattle.list.specs.Kinds.{is_null, is_empty, is_list, is_data, is_set, is_int, value_in, size_of}
use Rattle.list.specs.declared.kinds.Prototype.TheVariants as prototype
use Rattle.list.specs.Walk.{payload_at, item_at}
use Rattle.list.proofs.FirstBytes.{empty_else, size_none, int_small, int_short, int_long, int_list}
use Rattle.list.proofs.Claims.{items_of_encoding, count_of_encoding, indexes_below_the_count}
use Rattle.list.proofs.Encodings.{enc-is-list}
use Rattle.list.proofs.Asked.{payload-other, count-refused, at_refused, proto_data, proto_list}
use Rattle.strict.specs.Claims.{Sheet, StringRead, ListRead}
use Rattle.strict.proofs.Complete.{string-is_data}

-- not a list is data, where there is a byte
data_or_list : (b : List ℕ) → 0 < length b → is_data b ≡ not (is_list b)
unfolding is_data is_list
data_or_list [] h = absurd (omega arith)
data_or_list (x ∷ b) h = by_lt x 0xc0 (λ l. rw (is_lt l, not_le l)) (λ l. rw (not_lt l, is_le l))

some_bytes : (b : List ℕ) → 0 < length b → is_null b ≡ false
unfolding is_null
some_bytes [] h = absurd (omega arith)
some_bytes (x ∷ b) h = refl

-- a first byte other than 80 and c0
not-empty : (x : ℕ) (r : List ℕ) → (x ≡ 0x80 → ⊥) → (x ≡ 0xc0 → ⊥) → is_empty (x ∷ r) ≡ false
not-empty x r h k = empty_else x r h ∙ not_eq k

enc-there : (t : Item) → 0 < length (enc t ++ [])
enc-there t = omega (arith, length-append (enc t) [], enc-some t)

-- a sheet is an encoding followed by nothing
module _ (b : List ℕ) (t : Item) (S : Sheet b t) where
  same : enc t ++ [] ≡ b
  same = append-nil (enc t) ∙ S.bytes

  bounded : length (enc t) < 256 ^ 8
  bounded = omega (arith, S.small, ap length S.bytes)

-- ---- strings

-- the empty string alone is empty
string-full : (s : List ℕ) → length s < 256 ^ 8 → 0 < length s → is_empty (enc (str s) ++ []) ≡ false
string-full s l h =
    by_test (itself s)
    (λ i. let b = itself-one s i in rw (enc-itself s i) (rw b.2 (not-empty b.0 [] (λ e. absurd (omega (arith, b.1))) (λ e. absurd (omega (arith, b.1))))))
    (λ i. rw (enc-string s i, append_assoc)
    (by_lt (length s) 56
    (λ k. rw (header-short strings (length s) k) (not-empty (strings + length s) (s ++ []) (λ e. absurd (omega arith)) (λ e. absurd (omega arith))))
    (λ k. rw (header-long strings (length s) k)
    (not-empty (strings + 55 + length (be (length s))) (be (length s) ++ (s ++ [])) (λ e. absurd (omega arith)) (λ e. absurd (omega (arith, be-short 8 (length s) l)))))))

string-empty : (s : List ℕ) → length s < 256 ^ 8 → (is_empty (enc (str s) ++ []) ≡ true → s ≡ []) × (s ≡ [] → is_empty (enc (str s) ++ []) ≡ true)
unfolding is_empty enc header itself
string-empty [] l = (λ e. refl, λ e. refl)
string-empty (x ∷ s) l = (λ e. absurd (false≢true (sym (string-full (x ∷ s) l (omega arith)) ∙ e)), λ e. absurd (omega (arith, ap length e)))

-- a truth by its number, 1 or 0
flag-bytes : (t : Bool) → be (cond t 1 0) ≡ cond t (1 ∷ []) []
unfolding be be_up_to
flag-bytes true = refl
flag-bytes false = refl

flag_small : (t : Bool) → cond t 1 0 < 256 ^ 1
flag_small true = omega arith
flag_small false = omega arith

truth-said : (n : ℕ) (t : Bool) → rule.truth n ≡ Ok t → be n ≡ cond t (1 ∷ []) []
unfolding rule.truth
truth-said zero t e = flag-bytes false ∙ ap (λ (t : Bool). cond t (1 ∷ []) []) (got_inj e)
truth-said (suc zero) t e = flag-bytes true ∙ ap (λ (t : Bool). cond t (1 ∷ []) []) (got_inj e)
truth-said (suc (suc n)) t e = absurd (refused-got e)

boolean-got : (b : List ℕ) (t : Bool) → uint 1 b ≡ Ok (cond t 1 0) → boolean b ≡ Ok t
unfolding boolean also rule.truth
boolean-got b true e = rw e
boolean-got b false e = rw e

module _ (s : List ℕ) (l : length (enc (str s)) < 256 ^ 8) where
  short : length s < 256 ^ 8
  unfolding payload
  short = omega (arith, payload-short (str s))

  string_data : is_data (enc (str s) ++ []) ≡ true
  string_data = data_or_list (enc (str s) ++ []) (enc-there (str s)) ∙ ap not (string-is_data s [] short)

  no_payload : payload_at (enc (str s) ++ []) ≡ Err RlpExpectedToBeList
  no_payload = sym (payload-other (enc (str s) ++ []) (string-is_data s [] short))

  string-size : size_of (enc (str s) ++ []) ≡ length s
  unfolding size_of value_in payload
  string-size = rw string_data (ap value_in (header_of_enc (str s) [] l).1)

  string-part : part (enc (str s) ++ []) (record { start = length (enc (str s)) - length s; len = length s }) ≡ s
  unfolding payload
  string-part = part-payload (str s) []

  string_read : Bytes (enc (str s)) → StringRead (enc (str s) ++ []) s
  unfolding payload boolean
  string_read w =
      record {
        is-null = some_bytes (enc (str s) ++ []) (enc-there (str s));
        is-data = string_data;
        is-list = string-is_data s [] short;
        is-empty = string-empty s short;
        size = string-size;
        value = (value_of_encoding s [] l).1;
        data_is = data_same;
        number = λ n k h. numbered n k h;
        truth = truths;
        prototype = sym (proto_data (enc (str s) ++ []) string_data) ∙ ap (λ (n : ℕ). Ok (prototype.Data n)) string-size;
        count = sym (count-refused (enc (str s) ++ []) RlpExpectedToBeList no_payload);
        item = λ i. sym (at_refused (enc (str s) ++ []) i RlpExpectedToBeList no_payload);
      }
    where
      data_same : data_at (enc (str s) ++ []) ≡ value_at (enc (str s) ++ [])
      data_same = data_of (str s) [] l ∙ sym (value_of_lem s [] l)

      numbered : (k n : ℕ) → k ≤ 8 → (uint k (enc (str s) ++ []) ≡ Ok n → (n < 256 ^ k) × (s ≡ be n)) × ((n < 256 ^ k) × (s ≡ be n) → uint k (enc (str s) ++ []) ≡ Ok n)
      numbered k n h =
          let p : Part = record { start = length (enc (str s)) - length s; len = length s } in
          let N = numbers_are_shortest k (enc (str s) ++ []) n p h (subst Bytes (sym (append-nil (enc (str s)))) w) (value_of_lem s [] l) in
          let z : part (enc (str s) ++ []) p ≡ s = string-part in
          (λ u. ((N.0 u).0, sym z ∙ (N.0 u).1), λ u. N.1 (u.0, z ∙ u.1))

      truths : (t : Bool) → (boolean (enc (str s) ++ []) ≡ Ok t → s ≡ cond t (1 ∷ []) []) × (s ≡ cond t (1 ∷ []) [] → boolean (enc (str s) ++ []) ≡ Ok t)
      truths t = (
        λ e.
            let a = also-got (uint 1 (enc (str s) ++ [])) rule.truth t e in
            ((numbered 1 a.0 (omega arith)).0 a.1).1 ∙ truth-said a.0 t a.2,
        λ e. boolean-got (enc (str s) ++ []) t ((numbered 1 (cond t 1 0) (omega arith)).1 (flag_small t, e ∙ sym (flag-bytes t))),
      )

-- ---- numbers by `is_int`

-- a string that is not its own encoding: the byte behind the header decides
int_after : (s : List ℕ) → itself s ≡ false → length s < 256 ^ 8 → (s ≡ [] → ⊥) → is_int (enc (str s) ++ []) ≡ is_set (s ++ [])
int_after s i l n =
    rw (enc-string s i, append_assoc)
    (by_lt (length s) 56
    (λ h. rw (header-short strings (length s) h) (int_short (strings + length s) (s ++ []) (some s n) (omega arith)))
    (λ h. rw (header-long strings (length s) h)
    (int_long (strings + 55 + length (be (length s))) (be (length s) ++ (s ++ [])) (omega (arith, be-some (length s) h)) (omega (arith, be-short 8 (length s) l))
    ∙ ap is_set (ap (λ (k : ℕ). drop k (be (length s) ++ (s ++ []))) (cut (length (be (length s)))) ∙ drop-append_seam (be (length s)) (s ++ [])))))
  where
    some : (s : List ℕ) → (s ≡ [] → ⊥) → 0x80 < strings + length s
    some [] n = absurd (n refl)
    some (x ∷ s) n = omega arith

    cut : (k : ℕ) → strings + 55 + k - 0xb7 ≡ k
    cut k = omega arith

-- where the answer is whether the first byte is not 0
by_first : (x : ℕ) (s : List ℕ) (o : Bool) → o ≡ is_set ((x ∷ s) ++ []) → (x ≡ 0 → (x ∷ s ≡ 0 ∷ [] → ⊥)) → (o ≡ true → Trim (x ∷ s) ⊎ (x ∷ s ≡ 0 ∷ [])) × (Trim (x ∷ s) ⊎ (x ∷ s ≡ 0 ∷ []) → o ≡ true)
unfolding Trim is_set
by_first zero s o e n = (λ h. absurd (false≢true (sym e ∙ h)), λ h. absurd (⊎_elim (λ t. omega arith) (n refl) h))
by_first (suc x) s o e n = (λ h. inl (omega arith), λ h. e ∙ ap not (not_eq {a = suc x} {b = 0} (λ z. absurd (omega arith))))

no_tail : (x y : ℕ) (s : List ℕ) → x ∷ y ∷ s ≡ 0 ∷ [] → ⊥
no_tail x y s e = omega (arith, ap length e)

ints : (s : List ℕ) → length s < 256 ^ 8 → (is_int (enc (str s) ++ []) ≡ true → Trim s ⊎ (s ≡ 0 ∷ [])) × (Trim s ⊎ (s ≡ 0 ∷ []) → is_int (enc (str s) ++ []) ≡ true)
unfolding Trim enc header itself is_int
ints [] l = (λ e. inl tt, λ h. refl)
ints (x ∷ []) l =
    by_lt x 128
    (λ h. let o : is_int (enc (str (x ∷ [])) ++ []) ≡ true = ap (λ (b : List ℕ). is_int (b ++ [])) (enc-itself (x ∷ []) (is_lt h)) ∙ int_small x [] (omega arith) in
    (λ e. by_eq x 0 (λ z. inr (ap (λ (y : ℕ). y ∷ []) z)) (λ z. inl (pos_of_ne-zero z)), λ e. o))
    (λ h. by_first x [] _ (int_after (x ∷ []) (not_lt h) l (λ e. omega (arith, ap length e))) (λ z. absurd (omega arith)))
ints (x ∷ y ∷ s) l = by_first x (y ∷ s) _ (int_after (x ∷ y ∷ s) refl l (λ e. omega (arith, ap length e))) (λ z. no_tail x y s)

-- ---- lists

-- the list of no items alone is empty
list_full : (t : Item) (ts : Items) → is_empty (enc (list (t then ts)) ++ []) ≡ false
unfolding encs
list_full t ts =
    let n : ℕ = length (encs (t then ts)) in
    let h : 0 < n = omega (arith, length-append (enc t) (encs ts), enc-some t) in
    rw (enc-list (t then ts), append_assoc)
    (by_lt n 56
    (λ k. rw (header-short lists n k) (not-empty (lists + n) (encs (t then ts) ++ []) (λ e. absurd (omega arith)) (λ e. absurd (omega arith))))
    (λ k. rw (header-long lists n k) (not-empty (lists + 55 + length (be n)) (be n ++ (encs (t then ts) ++ [])) (λ e. absurd (omega arith)) (λ e. absurd (omega arith)))))

some-items : (t : Item) (ts : Items) → t then ts ≡ end → ⊥
some-items t ts e = let z : ◌≡◌ {A = ℕ} 0 1 = cc in omega arith

list-empty : (ts : Items) → (is_empty (enc (list ts) ++ []) ≡ true → ts ≡ end) × (ts ≡ end → is_empty (enc (list ts) ++ []) ≡ true)
unfolding is_empty enc encs header
list-empty end = (λ e. refl, λ e. refl)
list-empty (t then ts) = (λ e. absurd (false≢true (sym (list_full t ts) ∙ e)), λ e. absurd (some-items t ts e))

module _ (ts : Items) (l : length (enc (list ts)) < 256 ^ 8) where
  list_data : is_data (enc (list ts) ++ []) ≡ false
  list_data = data_or_list (enc (list ts) ++ []) (enc-there (list ts)) ∙ ap not (enc-is-list ts [])

  no_int : is_int (enc (list ts) ++ []) ≡ false
  no_int =
      let n : ℕ = length (encs ts) in
      rw (enc-list ts, append_assoc)
      (by_lt n 56
      (λ h. rw (header-short lists n h) (int_list (lists + n) (encs ts ++ []) (omega arith)))
      (λ h. rw (header-long lists n h) (int_list (lists + 55 + length (be n)) (be n ++ (encs ts ++ [])) (omega arith))))

  no_number : (w : ℕ) → uint w (enc (list ts) ++ []) ≡ Err RlpExpectedToBeData
  unfolding uint also
  no_number w = rw (lists_have_no_value ts [])

  no_truth : boolean (enc (list ts) ++ []) ≡ Err RlpExpectedToBeData
  unfolding boolean also
  no_truth = rw (no_number 1)

  list_read : ListRead (enc (list ts) ++ []) ts
  unfolding payload payload_at
  list_read =
      record {
        is-null = some_bytes (enc (list ts) ++ []) (enc-there (list ts));
        is-list = enc-is-list ts [];
        is-data = list_data;
        is-empty = list-empty ts;
        size = sym (size_none (enc (list ts) ++ []) list_data);
        no_value = lists_have_no_value ts [];
        no_number = no_number;
        no_truth = no_truth;
        no_int = no_int;
        data_is = (data_of_encoding (list ts) [] l).1;
        payload = unless-true RlpExpectedToBeList _ (enc-is-list ts []);
        count = count_of_encoding ts [] l;
        prototype = sym (proto_list (enc (list ts) ++ []) list_data (many ts) (enc-is-list ts []) (count_of_encoding ts [] l));
        item = items_read ts l;
        past = λ i h. (indexes_below_the_count (enc (list ts) ++ []) (many ts) i (count_of_encoding ts [] l)).1 h;
      }
    where
      items_read : (ts : Items) → length (enc (list ts)) < 256 ^ 8 → (before after : Items) (t : Item) → ts ≡ joined before (t then after)
          → (item_at (enc (list ts) ++ []) (many before) ≡ placed (header_size (length (encs ts)) + length (encs before)) (length (enc t))) × (part_in (enc (list ts) ++ []) (item_at (enc (list ts) ++ []) (many before)) ≡ enc t)
      items_read ts l before after t e =
          subst (λ (ts : Items). (item_at (enc (list ts) ++ []) (many before) ≡ placed (header_size (length (encs ts)) + length (encs before)) (length (enc t))) × (part_in (enc (list ts) ++ []) (item_at (enc (list ts) ++ []) (many before)) ≡ enc t))
          (sym e) (items_of_encoding before after t [] (subst (λ (ts : Items). length (enc (list ts)) < 256 ^ 8) e l))

-- ---- sheets

pub strings_agree_lem : (b s : List ℕ) → Sheet b (str s) → StringRead b s
strings_agree_lem b s S =
    subst (λ (b : List ℕ). StringRead b s) (same b (str s) S) (string_read s (bounded b (str s) S) (enc-bytes (str s) S.well (bounded b (str s) S)))

pub lists_agree_lem : (b : List ℕ) (l : Items) → Sheet b (list l) → ListRead b l
lists_agree_lem b l S = subst (λ (b : List ℕ). ListRead b l) (same b (list l) S) (list_read l (bounded b (list l) S))

pub ints_agree_lem : (b s : List ℕ) → Sheet b (str s) → (is_int b ≡ true → Trim s ⊎ (s ≡ 0 ∷ [])) × (Trim s ⊎ (s ≡ 0 ∷ []) → is_int b ≡ true)
unfolding payload
ints_agree_lem b s S =
    subst (λ (b : List ℕ). (is_int b ≡ true → Trim s ⊎ (s ≡ 0 ∷ [])) × (Trim s ⊎ (s ≡ 0 ∷ []) → is_int b ≡ true)) (same b (str s) S)
    (ints s (omega (arith, bounded b (str s) S, payload-short (str s))))
