-- What `payload_info` and `at` say of item i of a tree that bytes begin with. Assumes nothing.
use Rattle.std.specs.Result.{result_ok}
use Rattle.std.specs.Prelude.{None, Some, Ok, Err}
use mathlib.Core.Path.{◌≡◌, refl, sym, ap, ◌∙◌}
use Prim.Native.Nat.{ℕ, ◌+◌, ◌-◌, ◌^◌, ◌≤◌, ◌<◌}
use native.Mathlib.Omega.{arith}
use mathlib.Core.List.{List, [], ◌++◌}
use lib.ListN.{length, length-append}
use Rattle.rlp.specs.declared.Refusal.TheVariants.{RlpIsTooShort, RlpExpectedToBeList}
use Rattle.rlp.specs.Refusals.{Or, also}
use Rattle.rlp.specs.Limits.{limit}
use Rattle.rlp.specs.Tree.{Item, Items, str, list, lists, header_size, enc, encs, many, payload}
use Rattle.rlp.specs.Paths.{exchange}
use Rattle.rlp.proofs.Answers.{got_inj, also-got, unless-got}
use Rattle.rlp.proofs.Sizes.{header-size, payload-short}
use Rattle.header.specs.declared.PayloadInfo.{PayloadInfo}
use Rattle.header.specs.Header.{size, payload_info}
use Rattle.header.proofs.Fits.{info_fits}
use Rattle.header.proofs.Encodings.{header_of_enc}
use Rattle.value.specs.declared.Part.{Part}
use Rattle.value.specs.Value.{placed, data_at}
use Rattle.list.specs.Kinds.{is_list}
use Rattle.list.specs.Walk.{payload_at, item_at}
use Rattle.list.proofs.Asked.{payload-other, at_refused}
use Rattle.list.proofs.Claims.{items_lie_in_a_row, items_of_encoding, count_of_encoding, indexes_below_the_count}
use Rattle.strict.proofs.Complete.{string-is_data}
use Rattle.amend.specs.Steps.{Split, IsAt, IsInside, Kid}
use Rattle.amend.proofs.Splits.{by_split, exchange-past, list_length}

-- ---- the lenient reading of encodings that are followed by anything

string-item : (s r : List ℕ) (i : ℕ) → length (enc (str s)) < 256 ^ 8 → item_at (enc (str s) ++ r) i ≡ Err RlpExpectedToBeList
unfolding payload
string-item s r i h =
    sym (at_refused (enc (str s) ++ r) i RlpExpectedToBeList (sym (payload-other (enc (str s) ++ r) (string-is_data s r (omega (arith, payload-short (str s)))))))

list-past : (l : Items) (r : List ℕ) (i : ℕ) → length (enc (list l)) < 256 ^ 8 → many l ≤ i → item_at (enc (list l) ++ r) i ≡ Err RlpIsTooShort
list-past l r i h m = (indexes_below_the_count (enc (list l) ++ r) (many l) i (count_of_encoding l r h)).1 m

list-item : (l : Items) (r : List ℕ) (i : ℕ) (S : Split l i) → length (enc (list l)) < 256 ^ 8
    → item_at (enc (list l) ++ r) i ≡ placed (header_size (length (encs l)) + length (encs S.before)) (length (enc S.old))
list-item l r i S =
    rw (S.was, ← S.idx) (λ h. (items_of_encoding S.before S.after S.old r h).0)

-- ---- item i of any bytes

-- an answer that is there was read
read : {A : Type 0} {a : A} (o : Or A) → result_ok o ≡ Some a → o ≡ Ok a
read (Ok x) e = cc
read (Err d) e = absurd (cc)

-- it lies inside the list's payload
pub inside : (b : List ℕ) (i : ℕ) (info : PayloadInfo) (q : Part) → result_ok (payload_info b) ≡ Some info → result_ok (item_at b i) ≡ Some q
    → IsInside (length b) (record { head = info.header_len; value = info.value_len; from = q.start; size = q.len })
unfolding item_at payload_at data_at size
inside b i info q g h =
    let p = also-got (payload_at b) _ q (read (item_at b i) h) in
    let d = also-got (payload_info b) _ p.0 (unless-got (is_list b) RlpExpectedToBeList (data_at b) p.0 p.1).1 in
    let e : ◌≡◌ {A = Or PayloadInfo} (Ok d.0) (Ok info) = sym d.1 ∙ read (payload_info b) g in
    let r = items_lie_in_a_row b i p.0 q p.1 (read (item_at b i) h) in
    let s : p.0 ≡ record { start = info.header_len; len = info.value_len } = sym (got_inj d.2) ∙ ap (λ (y : PayloadInfo). record { start = y.header_len; len = y.value_len }) (got_inj e) in
    let f = (info_fits b info (read (payload_info b) g)).1 in
    (omega (arith, r.0, ap (λ (y : Part). y.start) s), omega (arith, r.2, ap (λ (y : Part). y.start) s, ap (λ (y : Part). y.len) s), f)

-- ---- item i of the tree that b begins with

module _ (b : List ℕ) (i : ℕ) (t : Item) (r : List ℕ) (is : b ≡ enc t ++ r) (small : length b ≤ limit) where
  bounded : length (enc t) < 256 ^ 8
  bounded = omega (arith, ap length is, length-append (enc t) r)

  -- its header is read
  headed : result_ok (payload_info b) ≡ Some (record { header_len = length (enc t) - length (payload t); value_len = length (payload t) })
  headed = ap (λ (y : List ℕ). result_ok (payload_info y)) is ∙ ap result_ok (header_of_enc t r bounded).1

  pub kid_cut : result_ok (payload_info b) ≡ None → Kid t i None
  kid_cut h = let e : None ≡ Some _ = sym h ∙ headed in absurd (cc)

-- none there
pub kid_none : (b : List ℕ) (i : ℕ) → result_ok (item_at b i) ≡ None → (t : Item) (r : List ℕ) → b ≡ enc t ++ r → length b ≤ limit → Kid t i None
unfolding exchange also
kid_none b i h (str s) r is small = λ p u. refl
kid_none b i h (list l) r is small =
    by_split l i
    (λ S.
    let e : None ≡ Some _ = sym h ∙ ap (λ (y : List ℕ). result_ok (item_at y i)) is ∙ ap result_ok (list-item l r i S (bounded b i (list l) r is small)) in
    absurd (cc))
    (λ m p u. rw (exchange-past l i p u m))

pub kid_at : (b : List ℕ) (i : ℕ) (info : PayloadInfo) (q : Part) → result_ok (payload_info b) ≡ Some info → result_ok (item_at b i) ≡ Some q
    → (t : Item) (r : List ℕ) → b ≡ enc t ++ r → length b ≤ limit → IsAt t i (record { head = info.header_len; value = info.value_len; from = q.start; size = q.len })
unfolding payload
kid_at b i info q g h (str s) r is small =
    let e : Some q ≡ None = sym h ∙ ap (λ (y : List ℕ). result_ok (item_at y i)) is ∙ ap result_ok (string-item s r i (bounded b i (str s) r is small)) in
    absurd (cc)
kid_at b i info q g h (list l) r is small =
    let w : length (enc (list l)) < 256 ^ 8 = bounded b i (list l) r is small in
    let found : result_ok (item_at (enc (list l) ++ r) i) ≡ Some q = sym (ap (λ (y : List ℕ). result_ok (item_at y i)) is) ∙ h in
    let a : info ≡ record { header_len = length (enc (list l)) - length (encs l); value_len = length (encs l) } = same (sym g ∙ headed b i (list l) r is small) in
    by_split l i
    (λ S.
    let c : q ≡ record { start = header_size (length (encs l)) + length (encs S.before); len = length (enc S.old) } = same (sym found ∙ ap result_ok (list-item l r i S w)) in
    record {
      l = l;
      S = S;
      was = refl;
      head-is = omega (arith, ap (λ (y : PayloadInfo). y.header_len) a, list_length l [], length-append (enc (list l)) []);
      value-is = ap (λ (y : PayloadInfo). y.value_len) a;
      from_is = omega (arith, ap (λ (y : Part). y.start) c, header-size lists (length (encs l)));
      size_is = ap (λ (y : Part). y.len) c;
    })
    (λ m. let e : None ≡ Some q = sym (ap result_ok (list-past l r i w m)) ∙ found in absurd (cc))
  where
    same : {A : Type 0} {x y : A} → Some x ≡ Some y → x ≡ y
    same e = cc
