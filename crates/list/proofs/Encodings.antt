-- The items of an encoded list. Assumes nothing.
use Rattle.std.specs.Prelude.{Ok}
use mathlib.Core.Path.{◌≡◌, refl, sym, ap, ◌∙◌}
use mathlib.Core.Bool.{true}
use Prim.Native.Nat.{ℕ, suc, ◌+◌, ◌-◌, ◌^◌, ◌≤◌, ◌<◌}
use native.Mathlib.Omega.{arith}
use mathlib.Core.List.{List, ◌++◌, append_assoc}
use lib.ListN.{length, take, drop, length-append}
use lib.Seq.{take-append_seam, drop-append_seam, drop_at}
use Rattle.rlp.specs.Refusals.{also}
use Rattle.rlp.specs.Bytes.{be}
use Rattle.rlp.specs.Tree.{Item, Items, list, end, ◌then◌, lists, header, header_size, enc, encs, many, joined, payload}
use Rattle.rlp.proofs.Tests.{is_le, by_lt}
use Rattle.rlp.proofs.Sizes.{header-short, header-long, header-size, enc-list, payload-short, encs-joined}
use Rattle.header.specs.declared.PayloadInfo.{PayloadInfo}
use Rattle.header.specs.Header.{size}
use Rattle.header.proofs.Encodings.{header_of_enc}
use Rattle.value.specs.declared.Part.{Part}
use Rattle.value.specs.Value.{placed, part}
use Rattle.value.specs.Answers.{part_in}
use Rattle.value.proofs.Places.{part-whole}
use Rattle.value.proofs.Claims.{data_is_the_payload}
use Rattle.list.specs.Kinds.{is_list}
use Rattle.list.specs.Walk.{Row, item, row_from, nth, count_in, payload_at, row_in, item_count, item_at}
use Rattle.list.proofs.Rows.{row-item}
use Rattle.list.proofs.Asked.{payload-list, count-got, at_got}

-- ---- rows of encodings

-- the encoding of an item at the front is the item
row-enc : (at : ℕ) (t : Item) (r : List ℕ) → length (enc t) < 256 ^ 8
    → row_from at 0 (enc t ++ r) ≡ item (record { start = at; len = length (enc t) }) (row_from (at + length (enc t)) 0 r)
unfolding size
row-enc at t r l =
    let p : PayloadInfo = record { header_len = length (enc t) - length (payload t); value_len = length (payload t) } in
    let z : size p ≡ length (enc t) = omega (arith, payload-short t) in
    row-item at (enc t ++ r) p (header_of_enc t r l).1
    ∙ ap (λ (n : ℕ). item (record { start = at; len = n }) (row_from (at + n) 0 (drop n (enc t ++ r)))) z
    ∙ ap (λ (s : List ℕ). item (record { start = at; len = length (enc t) }) (row_from (at + length (enc t)) 0 s)) (drop-append_seam (enc t) r)

row_count : (at : ℕ) (l : Items) → length (encs l) < 256 ^ 8 → count_in (row_from at 0 (encs l)) ≡ Ok (many l)
unfolding encs many row_from count_in also
row_count at end h = refl
row_count at (t then l) h =
    let f = length-append (enc t) (encs l) in
    ap count_in (row-enc at t (encs l) (omega arith)) ∙ rw (row_count (at + length (enc t)) l (omega arith))

row-nth : (at : ℕ) (before after : Items) (t : Item) → length (encs (joined before (t then after))) < 256 ^ 8
    → nth (row_from at 0 (encs (joined before (t then after)))) (many before) ≡ placed (at + length (encs before)) (length (enc t))
unfolding encs many joined nth
row-nth at end after t h =
    let f = length-append (enc t) (encs after) in
    let z : at ≡ at + 0 = omega arith in
    ap (λ (l : Row). nth l 0) (row-enc at t (encs after) (omega arith)) ∙ ap (λ (s : ℕ). placed s (length (enc t))) z
row-nth at (u then before) after t h =
    let m : Items = joined before (t then after) in
    let f = length-append (enc u) (encs m) in
    let g = length-append (enc u) (encs before) in
    let z : at + length (enc u) + length (encs before) ≡ at + length (enc u ++ encs before) = omega arith in
    ap (λ (l : Row). nth l (suc (many before))) (row-enc at u (encs m) (omega arith))
    ∙ row-nth (at + length (enc u)) before after t (omega arith) ∙ ap (λ (s : ℕ). placed s (length (enc t))) z

-- ---- the payload of an encoded list

pub enc-is-list : (l : Items) (r : List ℕ) → is_list (enc (list l) ++ r) ≡ true
unfolding is_list
enc-is-list l r =
    let n : ℕ = length (encs l) in
    rw (enc-list l, append_assoc)
    (by_lt n 56
    (λ h. rw (header-short lists n h) (is_le {a = 0xc0} {b = lists + n} (omega arith)))
    (λ h. rw (header-long lists n h) (is_le {a = 0xc0} {b = lists + 55 + length (be n)} (omega arith))))

module _ (l : Items) (r : List ℕ) (h : length (enc (list l)) < 256 ^ 8) where
  list_length : length (enc (list l)) ≡ header_size (length (encs l)) + length (encs l)
  list_length = ap length (enc-list l) ∙ length-append (header lists (length (encs l))) (encs l) ∙ ap (λ (n : ℕ). n + length (encs l)) (header-size lists (length (encs l)))

  inner : Part
  inner = record { start = header_size (length (encs l)); len = length (encs l) }

  payload_of : payload_at (enc (list l) ++ r) ≡ Ok inner
  unfolding inner payload
  payload_of =
      let z : length (enc (list l)) - length (encs l) ≡ header_size (length (encs l)) = omega (arith, list_length) in
      sym (payload-list (enc (list l) ++ r) (enc-is-list l r)) ∙ (data_is_the_payload (enc (list l) ++ r)).0 _ (header_of_enc (list l) r h).1
      ∙ ap (λ (s : ℕ). placed s (length (encs l))) z

  items_of : part (enc (list l) ++ r) inner ≡ encs l
  unfolding inner part
  items_of =
      rw (enc-list l, append_assoc)
      (ap (take (length (encs l))) (drop_at (header lists (length (encs l))) (encs l ++ r) (header_size (length (encs l))) (header-size lists (length (encs l))))
      ∙ take-append_seam (encs l) r)

  short : length (encs l) < 256 ^ 8
  short = omega (arith, list_length)

  pub count_of : item_count (enc (list l) ++ r) ≡ Ok (many l)
  unfolding row_in inner
  count_of =
      sym (count-got (enc (list l) ++ r) inner payload_of) ∙ ap (λ (s : List ℕ). count_in (row_from (header_size (length (encs l))) 0 s)) items_of
      ∙ row_count (header_size (length (encs l))) l short

  nth_of : (i : ℕ) → nth (row_from (header_size (length (encs l))) 0 (encs l)) i ≡ item_at (enc (list l) ++ r) i
  unfolding row_in inner
  nth_of i =
      sym (ap (λ (s : List ℕ). nth (row_from (header_size (length (encs l))) 0 s) i) items_of) ∙ at_got (enc (list l) ++ r) i inner payload_of

module _ (before after : Items) (t : Item) (r : List ℕ) (h : length (enc (list (joined before (t then after)))) < 256 ^ 8) where
  all : Items
  all = joined before (t then after)

  pub item_of : item_at (enc (list (joined before (t then after))) ++ r) (many before) ≡ placed (header_size (length (encs (joined before (t then after)))) + length (encs before)) (length (enc t))
  unfolding all
  item_of = sym (nth_of all r h (many before)) ∙ row-nth (header_size (length (encs all))) before after t (short all r h)

  -- the bytes: the header and the items before, then the item, then the rest
  split : enc (list (joined before (t then after))) ++ r ≡ (header lists (length (encs (joined before (t then after)))) ++ encs before) ++ (enc t ++ (encs after ++ r))
  unfolding all encs
  split = rw (enc-list all, encs-joined before (t then after)) (simp append_assoc)

  front : List ℕ
  front = header lists (length (encs (joined before (t then after)))) ++ encs before

  front_length : length front ≡ header_size (length (encs (joined before (t then after)))) + length (encs before)
  unfolding front
  front_length =
      length-append (header lists (length (encs (joined before (t then after))))) (encs before)
      ∙ ap (λ (n : ℕ). n + length (encs before)) (header-size lists (length (encs (joined before (t then after)))))

  spot : Part
  spot = record { start = header_size (length (encs (joined before (t then after)))) + length (encs before); len = length (enc t) }

  spot_inside : spot.start + spot.len ≤ length (enc (list (joined before (t then after))) ++ r)
  unfolding spot front
  spot_inside =
      omega (arith, ap length split, length-append front (enc t ++ (encs after ++ r)), length-append (enc t) (encs after ++ r), front_length)

  spot_bytes : part (enc (list (joined before (t then after))) ++ r) spot ≡ enc t
  unfolding part spot front
  spot_bytes =
      ap (λ (s : List ℕ). take (length (enc t)) (drop (header_size (length (encs (joined before (t then after)))) + length (encs before)) s)) split
      ∙ ap (take (length (enc t))) (drop_at front (enc t ++ (encs after ++ r)) _ front_length)
      ∙ take-append_seam (enc t) (encs after ++ r)

  pub item-bytes : part_in (enc (list (joined before (t then after))) ++ r) (item_at (enc (list (joined before (t then after))) ++ r) (many before)) ≡ enc t
  unfolding spot
  item-bytes = ap (part_in (enc (list (joined before (t then after))) ++ r)) item_of ∙ part-whole (enc (list (joined before (t then after))) ++ r) spot spot_inside ∙ spot_bytes
