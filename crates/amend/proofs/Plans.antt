-- The plan: at the path's end, and at a list on the path from what it told of the item there. Assumes nothing.
use Rattle.std.specs.Prelude.{Err}
use mathlib.Core.Path.{◌≡◌, sym, ap, ◌∙◌}
use Prim.Native.Nat.{ℕ, ◌+◌, ◌-◌, ◌*◌, ◌≤◌, ◌<◌}
use native.Mathlib.Omega.{arith}
use mathlib.Core.List.{List, [], ◌∷◌, ◌++◌, append-nil}
use lib.ListN.{length, take, drop, length-append, length-take}
use lib.Seq.{drop_at, take_at}
use Rattle.rlp.specs.declared.Refusal.TheVariants.{NoSuchItem}
use Rattle.rlp.specs.Refusals.{also}
use Rattle.rlp.specs.Limits.{limit, levels}
use Rattle.rlp.specs.Tree.{Item, list, header_size, headed_size, enc, encs, depth}
use Rattle.rlp.specs.Paths.{exchange}
use Rattle.rlp.proofs.Sizes.{list-size}
use Rattle.encode.proofs.Writes.{size-most}
use Rattle.amend.specs.declared.Child.{Child}
use Rattle.amend.specs.Steps.{head_of, IsAt, IsInside, Level, Told, Found}
use Rattle.amend.proofs.Splits.{other, swap, exchange_at, exchange-whole, pieces, payload-length, other_length, deep_at, told_none, told_in}

-- ---- at the path's end

pub plan_leaf : (t u : Item) (p lens : List ℕ) (x : ℕ) → length p ≡ 0 → length (enc u) ≡ x → Found t p u x lens
plan_leaf t u [] lens x h e = record { new = u; is = exchange-whole t u; big = sym e; told = told_none lens u }
plan_leaf t u (i ∷ p) lens x h e = absurd (omega arith)

-- ---- at a list

-- what `item_of` told of an item is so in any tree that the bytes are
pub kid : {b : List ℕ} {k i : ℕ} {c : Child} → ((t : Item) (r : List ℕ) → b ≡ enc t ++ r → length b ≤ limit → IsAt t i c) → {t : Item} → Level b k t → IsAt t i c
kid F {t} L = F t [] (sym L.bytes ∙ sym (append-nil (enc t))) L.small

module _ {b : List ℕ} {k i : ℕ} {c : Child} {t : Item} (L : Level b k t) (K : IsAt t i c) where
  -- a list takes a level
  pub some_level : k < levels
  unfolding depth
  some_level = omega (arith, L.deep, ap depth K.was)

  -- the new list is so long at most, its header having at most 9 bytes
  pub list_most : {x n : ℕ} → IsInside (length b) c → x ≤ limit
      → n ≤ length (take (c.from + c.size - c.from) (drop c.from b)) + x + 9 * (levels - (k + 1))
      → header_size (c.value - c.size + n) + (c.value - c.size + n) ≤ length b + x + 9 * (levels - k)
  list_most {x} {n} inside short h =
      let part : length (take (c.from + c.size - c.from) (drop c.from b)) ≤ c.size = simp length-take (omega arith) in
      omega (arith, inside, L.small, some_level, size-most (c.value - c.size + n) (omega (arith, inside, L.small, some_level)))

  parts : b ≡ (head_of K.l ++ encs K.S.before) ++ (enc K.S.old ++ (encs K.S.after ++ []))
  parts = sym L.bytes ∙ ap enc K.was ∙ sym (append-nil (enc (list K.l))) ∙ pieces K.l i K.S []

  item-bytes : take (c.from + c.size - c.from) (drop c.from b) ≡ enc K.S.old
  item-bytes =
      let H = head_of K.l ++ encs K.S.before in
      let n : c.from + c.size - c.from ≡ c.size = omega arith in
      ap (λ (m : ℕ). take m (drop c.from b)) n
      ∙ ap (take c.size) (ap (drop c.from) parts ∙ drop_at H _ c.from (length-append (head_of K.l) (encs K.S.before) ∙ sym K.from_is))
      ∙ take_at (enc K.S.old) _ c.size (sym K.size_is)

  -- so the item is one that the plan goes on with
  pub kid_level : Level (take (c.from + c.size - c.from) (drop c.from b)) (k + 1) K.S.old
  unfolding depth
  kid_level = record {
    bytes = sym item-bytes;
    deep = omega (arith, L.deep, ap depth K.was, deep_at K.l i K.S);
    small = omega (arith, L.small, ap length item-bytes, simp length-append at (ap length parts));
  }

module _ {i : ℕ} {c : Child} {t : Item} (K : IsAt t i c) (u : Item) {p q : List ℕ} (step : q ≡ i ∷ p) where
  pub kid_gone : exchange K.S.old p u ≡ Err NoSuchItem → exchange t q u ≡ Err NoSuchItem
  unfolding exchange also
  kid_gone e = rw (step, K.was) (rw (exchange_at K.l i p u K.S) (rw e))

  -- from the item's new size n to the list's
  pub kid_found : {n : ℕ} {lens : List ℕ} → Found K.S.old p u n lens → Found t q u (headed_size (c.value - c.size + n)) ((c.value - c.size + n) ∷ lens)
  unfolding exchange also swap Told
  kid_found {n} {lens} G =
      let m = other K.l i K.S G.new in
      let e : c.value - c.size + n ≡ length (encs m) =
      omega (arith, K.value-is, K.size_is, payload-length K.l i K.S, other_length K.l i K.S G.new, G.big) in
      record {
        new = list m;
        is = rw (step, K.was) (rw (exchange_at K.l i p u K.S) (rw G.is));
        big = ap headed_size e ∙ sym (list-size m);
        told = rw step (e, told_in lens K.l i K.S G.new p G.told);
      }

-- none there
pub plan_none : (b : List ℕ) (k i : ℕ) → ((t : Item) (r : List ℕ) → b ≡ enc t ++ r → length b ≤ limit → (p : List ℕ) (u : Item) → exchange t (i ∷ p) u ≡ Err NoSuchItem)
    → (t u : Item) (p q : List ℕ) → q ≡ i ∷ p → Level b k t → exchange t q u ≡ Err NoSuchItem
plan_none b k i F t u p q step L = rw step (F t [] (sym L.bytes ∙ sym (append-nil (enc t))) L.small p u)
