-- The lenient walk along a path arrives at the tree's item. Assumes nothing.
use Rattle.std.specs.Prelude.{Ok}
use mathlib.Core.Path.{◌≡◌, refl, sym, ap, ◌∙◌, subst}
use Prim.Native.Nat.{ℕ, zero, suc, ◌+◌, ◌<◌, ◌^◌}
use native.Mathlib.Omega.{arith}
use mathlib.Core.List.{List, [], ◌∷◌, append-nil}
use lib.ListN.{length, length-append}
use Rattle.rlp.specs.Refusals.{Or, also}
use Rattle.rlp.specs.Tree.{Item, Items, str, list, end, ◌then◌, lists, header, header_size, enc, encs, many, joined}
use Rattle.rlp.specs.Paths.{fetch, fetch_in, offset, offset_in}
use Rattle.rlp.proofs.Answers.{refused-got, got_inj}
use Rattle.rlp.proofs.Sizes.{header-size, enc-list, encs-joined}
use Rattle.rlp.proofs.Paths.{Lies, lies_behind, lies_inner, lies_inside, lies_cut, lies_whole, lies}
use Rattle.value.specs.declared.Part.{Part}
use Rattle.value.specs.Value.{placed, part}
use Rattle.list.specs.Walk.{item_at}
use Rattle.list.proofs.Claims.{items_of_encoding}
use Rattle.strict.specs.Claims.{Sheet}
use Rattle.amend.specs.Claims.{shifted, walk_from, walk}

-- the item of a list that a path goes into first, and those before and after it
record Into (l : Items) (i : ℕ) (q : List ℕ) (w : Item) : Type 0 where
  before : Items
  here : Item
  after : Items
  is : l ≡ joined before (here then after)
  count : many before ≡ i
  rest : fetch here q ≡ Ok w
  place : offset_in l i q ≡ length (encs before) + offset here q

into : (l : Items) (i : ℕ) (q : List ℕ) (w : Item) → fetch_in l i q ≡ Ok w → Into l i q w
unfolding fetch_in offset_in joined many encs
into end i q w e = absurd (refused-got e)
into (t then l) zero q w e = record { before = end; here = t; after = l; is = refl; count = refl; rest = e; place = omega arith }
into (t then l) (suc i) q w e =
    let I = into l i q w e in
    record {
      before = t then I.before;
      here = I.here;
      after = I.after;
      is = ap (λ (m : Items). t then m) I.is;
      count = ap suc I.count;
      rest = I.rest;
      place = omega (arith, I.place, length-append (enc t) (encs I.before));
    }

-- an item stands in its list's encoding behind the header and the items before it, and there the list's call finds it
module _ (l before after : Items) (t : Item) (i : ℕ) (is : l ≡ joined before (t then after)) (count : many before ≡ i) where
  lies_in_list : Lies (enc (list l)) (header_size (length (encs l)) + length (encs before)) (enc t)
  unfolding encs
  lies_in_list =
      rw (enc-list l, sym (header-size lists (length (encs l))))
      (lies_behind (header lists (length (encs l))) (encs l) (enc t) (length (encs before))
      (record { before = encs before; after = encs after; is = ap encs is ∙ encs-joined before (t then after); start = refl }))

  found_in_list : length (enc (list l)) < 2 ^ 64 → item_at (enc (list l)) i ≡ placed (header_size (length (encs l)) + length (encs before)) (length (enc t))
  found_in_list h =
      subst (λ (l : Items). item_at (enc (list l)) i ≡ placed (header_size (length (encs l)) + length (encs before)) (length (enc t))) (sym is)
      (ap (item_at (enc (list (joined before (t then after))))) (sym count)
      ∙ ap (λ (s : List ℕ). item_at s (many before)) (sym (append-nil (enc (list (joined before (t then after))))))
      ∙ (items_of_encoding before after t [] (subst (λ (l : Items). length (enc (list l)) < 2 ^ 64) is h)).0)

-- where an item's encoding stands in the bytes, the walk from there on arrives at the item's item
walk-item : (q : List ℕ) (b : List ℕ) (t : Item) (at : ℕ) (w : Item) → Lies b at (enc t) → length (enc t) < 2 ^ 64 → fetch t q ≡ Ok w
    → walk_from b (record { start = at; len = length (enc t) }) q ≡ placed (at + offset t q) (length (enc w))
unfolding walk_from shifted part also fetch offset
walk-item [] b (str s) at w L h e = let z : at ≡ at + 0 = omega arith in rw (sym (got_inj e)) (ap (λ (k : ℕ). placed k (length (enc (str s)))) z)
walk-item [] b (list l) at w L h e = let z : at ≡ at + 0 = omega arith in rw (sym (got_inj e)) (ap (λ (k : ℕ). placed k (length (enc (list l)))) z)
walk-item (i ∷ q) b (str s) at w L h e = absurd (refused-got e)
walk-item (i ∷ q) b (list l) at w L h e =
    let I = into l i q w e in
    let from : ℕ = header_size (length (encs l)) + length (encs I.before) in
    let M : Lies (enc (list l)) from (enc I.here) = lies_in_list l I.before I.after I.here i I.is I.count in
    let z : at + from + offset I.here q ≡ at + (header_size (length (encs l)) + offset_in l i q) = omega (arith, I.place) in
    let next : Part → Or Part = λ r. walk_from b (shifted at r) q in
    ap (λ (s : List ℕ). also (item_at s i) next) (lies_cut b (enc (list l)) at L)
    ∙ ap (λ (o : Or Part). also o next) (found_in_list l I.before I.after I.here i I.is I.count h)
    ∙ walk-item q b I.here (at + from) w (lies_inner b (enc (list l)) (enc I.here) at from L M) (omega (arith, lies_inside (enc (list l)) (enc I.here) from M)) I.rest
    ∙ ap (λ (k : ℕ). placed k (length (enc w))) z

-- in a sheet
module _ (b : List ℕ) (t : Item) (S : Sheet b t) (q : List ℕ) (w : Item) (e : fetch t q ≡ Ok w) where
  pub lies_there : Lies b (offset t q) (enc w)
  lies_there = subst (λ (s : List ℕ). Lies s (offset t q) (enc w)) S.bytes (lies t q w e)

  pub walk-there : walk b q ≡ placed (offset t q) (length (enc w))
  unfolding walk
  walk-there =
      let z : 0 + offset t q ≡ offset t q = omega arith in
      ap (λ (s : List ℕ). walk_from b (record { start = 0; len = length s }) q) (sym S.bytes)
      ∙ walk-item q b t 0 w (subst (λ (s : List ℕ). Lies s 0 (enc t)) S.bytes (lies_whole (enc t))) (omega (arith, S.small, ap length S.bytes)) e
      ∙ ap (λ (k : ℕ). placed k (length (enc w))) z
