-- When there is a new tree, and else which refusal comes first. Assumes nothing.
use Rattle.std.specs.Prelude.{Ok, Err}
use mathlib.Core.Path.{◌≡◌, refl, ap, ◌∙◌, subst}
use mathlib.Core.Bool.{Bool, true, false, ◌&&◌}
use Prim.Native.Nat.{ℕ, ◌+◌, ◌≤◌, ◌<◌, max}
use native.Mathlib.Omega.{arith}
use mathlib.Core.List.{List}
use lib.Dec.{leb}
use lib.ListN.{length, take}
use borrow.Author.Tests.{leb-true}
use Rattle.rlp.specs.declared.Refusal.{Refusal}
use Rattle.rlp.specs.declared.Refusal.TheVariants.{RlpIsTooShort, TooDeep, TooLarge, NoRoom, NoSuchItem}
use Rattle.rlp.specs.Refusals.{Or, also, unless}
use Rattle.rlp.specs.Bytes.{Bytes}
use Rattle.rlp.specs.Limits.{limit, levels}
use Rattle.rlp.specs.Tree.{Item, enc, depth}
use Rattle.rlp.specs.Paths.{fetch, exchange}
use Rattle.rlp.proofs.Tests.{is_le, not_le, by_lt}
use Rattle.rlp.proofs.Answers.{refused-got, got_inj, also-got, unless-got}
use Rattle.rlp.proofs.Slices.{bytes_take}
use Rattle.rlp.proofs.Sizes.{enc-bytes}
use Rattle.rlp.proofs.Paths.{not-exchanged, exchange-deep}
use Rattle.strict.specs.Strict.{tree}
use Rattle.strict.specs.Claims.{Sheet}
use Rattle.strict.proofs.Claims.{check_is_exact}
use Rattle.amend.specs.Amend.{fitting, new_tree, after, amended}
use Rattle.amend.specs.Claims.{Amends}

-- a sheet's tree is read from it
pub reads : (b : List ℕ) (t : Item) → Sheet b t → tree b ≡ Ok t
reads b t S =
    let w : Bytes b = subst Bytes S.bytes (enc-bytes t S.well (omega (arith, S.small, ap length S.bytes))) in
    (check_is_exact b t w).1 S

module _ (b : List ℕ) (n : ℕ) (path new : List ℕ) where
  -- ---- the answer, from the new tree

  pub answer-refused : (e : Refusal) → new_tree b n path new ≡ Err e → (amended b n path new).answer ≡ Err e
  unfolding amended after
  answer-refused e p = ap (λ (o : Or Item). (after b n o).answer) p

  pub answer-got : (v : Item) → new_tree b n path new ≡ Ok v → (amended b n path new).answer ≡ Ok (length (enc v))
  unfolding amended after
  answer-got v p = ap (λ (o : Or Item). (after b n o).answer) p

  pub answered-got : (m : ℕ) → (amended b n path new).answer ≡ Ok m → (v : Item) × (new_tree b n path new ≡ Ok v) × (length (enc v) ≡ m)
  unfolding amended after
  answered-got m e = go (new_tree b n path new) refl e
    where
      go : (o : Or Item) → new_tree b n path new ≡ o → (after b n o).answer ≡ Ok m → (v : Item) × (new_tree b n path new ≡ Ok v) × (length (enc v) ≡ m)
      go (Err x) p q = absurd (refused-got q)
      go (Ok v) p q = (v, p, got_inj q)

  -- ---- the refusals in their order

  pub large : limit < max (length b) (length new) → new_tree b n path new ≡ Err TooLarge
  unfolding new_tree unless
  large h =
      by_lt limit (length b) (λ l. rw (not_le l))
      (λ l. let k : limit < length new = omega arith in rw (is_le l, not_le k))

  module _ (small : length b ≤ limit) (light : length new ≤ limit) where
    pub past-buffer : length b < n → new_tree b n path new ≡ Err RlpIsTooShort
    unfolding new_tree unless
    past-buffer h = rw (is_le small, is_le light, not_le h)

    module _ (inside : n ≤ length b) where
      going : new_tree b n path new ≡ also (tree (take n b)) (λ t. also (tree new) (λ u. also (exchange t path u) (fitting (length b))))
      unfolding new_tree unless
      going = rw (is_le small, is_le light, is_le inside)

      pub bad_sheet : (e : Refusal) → tree (take n b) ≡ Err e → new_tree b n path new ≡ Err e
      unfolding also
      bad_sheet e p = going ∙ rw p

      pub bad_other : (t : Item) (e : Refusal) → tree (take n b) ≡ Ok t → tree new ≡ Err e → new_tree b n path new ≡ Err e
      unfolding also
      bad_other t e p q = going ∙ rw p (rw q)

  module _ (t u : Item) (small : length b ≤ limit) (inside : n ≤ length b) (sheet : Sheet (take n b) t) (other : Sheet new u) where
    both : new_tree b n path new ≡ also (exchange t path u) (fitting (length b))
    unfolding also
    both = going small other.small inside ∙ rw (reads (take n b) t sheet) (rw (reads new u other))

    pub no_item : fetch t path ≡ Err NoSuchItem → new_tree b n path new ≡ Err NoSuchItem
    unfolding also
    no_item e = both ∙ rw (not-exchanged t path u e)

    module _ (v : Item) (is : exchange t path u ≡ Ok v) where
      pub too_deep : levels < length path + depth u → new_tree b n path new ≡ Err TooDeep
      unfolding also fitting unless
      too_deep h =
          let k : levels < depth v = omega (arith, (exchange-deep t path u v is).least) in
          both ∙ rw is (rw (not_le k))

      pub no_room : length path + depth u ≤ levels → length b < length (enc v) → new_tree b n path new ≡ Err NoRoom
      unfolding also fitting unless
      no_room h full =
          let k : depth v ≤ levels = omega (arith, (exchange-deep t path u v is).most, sheet.deep) in
          both ∙ rw is (rw (is_le k) (rw (not_le full)))

      pub fitted : depth v ≤ levels → length (enc v) ≤ length b → new_tree b n path new ≡ Ok v
      unfolding also fitting unless
      fitted flat fits = both ∙ rw is (rw (is_le flat) (rw (is_le fits)))

  -- ---- accepted

  pub amends-tree : (t u v : Item) → Amends b n path new t u v → new_tree b n path new ≡ Ok v
  amends-tree t u v A = fitted t u A.small A.inside A.sheet A.other v A.exchanged A.flat A.fits

  pub tree-amends : (v : Item) → Bytes b → Bytes new → new_tree b n path new ≡ Ok v → (t : Item) × (u : Item) × Amends b n path new t u v
  unfolding new_tree fitting
  tree-amends v w x e =
      let p = unless-got (leb (length b) limit && leb (length new) limit) TooLarge _ v e in
      let r = unless-got (leb n (length b)) RlpIsTooShort _ v p.1 in
      let a = also-got (tree (take n b)) _ v r.1 in
      let c = also-got (tree new) _ v a.2 in
      let d = also-got (exchange a.0 path c.0) (fitting (length b)) v c.2 in
      let f = unless-got (leb (depth d.0) levels) TooDeep _ v d.2 in
      let g = unless-got (leb (length (enc d.0)) (length b)) NoRoom (Ok d.0) v f.1 in
      let z : d.0 ≡ v = got_inj g.1 in (
        a.0,
        c.0,
        record {
          small = leb-true (length b) limit (and_first (leb (length b) limit) (leb (length new) limit) p.0);
          inside = leb-true n (length b) r.0;
          sheet = (check_is_exact (take n b) a.0 (bytes_take n b w)).0 a.1;
          other = (check_is_exact new c.0 x).0 c.1;
          exchanged = d.1 ∙ ap Ok z;
          flat = subst (λ (y : Item). depth y ≤ levels) z (leb-true (depth d.0) levels f.0);
          fits = subst (λ (y : Item). length (enc y) ≤ length b) z (leb-true (length (enc d.0)) (length b) g.0);
        },
      )
    where
      and_first : (s t : Bool) → s && t ≡ true → s ≡ true
      and_first true t h = refl
      and_first false t h = h
