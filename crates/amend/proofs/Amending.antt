-- The amender: its refusals in their order, and what it leaves. Assumes nothing.
use Rattle.std.specs.Prelude.{Option, None, Some, ok_or, Ok, Err}
use mathlib.Core.Path.{◌≡◌, sym, ap, ◌∙◌, subst}
use Prim.Native.Nat.{ℕ, ◌+◌, ◌-◌, ◌≤◌, ◌<◌, max}
use native.Mathlib.Omega.{arith}
use mathlib.Core.List.{List, [], ◌++◌, append-nil}
use lib.ListN.{length, take, drop, get_or, replicate, length-take, length-drop, take-append-drop}
use lib.Seq.{length-take-le, drop-drop}
use borrow.Rule.Slice.PartMut.{put_mid}
use Rattle.rlp.specs.declared.Refusal.{Refusal}
use Rattle.rlp.specs.declared.Refusal.TheVariants.{RlpIsTooShort, TooDeep, TooLarge, NoRoom, NoSuchItem}
use Rattle.rlp.specs.Refusals.{also}
use Rattle.rlp.specs.Bytes.{Bytes}
use Rattle.rlp.specs.Limits.{limit, levels}
use Rattle.rlp.specs.Tree.{Item, enc, depth}
use Rattle.rlp.specs.Paths.{exchange}
use Rattle.rlp.proofs.Answers.{got_inj, refused_inj, also-got, also-refused, unless-true, unless-false}
use Rattle.rlp.proofs.Slices.{bytes_of, bytes_take}
use Rattle.rlp.proofs.Tests.{is_le, not_le, by_lt}
use Rattle.rlp.proofs.Claims.{depth_after_exchange}
use Rattle.strict.specs.declared.Tally.{Tally}
use Rattle.strict.specs.Strict.{tree, tally_of, strict}
use Rattle.strict.specs.Claims.{Sheet}
use Rattle.strict.proofs.Claims.{check_is_exact}
use Rattle.amend.specs.declared.Sizes.{Sizes}
use Rattle.amend.specs.Amend.{fitting, new_tree, after, amended}
use Rattle.amend.specs.Answers.{leaves}
use Rattle.amend.specs.Steps.{Level, Found, Planned, Ready, CanWrite, Written, Both}

-- ---- the strict answers

tree-refused : (b : List ℕ) (e : Refusal) → strict b ≡ Err e → tree b ≡ Err e
unfolding strict
tree-refused b e s = also-refused (tree b) tally_of e s

-- an accepted sheet's tree
record Read (b : List ℕ) (d : ℕ) : Type 0 where
  t : Item
  is : tree b ≡ Ok t
  sheet : Sheet b t
  deep : depth t ≡ d

tree_read : (b : List ℕ) (k : Tally) → Bytes b → strict b ≡ Ok k → Read b k.depth
unfolding strict tally_of
tree_read b k w s =
    let a = also-got (tree b) (λ t. Ok (tally_of t)) k s in
    record { t = a.0; is = a.1; sheet = (check_is_exact b a.0 w).0 a.1; deep = ap (λ (y : Tally). y.depth) (got_inj a.2) }

-- ---- up to the replacement's refusals

module _ (b : List ℕ) (n : ℕ) (path new : List ℕ) where
  pub refusing : {e : Refusal} → new_tree b n path new ≡ Err e → leaves (Err e) b ≡ amended b n path new
  unfolding leaves amended after
  refusing p = sym (ap (after b n) p)

  module _ (small : length b ≤ limit) (short : length new ≤ limit) (inside : n ≤ length b) where
    going : new_tree b n path new ≡ also (tree (take n b)) (λ t. also (tree new) (λ u. also (exchange t path u) (fitting (length b))))
    unfolding new_tree
    going = unless-true TooLarge _ (rw (is_le small, is_le short)) ∙ unless-true RlpIsTooShort _ (is_le inside)

    pub bad_sheet : {e : Refusal} → strict (take n b) ≡ Err e → new_tree b n path new ≡ Err e
    unfolding also
    bad_sheet {e} s = going ∙ rw (tree-refused (take n b) e s)

    pub bad_other : {k : Tally} {e : Refusal} → strict (take n b) ≡ Ok k → strict new ≡ Err e → new_tree b n path new ≡ Err e
    unfolding strict also
    bad_other {k} {e} s p = let a = also-got (tree (take n b)) (λ t. Ok (tally_of t)) k s in going ∙ rw a.1 (rw (tree-refused new e p))

    pub both : {k j : Tally} → ((i : ℕ) → get_or b i 0 < 256) → ((i : ℕ) → get_or new i 0 < 256) → strict (take n b) ≡ Ok k → strict new ≡ Ok j → Both b n path new j.depth
    unfolding also
    both {k} {j} v w s p =
        let T = tree_read (take n b) k (bytes_take n b (bytes_of b (λ i h. v i))) s in
        let U = tree_read new j (bytes_of new (λ i h. w i)) p in
        record {
          t = T.t;
          u = U.t;
          small = small;
          inside = inside;
          sheet = T.sheet;
          other = U.sheet;
          deep = U.deep;
          next = going ∙ rw T.is (rw U.is);
        }

-- ---- where both are strict

module _ {b : List ℕ} {n : ℕ} {path new : List ℕ} {d : ℕ} (B : Both b n path new d) where
  level : Level (take n b) 0 B.t
  level = record { bytes = B.sheet.bytes; deep = omega (arith, B.sheet.deep); small = B.sheet.small }

  -- what the plan told is so of the two trees
  module _ (o : Option Sizes) (told : (t u : Item) → Level (take n b) 0 t → length (enc u) ≡ length new → Planned t path u 0 o) where
    planned : Planned B.t path B.u 0 o
    planned = told B.t B.u level (ap length B.other.bytes)

    pub missing : {e : Refusal} → o ≡ None → Err e ≡ ok_or o NoSuchItem → new_tree b n path new ≡ Err e
    unfolding also
    missing none e =
        let P : exchange B.t path B.u ≡ Err NoSuchItem = subst (λ (o : Option Sizes). Planned B.t path B.u 0 o) none planned in
        rw (refused_inj (e ∙ ap (λ (o : Option Sizes). ok_or o NoSuchItem) none)) (B.next ∙ rw P)

    pub found : {s : Sizes} → o ≡ Some s → Found B.t path B.u s.size s.lens
    found some = subst (λ (o : Option Sizes). Planned B.t path B.u 0 o) some planned

  module _ {size : ℕ} {lens : List ℕ} (F : Found B.t path B.u size lens) where
    deeper : (levels < depth F.new → levels < length path + depth B.u) × (levels < length path + depth B.u → levels < depth F.new)
    deeper = depth_after_exchange B.t path B.u F.new levels F.is B.sheet.deep

    fitted : new_tree b n path new ≡ fitting (length b) F.new
    unfolding also
    fitted = B.next ∙ rw F.is

    pub too_deep : levels < length path + d → new_tree b n path new ≡ Err TooDeep
    unfolding fitting
    too_deep h = fitted ∙ unless-false TooDeep _ (not_le (deeper.1 (omega (arith, B.deep))))

    module _ (shallow : length path + d ≤ levels) where
      flat : depth F.new ≤ levels
      flat = by_lt levels (depth F.new) (λ h. absurd (omega (arith, deeper.0 h, B.deep))) (λ h. h)

      pub no_room : length b < size → new_tree b n path new ≡ Err NoRoom
      unfolding fitting
      no_room h = fitted ∙ unless-true TooDeep _ (is_le flat) ∙ unless-false NoRoom _ (not_le {a = length (enc F.new)} {b = length b} (omega (arith, F.big)))

      module _ (long : length lens ≡ levels) (fits : size ≤ length b) where
        accepted : new_tree b n path new ≡ Ok F.new
        unfolding fitting
        accepted = fitted ∙ unless-true TooDeep _ (is_le flat) ∙ unless-true NoRoom _ (is_le {a = length (enc F.new)} {b = length b} (omega (arith, F.big)))

        top_ready : Ready (take n b) path new lens n (length b) B.t B.u F.new []
        top_ready = record {
          here = sym B.sheet.bytes ∙ sym (append-nil (enc B.t));
          whole = sym (length-take-le n b B.inside) ∙ ap length (sym B.sheet.bytes);
          what = B.other.bytes;
          goal = F.is;
          told = F.told;
          deep = omega arith;
          old = omega (arith, length-take n b);
          new = omega (arith, F.big, ap length (append-nil (enc F.new)));
          small = B.small;
        }

        pub can_write : CanWrite (take n b) path new lens n (length b)
        can_write = record { t = B.t; u = B.u; v = F.new; r = []; ready = top_ready }

        module _ {w : ℕ} {mid : List ℕ} (wrote : (t u v : Item) (r : List ℕ) → Ready (take n b) path new lens n (length b) t u v r → Written b mid n w v r) where
          W : Written b mid n w F.new []
          W = wrote B.t B.u F.new [] top_ready

          whole : w ≡ length (enc F.new)
          whole = W.size ∙ ap length (append-nil (enc F.new))

          -- with zeros up to n
          pub top-said : {exit : List ℕ} → exit ≡ take w mid ++ (replicate (n - w) 0 ++ drop (max w n) mid) → leaves (Ok w) exit ≡ amended b n path new
          unfolding leaves amended after
          top-said {exit} e =
              let v = F.new in
              let f : exit ≡ enc v ++ (replicate (n - length (enc v)) 0 ++ drop (max (length (enc v)) n) b) =
              e ∙ ap (λ (y : List ℕ). y ++ (replicate (n - w) 0 ++ drop (max w n) mid)) (W.front ∙ append-nil (enc v))
              ∙ ap (λ (y : List ℕ). enc v ++ (replicate (n - w) 0 ++ y)) W.rest
              ∙ ap (λ (m : ℕ). enc v ++ (replicate (n - m) 0 ++ drop (max m n) b)) whole in
              rw (whole, f) (sym (ap (after b n) accepted))

-- ---- zeros

module _ (mid : List ℕ) {w n : ℕ} where
  pub cleared : {zeros : List ℕ} → w < n → n ≤ length mid → zeros ≡ replicate (length (take (n - w) (drop w mid))) 0
      → put_mid w (n - w) mid zeros ≡ take w mid ++ (replicate (n - w) 0 ++ drop (max w n) mid)
  cleared {zeros} h l z =
      let k : length (take (n - w) (drop w mid)) ≡ n - w = simp (length-take, length-drop) (omega arith) in
      let m : w + (n - w) ≡ max w n = omega arith in
      rw (z, k) (ap (λ (y : List ℕ). take w mid ++ (replicate (n - w) 0 ++ y)) (drop-drop (n - w) w mid ∙ ap (λ (m : ℕ). drop m mid) m))

  pub uncleared : n ≤ w → mid ≡ take w mid ++ (replicate (n - w) 0 ++ drop (max w n) mid)
  uncleared h =
      let z : n - w ≡ 0 = omega arith in
      let m : max w n ≡ w = omega arith in
      rw (z, m) (sym (take-append-drop w mid))
