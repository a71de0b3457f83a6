-- Items at the ends of paths: what exchanging one does to the tree, and where one lies in the encoding. Assumes nothing.
use Rattle.std.specs.Prelude.{Ok, Err}
use mathlib.Core.Path.{◌≡◌, refl, sym, ap, ◌∙◌, subst}
use mathlib.Core.Logic.{◌⊎◌, inl, inr}
use Prim.Native.Nat.{ℕ, zero, suc, ◌+◌, ◌≤◌, max}
use native.Mathlib.Omega.{arith}
use mathlib.Core.List.{List, [], ◌∷◌, ◌++◌, append_assoc, append-nil}
use lib.ListN.{length, take, drop, length-append}
use lib.Seq.{take-append_seam, drop_at}
use Rattle.rlp.specs.declared.Refusal.TheVariants.{NoSuchItem}
use Rattle.rlp.specs.Refusals.{Or, also}
use Rattle.rlp.specs.Tree.{Item, Items, str, list, end, ◌then◌, lists, header, enc, encs, depth, deepest, Well, Wells}
use Rattle.rlp.specs.Paths.{fetch, fetch_in, exchange, exchange_in, Starts, Apart, offset, offset_in}
use Rattle.rlp.proofs.Tests.{by_eq}
use Rattle.rlp.proofs.Answers.{refused-got, got_inj, also-got}
use Rattle.rlp.proofs.Sizes.{header-size, enc-list}

-- ---- the empty path

fetch-whole : (t : Item) → fetch t [] ≡ Ok t
unfolding fetch
fetch-whole (str s) = refl
fetch-whole (list l) = refl

exchange-whole : (t u : Item) → exchange t [] u ≡ Ok u
unfolding exchange
exchange-whole (str s) u = refl
exchange-whole (list l) u = refl

-- ---- where there is an item

-- a path names an item, or none
mutual
  unfolding fetch fetch_in

  pub fetched : (t : Item) (p : List ℕ) → ((w : Item) × (fetch t p ≡ Ok w)) ⊎ (fetch t p ≡ Err NoSuchItem)
  fetched (str s) [] = inl (str s, refl)
  fetched (str s) (i ∷ p) = inr refl
  fetched (list l) [] = inl (list l, refl)
  fetched (list l) (i ∷ p) = fetched_in l i p

  fetched_in : (l : Items) (i : ℕ) (p : List ℕ) → ((w : Item) × (fetch_in l i p ≡ Ok w)) ⊎ (fetch_in l i p ≡ Err NoSuchItem)
  fetched_in end i p = inr refl
  fetched_in (t then l) zero p = fetched t p
  fetched_in (t then l) (suc i) p = fetched_in l i p

mutual
  unfolding fetch fetch_in exchange exchange_in also

  pub exchangeable : (t : Item) (p : List ℕ) (u w : Item) → fetch t p ≡ Ok w → (v : Item) × (exchange t p u ≡ Ok v)
  exchangeable (str s) [] u w e = (u, refl)
  exchangeable (str s) (i ∷ p) u w e = absurd (refused-got e)
  exchangeable (list l) [] u w e = (u, refl)
  exchangeable (list l) (i ∷ p) u w e = let a = exchangeable_in l i p u w e in (list a.0, rw a.1)

  exchangeable_in : (l : Items) (i : ℕ) (p : List ℕ) (u w : Item) → fetch_in l i p ≡ Ok w → (m : Items) × (exchange_in l i p u ≡ Ok m)
  exchangeable_in end i p u w e = absurd (refused-got e)
  exchangeable_in (t then l) zero p u w e = let a = exchangeable t p u w e in (a.0 then l, rw a.1)
  exchangeable_in (t then l) (suc i) p u w e = let a = exchangeable_in l i p u w e in (t then a.0, rw a.1)

mutual
  unfolding fetch fetch_in exchange exchange_in also

  pub not-exchanged : (t : Item) (p : List ℕ) (u : Item) → fetch t p ≡ Err NoSuchItem → exchange t p u ≡ Err NoSuchItem
  not-exchanged (str s) [] u e = absurd (refused-got (sym e))
  not-exchanged (str s) (i ∷ p) u e = refl
  not-exchanged (list l) [] u e = absurd (refused-got (sym e))
  not-exchanged (list l) (i ∷ p) u e = rw (not_exchanged_in l i p u e)

  not_exchanged_in : (l : Items) (i : ℕ) (p : List ℕ) (u : Item) → fetch_in l i p ≡ Err NoSuchItem → exchange_in l i p u ≡ Err NoSuchItem
  not_exchanged_in end i p u e = refl
  not_exchanged_in (t then l) zero p u e = rw (not-exchanged t p u e)
  not_exchanged_in (t then l) (suc i) p u e = rw (not_exchanged_in l i p u e)

-- ---- what was put there is found there

mutual
  unfolding fetch fetch_in exchange exchange_in also

  pub found : (t : Item) (p : List ℕ) (u v : Item) → exchange t p u ≡ Ok v → fetch v p ≡ Ok u
  found (str s) [] u v e = rw (sym (got_inj e)) (fetch-whole u)
  found (str s) (i ∷ p) u v e = absurd (refused-got e)
  found (list l) [] u v e = rw (sym (got_inj e)) (fetch-whole u)
  found (list l) (i ∷ p) u v e =
      let a = also-got (exchange_in l i p u) (λ m. Ok (list m)) v e in
      rw (sym (got_inj a.2)) (found_in l i p u a.0 a.1)

  found_in : (l : Items) (i : ℕ) (p : List ℕ) (u : Item) (m : Items) → exchange_in l i p u ≡ Ok m → fetch_in m i p ≡ Ok u
  found_in end i p u m e = absurd (refused-got e)
  found_in (t then l) zero p u m e =
      let a = also-got (exchange t p u) (λ v. Ok (v then l)) m e in
      rw (sym (got_inj a.2)) (found t p u a.0 a.1)
  found_in (t then l) (suc i) p u m e =
      let a = also-got (exchange_in l i p u) (λ n. Ok (t then n)) m e in
      rw (sym (got_inj a.2)) (found_in l i p u a.0 a.1)

-- ---- paths apart

-- behind the same index
apart_next : (i j : ℕ) (p q : List ℕ) → Apart (i ∷ p) (j ∷ q) → i ≡ j → Apart p q
unfolding Starts
apart_next i j p q a e = record { one = λ s. a.one (e, s); other = λ s. a.other (sym e, s) }

-- one starts the other, or they are apart
pub compared : (p q : List ℕ) → (Starts p q ⊎ Starts q p) ⊎ Apart p q
unfolding Starts
compared [] q = inl (inl tt)
compared (i ∷ p) [] = inl (inr tt)
compared (i ∷ p) (j ∷ q) =
    by_eq i j (λ e. behind e (compared p q))
    (λ f. inr (record { one = λ s. f s.0; other = λ s. f (sym s.0) }))
  where
    behind : i ≡ j → (Starts p q ⊎ Starts q p) ⊎ Apart p q → (Starts (i ∷ p) (j ∷ q) ⊎ Starts (j ∷ q) (i ∷ p)) ⊎ Apart (i ∷ p) (j ∷ q)
    behind e (inl (inl s)) = inl (inl (e, s))
    behind e (inl (inr s)) = inl (inr (sym e, s))
    behind e (inr a) = inr (record { one = λ s. a.one s.1; other = λ s. a.other s.1 })

-- what is apart from the path stays
mutual
  unfolding fetch fetch_in exchange exchange_in also Starts

  pub kept : (t : Item) (p : List ℕ) (u v : Item) (q : List ℕ) → exchange t p u ≡ Ok v → Apart p q → fetch v q ≡ fetch t q
  kept (str s) [] u v q e a = absurd (a.one tt)
  kept (str s) (i ∷ p) u v q e a = absurd (refused-got e)
  kept (list l) [] u v q e a = absurd (a.one tt)
  kept (list l) (i ∷ p) u v [] e a = absurd (a.other tt)
  kept (list l) (i ∷ p) u v (j ∷ q) e a =
      let b = also-got (exchange_in l i p u) (λ m. Ok (list m)) v e in
      rw (sym (got_inj b.2)) (kept_in l i p u b.0 j q b.1 (apart_next i j p q a))

  kept_in : (l : Items) (i : ℕ) (p : List ℕ) (u : Item) (m : Items) (j : ℕ) (q : List ℕ) → exchange_in l i p u ≡ Ok m → (i ≡ j → Apart p q) → fetch_in m j q ≡ fetch_in l j q
  kept_in end i p u m j q e a = absurd (refused-got e)
  kept_in (t then l) zero p u m zero q e a =
      let b = also-got (exchange t p u) (λ v. Ok (v then l)) m e in
      rw (sym (got_inj b.2)) (kept t p u b.0 q b.1 (a refl))
  kept_in (t then l) zero p u m (suc j) q e a =
      let b = also-got (exchange t p u) (λ v. Ok (v then l)) m e in
      rw (sym (got_inj b.2))
  kept_in (t then l) (suc i) p u m zero q e a =
      let b = also-got (exchange_in l i p u) (λ n. Ok (t then n)) m e in
      rw (sym (got_inj b.2))
  kept_in (t then l) (suc i) p u m (suc j) q e a =
      let b = also-got (exchange_in l i p u) (λ n. Ok (t then n)) m e in
      rw (sym (got_inj b.2)) (kept_in l i p u b.0 j q b.1 (λ x. a (ap suc x)))

-- ---- exchanging back what was there

mutual
  unfolding fetch fetch_in exchange exchange_in also

  pub back : (t : Item) (p : List ℕ) (u v w : Item) → exchange t p u ≡ Ok v → fetch t p ≡ Ok w → exchange v p w ≡ Ok t
  back (str s) [] u v w e f = exchange-whole v w ∙ sym f
  back (str s) (i ∷ p) u v w e f = absurd (refused-got e)
  back (list l) [] u v w e f = exchange-whole v w ∙ sym f
  back (list l) (i ∷ p) u v w e f =
      let a = also-got (exchange_in l i p u) (λ m. Ok (list m)) v e in
      rw (sym (got_inj a.2)) (rw (back_in l i p u a.0 w a.1 f))

  back_in : (l : Items) (i : ℕ) (p : List ℕ) (u : Item) (m : Items) (w : Item) → exchange_in l i p u ≡ Ok m → fetch_in l i p ≡ Ok w → exchange_in m i p w ≡ Ok l
  back_in end i p u m w e f = absurd (refused-got e)
  back_in (t then l) zero p u m w e f =
      let a = also-got (exchange t p u) (λ v. Ok (v then l)) m e in
      rw (sym (got_inj a.2)) (rw (back t p u a.0 w a.1 f))
  back_in (t then l) (suc i) p u m w e f =
      let a = also-got (exchange_in l i p u) (λ n. Ok (t then n)) m e in
      rw (sym (got_inj a.2)) (rw (back_in l i p u a.0 w a.1 f))

-- ---- two exchanges at paths apart, in either order

mutual
  unfolding exchange exchange_in also Starts

  pub either : (t : Item) (p q : List ℕ) (u w a b : Item) → exchange t p u ≡ Ok a → exchange t q w ≡ Ok b → Apart p q → exchange a q w ≡ exchange b p u
  either (str s) [] q u w a b e f d = absurd (d.one tt)
  either (str s) (i ∷ p) q u w a b e f d = absurd (refused-got e)
  either (list l) [] q u w a b e f d = absurd (d.one tt)
  either (list l) (i ∷ p) [] u w a b e f d = absurd (d.other tt)
  either (list l) (i ∷ p) (j ∷ q) u w a b e f d =
      let x = also-got (exchange_in l i p u) (λ m. Ok (list m)) a e in
      let y = also-got (exchange_in l j q w) (λ m. Ok (list m)) b f in
      rw (sym (got_inj x.2), sym (got_inj y.2))
      (ap (λ (o : Or Items). also o (λ m. Ok (list m))) (either_in l i j p q u w x.0 y.0 x.1 y.1 (apart_next i j p q d)))

  either_in : (l : Items) (i j : ℕ) (p q : List ℕ) (u w : Item) (a b : Items) → exchange_in l i p u ≡ Ok a → exchange_in l j q w ≡ Ok b → (i ≡ j → Apart p q)
      → exchange_in a j q w ≡ exchange_in b i p u
  either_in end i j p q u w a b e f d = absurd (refused-got e)
  either_in (t then l) zero zero p q u w a b e f d =
      let x = also-got (exchange t p u) (λ v. Ok (v then l)) a e in
      let y = also-got (exchange t q w) (λ v. Ok (v then l)) b f in
      rw (sym (got_inj x.2), sym (got_inj y.2))
      (ap (λ (o : Or Item). also o (λ v. Ok (v then l))) (either t p q u w x.0 y.0 x.1 y.1 (d refl)))
  either_in (t then l) zero (suc j) p q u w a b e f d =
      let x = also-got (exchange t p u) (λ v. Ok (v then l)) a e in
      let y = also-got (exchange_in l j q w) (λ n. Ok (t then n)) b f in
      rw (sym (got_inj x.2), sym (got_inj y.2))
      (ap (λ (o : Or Items). also o (λ n. Ok (x.0 then n))) y.1 ∙ sym (ap (λ (o : Or Item). also o (λ v. Ok (v then y.0))) x.1))
  either_in (t then l) (suc i) zero p q u w a b e f d =
      let x = also-got (exchange_in l i p u) (λ n. Ok (t then n)) a e in
      let y = also-got (exchange t q w) (λ v. Ok (v then l)) b f in
      rw (sym (got_inj x.2), sym (got_inj y.2))
      (ap (λ (o : Or Item). also o (λ v. Ok (v then x.0))) y.1 ∙ sym (ap (λ (o : Or Items). also o (λ n. Ok (y.0 then n))) x.1))
  either_in (t then l) (suc i) (suc j) p q u w a b e f d =
      let x = also-got (exchange_in l i p u) (λ n. Ok (t then n)) a e in
      let y = also-got (exchange_in l j q w) (λ n. Ok (t then n)) b f in
      rw (sym (got_inj x.2), sym (got_inj y.2))
      (ap (λ (o : Or Items). also o (λ n. Ok (t then n))) (either_in l i j p q u w x.0 y.0 x.1 y.1 (λ z. d (ap suc z))))

-- ---- depth

-- the result n is at least as deep as the end of a path of length p puts it, and at most as the deeper of that and the old tree
pub record Deep (old new p n : ℕ) : Type 0 where
  pub most : n ≤ max old (p + new)
  pub least : p + new ≤ n

mutual
  unfolding exchange exchange_in depth deepest also

  pub exchange-deep : (t : Item) (p : List ℕ) (u v : Item) → exchange t p u ≡ Ok v → Deep (depth t) (depth u) (length p) (depth v)
  exchange-deep (str s) [] u v e = rw (sym (got_inj e)) (record { most = omega arith; least = omega arith })
  exchange-deep (str s) (i ∷ p) u v e = absurd (refused-got e)
  exchange-deep (list l) [] u v e = rw (sym (got_inj e)) (record { most = omega arith; least = omega arith })
  exchange-deep (list l) (i ∷ p) u v e =
      let a = also-got (exchange_in l i p u) (λ m. Ok (list m)) v e in
      let D : Deep (deepest l) (depth u) (length p) (deepest a.0) = exchange_deep_in l i p u a.0 a.1 in
      rw (sym (got_inj a.2)) (record { most = omega (arith, D.most); least = omega (arith, D.least) })

  exchange_deep_in : (l : Items) (i : ℕ) (p : List ℕ) (u : Item) (m : Items) → exchange_in l i p u ≡ Ok m → Deep (deepest l) (depth u) (length p) (deepest m)
  exchange_deep_in end i p u m e = absurd (refused-got e)
  exchange_deep_in (t then l) zero p u m e =
      let a = also-got (exchange t p u) (λ v. Ok (v then l)) m e in
      let D = exchange-deep t p u a.0 a.1 in
      rw (sym (got_inj a.2)) (record { most = omega (arith, D.most); least = omega (arith, D.least) })
  exchange_deep_in (t then l) (suc i) p u m e =
      let a = also-got (exchange_in l i p u) (λ n. Ok (t then n)) m e in
      let D = exchange_deep_in l i p u a.0 a.1 in
      rw (sym (got_inj a.2)) (record { most = omega (arith, D.most); least = omega (arith, D.least) })

-- a path that names an item is no longer than the tree is deep
mutual
  unfolding fetch fetch_in depth deepest

  pub path-deep : (t : Item) (p : List ℕ) (w : Item) → fetch t p ≡ Ok w → length p + depth w ≤ depth t
  path-deep (str s) [] w e = rw (sym (got_inj e)) (omega arith)
  path-deep (str s) (i ∷ p) w e = absurd (refused-got e)
  path-deep (list l) [] w e = rw (sym (got_inj e)) (omega arith)
  path-deep (list l) (i ∷ p) w e = omega (arith, path_deep_in l i p w e)

  path_deep_in : (l : Items) (i : ℕ) (p : List ℕ) (w : Item) → fetch_in l i p ≡ Ok w → length p + depth w ≤ deepest l
  path_deep_in end i p w e = absurd (refused-got e)
  path_deep_in (t then l) zero p w e = omega (arith, path-deep t p w e)
  path_deep_in (t then l) (suc i) p w e = omega (arith, path_deep_in l i p w e)

-- ---- strings made of bytes stay so

mutual
  unfolding exchange exchange_in also Well Wells

  pub exchange-well : (t : Item) (p : List ℕ) (u v : Item) → exchange t p u ≡ Ok v → Well t → Well u → Well v
  exchange-well (str s) [] u v e w x = subst Well (got_inj e) x
  exchange-well (str s) (i ∷ p) u v e w x = absurd (refused-got e)
  exchange-well (list l) [] u v e w x = subst Well (got_inj e) x
  exchange-well (list l) (i ∷ p) u v e w x =
      let a = also-got (exchange_in l i p u) (λ m. Ok (list m)) v e in
      subst Well (got_inj a.2) (exchange_well_in l i p u a.0 a.1 w x)

  exchange_well_in : (l : Items) (i : ℕ) (p : List ℕ) (u : Item) (m : Items) → exchange_in l i p u ≡ Ok m → Wells l → Well u → Wells m
  exchange_well_in end i p u m e w x = absurd (refused-got e)
  exchange_well_in (t then l) zero p u m e w x =
      let a = also-got (exchange t p u) (λ v. Ok (v then l)) m e in
      subst Wells (got_inj a.2) (exchange-well t p u a.0 a.1 w.0 x, w.1)
  exchange_well_in (t then l) (suc i) p u m e w x =
      let a = also-got (exchange_in l i p u) (λ n. Ok (t then n)) m e in
      subst Wells (got_inj a.2) (w.0, exchange_well_in l i p u a.0 a.1 w.1 x)

-- ---- where an item lies

-- x stands in b from the place `at` on
pub record Lies (b : List ℕ) (at : ℕ) (x : List ℕ) : Type 0 where
  pub before : List ℕ
  pub after : List ℕ
  pub is : b ≡ before ++ (x ++ after)
  pub start : length before ≡ at

-- behind something, and with something behind it
pub lies_behind : (h b x : List ℕ) (at : ℕ) → Lies b at x → Lies (h ++ b) (length h + at) x
lies_behind h b x at L =
    record {
      before = h ++ L.before;
      after = L.after;
      is = ap (λ (s : List ℕ). h ++ s) L.is ∙ sym (append_assoc h L.before (x ++ L.after));
      start = length-append h L.before ∙ ap (λ (n : ℕ). length h + n) L.start;
    }

pub lies_before : (b r x : List ℕ) (at : ℕ) → Lies b at x → Lies (b ++ r) at x
lies_before b r x at L =
    record {
      before = L.before;
      after = L.after ++ r;
      is = ap (λ (s : List ℕ). s ++ r) L.is ∙ append_assoc L.before (x ++ L.after) r ∙ ap (λ (s : List ℕ). L.before ++ s) (append_assoc x L.after r);
      start = L.start;
    }

-- part of a part
pub lies_inner : (b x y : List ℕ) (at from : ℕ) → Lies b at x → Lies x from y → Lies b (at + from) y
lies_inner b x y at from L M =
    record {
      before = L.before ++ M.before;
      after = M.after ++ L.after;
      is = L.is ∙ ap (λ (s : List ℕ). L.before ++ (s ++ L.after)) M.is ∙ simp append_assoc;
      start = length-append L.before M.before ∙ ap (λ (n : ℕ). n + length M.before) L.start ∙ ap (λ (n : ℕ). at + n) M.start;
    }

pub lies_whole : (b : List ℕ) → Lies b 0 b
lies_whole b = record { before = []; after = []; is = sym (append-nil b); start = refl }

mutual
  unfolding fetch fetch_in offset offset_in encs

  pub lies : (t : Item) (p : List ℕ) (w : Item) → fetch t p ≡ Ok w → Lies (enc t) (offset t p) (enc w)
  lies (str s) [] w e = rw (sym (got_inj e)) (lies_whole (enc (str s)))
  lies (str s) (i ∷ p) w e = absurd (refused-got e)
  lies (list l) [] w e = rw (sym (got_inj e)) (lies_whole (enc (list l)))
  lies (list l) (i ∷ p) w e =
      rw (enc-list l, sym (header-size lists (length (encs l))))
      (lies_behind (header lists (length (encs l))) (encs l) (enc w) (offset_in l i p) (lies_in l i p w e))

  lies_in : (l : Items) (i : ℕ) (p : List ℕ) (w : Item) → fetch_in l i p ≡ Ok w → Lies (encs l) (offset_in l i p) (enc w)
  lies_in end i p w e = absurd (refused-got e)
  lies_in (t then l) zero p w e = lies_before (enc t) (encs l) (enc w) (offset t p) (lies t p w e)
  lies_in (t then l) (suc i) p w e = lies_behind (enc t) (encs l) (enc w) (offset_in l i p) (lies_in l i p w e)

-- so it is inside, and is cut out there
pub lies_inside : (b x : List ℕ) (at : ℕ) → Lies b at x → at + length x ≤ length b
lies_inside b x at L = omega (arith, ap length L.is, length-append L.before (x ++ L.after), length-append x L.after, L.start)

pub lies_cut : (b x : List ℕ) (at : ℕ) → Lies b at x → take (length x) (drop at b) ≡ x
lies_cut b x at L =
    ap (λ (s : List ℕ). take (length x) (drop at s)) L.is
    ∙ ap (take (length x)) (drop_at L.before (x ++ L.after) at L.start)
    ∙ take-append_seam x L.after
