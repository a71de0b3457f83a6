-- Item i of a row: what is before it and after it, where it lies, and what exchanging it gives. Assumes nothing.
use Rattle.std.specs.Prelude.{Ok, Err}
use mathlib.Core.Path.{◌≡◌, refl, ap, ◌∙◌}
use Prim.Native.Nat.{ℕ, zero, suc, ◌+◌, ◌≤◌}
use native.Mathlib.Omega.{arith}
use mathlib.Core.List.{List, [], ◌++◌, append_assoc}
use lib.ListN.{length, length-append}
use Rattle.rlp.specs.declared.Refusal.TheVariants.{NoSuchItem}
use Rattle.rlp.specs.Refusals.{Or, also}
use Rattle.rlp.specs.Tree.{Item, Items, str, list, end, ◌then◌, enc, encs, many, joined, depth, deepest}
use Rattle.rlp.specs.Paths.{exchange, exchange_in}
use Rattle.rlp.proofs.Sizes.{enc-list, encs-joined}
use Rattle.amend.specs.Steps.{Split, head_of, Told, ToldIn}

-- there is such an item, or the row has no more than i
pub by_split {ℓ} : {P : Type ℓ} (l : Items) (i : ℕ) → (Split l i → P) → (many l ≤ i → P) → P
unfolding many joined
by_split end i f g = g (omega arith)
by_split (t then l) zero f g = f (record { before = end; old = t; after = l; was = refl; idx = refl })
by_split (t then l) (suc i) f g =
    by_split l i
    (λ S. f (record { before = t then S.before; old = S.old; after = S.after; was = ap (λ m. t then m) S.was; idx = ap suc S.idx }))
    (λ h. g (omega arith))

-- the row with another item in its place
abbrev pub other : (l : Items) (i : ℕ) → Split l i → Item → Items
other l i S v = joined S.before (v then S.after)

-- ---- exchanging it

unfoldable pub swap : Items → Items → Item → Or Items
swap a b v = Ok (joined a (v then b))

exchange-joined : (a : Items) (t : Item) (b : Items) (p : List ℕ) (u : Item) → exchange_in (joined a (t then b)) (many a) p u ≡ also (exchange t p u) (swap a b)
unfolding exchange_in joined many also swap
exchange-joined end t b p u = refl
exchange-joined (x then a) t b p u = rw (exchange-joined a t b p u) (go (exchange t p u))
  where
    go : (o : Or Item) → also (also o (swap a b)) (λ m. Ok (x then m)) ≡ also o (swap (x then a) b)
    go (Err e) = refl
    go (Ok v) = refl

pub exchange_at : (l : Items) (i : ℕ) (p : List ℕ) (u : Item) (S : Split l i) → exchange_in l i p u ≡ also (exchange S.old p u) (swap S.before S.after)
exchange_at l i p u S = rw (S.was, ← S.idx) (exchange-joined S.before S.old S.after p u)

pub exchange-past : (l : Items) (i : ℕ) (p : List ℕ) (u : Item) → many l ≤ i → exchange_in l i p u ≡ Err NoSuchItem
unfolding exchange_in many also
exchange-past end i p u h = refl
exchange-past (t then l) zero p u h = absurd (omega arith)
exchange-past (t then l) (suc i) p u h = rw (exchange-past l i p u (omega arith))

pub exchange-whole : (t u : Item) → exchange t [] u ≡ Ok u
unfolding exchange
exchange-whole (str s) u = refl
exchange-whole (list l) u = refl

-- ---- where it lies

module _ (l : Items) (i : ℕ) (S : Split l i) where
  encs_at : encs l ≡ encs S.before ++ (enc S.old ++ encs S.after)
  unfolding encs
  encs_at = ap encs S.was ∙ encs-joined S.before (S.old then S.after)

  encs-other : (v : Item) → encs (other l i S v) ≡ encs S.before ++ (enc v ++ encs S.after)
  unfolding encs
  encs-other v = encs-joined S.before (v then S.after)

  pub payload-length : length (encs l) ≡ length (encs S.before) + (length (enc S.old) + length (encs S.after))
  payload-length = ap length encs_at ∙ simp length-append

  pub other_length : (v : Item) → length (encs (other l i S v)) ≡ length (encs S.before) + (length (enc v) + length (encs S.after))
  other_length v = ap length (encs-other v) ∙ simp length-append

  -- the pieces of the list's encoding, and of the new one's
  pub pieces : (r : List ℕ) → enc (list l) ++ r ≡ (head_of l ++ encs S.before) ++ (enc S.old ++ (encs S.after ++ r))
  pieces r = ap (λ (y : List ℕ). y ++ r) (enc-list l) ∙ ap (λ (y : List ℕ). (head_of l ++ y) ++ r) encs_at ∙ simp append_assoc

  pub new_pieces : (v : Item) (r : List ℕ) → enc (list (other l i S v)) ++ r ≡ head_of (other l i S v) ++ (encs S.before ++ (enc v ++ (encs S.after ++ r)))
  new_pieces v r = ap (λ (y : List ℕ). y ++ r) (enc-list (other l i S v)) ∙ ap (λ (y : List ℕ). (head_of (other l i S v) ++ y) ++ r) (encs-other v) ∙ simp append_assoc

pub list_length : (l : Items) (r : List ℕ) → length (enc (list l) ++ r) ≡ length (head_of l) + (length (encs l) + length r)
list_length l r = ap (λ (y : List ℕ). length (y ++ r)) (enc-list l) ∙ simp length-append (omega arith)

-- ---- its depth

deep-joined : (a : Items) (t : Item) (b : Items) → depth t ≤ deepest (joined a (t then b))
unfolding joined deepest
deep-joined end t b = omega arith
deep-joined (x then a) t b = omega (arith, deep-joined a t b)

pub deep_at : (l : Items) (i : ℕ) (S : Split l i) → depth S.old ≤ deepest l
deep_at l i S = rw S.was (deep-joined S.before S.old S.after)

-- ---- the plan's lengths

pub told_none : (lens : List ℕ) (u : Item) → Told lens u []
unfolding Told
told_none lens (str s) = tt
told_none lens (list l) = tt

told-joined : (lens : List ℕ) (a : Items) (t : Item) (b : Items) (p : List ℕ) → ToldIn lens (joined a (t then b)) (many a) p ≡ Told lens t p
unfolding ToldIn joined many
told-joined lens end t b p = refl
told-joined lens (x then a) t b p = told-joined lens a t b p

module _ (lens : List ℕ) (l : Items) (i : ℕ) (S : Split l i) (v : Item) (p : List ℕ) where
  pub told_in : Told lens v p → ToldIn lens (other l i S v) i p
  told_in h = rw (← S.idx) (rw (told-joined lens S.before v S.after p) h)

  pub told-out : ToldIn lens (other l i S v) i p → Told lens v p
  told-out h = rw (← told-joined lens S.before v S.after p) (rw S.idx h)
