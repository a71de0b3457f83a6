-- One call of `write`: at the path's end, and at a list. Assumes nothing.
use Rattle.std.specs.Prelude.{Ok}
use mathlib.Core.Path.{◌≡◌, sym, ap, ◌∙◌, subst}
use Prim.Native.Nat.{ℕ, ◌+◌, ◌-◌, ◌≤◌, ◌<◌}
use native.Mathlib.Omega.{arith}
use mathlib.Core.List.{List, [], ◌∷◌, ◌++◌, append-nil}
use lib.ListN.{length, take, drop, get_or, length-append, length-drop, drop_of_length-le}
use Rattle.std.proofs.lemmas.List.{drop_more}
use lib.Seq.{take_all, length-take-le}
use Rattle.rlp.specs.Refusals.{also}
use Rattle.rlp.specs.Limits.{limit}
use Rattle.rlp.specs.Tree.{Item, list, lists, header, enc, encs}
use Rattle.rlp.specs.Paths.{exchange, exchange_in}
use Rattle.rlp.proofs.Answers.{got_inj, also-got}
use Rattle.amend.specs.declared.Child.{Child}
use Rattle.amend.specs.Steps.{head_of, IsAt, Told, spliced, Ready, CanWrite, Written}
use Rattle.amend.proofs.Splits.{other, swap, exchange_at, exchange-whole, other_length, list_length}
use Rattle.amend.proofs.Writing.{write_leaf, from_fits, room, ready_in, write_step}

-- a slice from a place on
whole_part : (s : List ℕ) (at : ℕ) → take (length s - at) (drop at s) ≡ drop at s
whole_part s at = take_all (length s - at) (drop at s) (rw length-drop (omega arith))

nothing_left : (s : List ℕ) (at : ℕ) → drop (length s - at) (drop at s) ≡ []
nothing_left s at = drop_of_length-le (drop at s) {i = length s - at} (rw length-drop (omega arith))

-- ---- the path's end

module _ (s : List ℕ) (len : ℕ) {q x lens : List ℕ} {size : ℕ} {t u v : Item} {r : List ℕ} (fits : len ≤ length s) (ended : length q ≡ 0)
    (R : Ready (take len s) q x lens size (length s) t u v r) where
  leaf_ready : Ready (take len s) [] x lens size (length s) t u v r
  leaf_ready = subst (λ (p : List ℕ). Ready (take len s) p x lens size (length s) t u v r) (drop_of_length-le q {i = 0} (omega arith)) R

  pub leaf_room : (size ≤ len) × (len ≤ length s) × (len - size + length x ≤ length s)
  leaf_room =
      let n : len ≡ length (enc t) + length r = sym (length-take-le len s fits) ∙ ap length R.here ∙ length-append (enc t) r in
      let same : u ≡ v = got_inj (sym (exchange-whole t u) ∙ leaf_ready.goal) in
      let m : length x ≡ length (enc v) = ap length (sym R.what ∙ ap enc same) in
      (omega (arith, R.whole), fits, omega (arith, R.whole, R.new, length-append (enc v) r))

  pub leaf_written : {ret : ℕ} {exit : List ℕ} → ret ≡ len - size + length x → exit ≡ spliced s len size x → Written s exit len ret v r
  leaf_written {ret} {exit} e d = write_leaf s x lens len size ret exit t u v r fits leaf_ready e d

-- ---- a list

-- what `item_of` told of any tree that the bytes begin with is so of the one that is ready
pub here : {b q x lens : List ℕ} {size space : ℕ} {t u v : Item} {r : List ℕ} {P : Item → Type 0} → Ready b q x lens size space t u v r
    → ((t : Item) (r : List ℕ) → b ≡ enc t ++ r → length b ≤ limit → P t) → P t
here {t = t} {r = r} R F = F t r R.here (omega (arith, R.old, R.small))

-- the list is at level k, where `lens` tells its payload's new length, `now`
module _ (s : List ℕ) (len : ℕ) (lens : List ℕ) (k : ℕ) {q p x : List ℕ} {size i : ℕ} {c : Child} {t u v : Item} {r : List ℕ} (fits : len ≤ length s) (step : q ≡ i ∷ p)
    (R : Ready (take len s) q x (drop k lens) size (length s) t u v r) (K : IsAt t i c) where
  abbrev now : ℕ
  now = get_or lens k 0

  -- and the lengths behind it are those of the lists in it
  abbrev rest : List ℕ
  rest = drop (k + 1) lens

  pub some_level : k < length lens
  some_level = omega (arith, R.deep, ap length step, length-drop k lens)

  -- the item's new tree
  pub record Turn : Type 0 where
    pub new : Item
    pub is : v ≡ list (other K.l i K.S new)
    pub inner : exchange K.S.old p u ≡ Ok new

  pub turn : Turn
  unfolding exchange swap
  turn =
      let e : also (exchange_in K.l i p u) (λ m. Ok (list m)) ≡ Ok v =
      ap (λ (t : Item). exchange t (i ∷ p) u) (sym K.was) ∙ ap (λ (p : List ℕ). exchange t p u) (sym step) ∙ R.goal in
      let a = also-got (exchange_in K.l i p u) (λ m. Ok (list m)) v e in
      let b = also-got (exchange K.S.old p u) (swap K.S.before K.S.after) a.0 (sym (exchange_at K.l i p u K.S) ∙ a.1) in
      record { new = b.0; is = sym (got_inj a.2) ∙ ap list (sym (got_inj b.2)); inner = b.1 }

  turned : Ready (take len s) (i ∷ p) x (now ∷ rest) size (length s) (list K.l) u (list (other K.l i K.S turn.new)) r
  turned =
      subst (λ (t : Item). Ready (take len s) (i ∷ p) x (now ∷ rest) size (length s) t u (list (other K.l i K.S turn.new)) r) K.was
      (subst (λ (v : Item). Ready (take len s) (i ∷ p) x (now ∷ rest) size (length s) t u v r) turn.is
      (subst (λ (p : List ℕ). Ready (take len s) p x (now ∷ rest) size (length s) t u v r) step
      (subst (λ (l : List ℕ). Ready (take len s) q x l size (length s) t u v r) (drop_more lens k 0 some_level) R)))

  head-is : header lists now ≡ head_of (other K.l i K.S turn.new)
  unfolding Told
  head-is = ap (header lists) turned.told.0

  -- the call goes on with what there is from the item on
  abbrev part : List ℕ
  part = take (length s - c.from) (drop c.from s)

  turn_ready : Ready (take (len - c.from) part) p x rest c.size (length part) K.S.old u turn.new (encs K.S.after ++ r)
  turn_ready =
      let G : ℕ → List ℕ → ℕ → Type 0 = λ m b a. Ready (take (len - m) b) p x rest a (length b) K.S.old u turn.new (encs K.S.after ++ r) in
      subst (λ (b : List ℕ). G c.from b c.size) (sym (whole_part s c.from))
      (subst (λ (a : ℕ). G c.from (drop c.from s) a) (sym K.size_is)
      (subst (λ (m : ℕ). G m (drop m s) (length (enc K.S.old))) (sym K.from_is)
      (ready_in s x (now ∷ rest) p r len size i K.l K.S u turn.new fits turned turn.inner)))

  pub can_turn : CanWrite (take (len - c.from) part) p x rest c.size (length part)
  can_turn = record { t = K.S.old; u = u; v = turn.new; r = encs K.S.after ++ r; ready = turn_ready }

  -- it leaves `out` there
  module _ {out : List ℕ} {n : ℕ} (same : length out ≡ length part)
      (wrote : (t u v : Item) (r : List ℕ) → Ready (take (len - c.from) part) p x rest c.size (length part) t u v r → Written part out (len - c.from) n v r) where
    abbrev all : List ℕ
    all = take c.from s ++ (out ++ drop (length s - c.from) (drop c.from s))

    all-is : all ≡ take c.from s ++ out
    all-is = ap (λ (y : List ℕ). take c.from s ++ (out ++ y)) (nothing_left s c.from) ∙ ap (λ (y : List ℕ). take c.from s ++ y) (append-nil out)

    new-part : Written (drop c.from s) out (len - c.from) n turn.new (encs K.S.after ++ r)
    new-part = subst (λ (y : List ℕ). Written y out (len - c.from) n turn.new (encs K.S.after ++ r)) (whole_part s c.from) (wrote K.S.old u turn.new (encs K.S.after ++ r) turn_ready)

    same_long : length out ≡ length (drop c.from s)
    same_long = same ∙ ap length (whole_part s c.from)

    all-long : length all ≡ length s
    all-long =
        let f : c.from ≤ len = omega (arith, K.from_is, from_fits s x (now ∷ rest) p r len size i K.l K.S u turn.new fits turned turn.inner) in
        ap length all-is ∙ length-append (take c.from s) out ∙ omega (arith, length-take-le c.from s (omega arith), same_long, length-drop c.from s)

    n-is : n ≡ length (enc turn.new) + (length (encs K.S.after) + length r)
    n-is = new-part.size ∙ simp length-append

    -- then the new header has room
    pub turn_room : (c.head ≤ c.from + n) × (c.from + n ≤ length all) × (c.from + n - c.head + length (header lists now) ≤ length all)
    turn_room =
        let a = room s x (now ∷ rest) p r len size i K.l K.S u turn.new fits turned turn.inner in (
          omega (arith, K.head-is, K.from_is),
          omega (arith, a, n-is, K.from_is, all-long),
          omega (arith, n-is, K.head-is, K.from_is, ap length head-is, turned.new, list_length (other K.l i K.S turn.new) r, other_length K.l i K.S turn.new, all-long),
        )

    pub turn_small : c.from + n ≤ limit
    turn_small = omega (arith, turn_room.1, all-long, R.small)

    pub turn_written : {ret : ℕ} {exit : List ℕ} → ret ≡ c.from + n - c.head + length (header lists now)
        → exit ≡ spliced all (c.from + n) c.head (header lists now) → Written s exit len ret v r
    turn_written {ret} {exit} e d =
        let o = other K.l i K.S turn.new in
        subst (λ (v : Item). Written s exit len ret v r) (sym turn.is)
        (write_step s x (now ∷ rest) p r len size i K.l K.S u turn.new fits turned turn.inner out exit n ret
        (same_long ∙ ap (λ (m : ℕ). length (drop m s)) K.from_is)
        (subst (λ (m : ℕ). Written (drop m s) out (len - m) n turn.new (encs K.S.after ++ r)) K.from_is new-part)
        (omega (arith, e, K.from_is, K.head-is, ap length head-is))
        (d ∙ ap (λ (y : List ℕ). spliced y (c.from + n) c.head (header lists now)) all-is
        ∙ ap (λ (y : List ℕ). spliced (take c.from s ++ out) (c.from + n) c.head y) head-is
        ∙ ap (λ (m : ℕ). spliced (take c.from s ++ out) (c.from + n) m (head_of o)) K.head-is
        ∙ ap (λ (m : ℕ). spliced (take m s ++ out) (m + n) (length (head_of K.l)) (head_of o)) K.from_is))
