-- The numbers are the state, and a store in the numbers is that store in the state. Assumes nothing.
use mathlib.Core.Path.{◌≡◌, refl, sym, ap, ◌∙◌}
use Prim.Native.Nat.{ℕ, zero, suc, ◌+◌, ◌-◌, ◌≤◌, ◌<◌}
use native.Mathlib.Omega.{arith}
use mathlib.Core.List.{List, [], ◌∷◌, ◌++◌}
use lib.ListN.{length, take, drop, get_or, set, replicate, length-append, length-drop, length-set, take-append-drop}
use lib.Seq.{length-take-le, take_all, take_at, drop_at, drop-drop, set-append_left, get_or-take}
use Rattle.rlp.specs.Limits.{levels}
use Rattle.stream.specs.declared.Stream.{Stream}
use Rattle.stream.specs.declared.lists.Left.{Left}
use Rattle.stream.specs.State.{state_of}
use Rattle.stream.specs.Stream.{new_of}
use Rattle.stream.specs.Steps.{state_at, set_last, keeping, opening}
use Rattle.loughcable.specs.Crossing.{positions_at, currents_at, maxima_at, size, Full, laid_out, numbers, stream_in, state_in}
use Rattle.loughcable.specs.Steps.{Stores, StoresList}

-- ---- there and back

pub in_numbers_lem : (s : Stream) → Full s → stream_in (numbers s) ≡ s
unfolding stream_in numbers laid_out
in_numbers_lem s f =
    let q : List ℕ = s.currents ++ s.maxima in
    let e : drop (levels + levels) (s.positions ++ q) ≡ s.maxima =
    sym (drop-drop levels levels (s.positions ++ q)) ∙ ap (drop levels) (drop_at s.positions q levels f.0) ∙ drop_at s.currents s.maxima levels f.1 in
    rw
    (take_at s.positions q levels f.0, drop_at s.positions q levels f.0, take_at s.currents s.maxima levels f.1, e, take_all levels s.maxima (omega (arith, f.2)))

rest_in : (r : List ℕ) → length r ≡ levels + levels + levels → take levels r ++ (take levels (drop levels r) ++ take levels (drop (levels + levels) r)) ≡ r
rest_in r h =
    let e : take levels (drop (levels + levels) r) ≡ drop levels (drop levels r) =
    take_all levels (drop (levels + levels) r) (omega (arith, length-drop (levels + levels) r)) ∙ sym (drop-drop levels levels r) in
    rw (e, take-append-drop levels (drop levels r), take-append-drop levels r)

pub numbers_in : (ns : List ℕ) → length ns ≡ size → numbers (stream_in ns) ≡ ns
unfolding stream_in numbers laid_out
numbers_in [] h = absurd (omega arith)
numbers_in (a ∷ []) h = absurd (omega arith)
numbers_in (a ∷ b ∷ []) h = absurd (omega arith)
numbers_in (a ∷ b ∷ c ∷ r) h = rw (rest_in r (omega arith))

-- as they are taken apart: a list of 3, and what is left cut into three of an entry for each level
pub apart_so : (ns f r p q c t m : List ℕ)
    → (f ≡ take positions_at ns) × (r ≡ drop positions_at ns) × (length r + positions_at ≡ length ns)
    → (p ≡ take levels r) × (q ≡ drop levels r) × (length q + levels ≡ length r)
    → (c ≡ take levels q) × (t ≡ drop levels q) × (length t + levels ≡ length q)
    → length t ≡ levels → m ≡ t
    → (length ns ≡ size) × (state_at (get_or f 0 0) (get_or f 1 0) p c m (get_or f 2 0) ≡ state_in ns)
unfolding state_in stream_in state_of
apart_so ns f r p q c t m a b d l s =
    let n : length ns ≡ size = omega (arith, a.2, b.2, d.2) in
    let e : q ≡ drop currents_at ns = b.1 ∙ ap (drop levels) a.1 ∙ drop-drop levels positions_at ns in
    let k : t ≡ drop maxima_at ns = d.1 ∙ ap (drop levels) e ∙ drop-drop levels currents_at ns in
    let z : take levels (drop maxima_at ns) ≡ m = ap (take levels) (sym k) ∙ take_all levels t (omega (arith, l)) ∙ sym s in
    (n, rw (z, b.0, a.1, d.0, e, a.0, get_or-take 3 ns 0 0 (omega arith), get_or-take 3 ns 1 0 (omega arith), get_or-take 3 ns 2 0 (omega arith)))

pub full_in : (ns : List ℕ) → length ns ≡ size → Full (stream_in ns)
unfolding stream_in
full_in ns h =
    (length-take-le levels (drop positions_at ns) (omega (arith, length-drop positions_at ns)), length-take-le levels (drop currents_at ns) (omega (arith, length-drop currents_at ns)), length-take-le levels (drop maxima_at ns) (omega (arith, length-drop maxima_at ns)))

pub numbers-long : (s : Stream) → Full s → length (numbers s) ≡ size
unfolding numbers laid_out
numbers-long s f =
    rw (length-append s.positions (s.currents ++ s.maxima), length-append s.currents s.maxima, f.0, f.1, f.2)

-- ---- a store

abbrev Long : List ℕ → List ℕ → List ℕ → Type 0
Long p c m = (length p ≡ levels) × (length c ≡ levels) × (length m ≡ levels)

set_past : (xs ys : List ℕ) (i k x : ℕ) → i ≡ length xs + k → set (xs ++ ys) i x ≡ xs ++ set ys k x
set_past [] ys i k x h =
    let e : i ≡ k = omega arith in
    rw e
set_past (y ∷ xs) ys zero k x h = absurd (omega arith)
set_past (y ∷ xs) ys (suc i) k x h = ap (λ (l : List ℕ). y ∷ l) (set_past xs ys i k x (omega arith))

module _ (a b n : ℕ) (p c m : List ℕ) (f : Long p c m) (k x : ℕ) (h : k < levels) where
  set-position : (i : ℕ) → i ≡ positions_at + k → set (laid_out a b n p c m) i x ≡ laid_out a b n (set p k x) c m
  unfolding laid_out
  set-position i e =
      let g : i ≡ suc (suc (suc k)) = omega arith in
      rw (g, set-append_left p (c ++ m) k x (omega (arith, f.0)))

  set-current : (i : ℕ) → i ≡ currents_at + k → set (laid_out a b n p c m) i x ≡ laid_out a b n p (set c k x) m
  unfolding laid_out
  set-current i e =
      let g : i ≡ suc (suc (suc (levels + k))) = omega arith in
      rw (g, set_past p (c ++ m) (levels + k) k x (omega (arith, f.0)), set-append_left c m k x (omega (arith, f.1)))

  set_maximum : (i : ℕ) → i ≡ maxima_at + k → set (laid_out a b n p c m) i x ≡ laid_out a b n p c (set m k x)
  unfolding laid_out
  set_maximum i e =
      let g : i ≡ suc (suc (suc (levels + levels + k))) = omega arith in
      rw (g, set_past p (c ++ m) (levels + levels + k) (levels + k) x (omega (arith, f.0)), set_past c m (levels + k) k x (omega (arith, f.1)))

-- ---- what a change leaves, stored

module _ (s : Stream) (f : Full s) (l : Left) (few : l.opened ≤ levels) where
  kept_none : l.opened ≤ 0 → set (set (numbers s) 1 l.end) 2 l.opened ≡ numbers (keeping s l)
  unfolding numbers laid_out keeping set_last
  kept_none h =
      let e : l.opened ≡ 0 = omega arith in
      rw e

  kept_some : (n : ℕ) → l.opened ≡ suc n → set (set (set (numbers s) 1 l.end) 2 l.opened) (currents_at + (l.opened - 1)) l.current ≡ numbers (keeping s l)
  unfolding numbers laid_out keeping set_last
  kept_some n h =
      set-current s.start l.end l.opened s.positions s.currents s.maxima f n l.current (omega arith) (currents_at + (l.opened - 1)) (omega arith) ∙ rw h

  opened_some : (x n : ℕ) → l.opened ≡ suc n
      → set (set (set (set (set (numbers s) 1 l.end) 2 l.opened) (positions_at + (l.opened - 1)) (l.end - s.start)) (currents_at + (l.opened - 1)) l.current) (maxima_at + (l.opened - 1)) x ≡ numbers (opening s l x)
  unfolding numbers laid_out opening set_last
  opened_some x n h =
      let p = set s.positions n (l.end - s.start) in
      let c = set s.currents n l.current in
      let g : Long p s.currents s.maxima = (length-set s.positions n (l.end - s.start) ∙ f.0, f.1, f.2) in
      let k : Long p c s.maxima = (g.0, length-set s.currents n l.current ∙ f.1, f.2) in
      ap (λ (y : List ℕ). set (set y (currents_at + (l.opened - 1)) l.current) (maxima_at + (l.opened - 1)) x)
      (set-position s.start l.end l.opened s.positions s.currents s.maxima f n (l.end - s.start) (omega arith) (positions_at + (l.opened - 1)) (omega arith))
      ∙ ap (λ (y : List ℕ). set y (maxima_at + (l.opened - 1)) x) (set-current s.start l.end l.opened p s.currents s.maxima g n l.current (omega arith) (currents_at + (l.opened - 1)) (omega arith))
      ∙ set_maximum s.start l.end l.opened p c s.maxima k n x (omega arith) (maxima_at + (l.opened - 1)) (omega arith)
      ∙ rw h

before : (n : ℕ) → 0 < n → (m : ℕ) × (n ≡ suc m)
before zero h = absurd (omega arith)
before (suc m) h = (m, refl)

module _ (ns : List ℕ) (l : Left) (h : Stores ns l) where
  pub stored-none : l.opened ≤ 0 → set (set ns 1 l.end) 2 l.opened ≡ numbers (keeping (stream_in ns) l)
  stored-none z =
      ap (λ (x : List ℕ). set (set x 1 l.end) 2 l.opened) (sym (numbers_in ns h.long))
      ∙ kept_none (stream_in ns) (full_in ns h.long) l h.few z

  module _ (z : 0 < l.opened) where
    pub stored_some : set (set (set ns 1 l.end) 2 l.opened) (currents_at + (l.opened - 1)) l.current ≡ numbers (keeping (stream_in ns) l)
    stored_some =
        let n = before l.opened z in
        ap (λ (x : List ℕ). set (set (set x 1 l.end) 2 l.opened) (currents_at + (l.opened - 1)) l.current) (sym (numbers_in ns h.long))
        ∙ kept_some (stream_in ns) (full_in ns h.long) l h.few n.0 n.1

    pub stored-list : (m : ℕ)
        → set (set (set (set (set ns 1 l.end) 2 l.opened) (positions_at + (l.opened - 1)) (l.end - get_or ns 0 0)) (currents_at + (l.opened - 1)) l.current) (maxima_at + (l.opened - 1)) m ≡ numbers (opening (stream_in ns) l m)
    unfolding stream_in
    stored-list m =
        let n = before l.opened z in
        ap (λ (x : List ℕ). set (set (set (set (set x 1 l.end) 2 l.opened) (positions_at + (l.opened - 1)) (l.end - get_or ns 0 0)) (currents_at + (l.opened - 1)) l.current) (maxima_at + (l.opened - 1)) m)
        (sym (numbers_in ns h.long))
        ∙ opened_some (stream_in ns) (full_in ns h.long) l h.few m n.0 n.1

-- ---- a new state

pub full-new : (at : ℕ) → Full (new_of at)
full-new at = (refl, refl, refl)

pub new_filled : (at : ℕ) → set (set (replicate size 0) 0 at) 1 at ≡ numbers (new_of at)
unfolding numbers laid_out
new_filled at = refl

pub renewed : (ns now : List ℕ) (at : ℕ) → length ns ≡ size → now ≡ replicate (length ns) 0 → set (set now 0 at) 1 at ≡ numbers (new_of at)
renewed ns now at h e = rw (e, h) (new_filled at)

module _ (ns now : List ℕ) (at : ℕ) (l : Left) (e : now ≡ numbers (new_of at)) where
  now_long : length now ≡ size
  now_long = ap length e ∙ numbers-long (new_of at) (full-new at)

  pub new-stores : Stores ns l → Stores now l
  new-stores h = record { long = now_long; few = h.few; near = h.near }

  pub new-stores-list : StoresList ns at l → StoresList now (get_or now 0 0) l
  unfolding numbers laid_out
  new-stores-list h =
      let z : get_or now 0 0 ≡ at = ap (λ (x : List ℕ). get_or x 0 0) e in
      record { stores = new-stores h.stores; some = h.some; starts = rw z h.starts }

pub new_in : (now : List ℕ) (at : ℕ) → now ≡ numbers (new_of at) → stream_in now ≡ new_of at
new_in now at e = ap stream_in e ∙ in_numbers_lem (new_of at) (full-new at)
