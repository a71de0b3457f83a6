-- What a state's arrays hold, and that what is stored is what is then shown. Assumes nothing.
use Rattle.std.specs.Prelude.{◌≡◌, ℕ, zero, suc, ◌+◌, ◌-◌, ◌≤◌, true, List, [], ◌∷◌, length, get_or, take, drop, set}
use mathlib.Core.Path.{refl, ◌∙◌}
use native.Mathlib.Omega.{arith}
use lib.ListN.{length-set}
use lib.Seq.{get_or-set_same, get_or-set_other, set-get_or, drop-set-lt, take-append_seam}
use borrow.Author.Tests.{ltb-true}
use Rattle.rlp.specs.Limits.{levels}
use Rattle.encode.proofs.Puts.{put-before, put_from, put-after, put-length}
use Rattle.stream.proofs.OpenLists.{length-opens}
use Rattle.stream.specs.declared.Stream.{Stream}
use Rattle.stream.specs.State.{Most, any, up_to, waits, Open, state_of, total, most_of, kept_most, opens_in, View, view, placed, stored, laid}
use Rattle.stream.specs.Runs.{Sized}

-- ---- a list's maximum, as it is kept

pub kept_most_most_of : (n : ℕ) → kept_most (most_of n) ≡ n
unfolding kept_most most_of
kept_most_most_of zero = refl
kept_most_most_of (suc n) = refl

-- a list that waits takes some item, so its maximum is not kept as 0
pub most_of_kept_most : (c : ℕ) (x : Most) → waits c x ≡ true → most_of (kept_most x) ≡ x
unfolding kept_most most_of waits
most_of_kept_most c any e = refl
most_of_kept_most c (up_to zero) e = absurd (omega (arith, ltb-true c 0 e))
most_of_kept_most c (up_to (suc n)) e = refl

-- every list waits for an item
unfoldable pub Waiting : List Open → Type 0
Waiting [] = Unit {0}
Waiting (o ∷ os) = (waits o.current o.most ≡ true) × Waiting os

-- ---- the open lists in their arrays

pub length-placed : (f : Open → ℕ) (os : List Open) (a : List ℕ) → length (placed f os a) ≡ length a
unfolding placed
length-placed f [] a = refl
length-placed f (o ∷ os) a = rw (length-set, length-placed f os a)

-- what an array holds above the open lists is kept
pub above_placed : (f : Open → ℕ) (os : List Open) (n : ℕ) (a : List ℕ) → length os ≤ n → drop n (placed f os a) ≡ drop n a
unfolding placed
above_placed f [] n a h = refl
above_placed f (o ∷ os) n a h = drop-set-lt n (placed f os a) (length os) (f o) (omega arith) ∙ above_placed f os n a (omega arith)

-- entries at and above n don't count
pub opens-set : (p c m : List ℕ) (i x y z n : ℕ) → n ≤ i → opens_in (set p i x) (set c i y) (set m i z) n ≡ opens_in p c m n
unfolding opens_in
opens-set p c m i x y z zero h = refl
opens-set p c m i x y z (suc n) h =
    rw (get_or-set_other p i n x 0 (omega arith), get_or-set_other c i n y 0 (omega arith), get_or-set_other m i n z 0 (omega arith), opens-set p c m i x y z n (omega arith))

-- lists that wait, placed in the arrays, are the ones that are read there
pub opens-placed : (os : List Open) (p c m : List ℕ) → length os ≤ length p → length os ≤ length c → length os ≤ length m → Waiting os
    → opens_in (placed (λ o. o.position) os p) (placed (λ o. o.current) os c) (placed (λ o. kept_most o.most) os m) (length os) ≡ os
unfolding opens_in placed Waiting
opens-placed [] p c m h i j w = refl
opens-placed (o ∷ os) p c m h i j w =
    rw (
      get_or-set_same (placed (λ o. o.position) os p) (length os) o.position 0 (omega (arith, length-placed (λ o. o.position) os p)),
      get_or-set_same (placed (λ o. o.current) os c) (length os) o.current 0 (omega (arith, length-placed (λ o. o.current) os c)),
      get_or-set_same (placed (λ o. kept_most o.most) os m) (length os) (kept_most o.most) 0 (omega (arith, length-placed (λ o. kept_most o.most) os m)),
      most_of_kept_most o.current o.most w.0,
      opens-set (placed (λ o. o.position) os p) (placed (λ o. o.current) os c) (placed (λ o. kept_most o.most) os m) (length os) o.position o.current (kept_most o.most) (length os) (omega arith),
      opens-placed os p c m (omega arith) (omega arith) (omega arith) w.1,
    )

-- what the arrays show, put back, leaves them as they are
pub placed_same : (p c m : List ℕ) (n : ℕ)
    → (placed (λ o. o.position) (opens_in p c m n) p ≡ p)
    × (placed (λ o. o.current) (opens_in p c m n) c ≡ c)
    × (placed (λ o. kept_most o.most) (opens_in p c m n) m ≡ m)
unfolding opens_in placed
placed_same p c m zero = (refl, refl, refl)
placed_same p c m (suc n) =
    let h = placed_same p c m n in
    let l : length (opens_in p c m n) ≡ n = length-opens p c m n in
    (rw (h.0, l) (set-get_or p n 0), rw (h.1, l) (set-get_or c n 0), rw (h.2, l, kept_most_most_of (get_or m n 0)) (set-get_or m n 0))

-- ---- the state and the buffer that are left

pub sized-stored : (s : Stream) (v : View) → Sized s → Sized (stored s v)
unfolding stored
sized-stored s v z =
    record { positions = rw length-placed z.positions; currents = rw length-placed z.currents; maxima = rw length-placed z.maxima }

pub opens-stored : (s : Stream) (v : View) → Sized s → Waiting v.opens → length v.opens ≤ levels → (state_of (stored s v)).opens ≡ v.opens
unfolding state_of stored
opens-stored s v z w h =
    opens-placed v.opens s.positions s.currents s.maxima (omega (arith, z.positions)) (omega (arith, z.currents)) (omega (arith, z.maxima)) w

pub view-stored : (s : Stream) (b : List ℕ) (v : View) → Sized s → Waiting v.opens → length v.opens ≤ levels → s.start + length v.written ≤ length b
    → view (state_of (stored s v)) (laid s.start b v) ≡ v
unfolding view state_of total stored laid
view-stored s b v z w h l =
    let e : s.start + length v.written - s.start ≡ length v.written = omega arith in
    rw (opens-stored s v z w h, e, put_from b s.start v.written l, take-append_seam)

module _ (start : ℕ) (b : List ℕ) (v : View) (fits : start + length v.written ≤ length b) where
  pub laid-before : take start (laid start b v) ≡ take start b
  unfolding laid
  laid-before = put-before b start v.written fits

  pub laid-after : drop (start + length v.written) (laid start b v) ≡ drop (start + length v.written) b
  unfolding laid
  laid-after = put-after b start v.written fits

  pub laid-length : length (laid start b v) ≡ length b
  unfolding laid
  laid-length = put-length b start v.written fits
