-- Bytes written over others, a byte at a time or at once, and moved. Assumes nothing.
use mathlib.Core.Path.{◌≡◌, refl, sym, ap, ◌∙◌}
use Prim.Native.Nat.{ℕ, suc, ◌+◌, ◌-◌, ◌≤◌, ◌<◌}
use native.Mathlib.Omega.{arith}
use native.Mathlib.Nat.{add-zero}
use mathlib.Core.List.{List, [], ◌∷◌, ◌++◌, append_assoc}
use lib.ListN.{length, take, drop, get_or, set, length-append, length-drop, take-append-drop, drop_of_length-le}
use lib.Seq.{length-take-le, take_at, drop_at, take-append-le, drop-append-le, drop-drop, take-take, take-add, take-length, drop-cons, set_split, paste}
use Rattle.encode.specs.Put.{put, moved}

-- nothing written
pub put-none : (b : List ℕ) (i : ℕ) → put b i [] ≡ b
unfolding put
put-none b i = rw (add-zero i) (take-append-drop i b)

-- one byte
pub put_one : (b : List ℕ) (i v : ℕ) → i < length b → set b i v ≡ put b i (v ∷ [])
unfolding put
put_one b i v h =
    let n : i + 1 ≡ suc i = omega arith in
    rw n (set_split b i v h)

-- bytes written where they stand
pub put_same : (b : List ℕ) (i n : ℕ) → i + n ≤ length b → put b i (take n (drop i b)) ≡ b
unfolding put
put_same b i n h =
    let l : length (take n (drop i b)) ≡ n = length-take-le n (drop i b) (omega (arith, length-drop i b)) in
    rw (l, ← drop-drop n i b, take-append-drop, take-append-drop)

module _ (b : List ℕ) (i : ℕ) (x : List ℕ) (fits : i + length x ≤ length b) where
  front_length : length (take i b) ≡ i
  front_length = length-take-le i b (omega arith)

  -- ---- what stands where

  pub put-length : length (put b i x) ≡ length b
  unfolding put
  put-length = rw (length-append, length-append, front_length, length-drop) (omega arith)

  pub put-before : take i (put b i x) ≡ take i b
  unfolding put
  put-before = take_at (take i b) (x ++ drop (i + length x) b) i front_length

  pub put-start : (j : ℕ) → j ≤ i → take j (put b i x) ≡ take j b
  unfolding put
  put-start j h = take-append-le j (take i b) (x ++ drop (i + length x) b) (omega (arith, front_length)) ∙ take-take j i b h

  pub put_from : drop i (put b i x) ≡ x ++ drop (i + length x) b
  unfolding put
  put_from = drop_at (take i b) (x ++ drop (i + length x) b) i front_length

  pub put-after : drop (i + length x) (put b i x) ≡ drop (i + length x) b
  put-after = sym (drop-drop (length x) i (put b i x)) ∙ ap (drop (length x)) put_from ∙ drop_at x (drop (i + length x) b) (length x) refl

  pub put_beyond : (j : ℕ) → i + length x ≤ j → drop j (put b i x) ≡ drop j b
  put_beyond j h =
      let k : ℕ = j - (i + length x) in
      let e : j ≡ i + length x + k = omega arith in
      rw e (sym (drop-drop k (i + length x) (put b i x)) ∙ ap (drop k) put-after ∙ drop-drop k (i + length x) b)

  pub put-there : take (length x) (drop i (put b i x)) ≡ x
  put-there = ap (take (length x)) put_from ∙ take_at x (drop (i + length x) b) (length x) refl

  pub put-part : (j : ℕ) → j ≤ length x → take (length x - j) (drop (i + j) (put b i x)) ≡ drop j x
  put-part j h =
      ap (take (length x - j)) (sym (drop-drop j i (put b i x)) ∙ ap (drop j) put_from ∙ drop-append-le j x (drop (i + length x) b) h)
      ∙ take_at (drop j x) (drop (i + length x) b) (length x - j) (length-drop j x)

  pub put_upto : (j : ℕ) → j ≤ length x → take (i + j) (put b i x) ≡ take i b ++ take j x
  put_upto j h =
      take-add i j (put b i x)
      ∙ ap (λ (l : List ℕ). l ++ take j (drop i (put b i x))) put-before
      ∙ ap (λ (l : List ℕ). take i b ++ l) (ap (take j) put_from ∙ take-append-le j x (drop (i + length x) b) h)

  -- ---- then y is written

  -- just before it
  pub put-joined : (j : ℕ) (y : List ℕ) → j + length y ≡ i → put (put b i x) j y ≡ put b j (y ++ x)
  unfolding put
  put-joined j y e =
      let n : j + length (y ++ x) ≡ i + length x = omega (arith, length-append y x) in
      let f : take j (put b i x) ≡ take j b = put-start j (omega arith) in
      rw (e, n, append_assoc) (ap (λ (l : List ℕ). l ++ (y ++ drop i (put b i x))) f ∙ ap (λ (l : List ℕ). take j b ++ (y ++ l)) put_from)

  -- over its end, or behind that
  pub put_into : (j : ℕ) (y : List ℕ) → j ≤ length x → length x ≤ j + length y → put (put b i x) (i + j) y ≡ put b i (take j x ++ y)
  unfolding put
  put_into j y h l =
      let n : i + length (take j x ++ y) ≡ i + j + length y = omega (arith, length-append (take j x) y, length-take-le j x h) in
      let r : List ℕ = drop (i + j + length y) b in
      rw n (ap (λ (l : List ℕ). l ++ (y ++ drop (i + j + length y) (put b i x))) (put_upto j h)
      ∙ ap (λ (l : List ℕ). (take i b ++ take j x) ++ (y ++ l)) (put_beyond (i + j + length y) (omega arith))
      ∙ append_assoc (take i b) (take j x) (y ++ r)
      ∙ ap (λ (l : List ℕ). take i b ++ l) (sym (append_assoc (take j x) y r)))

  -- just behind it
  pub put-more : (y : List ℕ) → put (put b i x) (i + length x) y ≡ put b i (x ++ y)
  put-more y = put_into (length x) y (omega arith) (omega arith) ∙ ap (λ (l : List ℕ). put b i (l ++ y)) (take-length x)

  -- over all of it
  pub put_over : (j : ℕ) (y : List ℕ) → j ≤ i → i + length x ≤ j + length y → put (put b i x) j y ≡ put b j y
  unfolding put
  put_over j y h l =
      ap (λ (l : List ℕ). l ++ (y ++ drop (j + length y) (put b i x))) (put-start j h) ∙ ap (λ (l : List ℕ). take j b ++ (y ++ l)) (put_beyond (j + length y) l)

-- ---- x is written at i, a byte or a piece at a time

-- the first byte first, where the first j are there; or the last byte first, where those from j on are there
module _ (b : List ℕ) (i : ℕ) (x : List ℕ) where
  pub up_start : b ≡ put b i (take 0 x)
  up_start = sym (put-none b i)

  pub up_done : (j : ℕ) → j ≡ length x → put b i (take j x) ≡ put b i x
  up_done j e = ap (put b i) (ap (λ (k : ℕ). take k x) e ∙ take-length x)

  pub down_start : (j : ℕ) → j ≡ length x → b ≡ put b (i + j) (drop j x)
  down_start j e = sym (ap (put b (i + j)) (drop_of_length-le x {i = j} (omega arith)) ∙ put-none b (i + j))

  pub down_done : (j : ℕ) → j ≤ 0 → put b (i + j) (drop j x) ≡ put b i x
  down_done j h =
      let z : j ≡ 0 = omega arith in
      ap (λ (k : ℕ). put b (i + k) (drop k x)) z ∙ ap (λ (k : ℕ). put b k x) (add-zero i)

module _ (b : List ℕ) (i : ℕ) (x : List ℕ) (fits : i + length x ≤ length b) where
  pub up_step : (j v : ℕ) (now : List ℕ) → j < length x → now ≡ put b i (take j x) → v ≡ get_or x j 0 → set now (i + j) v ≡ put b i (take (j + 1) x)
  up_step j v now h e g =
      let n : length (take j x) ≡ j = length-take-le j x (omega arith) in
      let f : i + length (take j x) ≤ length b = omega arith in
      let one : drop j x ≡ get_or x j 0 ∷ drop (suc j) x = drop-cons x j 0 h in
      put_one now (i + j) v (omega (arith, ap length e, put-length b i (take j x) f))
      ∙ ap (λ (l : List ℕ). put l (i + j) (v ∷ [])) e
      ∙ ap (λ (k : ℕ). put (put b i (take j x)) (i + k) (v ∷ [])) (sym n)
      ∙ put-more b i (take j x) f (v ∷ [])
      ∙ ap (λ (k : ℕ). put b i (take j x ++ k ∷ [])) g
      ∙ ap (put b i) (sym (take-add j 1 x ∙ ap (λ (l : List ℕ). take j x ++ take 1 l) one))

  -- what follows the first j bytes, written behind them
  pub more_there : (j n : ℕ) (now : List ℕ) → j + n ≤ length x → now ≡ put b i (take j x) → put now (i + j) (take n (drop j x)) ≡ put b i (take (j + n) x)
  more_there j n now h e =
      let z : List ℕ = take n (drop j x) in
      let m : length (take j x) ≡ j = length-take-le j x (omega arith) in
      let f : i + length (take j x) ≤ length b = omega arith in
      ap (λ (s : List ℕ). put s (i + j) z) e
      ∙ ap (λ (k : ℕ). put (put b i (take j x)) (i + k) z) (sym m)
      ∙ put-more b i (take j x) f z
      ∙ ap (put b i) (sym (take-add j n x))

  -- the last k bytes, written over the end of the first j, or behind it
  pub last_there : (j k : ℕ) (now : List ℕ) → j ≤ length x → k ≤ length x → length x ≤ j + k → now ≡ put b i (take j x)
      → put now (i + length x - k) (drop (length x - k) x) ≡ put b i x
  last_there j k now h g l e =
      let m : ℕ = length x - k in
      let n : length (take j x) ≡ j = length-take-le j x h in
      let f : i + length (take j x) ≤ length b = omega arith in
      let p : i + length x - k ≡ i + m = omega arith in
      ap (λ (a : ℕ). put now a (drop m x)) p
      ∙ ap (λ (s : List ℕ). put s (i + m) (drop m x)) e
      ∙ put_into b i (take j x) f m (drop m x) (omega arith) (omega (arith, length-drop m x))
      ∙ ap (λ (s : List ℕ). put b i (s ++ drop m x)) (take-take m j x (omega arith))
      ∙ ap (put b i) (take-append-drop m x)

  pub down_step : (j v : ℕ) (now : List ℕ) → 0 < j → j ≤ length x → now ≡ put b (i + j) (drop j x) → v ≡ get_or x (j - 1) 0
      → set now (i + (j - 1)) v ≡ put b (i + (j - 1)) (drop (j - 1) x)
  down_step j v now p l e g =
      let f : i + j + length (drop j x) ≤ length b = omega (arith, length-drop j x) in
      let n : suc (j - 1) ≡ j = omega arith in
      put_one now (i + (j - 1)) v (omega (arith, ap length e, put-length b (i + j) (drop j x) f))
      ∙ ap (λ (l : List ℕ). put l (i + (j - 1)) (v ∷ [])) e
      ∙ put-joined b (i + j) (drop j x) f (i + (j - 1)) (v ∷ []) (omega arith)
      ∙ ap (λ (k : ℕ). put b (i + (j - 1)) (k ∷ drop j x)) g
      ∙ ap (put b (i + (j - 1))) (sym (drop-cons x (j - 1) 0 (omega arith) ∙ ap (λ (k : ℕ). get_or x (j - 1) 0 ∷ drop k x) n))

-- ---- n bytes from f on are moved

-- those bytes
abbrev pub part : List ℕ → ℕ → ℕ → List ℕ
part b f n = take n (drop f b)

pub part_length : (b : List ℕ) (f n : ℕ) → f + n ≤ length b → length (part b f n) ≡ n
part_length b f n h = length-take-le n (drop f b) (omega (arith, length-drop f b))

-- as `copy_within` moves them
pub pasted : (b : List ℕ) (f n to : ℕ) → f + n ≤ length b → paste b to (drop f b) n ≡ moved b f n to
unfolding moved put
pasted b f n to h = rw (append_assoc, part_length b f n h) refl

-- nowhere
pub stay : (b : List ℕ) (f n to : ℕ) → f + n ≤ length b → to ≡ f → b ≡ moved b f n to
unfolding moved
stay b f n to h e = sym (ap (λ (k : ℕ). put b k (take n (drop f b))) e ∙ put_same b f n h)

pub ruleset slide_steps = (pasted, stay)
