-- The open lists, as their arrays hold them: the tests of a state, and the counting of items in numbers. Assumes nothing.
use Rattle.std.specs.Prelude.{◌≡◌, ℕ, zero, suc, ◌+◌, ◌-◌, ◌*◌, ◌^◌, ◌<◌, ◌≤◌, Bool, true, false, ◌&&◌, ltb, leb, List, [], ◌∷◌, length}
use mathlib.Core.Path.{refl, ap, ◌∙◌}
use mathlib.Core.Bool.{false≢true}
use native.Mathlib.Omega.{arith}
use borrow.Author.Tests.{leb-true, ltb-true}
use Rattle.rlp.specs.Tree.{header_size}
use Rattle.rlp.proofs.Tests.{by_test}
use Rattle.encode.proofs.Writes.{size-most}
use Rattle.stream.specs.declared.lists.Lent.{Lent}
use Rattle.stream.specs.State.{waits, full, Open, opens_in, sane, sound}
use Rattle.stream.specs.Sizes.{growth, growths}
use Rattle.stream.specs.Steps.{opens_to, total_after, Lists}

-- ---- the test of one list

pub both : (t u : Bool) → t && u ≡ true → (t ≡ true) × (u ≡ true)
both true u e = (refl, e)
both false u e = absurd (false≢true e)

pub sane_facts : (written bound : ℕ) (o : Open) → sane written bound o ≡ true → (0 < o.position) × (o.position < bound) × (o.current ≤ written - o.position)
unfolding sane
sane_facts written bound o e =
    let a = both (ltb 0 o.position && ltb o.position bound) (leb o.current (written - o.position) && waits o.current o.most) e in
    let b = both (ltb 0 o.position) (ltb o.position bound) a.0 in
    let d = both (leb o.current (written - o.position)) (waits o.current o.most) a.1 in
    (ltb-true 0 o.position b.0, ltb-true o.position bound b.1, leb-true o.current (written - o.position) d.0)

-- ---- a list's header grows by the bytes of its number

pub growth-header : (n : ℕ) → suc (growth n) ≡ header_size n
unfolding growth header_size
growth-header n = by_test (ltb n 56) (λ e. rw e) (λ e. rw e)

pub size-growth : (n s : ℕ) → s ≡ header_size n → (0 < s) × (s - 1 ≡ growth n)
size-growth n s e = (omega (arith, growth-header n), omega (arith, growth-header n))

-- by 8 at most, of a number of bytes that a usize holds
pub growth-most : (n : ℕ) → n < 256 ^ 8 → growth n ≤ 8
growth-most n h = omega (arith, growth-header n, size-most n h)

pub growths-most : (written : ℕ) (os : List Open) → written < 256 ^ 8 → growths written os ≤ 8 * length os
unfolding growths
growths-most written [] h = omega arith
growths-most written (o ∷ os) h = omega (arith, growth-most (written - o.position) (omega arith), growths-most written os h)

-- ---- what counting needs of the lists

pub lists-more : (written more : ℕ) (os : List Open) → written ≤ more → Lists written os → Lists more os
unfolding Lists
lists-more written more [] h l = tt
lists-more written more (o ∷ os) h l = (l.0, omega (arith, l.1), omega (arith, l.2), lists-more written more os h l.3)

pub sound-lists : (written bound : ℕ) (os : List Open) → bound ≤ suc written → sound written bound os ≡ true → Lists written os
unfolding sound Lists
sound-lists written bound [] h e = tt
sound-lists written bound (o ∷ os) h e =
    let a = both (sane written bound o) (sound written o.position os) e in
    let f = sane_facts written bound o a.0 in
    (f.0, omega (arith, f.1), omega (arith, f.2), sound-lists written o.position os (omega (arith, f.1)) a.1)

pub total_grows : (n : ℕ) (os : List Open) (written : ℕ) → written ≤ total_after n os written
unfolding total_after
total_grows n [] written = omega arith
total_grows n (o ∷ os) written =
    by_test (full (o.current + n) o.most)
    (λ t. rw t (omega (arith, total_grows 1 os (written + growth (written - o.position)))))
    (λ t. rw t (omega arith))

-- ---- the first i lists of three arrays
module _ (p c m : List ℕ) where
  pub length-opens : (i : ℕ) → length (opens_in p c m i) ≡ i
  unfolding opens_in
  length-opens zero = refl
  length-opens (suc i) = ap suc (length-opens i)

pub none_open : (l : Lent) (i : ℕ) → i ≤ 0 → opens_to l i ≡ []
unfolding opens_in
none_open l zero h = refl
none_open l (suc i) h = absurd (omega arith)

-- the innermost of them, as it is read
pub innermost_of : (l : Lent) (i : ℕ) (o : Open) → 0 < i → opens_to l (suc (i - 1)) ≡ o ∷ opens_to l (i - 1) → opens_to l i ≡ o ∷ opens_to l (i - 1)
innermost_of l i o h e =
    let s : i ≡ suc (i - 1) = omega arith in
    ap (opens_to l) s ∙ e
