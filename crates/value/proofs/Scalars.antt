-- The number of a payload: the rules that the code follows, and that a number of w bytes is below 256 ^ w. Assumes nothing.
use Rattle.std.specs.Prelude.{Ok, Err, IfOk}
use mathlib.Core.Path.{◌≡◌, refl, sym, ◌∙◌}
use Prim.Native.Nat.{ℕ, zero, suc, ◌^◌, ◌≤◌, ◌<◌}
use native.Mathlib.Omega.{arith}
use native.Mathlib.Nat.{pow-le-pow_right}
use mathlib.Core.List.{List, [], ◌∷◌}
use lib.Dec.{lit<, leb}
use lib.ListN.{drop}
use lib.ListN as list
use borrow.Author.Tests.{leb-true}
use Rattle.rlp.specs.declared.Refusal.TheVariants.{RlpIsTooBig}
use Rattle.rlp.specs.Refusals.{Or, also, unless}
use Rattle.rlp.specs.Bytes.{Bytes, be_value}
use Rattle.rlp.proofs.Tests.{is_le, not_le}
use Rattle.rlp.proofs.Answers.{refused-got, got_inj, also-got, unless-got, unless-true, unless-false}
use Rattle.rlp.proofs.Slices.{bytes_take, bytes_drop}
use Rattle.rlp.proofs.BigEndian.{value_upper}
use Rattle.header.specs.Header.{length_in, length_of}
use Rattle.value.specs.declared.Part.{Part}
use Rattle.value.specs.Value.{value_at, part, scalar, uint}

-- ---- by payload

-- by bytes that are there: the width first, then as length bytes are read
scalar_in : (w x : ℕ) (b : List ℕ) → scalar w (x ∷ b) ≡ unless (leb (list.length (x ∷ b)) w) RlpIsTooBig (length_in (x ∷ b))
unfolding scalar length_in
scalar_in w zero b = refl
scalar_in w (suc x) b = refl

pub scalar-big : (w : ℕ) (b : List ℕ) → w < list.length b → Err RlpIsTooBig ≡ scalar w b
scalar-big w [] l = absurd (omega arith)
scalar-big w (x ∷ b) l = sym (scalar_in w x b ∙ unless-false RlpIsTooBig _ (not_le l))

-- within a width of at most 8 bytes that is `decode_usize`
pub scalar-some : (w : ℕ) (b : List ℕ) → w ≤ 8 → (list.length b ≡ 0 → ⊥) → list.length b ≤ w → length_of b ≡ scalar w b
unfolding length_of
scalar-some w [] m n l = absurd (n refl)
scalar-some w (x ∷ b) m n l =
    unless-true RlpIsTooBig (length_in (x ∷ b)) (is_le {a = suc (list.length b)} {b = 8} (omega arith))
    ∙ sym (scalar_in w x b ∙ unless-true RlpIsTooBig (length_in (x ∷ b)) (is_le l))

in_is : (b : List ℕ) (n : ℕ) → length_in b ≡ Ok n → be_value b ≡ n
unfolding length_in
in_is [] n e = absurd (refused-got e)
in_is (zero ∷ b) n e = absurd (refused-got e)
in_is (suc x ∷ b) n e = got_inj e

pub scalar_fits : (w : ℕ) (b : List ℕ) (n : ℕ) → Bytes b → scalar w b ≡ Ok n → n < 256 ^ w
unfolding scalar
scalar_fits w [] n s e =
    let z : 0 ≡ n = got_inj e in
    omega (arith, pow-le-pow_right {n = 256} (lit< tt) {i = 0} {j = w} (omega arith))
scalar_fits w (x ∷ b) n s e =
    let a = unless-got (leb (list.length (x ∷ b)) w) RlpIsTooBig (length_in (x ∷ b)) n (sym (scalar_in w x b) ∙ e) in
    let l : list.length (x ∷ b) ≤ w = leb-true (list.length (x ∷ b)) w a.0 in
    omega (arith, in_is (x ∷ b) n a.1, value_upper (x ∷ b) s, pow-le-pow_right {n = 256} (lit< tt) {i = list.length (x ∷ b)} {j = w} l)

-- the width that was passed
pub scalar_width : (w x : ℕ) (b : List ℕ) (n : ℕ) → scalar w (x ∷ b) ≡ Ok n → list.length (x ∷ b) ≤ w
scalar_width w x b n e =
    leb-true (list.length (x ∷ b)) w (unless-got (leb (list.length (x ∷ b)) w) RlpIsTooBig (length_in (x ∷ b)) n (sym (scalar_in w x b) ∙ e)).0

-- ---- over the bytes of the item

pub uint-got : (w : ℕ) (b : List ℕ) (p : Part) → value_at b ≡ Ok p → scalar w (part b p) ≡ uint w b
unfolding uint also
uint-got w b p h = sym (rw h)

-- a number read at a width of w bytes is below 256 ^ w, so that it fits the type of that width
pub uint-fits : (w : ℕ) (b : List ℕ) (n : ℕ) → Bytes b → uint w b ≡ Ok n → n < 256 ^ w
unfolding uint part
uint-fits w b n s e =
    let a = also-got (value_at b) (λ p. scalar w (part b p)) n e in
    scalar_fits w (part b a.0) n (bytes_take a.0.len (drop a.0.start b) (bytes_drop a.0.start b s)) a.2

-- so what a reading answers fits
pub answer_fits : (w : ℕ) (b : List ℕ) (o : Or ℕ) → Bytes b → o ≡ uint w b → IfOk o (λ n. n < 256 ^ w)
answer_fits w b (Ok n) s e = uint-fits w b n s (sym e)
answer_fits w b (Err f) s e = tt
