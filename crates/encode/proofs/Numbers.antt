-- A number's bytes: how many, and the last of them. Assumes nothing.
use mathlib.Core.Path.{◌≡◌, refl, sym, ap, ◌∙◌}
use Prim.Native.Nat.{ℕ, ◌+◌, ◌-◌, ◌*◌, ◌/◌, ◌%◌, ◌≤◌, ◌<◌}
use native.Mathlib.Omega.{arith}
use mathlib.Core.List.{List, [], ◌∷◌, ◌++◌}
use lib.ListN.{length, take, get_or, length-append}
use lib.Seq.{length-take-le, take_at, take-take, get_or_at, get_or-take}
use mir.Val.{bool_byte}
use mathlib.Core.Bool.{Bool, true, false}
use Rattle.rlp.specs.Bytes.{be, be_up_to}
use Rattle.rlp.specs.Tree.{str}
use Rattle.rlp.proofs.Tests.{by_lt}
use Rattle.rlp.proofs.BigEndian.{be_snoc}
use Rattle.encode.specs.Encode.{numeral, flag}

pub be-none : (n : ℕ) → n ≡ 0 → be n ≡ []
unfolding be be_up_to
be-none n e = rw e

pub be-one : (n : ℕ) → 0 < n → n < 256 → be n ≡ n ∷ []
be-one n p h =
    let z : 0 * 256 + n ≡ n = omega arith in
    sym (ap be z) ∙ be_snoc 0 n h (omega arith) ∙ ap (λ (s : List ℕ). s ++ n ∷ []) (be-none 0 refl)

pub zero_bytes : be 0 ≡ []
zero_bytes = be-none 0 refl

-- 80 and 01 are what 0 and 1 are
pub flag_number : (b : Bool) → numeral (bool_byte b) ≡ flag b
unfolding flag
flag_number true = ap str (be-one 1 (omega arith) (omega arith))
flag_number false = ap str zero_bytes

-- without its last byte, which is v % 256
pub be_less : (n v i : ℕ) → 0 < i → i ≤ length (be n) → be v ≡ take i (be n) → (be (v / 256) ≡ take (i - 1) (be n)) × (v % 256 ≡ get_or (be n) (i - 1) 0)
be_less n v i p l e =
    let s : be v ≡ be (v / 256) ++ v % 256 ∷ [] = ap be split ∙ be_snoc (v / 256) (v % 256) (omega arith) (rw (← split) some) in
    let t : be (v / 256) ++ v % 256 ∷ [] ≡ take i (be n) = sym s ∙ e in
    let m : length (be (v / 256)) ≡ i - 1 = omega (arith, length-take-le i (be n) l, ap length t, length-append (be (v / 256)) (v % 256 ∷ [])) in (
      sym (take_at (be (v / 256)) (v % 256 ∷ []) (i - 1) m) ∙ ap (take (i - 1)) t ∙ take-take (i - 1) i (be n) (omega arith),
      sym (get_or_at (be (v / 256)) (v % 256) [] 0 (i - 1) m) ∙ ap (λ (l : List ℕ). get_or l (i - 1) 0) t ∙ get_or-take i (be n) (i - 1) 0 (omega arith),
    )
  where
    split : v ≡ v / 256 * 256 + v % 256
    split = omega arith

    some : 0 < v
    some = by_lt 0 v (λ h. h) (λ h. absurd (omega (arith, ap length (be-none v (omega arith)), ap length e, length-take-le i (be n) l)))
