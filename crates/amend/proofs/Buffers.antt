-- What an amendment leaves in the buffer. Assumes nothing.
use Rattle.std.specs.Prelude.{Ok}
use mathlib.Core.Path.{◌≡◌, sym, ap, ◌∙◌}
use Prim.Native.Nat.{ℕ, ◌-◌, max}
use native.Mathlib.Omega.{arith}
use mathlib.Core.List.{List, ◌++◌, append_assoc}
use lib.ListN.{length, take, drop, replicate, length-append, length-replicate, length-drop}
use lib.Seq.{take-append_seam, drop-append_seam, take_at, drop_at}
use Rattle.rlp.specs.Tree.{Item, enc}
use Rattle.rlp.proofs.Paths.{exchange-well}
use Rattle.amend.specs.Amend.{after}
use Rattle.amend.specs.Claims.{Amends, Exchanged}

module _ (b : List ℕ) (n : ℕ) (path new : List ℕ) (t u v : Item) (A : Amends b n path new t u v) where
  -- the zeros behind the encoding, and the bytes that stay
  zeros : List ℕ
  zeros = replicate (n - length (enc v)) 0

  rest : List ℕ
  rest = drop (max (length (enc v)) n) b

  zeros-long : length zeros ≡ n - length (enc v)
  unfolding zeros
  zeros-long = length-replicate (n - length (enc v)) 0

  front : take (length (enc v)) (enc v ++ (zeros ++ rest)) ≡ enc v
  front = take-append_seam (enc v) (zeros ++ rest)

  pub left : Exchanged b n v (after b n (Ok v))
  unfolding after zeros rest
  left =
      record {
        front = front;
        strict = record {
          bytes = sym front;
          well = exchange-well t path u v A.exchanged A.sheet.well A.other.well;
          deep = A.flat;
          small = omega (arith, ap length front, A.fits, A.small);
        };
        zeros = ap (take (n - length (enc v))) (drop-append_seam (enc v) (zeros ++ rest)) ∙ take_at zeros rest (n - length (enc v)) zeros-long;
        behind =
            ap (drop (max (length (enc v)) n)) (sym (append_assoc (enc v) zeros rest))
            ∙ drop_at (enc v ++ zeros) rest (max (length (enc v)) n) (omega (arith, length-append (enc v) zeros, zeros-long));
        long =
            omega (arith, length-append (enc v) (zeros ++ rest), length-append zeros rest, zeros-long, length-drop (max (length (enc v)) n) b, A.fits, A.inside);
      }
