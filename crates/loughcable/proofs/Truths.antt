-- A truth in numbers, as the code makes it and reads it. Assumes nothing.
use Rattle.std.proofs.Common.{◌≡◌, ℕ, zero, suc, Bool, true, false, not, nat_eq, refl, arith}
use mir.Val.{bool_byte}
use Rattle.rlp.proofs.Tests.{not_eq}
use Rattle.loughcable.specs.Answers.{yes_no, truth_of}

pub yes_so : (t : Bool) → bool_byte t ≡ yes_no t
unfolding yes_no
yes_so true = refl
yes_so false = refl

pub truth_so : (n : ℕ) → not (nat_eq n 0) ≡ truth_of n
unfolding truth_of
truth_so zero = refl
truth_so (suc n) = rw (not_eq {a = suc n} {b = 0} (λ e. omega arith))
