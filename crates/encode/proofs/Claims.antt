-- The claims of specs/Claims.antt, proved. Assumes nothing.
use Rattle.std.specs.Prelude.{Ok, Err}
use mathlib.Core.Path.{◌≡◌, refl, sym, ap, ◌∙◌}
use mathlib.Core.Bool.{◌&&◌}
use Prim.Native.Nat.{ℕ, ◌+◌, ◌≤◌, ◌<◌}
use native.Mathlib.Omega.{arith}
use mathlib.Core.List.{List}
use lib.Dec.{leb}
use lib.ListN.{length}
use borrow.Author.Tests.{leb-true}
use Rattle.rlp.specs.declared.Refusal.{Refusal}
use Rattle.rlp.specs.declared.Refusal.TheVariants.{TooLarge, NoRoom}
use Rattle.rlp.specs.Refusals.{Or, unless}
use Rattle.rlp.specs.Limits.{limit}
use Rattle.rlp.specs.Tree.{enc}
use Rattle.rlp.proofs.Tests.{is_le, not_le, by_lt}
use Rattle.rlp.proofs.Answers.{refused-got, got_inj, unless-got}
use Rattle.encode.specs.Put.{put}
use Rattle.encode.specs.Encode.{Wrote, wrote, encoded}
use Rattle.encode.specs.Answers.{leaves}
use Rattle.encode.specs.Claims.{AnswersAreDetermined, PromisesAreOfTheAnswer, RefusalsKeepTheBuffer, EncodingIsWritten, LargeIs12, FullIs13, FittingIsAccepted, Claimed}
use Rattle.encode.proofs.Puts.{put-length, put-there, put_beyond}

pub answers_are_determined : AnswersAreDetermined
unfolding leaves
answers_are_determined d r q b c e f = (ap (λ (w : Wrote). w.answer) (e ∙ sym f), ap (λ (w : Wrote). w.buffer) (e ∙ sym f))

wrote-refused : (b : List ℕ) (o : Or (List ℕ)) (e : Refusal) → (wrote b o).answer ≡ Err e → (wrote b o).buffer ≡ b
unfolding wrote
wrote-refused b (Err d) e p = refl
wrote-refused b (Ok x) e p = absurd (refused-got (sym p))

pub promises_are_of_the_answer : PromisesAreOfTheAnswer
unfolding leaves
promises_are_of_the_answer r b = (refl, refl)

pub refusals_keep_the_buffer : RefusalsKeepTheBuffer
unfolding encoded
refusals_keep_the_buffer b n t e p = wrote-refused b _ e p

-- what was written is some bytes x, m of them
wrote-got : (b : List ℕ) (o : Or (List ℕ)) (m : ℕ) → (wrote b o).answer ≡ Ok m → (x : List ℕ) × (o ≡ Ok x) × (length x ≡ m) × ((wrote b o).buffer ≡ put b 0 x)
unfolding wrote
wrote-got b (Err d) m p = absurd (refused-got p)
wrote-got b (Ok x) m p = (x, refl, got_inj p, refl)

pub encoding_is_written : EncodingIsWritten
unfolding encoded
encoding_is_written b n m t p =
    let w = wrote-got b _ m p in
    let u = unless-got (leb (length b) limit && leb n limit) TooLarge _ w.0 w.1 in
    let v = unless-got (leb (length (enc t)) (length b)) NoRoom (Ok (enc t)) w.0 u.1 in
    let x : enc t ≡ w.0 = got_inj v.1 in
    let l : length (enc t) ≡ m = ap length x ∙ w.2 in
    let f : 0 + length (enc t) ≤ length b = omega (arith, leb-true (length (enc t)) (length b) v.0) in
    rw (w.3, ← x, ← l) (put-there b 0 (enc t) f, put_beyond b 0 (enc t) f (length (enc t)) (omega arith), put-length b 0 (enc t) f)

pub large_is_12 : LargeIs12
unfolding encoded wrote unless
large_is_12 b n t h =
    by_lt limit (length b) (λ l. rw (not_le l))
    (λ l. let k : limit < n = omega arith in rw (is_le l, not_le k))

pub full_is_13 : FullIs13
unfolding encoded wrote unless
full_is_13 b n t small light h = rw (is_le small, is_le light, not_le h)

pub fitting_is_accepted : FittingIsAccepted
unfolding encoded wrote unless
fitting_is_accepted b n t small light h = rw (is_le small, is_le light, is_le h)

pub claimed : Claimed
claimed =
    record {
      answers_are_determined = answers_are_determined;
      promises_are_of_the_answer = promises_are_of_the_answer;
      refusals_keep_the_buffer = refusals_keep_the_buffer;
      encoding_is_written = encoding_is_written;
      large_is_12 = large_is_12;
      full_is_13 = full_is_13;
      fitting_is_accepted = fitting_is_accepted;
    }
