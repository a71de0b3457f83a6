-- What is claimed of the calls that write one encoding. proofs/Claims.antt proves each claim under the same name in small letters; the
-- record at the end holds them all, and src/lib.rt asks for it.
use Rattle.std.specs.Prelude.{◌≡◌, ℕ, ◌≤◌, ◌<◌, max, List, length, take, drop, Ok, Err}
use Rattle.rlp.specs.declared.Refusal.{Refusal}
use Rattle.rlp.specs.declared.Refusal.TheVariants.{TooLarge, NoRoom}
use Rattle.rlp.specs.Refusals.{Or}
use Rattle.rlp.specs.Limits.{limit}
use Rattle.rlp.specs.Tree.{Item, enc}
use Rattle.encode.specs.Encode.{Wrote, encoded}
use Rattle.encode.specs.Answers.{leaves}

-- two answers, with the buffers that they leave, that meet the promise are equal
abbrev pub AnswersAreDetermined : Type 0
AnswersAreDetermined = (d : Wrote) (r q : Or ℕ) (b c : List ℕ) → leaves r b ≡ d → leaves q c ≡ d → (r ≡ q) × (b ≡ c)

-- for a promise is of the answer itself, and of the buffer as it is left
abbrev pub PromisesAreOfTheAnswer : Type 0
PromisesAreOfTheAnswer = (r : Or ℕ) (b : List ℕ) → ((leaves r b).answer ≡ r) × ((leaves r b).buffer ≡ b)

-- a refusal changes no byte
abbrev pub RefusalsKeepTheBuffer : Type 0
RefusalsKeepTheBuffer = (b : List ℕ) (n : ℕ) (t : Item) (e : Refusal) → (encoded b n t).answer ≡ Err e → (encoded b n t).buffer ≡ b

-- accepted, the first bytes are the encoding, as many as is answered, and those after them are kept
abbrev pub EncodingIsWritten : Type 0
EncodingIsWritten = (b : List ℕ) (n m : ℕ) (t : Item) → (encoded b n t).answer ≡ Ok m
    → (take m (encoded b n t).buffer ≡ enc t) × (drop m (encoded b n t).buffer ≡ drop m b) × (length (encoded b n t).buffer ≡ length b)

-- 12 comes first, whether or not the encoding fits; then 13 exactly where it passes the buffer; else it is accepted
abbrev pub LargeIs12 : Type 0
LargeIs12 = (b : List ℕ) (n : ℕ) (t : Item) → limit < max (length b) n → (encoded b n t).answer ≡ Err TooLarge

abbrev pub FullIs13 : Type 0
FullIs13 = (b : List ℕ) (n : ℕ) (t : Item) → length b ≤ limit → n ≤ limit → length b < length (enc t) → (encoded b n t).answer ≡ Err NoRoom

abbrev pub FittingIsAccepted : Type 0
FittingIsAccepted = (b : List ℕ) (n : ℕ) (t : Item) → length b ≤ limit → n ≤ limit → length (enc t) ≤ length b → (encoded b n t).answer ≡ Ok (length (enc t))

-- ---- all of them

pub record Claimed : Type 0 where
  pub answers_are_determined : AnswersAreDetermined
  pub promises_are_of_the_answer : PromisesAreOfTheAnswer
  pub refusals_keep_the_buffer : RefusalsKeepTheBuffer
  pub encoding_is_written : EncodingIsWritten
  pub large_is_12 : LargeIs12
  pub full_is_13 : FullIs13
  pub fitting_is_accepted : FittingIsAccepted
