-- The refusals' numbers, and the shape of an answer that may be refused. These are definitions.
use Rattle.std.specs.Prelude.{ℕ, Bool, cond, Result, Ok, Err}
use Rattle.rlp.specs.declared.Refusal.{Refusal}
use Rattle.rlp.specs.declared.Refusal.TheVariants as is

-- the table of refusal numbers
abbrev pub number_of : Refusal → ℕ
number_of is.RlpIsTooShort = 1
number_of is.RlpDataLenWithZeroPrefix = 2
number_of is.RlpInvalidIndirection = 3
number_of is.RlpIsTooBig = 4
number_of is.RlpInconsistentLengthAndData = 5
number_of is.RlpInvalidLength = 6
number_of is.RlpExpectedToBeData = 7
number_of is.RlpExpectedToBeList = 8
number_of is.InvalidBoolean = 9
number_of is.TrailingBytes = 10
number_of is.TooDeep = 11
number_of is.TooLarge = 12
number_of is.NoRoom = 13
number_of is.TooManyItems = 14
number_of is.NoOpenList = 15
number_of is.ListTypeMismatch = 16
number_of is.Unfinished = 17
number_of is.CountMismatch = 18
number_of is.NoSuchItem = 19
number_of is.StateMismatch = 20

-- a refusal, or what was read
abbrev pub Or : Type 0 → Type 0
Or A = Result A Refusal

-- where something was read, go on with it
unfoldable pub also : {A B : Type 0} → Or A → (A → Or B) → Or B
also (Err e) f = Err e
also (Ok a) f = f a

-- refused with e unless the test holds. Written one under the other, such lines are an order of refusals
unfoldable pub unless : {A : Type 0} → Bool → Refusal → Or A → Or A
unless t e o = cond t o (Err e)
