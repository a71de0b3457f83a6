-- What is claimed of the value's calls. proofs/Claims.antt proves each claim under the same name in small letters; the record at the end
-- holds them all, and src/lib.rt asks for it.
--
-- The calls only read what is lent to them and keep no state, so a refusal can change nothing.
use Rattle.std.specs.Prelude.{◌≡◌, Bool, true, false, ℕ, suc, ◌+◌, ◌-◌, ◌^◌, ◌≤◌, ◌<◌, List, [], ◌∷◌, ◌++◌, T, length, take, drop, replicate, Ok, Err}
use Rattle.rlp.specs.declared.Refusal.{Refusal}
use Rattle.rlp.specs.declared.Refusal.TheVariants.{RlpIsTooShort, RlpInvalidIndirection, RlpIsTooBig, RlpInconsistentLengthAndData, RlpInvalidLength, RlpExpectedToBeData, InvalidBoolean}
use Rattle.rlp.specs.Refusals.{Or}
use Rattle.rlp.specs.Bytes.{Bytes, be_value, be, Trim}
use Rattle.rlp.specs.Tree.{Item, Items, str, list, strings, lists, itself, enc, payload}
use Rattle.rlp.specs.Promises.{Determined, said, refusal_in, Tried, try, all_refuse}
use Rattle.header.specs.declared.PayloadInfo.{PayloadInfo}
use Rattle.header.specs.Header.{payload_info}
use Rattle.value.specs.declared.Part.{Part}
use Rattle.value.specs.Value.{placed, value_at, data_at, part, uint, boolean}
use Rattle.value.specs.Answers.{part_in}

-- two answers of a call that meet its promise are equal
abbrev pub AnswersAreDetermined : Type 0
AnswersAreDetermined = Determined {A = Or Part} said × Determined {A = Or ℕ} said × Determined {A = Or Bool} said

-- for a promise is of the answer itself: what it says is what the answer holds
abbrev pub PromisesAreOfTheAnswer : Type 0
PromisesAreOfTheAnswer = (p : Or Part) (n : Or ℕ) (t : Or Bool) → (said p ≡ p) × (said n ≡ n) × (said t ≡ t)

-- what is handed back is a part of the caller's bytes: it lies inside them, and has the length that is told
abbrev pub PartsAreInside : Type 0
PartsAreInside = (b : List ℕ) (p : Part)
    → (value_at b ≡ Ok p → (p.start + p.len ≤ length b) × (length (part b p) ≡ p.len))
    × (data_at b ≡ Ok p → (p.start + p.len ≤ length b) × (length (part b p) ≡ p.len))

-- `part_of` hands back the bytes that a place names where it lies inside them, and none for any other place or for a refusal
abbrev pub OnlyPlacesInsideHaveBytes : Type 0
OnlyPlacesInsideHaveBytes = (b : List ℕ) (p : Part)
    → (p.start + p.len ≤ length b → part_in b (Ok p) ≡ take p.len (drop p.start b))
    × (length b < p.start + p.len → part_in b (Ok p) ≡ [])
    × ((e : Refusal) → part_in b (Err e) ≡ [])

-- ---- what is read

-- where the value lies: a byte below 128 is its own; a short string lies behind its first byte, if it is not itself such a byte; a long one
-- behind its length bytes, which have no leading zero, however small the length
pub data Valued (b : List ℕ) (p : Part) : Type 0 where
  byte : (x : ℕ) (r : List ℕ) → x < 128 → b ≡ x ∷ r → placed 0 1 ≡ Ok p → Valued b p
  short : (s r : List ℕ) → length s < 56 → itself s ≡ false → b ≡ (strings + length s) ∷ (s ++ r) → placed 1 (length s) ≡ Ok p → Valued b p
  long : (n s r : List ℕ) → 1 ≤ length n → length n ≤ 8 → Trim n → be_value n ≡ length s → suc (length n) + length s < 2 ^ 64
      → b ≡ (strings + 55 + length n) ∷ (n ++ (s ++ r)) → placed (suc (length n)) (length s) ≡ Ok p → Valued b p

-- exactly these are read
abbrev pub ValuesAreExact : Type 0
ValuesAreExact = (b : List ℕ) (p : Part) → (value_at b ≡ Ok p → Valued b p) × (Valued b p → value_at b ≡ Ok p)

-- why there is no value: no bytes; a short string cut; 81 with a byte below 80; length bytes cut, or with a leading zero; an end that
-- overflows; a long string cut; a list
pub data Valueless : List ℕ → Refusal → Type 0 where
  none : Valueless [] RlpIsTooShort
  short_cut : (n : ℕ) (r : List ℕ) → n < 56 → length r < n → Valueless ((strings + n) ∷ r) RlpInconsistentLengthAndData
  spare-byte : (y : ℕ) (r : List ℕ) → y < 128 → Valueless ((strings + 1) ∷ y ∷ r) RlpInvalidIndirection
  length_cut : (k : ℕ) (r : List ℕ) → 1 ≤ k → k ≤ 8 → length r < k → Valueless ((strings + 55 + k) ∷ r) RlpInconsistentLengthAndData
  zeroed : (k : ℕ) (r : List ℕ) → 1 ≤ k → k ≤ 8 → k ≤ suc (length r) → Valueless ((strings + 55 + k) ∷ 0 ∷ r) RlpInvalidIndirection
  far : (n r : List ℕ) → 1 ≤ length n → length n ≤ 8 → Trim n → 2 ^ 64 ≤ suc (length n) + be_value n → Valueless ((strings + 55 + length n) ∷ (n ++ r)) RlpInvalidLength
  long-cut : (n r : List ℕ) → 1 ≤ length n → length n ≤ 8 → Trim n → suc (length n) + be_value n < 2 ^ 64 → length r < be_value n
      → Valueless ((strings + 55 + length n) ∷ (n ++ r)) RlpInconsistentLengthAndData
  listed : (x : ℕ) (r : List ℕ) → lists ≤ x → Valueless (x ∷ r) RlpExpectedToBeData

-- and exactly these are refused, each for its reason
abbrev pub RefusedValues : Type 0
RefusedValues = (b : List ℕ) (e : Refusal) → (value_at b ≡ Err e → Valueless b e) × (Valueless b e → value_at b ≡ Err e)

-- the value of a string's encoding followed by anything is the string, which lies at the encoding's end; an encoded list has none
abbrev pub ValueOfEncoding : Type 0
ValueOfEncoding = (s r : List ℕ) → length (enc (str s)) < 2 ^ 64
    → (value_at (enc (str s) ++ r) ≡ placed (length (enc (str s)) - length s) (length s)) × (part_in (enc (str s) ++ r) (value_at (enc (str s) ++ r)) ≡ s)

abbrev pub ListsHaveNoValue : Type 0
ListsHaveNoValue = (l : Items) (r : List ℕ) → value_at (enc (list l) ++ r) ≡ Err RlpExpectedToBeData

-- `data` lies where `payload_info` says, and is refused as it is; of an encoding followed by anything it is the string, or the list's payload
abbrev pub DataIsThePayload : Type 0
DataIsThePayload = (b : List ℕ)
    → ((p : PayloadInfo) → payload_info b ≡ Ok p → data_at b ≡ placed p.header_len p.value_len)
    × ((e : Refusal) → payload_info b ≡ Err e → data_at b ≡ Err e)

abbrev pub DataOfEncoding : Type 0
DataOfEncoding = (t : Item) (r : List ℕ) → length (enc t) < 2 ^ 64
    → (data_at (enc t ++ r) ≡ placed (length (enc t) - length (payload t)) (length (payload t))) × (part_in (enc t ++ r) (data_at (enc t ++ r)) ≡ payload t)

-- at a width of w bytes exactly the numbers below 256 ^ w are read, each from its shortest big-endian bytes and from no others: so
-- u8, u16, u32 and u64 give n exactly if the value is the shortest big-endian of n, and n fits
abbrev pub NumbersAreShortest : Type 0
NumbersAreShortest = (w : ℕ) (b : List ℕ) (n : ℕ) (p : Part) → w ≤ 8 → Bytes b → value_at b ≡ Ok p
    → (uint w b ≡ Ok n → (n < 256 ^ w) × (part b p ≡ be n)) × ((n < 256 ^ w) × (part b p ≡ be n) → uint w b ≡ Ok n)

-- the value's refusals come first; a payload that is longer than the width is 4, and any other with a leading zero is 3
abbrev pub NumbersAreRefused : Type 0
NumbersAreRefused = (w : ℕ) (b : List ℕ)
    → ((e : Refusal) → value_at b ≡ Err e → uint w b ≡ Err e)
    × ((p : Part) → value_at b ≡ Ok p
    → (w < length (part b p) → uint w b ≡ Err RlpIsTooBig)
    × ((r : List ℕ) → length (part b p) ≤ w → part b p ≡ 0 ∷ r → uint w b ≡ Err RlpInvalidIndirection))

-- a truth is the number 0 or 1 of one byte; any other is 9
abbrev pub TruthsAreZeroAndOne : Type 0
TruthsAreZeroAndOne = (b : List ℕ)
    → (uint 1 b ≡ Ok 0 → boolean b ≡ Ok false)
    × (uint 1 b ≡ Ok 1 → boolean b ≡ Ok true)
    × ((n : ℕ) → uint 1 b ≡ Ok n → 1 < n → boolean b ≡ Err InvalidBoolean)
    × ((e : Refusal) → uint 1 b ≡ Err e → boolean b ≡ Err e)

-- inputs at which two refusals that stand next to each other in the rules' order both hold, and which is given; and the smallest inputs
-- of some
unfoldable pub order : List Tried
order =
    try (λ b. refusal_in (value_at b)) [] 1
    ∷ try (λ b. refusal_in (value_at b)) (0xc0 ∷ []) 7
    ∷ try (λ b. refusal_in (value_at b)) (0xb8 ∷ 0x38 ∷ []) 5  -- the length bytes are there, and the value is cut
    ∷ try (λ b. refusal_in (value_at b)) (0x82 ∷ 0x05 ∷ []) 5
    ∷ try (λ b. refusal_in (value_at b)) (0xb9 ∷ 0x00 ∷ []) 5  -- length bytes cut, and a first length byte 0
    ∷ try (λ b. refusal_in (value_at b)) (0xbf ∷ 0x00 ∷ replicate 7 0xff) 3  -- a first length byte 0, and a value cut
    ∷ try (λ b. refusal_in (value_at b)) (0xbf ∷ replicate 8 0xff) 6  -- the end overflows, and a value cut
    ∷ try (λ b. refusal_in (value_at b)) (0xb8 ∷ 0x01 ∷ 0x05 ∷ []) 0  -- a long form of 55 or less is no refusal here
    ∷ try (λ b. refusal_in (value_at b)) (0x81 ∷ 0x05 ∷ 0x06 ∷ []) 3  -- 81 with a byte below 80, and a byte after the value
    ∷ try (λ b. refusal_in (data_at b)) (0xb8 ∷ 0x37 ∷ []) 3  -- a length of 55, and a value cut
    ∷ try (λ b. refusal_in (uint 1 b)) (0x00 ∷ []) 3
    ∷ try (λ b. refusal_in (uint 1 b)) (0x82 ∷ 0x00 ∷ []) 5  -- a value cut, and a payload whose first byte is 0
    ∷ try (λ b. refusal_in (uint 1 b)) (0x82 ∷ 0x00 ∷ 0x00 ∷ []) 4  -- a payload longer than the width, and its first byte 0
    ∷ try (λ b. refusal_in (uint 2 b)) (0x82 ∷ 0x00 ∷ 0x00 ∷ []) 3
    ∷ try (λ b. refusal_in (boolean b)) (0x81 ∷ 0x02 ∷ []) 3  -- 81 with a byte below 80, and neither 0 nor 1
    ∷ try (λ b. refusal_in (boolean b)) (0x82 ∷ 0x01 ∷ 0x00 ∷ []) 4  -- a payload longer than the width, and neither 0 nor 1
    ∷ try (λ b. refusal_in (boolean b)) (0x02 ∷ []) 9
    ∷ []

abbrev pub OrderOfRefusals : Type 0
OrderOfRefusals = T (all_refuse order)

-- ---- all of them

pub record Claimed : Type 0 where
  pub answers_are_determined : AnswersAreDetermined
  pub promises_are_of_the_answer : PromisesAreOfTheAnswer
  pub parts_are_inside : PartsAreInside
  pub only_places_inside_have_bytes : OnlyPlacesInsideHaveBytes
  pub values_are_exact : ValuesAreExact
  pub refused_values : RefusedValues
  pub value_of_encoding : ValueOfEncoding
  pub lists_have_no_value : ListsHaveNoValue
  pub data_is_the_payload : DataIsThePayload
  pub data_of_encoding : DataOfEncoding
  pub numbers_are_shortest : NumbersAreShortest
  pub numbers_are_refused : NumbersAreRefused
  pub truths_are_zero_and_one : TruthsAreZeroAndOne
  pub order_of_refusals : OrderOfRefusals
