-- What is claimed of the header's calls. proofs/Claims.antt proves each claim under the same name in small letters; the record at the end
-- holds them all, and src/lib.rt asks for it.
--
-- The calls only read what is lent to them and keep no state, so a refusal can change nothing.
use Rattle.std.specs.Prelude.{◌≡◌, ℕ, ◌+◌, ◌-◌, ◌^◌, ◌<◌, ◌≤◌, T, ◌⊎◌, List, [], ◌∷◌, ◌++◌, length, replicate, Ok, Err}
use Rattle.rlp.specs.declared.Refusal.{Refusal}
use Rattle.rlp.specs.declared.Refusal.TheVariants.{RlpIsTooShort, RlpDataLenWithZeroPrefix, RlpInvalidIndirection, RlpIsTooBig}
use Rattle.rlp.specs.Bytes.{Bytes, be_value, be, Trim}
use Rattle.rlp.specs.Tree.{Item, strings, lists, header, header_size, enc, payload}
use Rattle.rlp.specs.Refusals.{Or}
use Rattle.rlp.specs.Promises.{Determined, said, refusal_in, Tried, try, all_refuse}
use Rattle.header.specs.declared.PayloadInfo.{PayloadInfo}
use Rattle.header.specs.Header.{length_of, told, header_of, size, payload_info, total_of, item_step, whole_size}

-- two answers of a call that meet its promise are equal
abbrev pub LengthsAreDetermined : Type 0
LengthsAreDetermined = Determined {A = Or ℕ} said

abbrev pub HeadersAreDetermined : Type 0
HeadersAreDetermined = Determined {A = Or PayloadInfo} said

-- for a promise is of the answer itself: what it says is what the answer holds
abbrev pub PromisesAreOfTheAnswer : Type 0
PromisesAreOfTheAnswer = (r : Or ℕ) (s : Or PayloadInfo) → (said r ≡ r) × (said s ≡ s)

-- `decode_usize` takes exactly the shortest big-endian bytes of the numbers from 1 up to 2 ^ 64 - 1, and answers that number
abbrev pub LengthBytesAreShortest : Type 0
LengthBytesAreShortest = (b : List ℕ) (n : ℕ) → Bytes b → (length_of b ≡ Ok n → (0 < n) × (n < 2 ^ 64) × (be n ≡ b)) × ((0 < n) × (n < 2 ^ 64) × (be n ≡ b) → length_of b ≡ Ok n)

-- over 8 bytes is 4; of up to 8, none is 1 and a first byte 0 is 3
abbrev pub RefusedLengths : Type 0
RefusedLengths = ((b : List ℕ) → 8 < length b → length_of b ≡ Err RlpIsTooBig)
    × (length_of [] ≡ Err RlpIsTooShort)
    × ((r : List ℕ) → length r < 8 → length_of (0 ∷ r) ≡ Err RlpInvalidIndirection)

-- b begins with a header of p's header length, and p's value length is the length that it tells: a byte below 128 has no header and is
-- a value of one byte, and any other header is Appendix B's for a string or a list of so many bytes
pub data Begins (b : List ℕ) (p : PayloadInfo) : Type 0 where
  byte : (x : ℕ) (r : List ℕ) → x < 128 → b ≡ x ∷ r → told 0 1 ≡ Ok p → Begins b p
  string : (n : ℕ) (r : List ℕ) → n < 2 ^ 64 → b ≡ header strings n ++ r → told (header_size n) n ≡ Ok p → Begins b p
  listed : (n : ℕ) (r : List ℕ) → n < 2 ^ 64 → b ≡ header lists n ++ r → told (header_size n) n ≡ Ok p → Begins b p

-- `PayloadInfo::from` takes exactly the bytes that begin so
abbrev pub HeadersAreAppendixB : Type 0
HeadersAreAppendixB = (b : List ℕ) (p : PayloadInfo) → Bytes b → (header_of b ≡ Ok p → Begins b p) × (Begins b p → header_of b ≡ Ok p)

-- a first byte of the long form, of a string or a list, that tells of k length bytes
pub record LongForm (x k : ℕ) : Type 0 where
  pub some : 1 ≤ k
  pub few : k ≤ 8
  pub first : (x ≡ strings + 55 + k) ⊎ (x ≡ lists + 55 + k)

-- why some bytes begin with no header: there are none; or they are of the long form, and the first length byte is 0; or it is not, and the
-- length bytes are not all there; or they are, and tell of 55 bytes or less
pub data Headless : List ℕ → Refusal → Type 0 where
  none : Headless [] RlpIsTooShort
  zeroed : {x k : ℕ} (r : List ℕ) → LongForm x k → Headless (x ∷ 0 ∷ r) RlpDataLenWithZeroPrefix
  cut : {x k : ℕ} (r : List ℕ) → LongForm x k → Trim r → length r < k → Headless (x ∷ r) RlpIsTooShort
  small : {x k : ℕ} (n r : List ℕ) → LongForm x k → Trim n → length n ≡ k → be_value n ≤ 55 → Headless (x ∷ (n ++ r)) RlpInvalidIndirection

-- and refuses exactly the others, each for its reason
abbrev pub RefusedHeaders : Type 0
RefusedHeaders = (b : List ℕ) (e : Refusal) → Bytes b → (header_of b ≡ Err e → Headless b e) × (Headless b e → header_of b ≡ Err e)

-- `payload_info` takes exactly the items that fit: header and value lie within the bytes
abbrev pub ItemsFit : Type 0
ItemsFit = (b : List ℕ) (p : PayloadInfo) → (payload_info b ≡ Ok p → (header_of b ≡ Ok p) × (size p ≤ length b)) × ((header_of b ≡ Ok p) × (size p ≤ length b) → payload_info b ≡ Ok p)

-- an item that does not fit is 1, and one without a header is refused as that
abbrev pub RefusedItems : Type 0
RefusedItems = (b : List ℕ) → ((e : Refusal) → header_of b ≡ Err e → payload_info b ≡ Err e)
    × ((p : PayloadInfo) → header_of b ≡ Ok p → length b < size p → payload_info b ≡ Err RlpIsTooShort)

-- an item is a byte at least, and a walk's step is its size; where it is refused the step is that refusal, and the size in one number is 0
abbrev pub SizesAreOfItems : Type 0
SizesAreOfItems = (b : List ℕ) → ((p : PayloadInfo) → payload_info b ≡ Ok p → (item_step b ≡ Ok (size p)) × (whole_size b ≡ size p) × (0 < size p))
    × ((e : Refusal) → payload_info b ≡ Err e → (item_step b ≡ Err e) × (whole_size b ≡ 0))

-- the header of an encoding followed by anything is that encoding's own, with its payload's length
abbrev pub HeaderOfEncoding : Type 0
HeaderOfEncoding = (t : Item) (r : List ℕ) → length (enc t) < 2 ^ 64
    → (header_of (enc t ++ r) ≡ told (length (enc t) - length (payload t)) (length (payload t)))
    × (payload_info (enc t ++ r) ≡ told (length (enc t) - length (payload t)) (length (payload t)))

-- `total` is header plus value, and 1 exactly where that overflows
abbrev pub TotalsAreSums : Type 0
TotalsAreSums = (p : PayloadInfo)
    → (p.header_len + p.value_len < 2 ^ 64 → total_of p ≡ Ok (p.header_len + p.value_len))
    × (2 ^ 64 ≤ p.header_len + p.value_len → total_of p ≡ Err RlpIsTooShort)

-- inputs at which two refusals that stand next to each other in the rules' order both hold, and which is given; and inputs of no bytes
unfoldable pub order : List Tried
order =
    try (λ b. refusal_in (length_of b)) (replicate 9 0) 4  -- over 8 bytes, and a first byte 0
    ∷ try (λ b. refusal_in (length_of b)) [] 1
    ∷ try (λ b. refusal_in (length_of b)) (0x00 ∷ []) 3
    ∷ try (λ b. refusal_in (header_of b)) [] 1
    ∷ try (λ b. refusal_in (header_of b)) (0xb9 ∷ 0x00 ∷ []) 2  -- a second byte 0, and length bytes cut
    ∷ try (λ b. refusal_in (header_of b)) (0xb8 ∷ 0x00 ∷ []) 2  -- a second byte 0, and a length of 55 or less
    ∷ try (λ b. refusal_in (header_of b)) (0xf9 ∷ 0x00 ∷ 0x38 ∷ []) 2  -- a second byte 0 before a length of 56
    ∷ try (λ b. refusal_in (header_of b)) (0xb9 ∷ 0x01 ∷ []) 1  -- length bytes cut, and what there is of them is 55 or less
    ∷ try (λ b. refusal_in (header_of b)) (0xb8 ∷ []) 1  -- no second byte, so that it is not 0
    ∷ try (λ b. refusal_in (payload_info b)) (0xb8 ∷ 0x37 ∷ []) 3  -- a length of 55, and a value cut
    ∷ try (λ b. refusal_in (payload_info b)) (0xb8 ∷ 0x38 ∷ []) 1  -- a length of 56, and a value cut
    ∷ try (λ b. refusal_in (payload_info b)) (0xbf ∷ replicate 8 0xff) 1  -- header plus value overflows
    ∷ []

abbrev pub OrderOfRefusals : Type 0
OrderOfRefusals = T (all_refuse order)

-- ---- all of them

pub record Claimed : Type 0 where
  pub lengths_are_determined : LengthsAreDetermined
  pub headers_are_determined : HeadersAreDetermined
  pub promises_are_of_the_answer : PromisesAreOfTheAnswer
  pub length_bytes_are_shortest : LengthBytesAreShortest
  pub refused_lengths : RefusedLengths
  pub headers_are_appendix_b : HeadersAreAppendixB
  pub refused_headers : RefusedHeaders
  pub items_fit : ItemsFit
  pub refused_items : RefusedItems
  pub sizes_are_of_items : SizesAreOfItems
  pub header_of_encoding : HeaderOfEncoding
  pub totals_are_sums : TotalsAreSums
  pub order_of_refusals : OrderOfRefusals
