-- What is claimed of the definitions. proofs/Claims.antt proves each claim under the same name in small letters; the record at the end
-- holds them all, and src/lib.rt asks for it, so that no proof can be missing.
use Rattle.std.specs.Prelude.{◌≡◌, Bool, true, cond, ◌&&◌, ◌⊎◌, ℕ, suc, ◌+◌, ◌^◌, ◌≤◌, ◌<◌, List, [], ◌∷◌, ◌++◌, T, eqb, length, take, drop, Ok, Err}
use Rattle.rlp.specs.declared.Refusal.{Refusal}
use Rattle.rlp.specs.declared.Refusal.TheVariants as is
use Rattle.rlp.specs.declared.Refusal.TheVariants.{NoSuchItem}
use Rattle.rlp.specs.Refusals.{number_of}
use Rattle.rlp.specs.Limits.{limit, levels}
use Rattle.rlp.specs.Bytes.{Bytes, be_value, be, Trim}
use Rattle.rlp.specs.Paths.{fetch, exchange, Starts, Apart, offset}
use Rattle.rlp.specs.Tree.{Item, Items, str, list, end, strings, header, header_size, headed_size, itself, enc, encs, items, depth, Well}

-- ---- refusals

-- the numbers are 1 to 20, and a number names one refusal
abbrev pub NumbersAreNames : Type 0
NumbersAreNames = (d e : Refusal) → (1 ≤ number_of e) × (number_of e ≤ 20) × (number_of d ≡ number_of e → d ≡ e)

-- the refusals of docs/RULES.md, in the order of their numbers
unfoldable pub names : List Refusal
names =
    is.RlpIsTooShort
    ∷ is.RlpDataLenWithZeroPrefix
    ∷ is.RlpInvalidIndirection
    ∷ is.RlpIsTooBig
    ∷ is.RlpInconsistentLengthAndData  -- 5
    ∷ is.RlpInvalidLength
    ∷ is.RlpExpectedToBeData
    ∷ is.RlpExpectedToBeList
    ∷ is.InvalidBoolean
    ∷ is.TrailingBytes  -- 10
    ∷ is.TooDeep
    ∷ is.TooLarge
    ∷ is.NoRoom
    ∷ is.TooManyItems
    ∷ is.NoOpenList  -- 15
    ∷ is.ListTypeMismatch
    ∷ is.Unfinished
    ∷ is.CountMismatch
    ∷ is.NoSuchItem
    ∷ is.StateMismatch  -- 20
    ∷ []

-- they have the numbers from n on
unfoldable pub numbered_from : ℕ → List Refusal → Bool
numbered_from n [] = true
numbered_from n (e ∷ l) = eqb (number_of e) n && numbered_from (suc n) l

-- each name's number is its place in that table
abbrev pub NumbersAreTheTable : Type 0
NumbersAreTheTable = T (numbered_from 1 names)

-- ---- limits

-- a mebibyte, and 16 levels
abbrev pub LimitsAreTheRules : Type 0
LimitsAreTheRules = (limit ≡ 2 ^ 20) × (levels ≡ 16)

-- ---- numbers as bytes

-- the big-endian bytes of n are bytes with no leading zero whose value is n
abbrev pub BytesOfNumber : Type 0
BytesOfNumber = (n : ℕ) → Bytes (be n) × Trim (be n) × (be_value (be n) ≡ n)

-- and any bytes with no leading zero are the big-endian bytes of their value
abbrev pub NumberOfBytes : Type 0
NumberOfBytes = (s : List ℕ) → Bytes s → Trim s → be (be_value s) ≡ s

-- n takes at most k bytes exactly if it is below 256 ^ k
abbrev pub HowManyBytes : Type 0
HowManyBytes = (n k : ℕ) → (length (be n) ≤ k → n < 256 ^ k) × (n < 256 ^ k → length (be n) ≤ k)

-- ---- encodings

-- bytes begin with at most one tree's encoding: where two trees' encodings, each with anything behind it, are the same bytes, the trees
-- are one and what stands behind is the same. So no encoding begins another, and a row of them is cut in one way
abbrev pub EncodingIsUnique : Type 0
EncodingIsUnique = (t u : Item) (r s : List ℕ) → length (enc t) < 256 ^ 8 → length (enc u) < 256 ^ 8 → enc t ++ r ≡ enc u ++ s → (t ≡ u) × (r ≡ s)

-- why a bound: the header of a string of 256 ^ 8 bytes would begin with the whole encoding of the empty list. Appendix B ends there too
abbrev pub BoundIsNeeded : Type 0
BoundIsNeeded = take 1 (header strings (256 ^ 8)) ≡ enc (list end)

-- below the bound the encoding of a tree of bytes is made of bytes
abbrev pub EncodingIsBytes : Type 0
EncodingIsBytes = (t : Item) → Well t → length (enc t) < 256 ^ 8 → Bytes (enc t)

-- the size of a header, of a string's encoding and of a list's
abbrev pub SizeOfHeader : Type 0
SizeOfHeader = (first n : ℕ) → length (header first n) ≡ header_size n

abbrev pub SizeOfString : Type 0
SizeOfString = (s : List ℕ) → length (enc (str s)) ≡ cond (itself s) 1 (headed_size (length s))

abbrev pub SizeOfList : Type 0
SizeOfList = (l : Items) → length (enc (list l)) ≡ headed_size (length (encs l))

-- there are no more levels than items, and no more items than bytes
abbrev pub CountsAreSmall : Type 0
CountsAreSmall = (t : Item) → (depth t ≤ items t) × (1 ≤ items t) × (items t ≤ length (enc t))

-- ---- paths

-- an item can be exchanged exactly where the path names one: else both are 19
abbrev pub ExchangeNeedsAnItem : Type 0
ExchangeNeedsAnItem = (t : Item) (p : List ℕ) (u : Item)
    → ((w : Item) → fetch t p ≡ Ok w → (v : Item) × (exchange t p u ≡ Ok v))
    × (fetch t p ≡ Err NoSuchItem → exchange t p u ≡ Err NoSuchItem)
    × (((w : Item) × (fetch t p ≡ Ok w)) ⊎ (fetch t p ≡ Err NoSuchItem))

-- the new tree has u at the path, and at every path apart from it what the old one has
abbrev pub ExchangePutsItThere : Type 0
ExchangePutsItThere = (t : Item) (p : List ℕ) (u v : Item) → exchange t p u ≡ Ok v → fetch v p ≡ Ok u

abbrev pub ExchangeKeepsTheOthers : Type 0
ExchangeKeepsTheOthers = (t : Item) (p : List ℕ) (u v : Item) (q : List ℕ) → exchange t p u ≡ Ok v → Apart p q → fetch v q ≡ fetch t q

-- of any two paths one starts the other, or they are apart
abbrev pub PathsStartOrAreApart : Type 0
PathsStartOrAreApart = (p q : List ℕ) → (Starts p q ⊎ Starts q p) ⊎ Apart p q

-- exchanging back gives the first tree again, and exchanges at paths that are apart can come in either order
abbrev pub ExchangeBack : Type 0
ExchangeBack = (t : Item) (p : List ℕ) (u v w : Item) → exchange t p u ≡ Ok v → fetch t p ≡ Ok w → exchange v p w ≡ Ok t

abbrev pub ExchangesInEitherOrder : Type 0
ExchangesInEitherOrder = (t : Item) (p q : List ℕ) (u w a b : Item) → exchange t p u ≡ Ok a → exchange t q w ≡ Ok b → Apart p q → exchange a q w ≡ exchange b p u

-- the new tree has over n levels exactly if the path's length and u's depth pass n, where the old one has at most n
abbrev pub DepthAfterExchange : Type 0
DepthAfterExchange = (t : Item) (p : List ℕ) (u v : Item) (n : ℕ) → exchange t p u ≡ Ok v → depth t ≤ n
    → (n < depth v → n < length p + depth u) × (n < length p + depth u → n < depth v)

-- the item at the end of a path stands in the encoding at its offset. That this is the one place where a walk along the path arrives is
-- claimed in crate amend
abbrev pub ItemsStandAtTheirOffset : Type 0
ItemsStandAtTheirOffset = (t : Item) (p : List ℕ) (w : Item) → fetch t p ≡ Ok w
    → (offset t p + length (enc w) ≤ length (enc t)) × (take (length (enc w)) (drop (offset t p) (enc t)) ≡ enc w)

-- ---- all of them

pub record Claimed : Type 0 where
  pub numbers_are_names : NumbersAreNames
  pub numbers_are_the_table : NumbersAreTheTable
  pub limits_are_the_rules : LimitsAreTheRules
  pub bytes_of_number : BytesOfNumber
  pub number_of_bytes : NumberOfBytes
  pub how_many_bytes : HowManyBytes
  pub encoding_is_unique : EncodingIsUnique
  pub bound_is_needed : BoundIsNeeded
  pub encoding_is_bytes : EncodingIsBytes
  pub size_of_header : SizeOfHeader
  pub size_of_string : SizeOfString
  pub size_of_list : SizeOfList
  pub counts_are_small : CountsAreSmall
  pub exchange_needs_an_item : ExchangeNeedsAnItem
  pub exchange_puts_it_there : ExchangePutsItThere
  pub exchange_keeps_the_others : ExchangeKeepsTheOthers
  pub paths_start_or_are_apart : PathsStartOrAreApart
  pub exchange_back : ExchangeBack
  pub exchanges_in_either_order : ExchangesInEitherOrder
  pub depth_after_exchange : DepthAfterExchange
  pub items_stand_at_their_offset : ItemsStandAtTheirOffset
