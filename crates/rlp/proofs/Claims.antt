-- The claims of specs/Claims.antt, proved. Assumes nothing.
use mathlib.Core.Path.{◌≡◌, refl, sym, ap, ◌∙◌}
use mathlib.Core.Bool.{Bool, true, false, ◌&&◌}
use Prim.Native.Nat.{ℕ, ◌+◌, ◌-◌, ◌^◌, ◌≤◌}
use native.Mathlib.Nat.{pow-le-pow_right}
use native.Mathlib.Omega.{arith}
use mathlib.Core.List.{[], ◌∷◌}
use lib.Dec.{T, leb, leb→le, lit<}
use lib.ListN.{take, get_or}
use Rattle.rlp.specs.declared.Refusal.{Refusal}
use Rattle.rlp.specs.declared.Refusal.TheVariants as is
use Rattle.rlp.specs.Refusals.{number_of}
use Rattle.rlp.specs.Tree.{Item, str, list, strings, header, enc, encs, items}
use Rattle.rlp.specs.Paths.{offset}
use Rattle.rlp.specs.Claims.{NumbersAreNames, names, numbered_from, NumbersAreTheTable, LimitsAreTheRules, BytesOfNumber, NumberOfBytes, HowManyBytes, EncodingIsUnique, BoundIsNeeded, EncodingIsBytes, SizeOfHeader, SizeOfString, SizeOfList, CountsAreSmall, ExchangeNeedsAnItem, ExchangePutsItThere, ExchangeKeepsTheOthers, PathsStartOrAreApart, ExchangeBack, ExchangesInEitherOrder, DepthAfterExchange, ItemsStandAtTheirOffset, Claimed}
use Rattle.rlp.proofs.BigEndian.{value-be, be-value, be-bytes, be_trim, be-short, be_upper, be-length}
use Rattle.rlp.proofs.Sizes.{header-size, header-long, string-size, list-size, enc-bytes, items-few, depth-few}
use Rattle.rlp.proofs.Unique.{enc_split}
use Rattle.rlp.proofs.Paths.{fetched, exchangeable, not-exchanged, found, kept, compared, back, either, exchange-deep, lies, lies_inside, lies_cut}

pub numbers_are_the_table : NumbersAreTheTable
unfolding numbered_from names
numbers_are_the_table = tt

-- a refusal is found again by its number, which is in range
Named : Refusal → Type 0
Named e = (get_or names (number_of e - 1) is.RlpIsTooShort ≡ e) × T (leb 1 (number_of e) && leb (number_of e) 20)

is_named : (e : Refusal) → Named e
unfolding Named names
is_named is.RlpIsTooShort = (refl, tt)
is_named is.RlpDataLenWithZeroPrefix = (refl, tt)
is_named is.RlpInvalidIndirection = (refl, tt)
is_named is.RlpIsTooBig = (refl, tt)
is_named is.RlpInconsistentLengthAndData = (refl, tt)
is_named is.RlpInvalidLength = (refl, tt)
is_named is.RlpExpectedToBeData = (refl, tt)
is_named is.RlpExpectedToBeList = (refl, tt)
is_named is.InvalidBoolean = (refl, tt)
is_named is.TrailingBytes = (refl, tt)
is_named is.TooDeep = (refl, tt)
is_named is.TooLarge = (refl, tt)
is_named is.NoRoom = (refl, tt)
is_named is.TooManyItems = (refl, tt)
is_named is.NoOpenList = (refl, tt)
is_named is.ListTypeMismatch = (refl, tt)
is_named is.Unfinished = (refl, tt)
is_named is.CountMismatch = (refl, tt)
is_named is.NoSuchItem = (refl, tt)
is_named is.StateMismatch = (refl, tt)

both : (n : ℕ) → T (leb 1 n && leb n 20) → (1 ≤ n) × (n ≤ 20)
both n t = go (leb 1 n) (leb n 20) refl refl t
  where
    go : (a b : Bool) → leb 1 n ≡ a → leb n 20 ≡ b → T (a && b) → (1 ≤ n) × (n ≤ 20)
    go true true p q t = (leb→le 1 n (rw p tt), leb→le n 20 (rw q tt))
    go false b p q t = elim t [ ]
    go true false p q t = elim t [ ]

pub numbers_are_names : NumbersAreNames
unfolding Named
numbers_are_names d e =
    let b = both (number_of e) (is_named e).1 in
    (b.0, b.1, λ h. sym (is_named d).0 ∙ ap (λ (n : ℕ). get_or names (n - 1) is.RlpIsTooShort) h ∙ (is_named e).0)

pub limits_are_the_rules : LimitsAreTheRules
limits_are_the_rules = (refl, refl)

pub bytes_of_number : BytesOfNumber
bytes_of_number n = (be-bytes n, be_trim n, value-be n)

pub number_of_bytes : NumberOfBytes
number_of_bytes s b t = be-value s t b

pub how_many_bytes : HowManyBytes
how_many_bytes n k = (λ h. omega (arith, be_upper n, pow-le-pow_right {n = 256} (lit< tt) h), be-short k n)

pub encoding_is_unique : EncodingIsUnique
encoding_is_unique = enc_split

-- 256 ^ 8 takes nine length bytes, and 128 + 55 + 9 is 192
first_too_far : take 1 (header strings (256 ^ 8)) ≡ 192 ∷ []
first_too_far =
    ap (take 1) (header-long strings (256 ^ 8) (omega arith))
    ∙ ap (λ (n : ℕ). (strings + 55 + n) ∷ []) (be-length (256 ^ 8) 8 (omega arith) (omega arith))

pub bound_is_needed : BoundIsNeeded
unfolding enc encs header
bound_is_needed = first_too_far

pub encoding_is_bytes : EncodingIsBytes
encoding_is_bytes = enc-bytes

pub size_of_header : SizeOfHeader
size_of_header = header-size

pub size_of_string : SizeOfString
size_of_string = string-size

pub size_of_list : SizeOfList
size_of_list = list-size

pub counts_are_small : CountsAreSmall
unfolding items
counts_are_small t = (depth-few t, some t, items-few t)
  where
    some : (t : Item) → 1 ≤ items t
    some (str s) = omega arith
    some (list l) = omega arith

-- ---- paths

pub exchange_needs_an_item : ExchangeNeedsAnItem
exchange_needs_an_item t p u = (exchangeable t p u, not-exchanged t p u, fetched t p)

pub exchange_puts_it_there : ExchangePutsItThere
exchange_puts_it_there = found

pub exchange_keeps_the_others : ExchangeKeepsTheOthers
exchange_keeps_the_others = kept

pub paths_start_or_are_apart : PathsStartOrAreApart
paths_start_or_are_apart = compared

pub exchange_back : ExchangeBack
exchange_back = back

pub exchanges_in_either_order : ExchangesInEitherOrder
exchanges_in_either_order = either

pub depth_after_exchange : DepthAfterExchange
depth_after_exchange t p u v n e d =
    let D = exchange-deep t p u v e in
    (λ h. omega (arith, D.most), λ h. omega (arith, D.least))

pub items_stand_at_their_offset : ItemsStandAtTheirOffset
items_stand_at_their_offset t p w e =
    let L = lies t p w e in
    (lies_inside (enc t) (enc w) (offset t p) L, lies_cut (enc t) (enc w) (offset t p) L)

pub claimed : Claimed
claimed =
    record {
      numbers_are_names = numbers_are_names;
      numbers_are_the_table = numbers_are_the_table;
      limits_are_the_rules = limits_are_the_rules;
      bytes_of_number = bytes_of_number;
      number_of_bytes = number_of_bytes;
      how_many_bytes = how_many_bytes;
      encoding_is_unique = encoding_is_unique;
      bound_is_needed = bound_is_needed;
      encoding_is_bytes = encoding_is_bytes;
      size_of_header = size_of_header;
      size_of_string = size_of_string;
      size_of_list = size_of_list;
      counts_are_small = counts_are_small;
      exchange_needs_an_item = exchange_needs_an_item;
      exchange_puts_it_there = exchange_puts_it_there;
      exchange_keeps_the_others = exchange_keeps_the_others;
      paths_start_or_are_apart = paths_start_or_are_apart;
      exchange_back = exchange_back;
      exchanges_in_either_order = exchanges_in_either_order;
      depth_after_exchange = depth_after_exchange;
      items_stand_at_their_offset = items_stand_at_their_offset;
    }
