-- What is claimed of the list's calls. proofs/Claims.antt proves each claim under the same name in small letters; the record at the end
-- holds them all, and src/lib.rt asks for it.
use Rattle.std.specs.Prelude.{◌≡◌, true, false, not, ◌⊎◌, ℕ, suc, ◌+◌, ◌-◌, ◌≤◌, ◌<◌, ◌^◌, List, [], ◌∷◌, ◌++◌, T, eqb, length, take, drop, Ok, Err}
use Rattle.rlp.specs.declared.Refusal.{Refusal}
use Rattle.rlp.specs.declared.Refusal.TheVariants.{RlpIsTooShort, RlpExpectedToBeList}
use Rattle.rlp.specs.Refusals.{Or}
use Rattle.rlp.specs.Tree.{Item, Items, list, ◌then◌, header_size, enc, encs, many, joined}
use Rattle.rlp.specs.Promises.{Determined, said, refusal_in, Tried, try, all_refuse}
use Rattle.header.specs.declared.PayloadInfo.{PayloadInfo}
use Rattle.header.specs.Header.{size, payload_info}
use Rattle.value.specs.declared.Part.{Part}
use Rattle.value.specs.Value.{placed, data_at, part}
use Rattle.value.specs.Answers.{part_in}
use Rattle.list.specs.declared.OffsetCache.{OffsetCache}
use Rattle.list.specs.declared.Found.{Found}
use Rattle.list.specs.declared.kinds.Prototype.{Prototype}
use Rattle.list.specs.declared.kinds.Prototype.TheVariants as prototype
use Rattle.list.specs.Kinds.{is_null, is_empty, is_list, is_data, is_int, size_of}
use Rattle.list.specs.Walk.{done, item_then, row_from, payload_at, item_count, item_at, item_within, prototype_of, cached_at, found_says, cached_answer}

-- two answers of a call that meet its promise are equal
abbrev pub AnswersAreDetermined : Type 0
AnswersAreDetermined = Determined {A = Or Prototype} said × Determined {A = Or Part} said × Determined {A = Or ℕ} said × Determined found_says

-- for a promise is of the answer itself: what it says is what the answer holds
abbrev pub PromisesAreOfTheAnswer : Type 0
PromisesAreOfTheAnswer = (t : Or Prototype) (p : Or Part) (n : Or ℕ) (f : Found)
    → (said t ≡ t) × (said p ≡ p) × (said n ≡ n) × ((found_says f).place ≡ f.place) × ((found_says f).cache ≡ f.cache)

-- ---- what an item is

-- no bytes are null and nothing else; any others are data below c0 and a list from there on, and empty if the first is 80 or c0
abbrev pub FirstBytesTell : Type 0
FirstBytesTell = (is_null [] ≡ true) × (is_empty [] ≡ false) × (is_data [] ≡ false) × (is_list [] ≡ false) × (is_int [] ≡ false)
    × ((x : ℕ) (r : List ℕ)
    → (is_null (x ∷ r) ≡ false)
    × (is_empty (x ∷ r) ≡ true → (x ≡ 0x80) ⊎ (x ≡ 0xc0))
    × ((x ≡ 0x80) ⊎ (x ≡ 0xc0) → is_empty (x ∷ r) ≡ true)
    × (x < 0xc0 → (is_data (x ∷ r) ≡ true) × (is_list (x ∷ r) ≡ false))
    × (0xc0 ≤ x → (is_data (x ∷ r) ≡ false) × (is_list (x ∷ r) ≡ true)))

-- `is_int` says yes to a first byte up to 80; to a longer string exactly where the first byte of its value is there and is not 0; and no to
-- a list
abbrev pub IntsBeginWithNoZero : Type 0
IntsBeginWithNoZero = (x y : ℕ) (k r : List ℕ)
    → (x ≤ 0x80 → is_int (x ∷ r) ≡ true)
    × (0x80 < x → x ≤ 0xb7 → (is_int (x ∷ []) ≡ false) × (is_int (x ∷ y ∷ r) ≡ not (eqb y 0)))
    × (0xb7 < x → x ≤ 0xbf → (length k ≤ x - 0xb7 → is_int (x ∷ k) ≡ false) × (length k ≡ x - 0xb7 → is_int (x ∷ (k ++ (y ∷ r))) ≡ not (eqb y 0)))
    × (0xbf < x → is_int (x ∷ r) ≡ false)

-- `size` is the value's length of data that `payload_info` takes, and else 0
abbrev pub SizesAreOfData : Type 0
SizesAreOfData = (b : List ℕ)
    → (is_data b ≡ true → ((p : PayloadInfo) → payload_info b ≡ Ok p → size_of b ≡ p.value_len) × ((e : Refusal) → payload_info b ≡ Err e → size_of b ≡ 0))
    × (is_data b ≡ false → size_of b ≡ 0)

-- `prototype` is null of no bytes, of data its size, and of a list its count, whose refusal is passed on
abbrev pub PrototypesTell : Type 0
PrototypesTell = (b : List ℕ)
    → (is_null b ≡ true → prototype_of b ≡ Ok prototype.Null)
    × (is_data b ≡ true → prototype_of b ≡ Ok (prototype.Data (size_of b)))
    × (is_list b ≡ true → ((n : ℕ) → item_count b ≡ Ok n → prototype_of b ≡ Ok (prototype.List n)) × ((e : Refusal) → item_count b ≡ Err e → prototype_of b ≡ Err e))

-- ---- items

-- a refusal hands the same cached place back. (No call writes to what it is lent.)
abbrev pub RefusalsKeepThePlace : Type 0
RefusalsKeepThePlace = (b : List ℕ) (c : OffsetCache) (i : ℕ) (e : Refusal) → (cached_answer b c i).place ≡ Err e → (cached_answer b c i).cache ≡ c

-- an item lies inside its list's payload, whatever follows in the frame, and is a byte at least; item 0 starts where the payload does, and
-- each other one where the item before it ends
abbrev pub ItemsLieInARow : Type 0
ItemsLieInARow = (b : List ℕ) (i : ℕ) (p q : Part) → payload_at b ≡ Ok p → item_at b i ≡ Ok q
    → (p.start ≤ q.start) × (0 < q.len) × (q.start + q.len ≤ p.start + p.len)
    × (i ≡ 0 → q.start ≡ p.start)
    × ((j : ℕ) (r : Part) → i ≡ suc j → item_at b j ≡ Ok r → q.start ≡ r.start + r.len)

-- n items, one after the other, each taken by `payload_info`, and nothing left over
pub data Whole : ℕ → List ℕ → Type 0 where
  none : Whole 0 []
  more : {n : ℕ} {s : List ℕ} (p : PayloadInfo) → payload_info s ≡ Ok p → Whole n (drop (size p) s) → Whole (suc n) s

-- a row is the item at its front, and then the row of what is left
abbrev pub RowsAreFronts : Type 0
RowsAreFronts = (at : ℕ) → (row_from at 0 [] ≡ done)
    × ((x : ℕ) (r : List ℕ) → row_from at 0 (x ∷ r) ≡ item_then at (payload_info (x ∷ r)) (λ n. row_from (at + n) 0 (drop n (x ∷ r))))

-- `item_count` accepts exactly the lists whose payload is whole items, with their number
abbrev pub CountsAreExact : Type 0
CountsAreExact = (b : List ℕ) (n : ℕ) (p : Part) → payload_at b ≡ Ok p → (item_count b ≡ Ok n → Whole n (part b p)) × (Whole n (part b p) → item_count b ≡ Ok n)

-- and else refuses with what some index is refused with, and so all behind it: the first refusal met
abbrev pub CountsMeetTheFirstRefusal : Type 0
CountsMeetTheFirstRefusal = (b : List ℕ) (e : Refusal) → item_count b ≡ Err e → (i : ℕ) × (item_at b i ≡ Err e)

-- where it accepts, `at` answers exactly the indexes below the count
abbrev pub IndexesBelowTheCount : Type 0
IndexesBelowTheCount = (b : List ℕ) (n i : ℕ) → item_count b ≡ Ok n
    → (i < n → (q : Part) × (item_at b i ≡ Ok q)) × (n ≤ i → item_at b i ≡ Err RlpIsTooShort)

-- a cached place is right where a fresh walk arrives there
pub record Right (b : List ℕ) (c : OffsetCache) : Type 0 where
  pub item : Part
  pub found : item_at b c.index ≡ Ok item
  pub there : item.start ≡ c.offset

-- with a right place every index gets the fresh answer, refusals included; and the place that comes back is right again. A fresh walk
-- gives a right place by what right means, so do all calls that start from such a one
abbrev pub PlacesGiveTheFreshAnswer : Type 0
PlacesGiveTheFreshAnswer = (b : List ℕ) (c : OffsetCache) (i : ℕ) → Right b c → (cached_at b c i ≡ item_at b i) × Right b (cached_answer b c i).cache

-- and so does the place right behind an item that was found, for every index behind it, also where the list ends there
abbrev pub NextPlacesToo : Type 0
NextPlacesToo = (b : List ℕ) (i j : ℕ) (q : Part) → item_at b i ≡ Ok q → i < j → cached_at b (record { index = suc i; offset = q.start + q.len }) j ≡ item_at b j

-- a walk by steps, bounded by the payload's end, gives the list's items one after the other, and then the refusal that the next index gets:
-- from the payload's start on item 0, and from the end of each item the one after it
abbrev pub StepsWalkTheList : Type 0
StepsWalkTheList = (b : List ℕ) (p : Part) → payload_at b ≡ Ok p
    → (item_within b p.start (p.start + p.len) ≡ item_at b 0)
    × ((i : ℕ) (q : Part) → item_at b i ≡ Ok q → item_within b (q.start + q.len) (p.start + p.len) ≡ item_at b (suc i))

-- a step is `payload_info` over the bytes from the offset up to the bound; an offset behind the bound, and a bound outside the bytes, is 1
abbrev pub StepsAreHeaders : Type 0
StepsAreHeaders = (b : List ℕ) (from end : ℕ)
    → (from ≤ end → end ≤ length b
    → ((p : PayloadInfo) → payload_info (take (end - from) (drop from b)) ≡ Ok p → item_within b from end ≡ placed from (size p))
    × ((e : Refusal) → payload_info (take (end - from) (drop from b)) ≡ Err e → item_within b from end ≡ Err e))
    × ((end < from) ⊎ (length b < end) → item_within b from end ≡ Err RlpIsTooShort)

-- from any place whose index is at most the asked one the walk is such steps, up to the payload's end: at its own index from its offset on,
-- and then from the end of each item on. An offset outside the payload is 1. A place whose index is above is not looked at
abbrev pub WalksStartAtThePlace : Type 0
WalksStartAtThePlace = (b : List ℕ) (p : Part) (c : OffsetCache) → payload_at b ≡ Ok p
    → (p.start ≤ c.offset → c.offset ≤ p.start + p.len
    → (cached_at b c c.index ≡ item_within b c.offset (p.start + p.len))
    × ((i : ℕ) (q : Part) → c.index ≤ i → cached_at b c i ≡ Ok q → cached_at b c (suc i) ≡ item_within b (q.start + q.len) (p.start + p.len))
    × ((i : ℕ) (e : Refusal) → c.index ≤ i → cached_at b c i ≡ Err e → cached_at b c (suc i) ≡ Err e))
    × ((i : ℕ) → c.index ≤ i → (c.offset < p.start) ⊎ (p.start + p.len < c.offset) → cached_at b c i ≡ Err RlpIsTooShort)
    × ((i : ℕ) → i < c.index → cached_at b c i ≡ item_at b i)

-- where an index is refused, every index behind it is refused alike
abbrev pub RefusalsLast : Type 0
RefusalsLast = (b : List ℕ) (i : ℕ) (e : Refusal) → item_at b i ≡ Err e → item_at b (suc i) ≡ Err e

-- what is no list is 8, for every call on lists; and a list's own refusal is `data`'s
abbrev pub ListsAreAskedFor : Type 0
ListsAreAskedFor = (b : List ℕ)
    → (is_list b ≡ false → payload_at b ≡ Err RlpExpectedToBeList)
    × (is_list b ≡ true → payload_at b ≡ data_at b)
    × ((e : Refusal) → payload_at b ≡ Err e
    → (item_count b ≡ Err e) × ((i : ℕ) → item_at b i ≡ Err e) × ((c : OffsetCache) (i : ℕ) → cached_at b c i ≡ Err e))

-- of an encoded list followed by anything: the count is the number of its items; the item t, with so many items before it, is answered by
-- the place of its own encoding, right behind theirs
abbrev pub ItemsOfEncoding : Type 0
ItemsOfEncoding = (before after : Items) (t : Item) (r : List ℕ)
    → let l : Items = joined before (t then after) in
    let b : List ℕ = enc (list l) ++ r in
    length (enc (list l)) < 2 ^ 64
    → (item_at b (many before) ≡ placed (header_size (length (encs l)) + length (encs before)) (length (enc t)))
    × (part_in b (item_at b (many before)) ≡ enc t)

abbrev pub CountOfEncoding : Type 0
CountOfEncoding = (l : Items) (r : List ℕ) → length (enc (list l)) < 2 ^ 64 → item_count (enc (list l) ++ r) ≡ Ok (many l)

-- inputs at which two refusals that stand next to each other in the rules' order both hold, and which is given
unfoldable pub order : List Tried
order =
    try (λ b. refusal_in (item_count b)) (0xb8 ∷ 0x00 ∷ []) 8  -- not a list, and a damaged header
    ∷ try (λ b. refusal_in (item_at b 0)) (0xb8 ∷ 0x00 ∷ []) 8
    ∷ try (λ b. refusal_in (item_count b)) (0xc2 ∷ 0xb8 ∷ []) 1  -- the list cut, and an item damaged
    ∷ try (λ b. refusal_in (item_count b)) (0xc4 ∷ 0xb8 ∷ 0x00 ∷ 0x82 ∷ 0x01 ∷ []) 2  -- two damaged items: the first refusal met
    ∷ try (λ b. refusal_in (item_at b 9)) (0xc2 ∷ 0xb8 ∷ 0x00 ∷ []) 2  -- an item damaged, and an index past the end
    ∷ try (λ b. refusal_in (item_at b 1)) (0xc1 ∷ 0x05 ∷ 0x06 ∷ []) 1  -- past the end of the list, and an item behind it in the frame
    ∷ try (λ b. refusal_in (cached_at b (record { index = 0; offset = 9 }) 0)) (0xf8 ∷ 0x00 ∷ []) 2  -- the list's header, and an offset outside
    ∷ try (λ b. refusal_in (cached_at b (record { index = 0; offset = 0 }) 0)) (0xc2 ∷ 0xb8 ∷ 0x00 ∷ []) 1  -- an offset in the header, and an item damaged
    ∷ try (λ b. refusal_in (cached_at b (record { index = 0; offset = 3 }) 0)) (0xc1 ∷ 0x05 ∷ 0x06 ∷ 0x07 ∷ []) 1  -- an offset behind the payload
    ∷ try (λ b. refusal_in (cached_at b (record { index = 1; offset = 9 }) 0)) (0xc1 ∷ 0x05 ∷ []) 0  -- an index above: the offset is not looked at
    ∷ try (λ b. refusal_in (item_within b 2 1)) (0xc2 ∷ 0xb8 ∷ 0x00 ∷ []) 1  -- an offset behind the bound, and an item damaged
    ∷ try (λ b. refusal_in (item_within b 1 4)) (0xc2 ∷ 0xb8 ∷ 0x00 ∷ []) 1  -- a bound behind the bytes, and an item damaged
    ∷ try (λ b. refusal_in (item_within b 1 3)) (0xc2 ∷ 0xb8 ∷ 0x00 ∷ []) 2  -- an item damaged
    ∷ try (λ b. refusal_in (prototype_of b)) (0xc2 ∷ 0xb8 ∷ 0x00 ∷ []) 2  -- the count's refusal is passed on
    ∷ []

abbrev pub OrderOfRefusals : Type 0
OrderOfRefusals = T (all_refuse order)

-- ---- all of them

pub record Claimed : Type 0 where
  pub answers_are_determined : AnswersAreDetermined
  pub promises_are_of_the_answer : PromisesAreOfTheAnswer
  pub first_bytes_tell : FirstBytesTell
  pub ints_begin_with_no_zero : IntsBeginWithNoZero
  pub sizes_are_of_data : SizesAreOfData
  pub prototypes_tell : PrototypesTell
  pub refusals_keep_the_place : RefusalsKeepThePlace
  pub items_lie_in_a_row : ItemsLieInARow
  pub rows_are_fronts : RowsAreFronts
  pub counts_are_exact : CountsAreExact
  pub counts_meet_the_first_refusal : CountsMeetTheFirstRefusal
  pub indexes_below_the_count : IndexesBelowTheCount
  pub places_give_the_fresh_answer : PlacesGiveTheFreshAnswer
  pub next_places_too : NextPlacesToo
  pub steps_walk_the_list : StepsWalkTheList
  pub steps_are_headers : StepsAreHeaders
  pub walks_start_at_the_place : WalksStartAtThePlace
  pub refusals_last : RefusalsLast
  pub lists_are_asked_for : ListsAreAskedFor
  pub items_of_encoding : ItemsOfEncoding
  pub count_of_encoding : CountOfEncoding
  pub order_of_refusals : OrderOfRefusals
