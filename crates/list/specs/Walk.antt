-- The items of a list, and what is asked of them: docs/RULES.md, "Lists". These are definitions.
use Rattle.std.specs.Prelude.{ℕ, zero, suc, ◌+◌, ◌-◌, cond, ◌&&◌, List, [], ◌∷◌, leb, length, Ok, Err}
use Rattle.rlp.specs.declared.Refusal.{Refusal}
use Rattle.rlp.specs.declared.Refusal.TheVariants.{RlpIsTooShort, RlpExpectedToBeList}
use Rattle.rlp.specs.Refusals.{Or, also, unless}
use Rattle.header.specs.declared.PayloadInfo.{PayloadInfo}
use Rattle.header.specs.Header.{size, payload_info}
use Rattle.value.specs.declared.Part.{Part}
use Rattle.value.specs.Value.{data_at, part}
use Rattle.list.specs.declared.OffsetCache.{OffsetCache}
use Rattle.list.specs.declared.Found.{Found}
use Rattle.list.specs.declared.kinds.Prototype.{Prototype}
use Rattle.list.specs.declared.kinds.Prototype.TheVariants as prototype
use Rattle.list.specs.Kinds.{is_list, is_data, size_of}

-- a row of items, each with its place in the whole bytes: it ends with the payload, or is broken by an item that is refused
pub data Row : Type 0 where
  done : Row
  broken : Refusal → Row
  item : Part → Row → Row

-- the item that an answer of `payload_info` tells of, at an offset, then the row of what is left
unfoldable pub item_then : ℕ → Or PayloadInfo → (ℕ → Row) → Row
item_then at (Ok p) rest = item (record { start = at; len = size p }) (rest (size p))
item_then at (Err e) rest = broken e

-- the row of a payload's bytes from a place on, so many bytes further, the first byte having the offset `at`: `payload_info` over the rest
-- of the payload, item after item
unfoldable pub row_from : ℕ → ℕ → List ℕ → Row
row_from at skip [] = done
row_from at (suc skip) (x ∷ r) = row_from (suc at) skip r
row_from at zero (x ∷ r) = item_then at (payload_info (x ∷ r)) (λ n. row_from (suc at) (n - 1) r)

-- item i of a row: past the end is 1
unfoldable pub nth : Row → ℕ → Or Part
nth done i = Err RlpIsTooShort
nth (broken e) i = Err e
nth (item p l) zero = Ok p
nth (item p l) (suc i) = nth l i

-- the first refusal met in the payload, else the count
unfoldable pub count_in : Row → Or ℕ
count_in done = Ok 0
count_in (broken e) = Err e
count_in (item p l) = also (count_in l) (λ n. Ok (suc n))

-- where a list's payload lies: not a list 8; the list's header refusal, from `payload_info`
unfoldable pub payload_at : List ℕ → Or Part
payload_at b = unless (is_list b) RlpExpectedToBeList (data_at b)

-- the items of some of the bytes
unfoldable pub row_in : List ℕ → Part → Row
row_in b p = row_from p.start 0 (part b p)

unfoldable pub item_count : List ℕ → Or ℕ
item_count b = also (payload_at b) (λ p. count_in (row_in b p))

-- item i of a fresh view: its offset in the whole bytes, and its length
unfoldable pub item_at : List ℕ → ℕ → Or Part
item_at b i = also (payload_at b) (λ p. nth (row_in b p) i)

-- one step of a walk: the item that starts at an offset and is bounded by another. An offset outside, and no item left, is 1
unfoldable pub item_within : List ℕ → ℕ → ℕ → Or Part
item_within b from end =
    unless (leb from end && leb end (length b)) RlpIsTooShort
    (nth (row_in b (record { start = from; len = end - from })) 0)

-- nothing, data of so many bytes, or a list of so many items; the count's refusal is passed on
unfoldable pub prototype_of : List ℕ → Or Prototype
prototype_of b =
    cond (is_data b) (Ok (prototype.Data (size_of b)))
    (cond (is_list b) (also (item_count b) (λ n. Ok (prototype.List n)))
    (Ok prototype.Null))

-- from the offset o on, still bounded by the payload p; an offset outside the payload is 1
unfoldable pub rest_at : List ℕ → ℕ → ℕ → Part → Or Part
rest_at b o i p =
    unless (leb p.start o && leb o (p.start + p.len)) RlpIsTooShort
    (nth (row_in b (record { start = o; len = p.start + p.len - o })) i)

-- with a cached place: if its index is at most i the walk starts there, after the list's header refusal. If it is above i, its offset is
-- not looked at
unfoldable pub cached_at : List ℕ → OffsetCache → ℕ → Or Part
cached_at b c i = cond (leb c.index i) (also (payload_at b) (rest_at b c.offset (i - c.index))) (item_at b i)

-- the place moves to the item's own. A refusal leaves it as it was
unfoldable pub cache_after : OffsetCache → ℕ → Or Part → OffsetCache
cache_after c i (Ok p) = record { index = i; offset = p.start }
cache_after c i (Err e) = c

-- what was answered, and the place that is there then
pub record Answer : Type 0 where
  pub place : Or Part
  pub cache : OffsetCache

abbrev pub answered : Or Part → OffsetCache → Answer
answered o c = record { place = o; cache = c }

-- what a `Found` says
unfoldable pub found_says : Found → Answer
found_says f = answered f.place f.cache

unfoldable pub cached_answer : List ℕ → OffsetCache → ℕ → Answer
cached_answer b c i = answered (cached_at b c i) (cache_after c i (cached_at b c i))
