-- What is claimed of the strict check. proofs/Claims.antt proves each claim under the same name in small letters; the record at the end
-- holds them all, and src/lib.rt asks for it.
--
-- The calls only read what is lent to them and keep no state, so a refusal can change nothing.
use Rattle.std.specs.Prelude.{◌≡◌, Bool, true, false, cond, ◌⊎◌, ℕ, ◌+◌, ◌^◌, ◌≤◌, ◌<◌, List, [], ◌∷◌, ◌++◌, T, length, drop, Ok, Err}
use Rattle.rlp.specs.declared.Refusal.{Refusal}
use Rattle.rlp.specs.declared.Refusal.TheVariants.{RlpIsTooShort, RlpExpectedToBeData, RlpExpectedToBeList, TrailingBytes, TooLarge}
use Rattle.rlp.specs.Refusals.{Or, also}
use Rattle.rlp.specs.Bytes.{Bytes, be, Trim}
use Rattle.rlp.specs.Limits.{limit, levels}
use Rattle.rlp.specs.Tree.{Item, Items, str, list, end, ◌then◌, header_size, enc, encs, many, joined, items, depth, deepest, Well, Wells}
use Rattle.rlp.specs.Promises.{Determined, said}
use Rattle.value.specs.Value.{placed, value_at, data_at, uint, boolean}
use Rattle.value.specs.Answers.{part_in}
use Rattle.list.specs.Kinds.{is_null, is_empty, is_list, is_data, is_int, size_of}
use Rattle.list.specs.declared.kinds.Prototype.TheVariants as prototype
use Rattle.list.specs.Walk.{payload_at, item_count, item_at, prototype_of}
use Rattle.strict.specs.declared.Tally.{Tally}
use Rattle.strict.specs.Strict.{front, row, tree, strict, strict_items}
use Rattle.strict.specs.Damage.{Bad, BadRow}
use Rattle.strict.specs.Sheets as tables

-- two answers that meet the promise are equal
abbrev pub AnswersAreDetermined : Type 0
AnswersAreDetermined = Determined {A = Or Tally} said

-- for a promise is of the answer itself: what it says is what the answer holds
abbrev pub PromisesAreOfTheAnswer : Type 0
PromisesAreOfTheAnswer = (r : Or Tally) → said r ≡ r

-- b is the encoding of the tree t, whose strings are bytes, within the limits
pub record Sheet (b : List ℕ) (t : Item) : Type 0 where
  pub bytes : enc t ≡ b
  pub well : Well t
  pub deep : depth t ≤ levels
  pub small : length b ≤ limit

-- the check reads b as the tree t exactly if b is t's encoding, within the limits
abbrev pub CheckIsExact : Type 0
CheckIsExact = (b : List ℕ) (t : Item) → Bytes b → (tree b ≡ Ok t → Sheet b t) × (Sheet b t → tree b ≡ Ok t)

-- and accepts b with n items and depth d exactly if b is the encoding of a tree with n items and depth d
abbrev pub AnswersAreTheTrees : Type 0
AnswersAreTheTrees = (b : List ℕ) (n d : ℕ) → Bytes b
    → (strict b ≡ Ok (record { items = n; depth = d }) → (t : Item) × Sheet b t × (items t ≡ n) × (depth t ≡ d))
    × ((t : Item) → Sheet b t → items t ≡ n → depth t ≡ d → strict b ≡ Ok (record { items = n; depth = d }))

-- the tree is the only one
abbrev pub TreeIsTheOnlyOne : Type 0
TreeIsTheOnlyOne = (b : List ℕ) (t u : Item) → Sheet b t → Sheet b u → t ≡ u

-- read as a payload: accepted with n items at the top and depth d exactly if b is the encodings of n items, one after the other
pub record Payload (b : List ℕ) (l : Items) : Type 0 where
  pub bytes : encs l ≡ b
  pub well : Wells l
  pub deep : deepest l ≤ levels
  pub small : length b ≤ limit

abbrev pub PayloadsAreExact : Type 0
PayloadsAreExact = (b : List ℕ) (n d : ℕ) → Bytes b
    → (strict_items b ≡ Ok (record { items = n; depth = d }) → (l : Items) × Payload b l × (many l ≡ n) × (deepest l ≡ d))
    × ((l : Items) → Payload b l → many l ≡ n → deepest l ≡ d → strict_items b ≡ Ok (record { items = n; depth = d }))

-- 12 is given exactly for more bytes than the limit, by both calls; and 10 exactly where b begins with a tree's encoding, within the limits,
-- and goes on
abbrev pub LargeIs12 : Type 0
LargeIs12 = (b : List ℕ)
    → (strict b ≡ Err TooLarge → limit < length b) × (limit < length b → strict b ≡ Err TooLarge)
    × (strict_items b ≡ Err TooLarge → limit < length b) × (limit < length b → strict_items b ≡ Err TooLarge)

pub record Trailing (b : List ℕ) : Type 0 where
  pub item : Item
  pub rest : List ℕ
  pub bytes : b ≡ enc item ++ rest
  pub some : 0 < length rest
  pub well : Well item
  pub deep : depth item ≤ levels
  pub small : length b ≤ limit

abbrev pub TrailingIs10 : Type 0
TrailingIs10 = (b : List ℕ) → Bytes b → (strict b ≡ Err TrailingBytes → Trailing b) × (Trailing b → strict b ≡ Err TrailingBytes)

-- ---- within the limit every refusal is the first damage, depth first, left to right; and 10 where a whole tree is followed by more

abbrev pub FirstDamage : Type 0
FirstDamage = (b : List ℕ) (e : Refusal) → Bytes b → length b ≤ limit
    → (strict b ≡ Err e → Bad levels b e ⊎ (Trailing b × (e ≡ TrailingBytes)))
    × (Bad levels b e ⊎ (Trailing b × (e ≡ TrailingBytes)) → strict b ≡ Err e)

-- and so for bytes that are read as a payload, where nothing can be left over
abbrev pub FirstDamageOfPayloads : Type 0
FirstDamageOfPayloads = (b : List ℕ) (e : Refusal) → Bytes b → length b ≤ limit
    → (strict_items b ≡ Err e → BadRow levels b e) × (BadRow levels b e → strict_items b ≡ Err e)

-- a row is the item at its front, and then the row of what is left
abbrev pub RowsAreFronts : Type 0
RowsAreFronts = (contents : List ℕ → Or Items) → (row contents 0 [] ≡ Ok end)
    × ((x : ℕ) (r : List ℕ) → row contents 0 (x ∷ r) ≡ also (front contents (x ∷ r)) (λ f. also (row contents 0 (drop f.size (x ∷ r))) (λ l. Ok (f.item then l))))

-- ---- on strict bytes the lenient calls agree with the tree

-- a string: it is data, its value is the string, and it has no items; a truth is the string 01 or the empty one
pub record StringRead (b s : List ℕ) : Type 0 where
  pub is-null : is_null b ≡ false
  pub is-data : is_data b ≡ true
  pub is-list : is_list b ≡ false
  pub is-empty : (is_empty b ≡ true → s ≡ []) × (s ≡ [] → is_empty b ≡ true)
  pub size : size_of b ≡ length s
  pub value : part_in b (value_at b) ≡ s
  pub data_is : data_at b ≡ value_at b
  pub number : (w n : ℕ) → w ≤ 8 → (uint w b ≡ Ok n → (n < 256 ^ w) × (s ≡ be n)) × ((n < 256 ^ w) × (s ≡ be n) → uint w b ≡ Ok n)
  pub truth : (t : Bool) → (boolean b ≡ Ok t → s ≡ cond t (1 ∷ []) []) × (s ≡ cond t (1 ∷ []) [] → boolean b ≡ Ok t)
  pub prototype : prototype_of b ≡ Ok (prototype.Data (length s))
  pub count : item_count b ≡ Err RlpExpectedToBeList
  pub item : (i : ℕ) → item_at b i ≡ Err RlpExpectedToBeList

abbrev pub StringsAgree : Type 0
StringsAgree = (b s : List ℕ) → Sheet b (str s) → StringRead b s

-- `is_int` says yes exactly to the strings that are a number's shortest big-endian, and to the string 00, which is none
abbrev pub IntsAgree : Type 0
IntsAgree = (b s : List ℕ) → Sheet b (str s) → (is_int b ≡ true → Trim s ⊎ (s ≡ 0 ∷ [])) × (Trim s ⊎ (s ≡ 0 ∷ []) → is_int b ≡ true)

-- a list: it has no value, number or truth; its data are its items' encodings; its items are counted, each is answered by its own encoding
-- at its place, and from the count on every index is refused
pub record ListRead (b : List ℕ) (l : Items) : Type 0 where
  pub is-null : is_null b ≡ false
  pub is-list : is_list b ≡ true
  pub is-data : is_data b ≡ false
  pub is-empty : (is_empty b ≡ true → l ≡ end) × (l ≡ end → is_empty b ≡ true)
  pub size : size_of b ≡ 0
  pub no_value : value_at b ≡ Err RlpExpectedToBeData
  pub no_number : (w : ℕ) → uint w b ≡ Err RlpExpectedToBeData
  pub no_truth : boolean b ≡ Err RlpExpectedToBeData
  pub no_int : is_int b ≡ false
  pub data_is : part_in b (data_at b) ≡ encs l
  pub payload : payload_at b ≡ data_at b
  pub count : item_count b ≡ Ok (many l)
  pub prototype : prototype_of b ≡ Ok (prototype.List (many l))
  pub item : (before after : Items) (t : Item) → l ≡ joined before (t then after)
      → (item_at b (many before) ≡ placed (header_size (length (encs l)) + length (encs before)) (length (enc t))) × (part_in b (item_at b (many before)) ≡ enc t)
  pub past : (i : ℕ) → many l ≤ i → item_at b i ≡ Err RlpIsTooShort

abbrev pub ListsAgree : Type 0
ListsAgree = (b : List ℕ) (l : Items) → Sheet b (list l) → ListRead b l

-- ---- the tables

abbrev pub SheetsAreAnswered : Type 0
SheetsAreAnswered = T (tables.answered tables.sheets)

abbrev pub EdgesAreAnswered : Type 0
EdgesAreAnswered = T (tables.answered tables.edges)

-- ---- all of them

pub record Claimed : Type 0 where
  pub answers_are_determined : AnswersAreDetermined
  pub promises_are_of_the_answer : PromisesAreOfTheAnswer
  pub check_is_exact : CheckIsExact
  pub answers_are_the_trees : AnswersAreTheTrees
  pub tree_is_the_only_one : TreeIsTheOnlyOne
  pub payloads_are_exact : PayloadsAreExact
  pub large_is_12 : LargeIs12
  pub trailing_is_10 : TrailingIs10
  pub first_damage : FirstDamage
  pub first_damage_of_payloads : FirstDamageOfPayloads
  pub rows_are_fronts : RowsAreFronts
  pub strings_agree : StringsAgree
  pub ints_agree : IntsAgree
  pub lists_agree : ListsAgree
  pub sheets_are_answered : SheetsAreAnswered
  pub edges_are_answered : EdgesAreAnswered
