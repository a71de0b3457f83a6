-- What is claimed of the amender. proofs/Claims.antt proves each claim under the same name in small letters; the record at the end holds
-- them all, and src/lib.rt asks for it.
--
-- That the new tree has the replacement at the path, and at every path apart from it what the old one has, that any two paths are apart
-- or one starts the other, and when the new tree is too deep, is claimed of trees in crate rlp.
use Rattle.std.specs.Prelude.{◌≡◌, ℕ, ◌+◌, ◌-◌, ◌≤◌, ◌<◌, max, List, [], ◌∷◌, T, length, take, drop, replicate, Ok, Err}
use Rattle.rlp.specs.declared.Refusal.{Refusal}
use Rattle.rlp.specs.declared.Refusal.TheVariants.{RlpIsTooShort, TooDeep, TooLarge, NoRoom, NoSuchItem}
use Rattle.rlp.specs.Refusals.{Or, also}
use Rattle.rlp.specs.Bytes.{Bytes}
use Rattle.rlp.specs.Limits.{limit, levels}
use Rattle.rlp.specs.Tree.{Item, enc, depth}
use Rattle.rlp.specs.Paths.{fetch, exchange, Apart, offset}
use Rattle.value.specs.declared.Part.{Part}
use Rattle.value.specs.Value.{part}
use Rattle.list.specs.Walk.{item_at}
use Rattle.strict.specs.Strict.{tree}
use Rattle.strict.specs.Claims.{Sheet}
use Rattle.amend.specs.Amend.{After, amended}
use Rattle.amend.specs.Answers.{leaves}
use Rattle.amend.specs.Tables as tables

-- two answers, with the buffers that they leave, that meet the promise are equal
abbrev pub AnswersAreDetermined : Type 0
AnswersAreDetermined = (d : After) (r q : Or ℕ) (b c : List ℕ) → leaves r b ≡ d → leaves q c ≡ d → (r ≡ q) × (b ≡ c)

-- for a promise is of the answer itself: what it says is what the answer holds
abbrev pub PromisesAreOfTheAnswer : Type 0
PromisesAreOfTheAnswer = (r : Or ℕ) (b : List ℕ) → ((leaves r b).answer ≡ r) × ((leaves r b).buffer ≡ b)

-- a refusal changes no byte
abbrev pub RefusalsKeepTheBuffer : Type 0
RefusalsKeepTheBuffer = (b : List ℕ) (n : ℕ) (path new : List ℕ) (e : Refusal) → (amended b n path new).answer ≡ Err e → (amended b n path new).buffer ≡ b

-- ---- demand 3

-- the first n bytes are the encoding of the tree t and the replacement that of u, both within the limits; v is t with the item at the path
-- exchanged for u; it has at most 16 levels, and its encoding fits the buffer
pub record Amends (b : List ℕ) (n : ℕ) (path new : List ℕ) (t u v : Item) : Type 0 where
  pub small : length b ≤ limit
  pub inside : n ≤ length b
  pub sheet : Sheet (take n b) t
  pub other : Sheet new u
  pub exchanged : exchange t path u ≡ Ok v
  pub flat : depth v ≤ levels
  pub fits : length (enc v) ≤ length b

-- it is accepted with m exactly if there are such trees, m being the length of v's encoding
pub record Amending (b : List ℕ) (n : ℕ) (path new : List ℕ) (m : ℕ) : Type 0 where
  pub old : Item
  pub replacement : Item
  pub result : Item
  pub amends : Amends b n path new old replacement result
  pub size : length (enc result) ≡ m

abbrev pub AcceptedExactly : Type 0
AcceptedExactly = (b : List ℕ) (n : ℕ) (path new : List ℕ) (m : ℕ) → Bytes b → Bytes new
    → ((amended b n path new).answer ≡ Ok m → Amending b n path new m)
    × (Amending b n path new m → (amended b n path new).answer ≡ Ok m)

-- else it is refused with the first of these that holds: each fact, where none before it does
abbrev pub LargeIs12 : Type 0
LargeIs12 = (b : List ℕ) (n : ℕ) (path new : List ℕ) → limit < max (length b) (length new) → (amended b n path new).answer ≡ Err TooLarge

abbrev pub LengthPastTheBufferIs1 : Type 0
LengthPastTheBufferIs1 = (b : List ℕ) (n : ℕ) (path new : List ℕ) → length b ≤ limit → length new ≤ limit → length b < n
    → (amended b n path new).answer ≡ Err RlpIsTooShort

abbrev pub TheSheetsRefusal : Type 0
TheSheetsRefusal = (b : List ℕ) (n : ℕ) (path new : List ℕ) (e : Refusal) → length b ≤ limit → length new ≤ limit → n ≤ length b
    → tree (take n b) ≡ Err e → (amended b n path new).answer ≡ Err e

abbrev pub TheReplacementsRefusal : Type 0
TheReplacementsRefusal = (b : List ℕ) (n : ℕ) (path new : List ℕ) (t : Item) (e : Refusal) → length b ≤ limit → length new ≤ limit → n ≤ length b
    → tree (take n b) ≡ Ok t → tree new ≡ Err e → (amended b n path new).answer ≡ Err e

abbrev pub NoItemIs19 : Type 0
NoItemIs19 = (b : List ℕ) (n : ℕ) (path new : List ℕ) (t u : Item) → length b ≤ limit → n ≤ length b → Sheet (take n b) t → Sheet new u
    → fetch t path ≡ Err NoSuchItem → (amended b n path new).answer ≡ Err NoSuchItem

abbrev pub DeepIs11 : Type 0
DeepIs11 = (b : List ℕ) (n : ℕ) (path new : List ℕ) (t u v : Item) → length b ≤ limit → n ≤ length b → Sheet (take n b) t → Sheet new u
    → exchange t path u ≡ Ok v → levels < length path + depth u → (amended b n path new).answer ≡ Err TooDeep

abbrev pub FullIs13 : Type 0
FullIs13 = (b : List ℕ) (n : ℕ) (path new : List ℕ) (t u v : Item) → length b ≤ limit → n ≤ length b → Sheet (take n b) t → Sheet new u
    → exchange t path u ≡ Ok v → length path + depth u ≤ levels → length b < length (enc v) → (amended b n path new).answer ≡ Err NoRoom

-- accepted, the first m bytes are the encoding of the new tree, which is a strict sheet; those from m to n are 0; from the larger of both
-- on, the bytes are the old ones; and the buffer keeps its length
pub record Exchanged (b : List ℕ) (n : ℕ) (v : Item) (a : After) : Type 0 where
  pub front : take (length (enc v)) a.buffer ≡ enc v
  pub strict : Sheet (take (length (enc v)) a.buffer) v
  pub zeros : take (n - length (enc v)) (drop (length (enc v)) a.buffer) ≡ replicate (n - length (enc v)) 0
  pub behind : drop (max (length (enc v)) n) a.buffer ≡ drop (max (length (enc v)) n) b
  pub long : length a.buffer ≡ length b

abbrev pub TheSheetIsExchanged : Type 0
TheSheetIsExchanged = (b : List ℕ) (n : ℕ) (path new : List ℕ) (t u v : Item) → Amends b n path new t u v → Exchanged b n v (amended b n path new)

-- ---- every other item keeps its bytes, where the lenient walk along its path arrives

-- the lenient walk: `at` of each index in turn, in the bytes of the item found so far; the place in the whole bytes
unfoldable pub shifted : ℕ → Part → Part
shifted at p = record { start = at + p.start; len = p.len }

unfoldable pub walk_from : List ℕ → Part → List ℕ → Or Part
walk_from b p [] = Ok p
walk_from b p (i ∷ q) = also (item_at (part b p) i) (λ r. walk_from b (shifted p.start r) q)

unfoldable pub walk : List ℕ → List ℕ → Or Part
walk b q = walk_from b (record { start = 0; len = length b }) q

-- in a sheet of the tree t the walk along q arrives exactly at t's item there, its encoding
abbrev pub WalkFindsTheItem : Type 0
WalkFindsTheItem = (b : List ℕ) (t : Item) (q : List ℕ) (w : Item) → Sheet b t → fetch t q ≡ Ok w
    → (walk b q ≡ Ok (record { start = offset t q; len = length (enc w) })) × (part b (record { start = offset t q; len = length (enc w) }) ≡ enc w)

-- the walk along a path apart from the amended one finds the same bytes in the sheet before and in the sheet after
pub record KeptAt (b : List ℕ) (n : ℕ) (c : List ℕ) (m : ℕ) (q : List ℕ) : Type 0 where
  pub before : Part
  pub after : Part
  pub was : walk (take n b) q ≡ Ok before
  pub is : walk (take m c) q ≡ Ok after
  pub same : part c after ≡ part b before

abbrev pub OtherItemsKeepTheirBytes : Type 0
OtherItemsKeepTheirBytes = (b : List ℕ) (n : ℕ) (path new : List ℕ) (t u v : Item) → Amends b n path new t u v → (q : List ℕ) (w : Item) → Apart path q → fetch t q ≡ Ok w
    → KeptAt b n (amended b n path new).buffer (length (enc v)) q

-- ---- the tables: document 01's two examples and others, and for each two neighbours in the order an input at which both facts hold

abbrev pub ExamplesAreAnswered : Type 0
ExamplesAreAnswered = T (tables.answered tables.examples)

abbrev pub RefusalsStandInOrder : Type 0
RefusalsStandInOrder = T (tables.answered tables.order)

-- ---- all of them

pub record Claimed : Type 0 where
  pub answers_are_determined : AnswersAreDetermined
  pub promises_are_of_the_answer : PromisesAreOfTheAnswer
  pub refusals_keep_the_buffer : RefusalsKeepTheBuffer
  pub accepted_exactly : AcceptedExactly
  pub large_is_12 : LargeIs12
  pub length_past_the_buffer_is_1 : LengthPastTheBufferIs1
  pub the_sheets_refusal : TheSheetsRefusal
  pub the_replacements_refusal : TheReplacementsRefusal
  pub no_item_is_19 : NoItemIs19
  pub deep_is_11 : DeepIs11
  pub full_is_13 : FullIs13
  pub the_sheet_is_exchanged : TheSheetIsExchanged
  pub walk_finds_the_item : WalkFindsTheItem
  pub other_items_keep_their_bytes : OtherItemsKeepTheirBytes
  pub examples_are_answered : ExamplesAreAnswered
  pub refusals_stand_in_order : RefusalsStandInOrder
