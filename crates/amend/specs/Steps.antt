-- What the amender's inner calls ask and give. These are definitions.
use Rattle.std.specs.Prelude.{◌≡◌, ℕ, zero, suc, ◌+◌, ◌≤◌, max, List, [], ◌∷◌, ◌++◌, length, take, drop, get_or, Option, None, Some, Ok, Err}
use Rattle.rlp.specs.declared.Refusal.TheVariants.{NoSuchItem}
use Rattle.rlp.specs.Refusals.{also}
use Rattle.rlp.specs.Limits.{limit, levels}
use Rattle.rlp.specs.Tree.{Item, Items, str, list, end, ◌then◌, lists, header, enc, encs, many, joined, depth}
use Rattle.rlp.specs.Paths.{exchange}
use Rattle.encode.specs.Put.{put}
use Rattle.strict.specs.Claims.{Sheet}
use Rattle.amend.specs.declared.Child.{Child}
use Rattle.amend.specs.declared.Sizes.{Sizes}
use Rattle.amend.specs.Amend.{fitting, new_tree}

-- ---- an item of a list

-- item i of a row, with what is before it and after it
pub record Split (l : Items) (i : ℕ) : Type 0 where
  pub before : Items
  pub old : Item
  pub after : Items
  pub was : l ≡ joined before (old then after)
  pub idx : many before ≡ i

-- the header of a list
abbrev pub head_of : Items → List ℕ
head_of l = header lists (length (encs l))

-- where the item starts, counted from the list's first byte
abbrev pub start : (l : Items) (i : ℕ) → Split l i → ℕ
start l i S = length (head_of l) + length (encs S.before)

-- t is a list, and c tells of it and of its item i
pub record IsAt (t : Item) (i : ℕ) (c : Child) : Type 0 where
  pub l : Items
  pub S : Split l i
  pub was : t ≡ list l
  pub head-is : c.head ≡ length (head_of l)
  pub value-is : c.value ≡ length (encs l)
  pub from_is : c.from ≡ start l i S
  pub size_is : c.size ≡ length (enc S.old)

-- the item that c tells of lies inside the list's payload, and that inside n bytes
abbrev pub IsInside : ℕ → Child → Type 0
IsInside n c = (c.head ≤ c.from) × (c.from + c.size ≤ c.head + c.value) × (c.head + c.value ≤ n)

-- what `item_of` says of item i of t
abbrev pub Kid : Item → ℕ → Option Child → Type 0
Kid t i None = (p : List ℕ) (u : Item) → exchange t (i ∷ p) u ≡ Err NoSuchItem
Kid t i (Some c) = IsAt t i c

-- ---- the plan

-- b is the encoding of t, which stands at level k: with the lists around it, it keeps to the levels
pub record Level (b : List ℕ) (k : ℕ) (t : Item) : Type 0 where
  pub bytes : enc t ≡ b
  pub deep : k + depth t ≤ levels
  pub small : length b ≤ limit

-- `lens` tells the payload length of each list on the path, the outermost first
unfoldable mutual
  pub Told : List ℕ → Item → List ℕ → Type 0
  Told lens (str s) p = Unit {0}
  Told lens (list l) [] = Unit {0}
  Told lens (list l) (i ∷ p) = (get_or lens 0 0 ≡ length (encs l)) × ToldIn (drop 1 lens) l i p

  pub ToldIn : List ℕ → Items → ℕ → List ℕ → Type 0
  ToldIn lens end i p = Unit {0}
  ToldIn lens (t then l) zero p = Told lens t p
  ToldIn lens (t then l) (suc i) p = ToldIn lens l i p

-- the new tree, how many bytes it takes, and the payload lengths on the path in it
pub record Found (t : Item) (p : List ℕ) (u : Item) (size : ℕ) (lens : List ℕ) : Type 0 where
  pub new : Item
  pub is : exchange t p u ≡ Ok new
  pub big : size ≡ length (enc new)
  pub told : Told lens new p

-- the path names no item, or the new size and, from level k on, the lengths
abbrev pub Planned : Item → List ℕ → Item → ℕ → Option Sizes → Type 0
Planned t p u k None = exchange t p u ≡ Err NoSuchItem
Planned t p u k (Some s) = Found t p u s.size (drop k s.lens)

-- ---- the writing

-- of the first len bytes, the first `old` are x now, and those after them follow x
unfoldable pub spliced : List ℕ → ℕ → ℕ → List ℕ → List ℕ
spliced b len old x = put b 0 (x ++ drop old (take len b))

-- b is the encoding of t and then r; with u, whose bytes are x, at the end of the path p it is v; all has room
pub record Ready (b p x lens : List ℕ) (size room : ℕ) (t u v : Item) (r : List ℕ) : Type 0 where
  pub here : b ≡ enc t ++ r
  pub whole : size ≡ length (enc t)
  pub what : enc u ≡ x
  pub goal : exchange t p u ≡ Ok v
  pub told : Told lens v p
  pub deep : length p ≤ length lens
  pub old : length b ≤ room
  pub new : length (enc v ++ r) ≤ room
  pub small : room ≤ limit

-- there are such trees
pub record CanWrite (b p x lens : List ℕ) (size room : ℕ) : Type 0 where
  pub t : Item
  pub u : Item
  pub v : Item
  pub r : List ℕ
  pub ready : Ready b p x lens size room t u v r

-- the first bytes are v and then r; from the larger of the new and the old length on, nothing changed
pub record Written (entry exit : List ℕ) (len ret : ℕ) (v : Item) (r : List ℕ) : Type 0 where
  pub size : ret ≡ length (enc v ++ r)
  pub front : take ret exit ≡ enc v ++ r
  pub rest : drop (max ret len) exit ≡ drop (max ret len) entry

-- ---- the whole

-- the sheet is the tree t and the replacement the tree u, of depth d: no refusal before 19 holds
pub record Both (b : List ℕ) (n : ℕ) (path new : List ℕ) (d : ℕ) : Type 0 where
  pub t : Item
  pub u : Item
  pub small : length b ≤ limit
  pub inside : n ≤ length b
  pub sheet : Sheet (take n b) t
  pub other : Sheet new u
  pub deep : depth u ≡ d
  pub next : new_tree b n path new ≡ also (exchange t path u) (fitting (length b))
