-- The strict check, as a reader of trees: docs/RULES.md, "Strict check". These are definitions.
use Rattle.std.specs.Prelude.{ℕ, zero, suc, ◌-◌, Bool, false, cond, not, ◌&&◌, List, [], ◌∷◌, leb, eqb, length, Ok, Err}
use Rattle.rlp.specs.declared.Refusal.TheVariants.{RlpInvalidIndirection, TrailingBytes, TooDeep, TooLarge}
use Rattle.rlp.specs.Refusals.{Or, also, unless}
use Rattle.rlp.specs.Limits.{limit, levels}
use Rattle.rlp.specs.Tree.{Item, Items, str, list, end, ◌then◌, items, depth, deepest, many}
use Rattle.header.specs.declared.PayloadInfo.{PayloadInfo}
use Rattle.header.specs.Header.{size, payload_info}
use Rattle.value.specs.Value.{spare, part}
use Rattle.list.specs.Kinds.{is_list}
use Rattle.strict.specs.declared.Tally.{Tally}

-- 81 with a byte below 80
unfoldable pub is_spare : List ℕ → Bool
is_spare [] = false
is_spare (x ∷ r) = eqb x 0x81 && spare 1 r

-- the value that a header tells of
unfoldable pub value_of : List ℕ → PayloadInfo → List ℕ
value_of b p = part b (record { start = p.header_len; len = p.value_len })

-- an item of a row: its tree, and how many bytes it takes
pub record Front : Type 0 where
  pub item : Item
  pub size : ℕ

-- the item at the front of b: `payload_info`'s refusals, 3 for 81 with a byte below 80, then the contents, which `contents` reads
unfoldable pub item_of : (List ℕ → Or Items) → List ℕ → PayloadInfo → Or Item
item_of contents b p =
    cond (is_list b)
    (also (contents (value_of b p)) (λ l. Ok (list l)))
    (unless (not (is_spare b)) RlpInvalidIndirection (Ok (str (value_of b p))))

unfoldable pub front : (List ℕ → Or Items) → List ℕ → Or Front
front contents b = also (payload_info b) (λ p. also (item_of contents b p) (λ t. Ok (record { item = t; size = size p })))

-- all items of b, so many bytes further on: at each place the front of what is left, left to right
unfoldable pub row : (List ℕ → Or Items) → ℕ → List ℕ → Or Items
row contents skip [] = Ok end
row contents (suc skip) (x ∷ r) = row contents skip r
row contents zero (x ∷ r) = also (front contents (x ∷ r)) (λ f. also (row contents (f.size - 1) r) (λ l. Ok (f.item then l)))

-- the contents of a list, with so many levels left for it and the lists in it: 11 where there is none
unfoldable pub contents : ℕ → List ℕ → Or Items
contents zero b = Err TooDeep
contents (suc k) b = row (contents k) 0 b

-- trailing bytes are 10
unfoldable pub whole : ℕ → Front → Or Item
whole n f = unless (eqb f.size n) TrailingBytes (Ok f.item)

-- the tree of some bytes: 12 first, 10 last
unfoldable pub tree : List ℕ → Or Item
tree b = unless (leb (length b) limit) TooLarge (also (front (contents levels) b) (whole (length b)))

-- the number of items, the item itself included, and the depth
unfoldable pub tally_of : Item → Tally
tally_of t = record { items = items t; depth = depth t }

unfoldable pub strict : List ℕ → Or Tally
strict b = also (tree b) (λ t. Ok (tally_of t))

-- bytes read as a list's payload, that list being no level: how many items there are at the top, and how deep they are
unfoldable pub row_tree : List ℕ → Or Items
row_tree b = unless (leb (length b) limit) TooLarge (row (contents levels) 0 b)

unfoldable pub row_tally_of : Items → Tally
row_tally_of l = record { items = many l; depth = deepest l }

unfoldable pub strict_items : List ℕ → Or Tally
strict_items b = also (row_tree b) (λ l. Ok (row_tally_of l))
