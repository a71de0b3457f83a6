-- Paths in a tree: item indexes, the outermost list's first; the empty path names the whole tree. These are definitions.
use Rattle.std.specs.Prelude.{◌≡◌, ℕ, zero, suc, ◌+◌, List, [], ◌∷◌, length, Ok, Err}
use Rattle.rlp.specs.declared.Refusal.TheVariants.{NoSuchItem}
use Rattle.rlp.specs.Refusals.{Or, also}
use Rattle.rlp.specs.Tree.{Item, Items, str, list, end, ◌then◌, header_size, enc, encs}

-- the item at the end of a path; 19 where the path names none
unfoldable mutual
  pub fetch : Item → List ℕ → Or Item
  fetch (str s) [] = Ok (str s)
  fetch (str s) (i ∷ p) = Err NoSuchItem
  fetch (list l) [] = Ok (list l)
  fetch (list l) (i ∷ p) = fetch_in l i p

  pub fetch_in : Items → ℕ → List ℕ → Or Item
  fetch_in end i p = Err NoSuchItem
  fetch_in (t then l) zero p = fetch t p
  fetch_in (t then l) (suc i) p = fetch_in l i p

-- the same tree with the item at the end of a path exchanged for u
unfoldable mutual
  pub exchange : Item → List ℕ → Item → Or Item
  exchange (str s) [] u = Ok u
  exchange (str s) (i ∷ p) u = Err NoSuchItem
  exchange (list l) [] u = Ok u
  exchange (list l) (i ∷ p) u = also (exchange_in l i p u) (λ m. Ok (list m))

  pub exchange_in : Items → ℕ → List ℕ → Item → Or Items
  exchange_in end i p u = Err NoSuchItem
  exchange_in (t then l) zero p u = also (exchange t p u) (λ v. Ok (v then l))
  exchange_in (t then l) (suc i) p u = also (exchange_in l i p u) (λ m. Ok (t then m))

-- p is q, or leads to a list that q goes into
unfoldable pub Starts : List ℕ → List ℕ → Type 0
Starts [] q = Unit {0}
Starts (i ∷ p) [] = ⊥
Starts (i ∷ p) (j ∷ q) = (i ≡ j) × Starts p q

-- neither starts the other
pub record Apart (p q : List ℕ) : Type 0 where
  pub one : Starts p q → ⊥
  pub other : Starts q p → ⊥

-- where the item at the end of a path starts, in the encoding of the whole
unfoldable mutual
  pub offset : Item → List ℕ → ℕ
  offset (str s) p = 0
  offset (list l) [] = 0
  offset (list l) (i ∷ p) = header_size (length (encs l)) + offset_in l i p

  pub offset_in : Items → ℕ → List ℕ → ℕ
  offset_in end i p = 0
  offset_in (t then l) zero p = offset t p
  offset_in (t then l) (suc i) p = length (enc t) + offset_in l i p
