-- The amender: docs/RULES.md, "Amender". These are definitions.
use Rattle.std.specs.Prelude.{ℕ, ◌-◌, max, ◌&&◌, List, ◌++◌, leb, length, take, drop, replicate, Ok, Err}
use Rattle.rlp.specs.declared.Refusal.TheVariants.{RlpIsTooShort, TooDeep, TooLarge, NoRoom}
use Rattle.rlp.specs.Refusals.{Or, also, unless}
use Rattle.rlp.specs.Limits.{limit, levels}
use Rattle.rlp.specs.Tree.{Item, enc, depth}
use Rattle.rlp.specs.Paths.{exchange}
use Rattle.strict.specs.Strict.{tree}

-- the last two refusals, of the result: 11 over 16 levels, 13 where it passes the buffer
unfoldable pub fitting : ℕ → Item → Or Item
fitting room v =
    unless (leb (depth v) levels) TooDeep
    (unless (leb (length (enc v)) room) NoRoom
    (Ok v))

-- the new tree. Order: "12 for either slice, 1 if n passes the buffer, the sheet's strict refusal, the replacement's, 19, 11, 13"
unfoldable pub new_tree : List ℕ → ℕ → List ℕ → List ℕ → Or Item
new_tree b n path new =
    unless (leb (length b) limit && leb (length new) limit) TooLarge
    (unless (leb n (length b)) RlpIsTooShort
    (also (tree (take n b)) (λ t.
    also (tree new) (λ u.
    also (exchange t path u)
    (fitting (length b))))))

-- what the call leaves: the new length or a refusal, and the buffer
pub record After : Type 0 where
  pub answer : Or ℕ
  pub buffer : List ℕ

-- "the first m bytes are the new encoding; if m < n, bytes m to n are 0; from the larger of m and n on, nothing changed". A refusal
-- changes nothing
unfoldable pub after : List ℕ → ℕ → Or Item → After
after b n (Err e) = record { answer = Err e; buffer = b }
after b n (Ok v) =
    record {
      answer = Ok (length (enc v));
      buffer = enc v ++ (replicate (n - length (enc v)) 0 ++ drop (max (length (enc v)) n) b);
    }

unfoldable pub amended : List ℕ → ℕ → List ℕ → List ℕ → After
amended b n path new = after b n (new_tree b n path new)
