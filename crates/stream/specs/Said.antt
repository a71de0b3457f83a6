-- What the accepted calls of a stream say, as trees. These are definitions.
use Rattle.std.specs.Prelude.{ℕ, zero, suc, ◌+◌, Bool, true, cond, List, [], ◌∷◌, ◌++◌, length, ◌==◌, nat_le, Ok, Err}
use Rattle.rlp.specs.declared.Refusal.TheVariants.{TooDeep, TooManyItems, NoOpenList, CountMismatch}
use Rattle.rlp.specs.Refusals.{Or, also, unless}
use Rattle.rlp.specs.Limits.{levels}
use Rattle.rlp.specs.Tree.{Items, str, list, end, ◌then◌, encs, many, joined, deepest}
use Rattle.strict.specs.Strict.{row_tree}
use Rattle.stream.specs.State.{Most, any, up_to, full, holds, Open, list_at, View}
use Rattle.stream.specs.Stream.{unless_counted, Call, value, begin, unbounded, finalize, raw, clear}

-- the items at the top; or an open list after what was said before it: how many items it takes, and its items so far
pub data Said : Type 0 where
  top : Items → Said
  inner : Said → Most → Items → Said

-- the items l are said in the innermost list; a list that has all its items is an item of its parent
unfoldable pub add : Items → Said → Said
add l (top k) = top (joined k l)
add l (inner m x k) = cond (full (many k + many l) x) (add (list (joined k l) then end) m) (inner m x (joined k l))

-- the innermost list is an item of its parent now
unfoldable pub ended : Said → Said
ended (top k) = top k
ended (inner m x k) = add (list k then end) m

unfoldable pub add_read : Or Items → Said → Said
add_read (Err e) m = m
add_read (Ok l) m = add l m

-- what an accepted call says
unfoldable pub step : Said → Call → Said
step m (value x) = add (str x then end) m
step m (begin zero) = add (list end then end) m
step m (begin (suc n)) = inner m (up_to (suc n)) end
step m unbounded = inner m any end
step m finalize = ended m
step m (raw x n) = add_read (row_tree x) m
step m clear = top end

-- what calls say, the latest first
unfoldable pub meaning : List Call → Said
meaning [] = top end
meaning (c ∷ l) = step (meaning l) c

-- ---- how it is shown: the encodings so far, and one byte 0 for each open list

unfoldable pub rendered : Said → List ℕ
rendered (top k) = encs k
rendered (inner m x k) = rendered m ++ (0 ∷ encs k)

unfoldable pub opens_of : Said → List Open
opens_of (top k) = []
opens_of (inner m x k) = list_at (suc (length (rendered m))) (many k) x ∷ opens_of m

unfoldable pub shown : Said → View
shown m = record { opens = opens_of m; written = rendered m }

-- ---- a call's own refusals but 13, by what was said

-- how many lists are open
unfoldable pub opened : Said → ℕ
opened (top k) = 0
opened (inner m x k) = suc (opened m)

unfoldable pub deeper : ℕ → Said → Said → Or Said
deeper n m r = unless (nat_le (opened m + n) levels) TooDeep (Ok r)

unfoldable pub takes_of : ℕ → Said → Bool
takes_of n (top k) = true
takes_of n (inner m x k) = holds (many k + n) x

unfoldable pub ends : Said → Or Said
ends (top k) = Err NoOpenList
ends (inner m x k) = unless_counted x (ended (inner m x k))

unfoldable pub says : Said → Call → Or Said
says m (value x) = Ok (step m (value x))
says m (begin n) = deeper 1 m (step m (begin n))
says m unbounded = deeper 1 m (step m unbounded)
says m finalize = ends m
says m (raw x n) =
    also (row_tree x)
    (λ l.
    unless (many l == n) CountMismatch
    (unless (takes_of n m) TooManyItems
    (deeper (deepest l) m (add l m))))
says m clear = Ok (top end)
