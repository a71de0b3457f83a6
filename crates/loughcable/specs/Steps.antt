-- What the inner functions read and leave of the numbers: for their contracts alone. These are definitions.
use Rattle.std.specs.Prelude.{◌≡◌, ℕ, ◌≤◌, ◌<◌, List, length, Ok, Err}
use Rattle.rlp.specs.Refusals.{Or}
use Rattle.rlp.specs.Limits.{limit, levels}
use Rattle.stream.specs.declared.lists.Left.{Left}
use Rattle.stream.specs.declared.lists.Lent.{Lent}
use Rattle.stream.specs.State.{State}
use Rattle.stream.specs.Steps.{state_lent}
use Rattle.loughcable.specs.Crossing.{size}

-- the state that is lent
unfoldable pub lends : Or Lent → Or State
lends (Err e) = Err e
lends (Ok l) = Ok (state_lent l)

-- what a change leaves has its place in the numbers
pub record Stores (ns : List ℕ) (l : Left) : Type 0 where
  pub long : length ns ≡ size
  pub few : l.opened ≤ levels
  pub near : l.end ≤ limit

-- and so has an opened list
pub record StoresList (ns : List ℕ) (start : ℕ) (l : Left) : Type 0 where
  pub stores : Stores ns l
  pub some : 0 < l.opened
  pub starts : start ≤ l.end
