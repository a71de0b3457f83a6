-- `state::store` meets its contract. Assumes nothing.
use Rattle.loughcable.proofs.Numbers.{stored-none, stored_some}
use Rattle.loughcable.proofs.state.store.Goals as goal

pub returns-then-n-gt0 : goal.returns-then-n-gt0
returns-then-n-gt0 c =
    stored_some c.args.state.now c.args.left c.requires c.if-n-gt0.true

pub returns-else-n-gt0 : goal.returns-else-n-gt0
returns-else-n-gt0 c =
    stored-none c.args.state.now c.args.left c.requires c.if-n-gt0.false
