-- `state::store_list` meets its contract. Assumes nothing.
use Rattle.loughcable.proofs.Numbers.{stored-list}
use Rattle.loughcable.proofs.state.store_list.Goals as goal

pub returns : goal.returns
returns c =
    stored-list c.args.state.now c.args.left c.requires.stores c.requires.some c.args.most
