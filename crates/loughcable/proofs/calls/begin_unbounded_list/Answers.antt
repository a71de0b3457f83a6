-- `calls::begin_unbounded_list` meets its contract. Assumes nothing.
use Rattle.loughcable.proofs.Crossings.{list_stores}
use Rattle.loughcable.proofs.calls.begin_unbounded_list.Goals as goal

pub store_list-requires : goal.store_list-requires
store_list-requires c =
    list_stores c.args.state.now c.args.buf.now _ c.in_ok-lent.field-0 c.in_ok-lent.ensures c.in_ok-left.left c.in_ok-left.ensures
