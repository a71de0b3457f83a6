-- `calls::begin_list` meets its contract. Assumes nothing.
use mathlib.Core.Path.{refl}
use Rattle.stream.specs.Stream.{begin, lent}
use Rattle.loughcable.proofs.Crossings.{call_stores, list_stores}
use Rattle.loughcable.proofs.calls.begin_list.Goals as goal

pub store-requires : goal.store-requires
unfolding lent
store-requires c =
    call_stores c.args.state.now c.args.buf.now _ (begin 0) c.in_ok-lent.lent c.in_ok-lent.ensures c.in_ok-left.left refl c.in_ok-left.ensures

pub store_list-requires : goal.store_list-requires
store_list-requires c =
    list_stores c.args.state.now c.args.buf.now _ c.in_ok-lent.lent c.in_ok-lent.ensures c.in_ok-left-2.left c.in_ok-left-2.ensures
