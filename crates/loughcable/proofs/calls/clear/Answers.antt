-- `calls::clear` meets its contract. Assumes nothing.
use Rattle.loughcable.proofs.Seen.{clear-stores}
use Rattle.loughcable.proofs.calls.clear.Goals as goal

pub store-requires : goal.store-requires
store-requires c =
    clear-stores c.args.state.now c.args.buf.now c.in_ok-start.field-0 c.in_ok-start.ensures
