-- `calls::append` meets its contract. Assumes nothing.
use mathlib.Core.Path.{refl}
use Rattle.stream.specs.Stream.{value, lent}
use Rattle.loughcable.proofs.Crossings.{call_stores}
use Rattle.loughcable.proofs.calls.append.Goals as goal

pub store-requires : goal.store-requires
unfolding lent
store-requires c =
    call_stores c.args.state.now c.args.buf.now _ (value c.args.src.now) c.in_ok-lent.field-0 c.in_ok-lent.ensures c.in_ok-left.left refl c.in_ok-left.ensures
