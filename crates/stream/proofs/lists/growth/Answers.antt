-- `lists::growth` meets its contract. Assumes nothing.
use Rattle.stream.proofs.OpenLists.{size-growth}
use Rattle.stream.proofs.lists.growth.Goals as goal

pub overflow_sub-result : goal.overflow_sub-result
overflow_sub-result c = (size-growth c.args.n c.header_size.result c.header_size.ensures).0

pub returns : goal.returns
returns c = (size-growth c.args.n c.header_size.result c.header_size.ensures).1
