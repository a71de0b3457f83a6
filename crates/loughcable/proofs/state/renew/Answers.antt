-- `state::renew` meets its contract. Assumes nothing.
use Rattle.loughcable.proofs.Numbers.{renewed}
use Rattle.loughcable.proofs.state.renew.Goals as goal

pub returns : goal.returns
returns c =
    renewed c.args.state.now c.fill.new.self c.args.start c.requires (c.fill.ensures.after (λ y e. e))
