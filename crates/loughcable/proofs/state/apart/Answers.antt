-- `state::apart` meets its contract. Assumes nothing.
use Rattle.loughcable.proofs.Numbers.{apart_so}
use Rattle.loughcable.proofs.state.apart.Goals as goal

pub returns : goal.returns
returns c =
    let s = c.in_ok-start in
    let p = c.in_ok-positions in
    let q = c.in_ok-currents in
    let m = c.in_ok-as_array in
    apart_so c.args.state.now s.field-0-0.now s.rest.now p.positions.now p.rest.now q.currents.now q.rest.now m.field-0.now
    s.ensures.cases p.ensures.cases q.ensures.cases m.ensures.cases.long m.ensures.cases.same
