-- `room_for` meets its contract. Assumes nothing.
use native.Mathlib.Omega.{arith}
use Rattle.stream.specs.Steps.{state_lent}
use Rattle.stream.proofs.Cascade.{opened-many}
use Rattle.stream.proofs.Calls.{past-lists, room_short, room_enough}
use Rattle.stream.proofs.lists.Lent.room_for.Goals as goal

pub total_after-requires : goal.total_after-requires
total_after-requires c =
    let l = past-lists (state_lent c.args.self) c.args.room c.requires.0 c.args.size in
    (omega (arith, opened-many c.args.self c.args.self.opened), c.requires.1, omega arith, l)

pub returns-then-room-self : goal.returns-then-room-self
returns-then-room-self c =
    room_short (state_lent c.args.self) c.args.room c.args.n c.args.size (omega (arith, c.total_after.ensures)) (omega (arith, c.requires.0.starts, c.requires.0.ends))

pub returns : goal.returns
returns c =
    room_enough (state_lent c.args.self) c.args.room c.args.n c.args.size (omega (arith, c.total_after.ensures)) (omega (arith, c.requires.0.starts, c.requires.0.ends))
