-- `encode::put_long` meets its contract. The loop's invariant: the first `done` bytes are there, and the others are left. Assumes nothing.
use Rattle.std.proofs.Common.{◌≡◌, ◌≤◌, length, take, drop}
use Rattle.encode.specs.Put.{put}
use Rattle.encode.proofs.moves.put_long.Given as goal

abbrev pub invariant-loop-piece : goal.invariant-loop-piece
invariant-loop-piece l = record { within : l.done ≤ length l.src; room : length l.buf ≡ length l.initial.buf; rest : l.left ≡ drop l.done l.src; there : l.buf ≡ put l.initial.buf l.at (take l.done l.src) }

abbrev pub decreases-loop-piece : goal.decreases-loop-piece
decreases-loop-piece l = length l.left
