-- `encode::write_be` meets its contract. The loop's invariant: the bytes from i on are there, and left's are those before them. Assumes nothing.
use Rattle.std.proofs.Common.{◌≡◌, ◌+◌, ◌≤◌, take, drop}
use Rattle.rlp.specs.Bytes.{be}
use Rattle.encode.specs.Put.{put}
use Rattle.encode.proofs.write.write_be.Given as goal

abbrev pub invariant-loop-i : goal.invariant-loop-i
invariant-loop-i l = record { within : l.i ≤ l.size; before : be l.left ≡ take l.i (be l.n); there : l.buf ≡ put l.initial.buf (l.at + l.i) (drop l.i (be l.n)) }
