-- `header::be_number` meets its contract. The loop's invariant: the number is that of the bytes passed, and has no more bytes than
-- they are. Assumes nothing.
use Rattle.std.proofs.Common.{◌≡◌, ◌^◌, ◌<◌, take}
use Rattle.rlp.specs.Bytes.{be_value}
use Rattle.header.proofs.be_number.Given as goal

abbrev pub invariant-loop-byte : goal.invariant-loop-byte
invariant-loop-byte l = (l.number ≡ be_value (take l.byte-index l.bytes)) × (l.number < 256 ^ l.byte-index)
