-- `encode::be_size` meets its contract: each way out is a power of 256. Assumes nothing.
use native.Mathlib.Omega.{arith}
use mathlib.Core.Path.{sym, ap}
use lib.ListN.{length}
use Rattle.rlp.proofs.BigEndian.{be-length}
use Rattle.encode.proofs.Numbers.{be-none}
use Rattle.encode.proofs.sizes.be_size.Goals as goal

pub returns-then-n-eq0 : goal.returns-then-n-eq0
returns-then-n-eq0 c = sym (ap length (be-none c.args.n c.if-n-eq0.true))

pub returns-else-n-eq0 : goal.returns-else-n-eq0
returns-else-n-eq0 c = sym (be-length c.args.n 0 (omega (arith, c.if-n-eq0.false)) c.if-n-lt256.true)

pub returns-then-n-lt65536 : goal.returns-then-n-lt65536
returns-then-n-lt65536 c = sym (be-length c.args.n 1 (omega arith) (omega arith))

pub returns-then-n-lt16777216 : goal.returns-then-n-lt16777216
returns-then-n-lt16777216 c = sym (be-length c.args.n 2 (omega arith) (omega arith))

pub returns-then-n-lt4294967296 : goal.returns-then-n-lt4294967296
returns-then-n-lt4294967296 c = sym (be-length c.args.n 3 (omega arith) (omega arith))

pub returns-then-n-lt1099511627776 : goal.returns-then-n-lt1099511627776
returns-then-n-lt1099511627776 c = sym (be-length c.args.n 4 (omega arith) (omega arith))

pub returns-then-n-lt281474976710656 : goal.returns-then-n-lt281474976710656
returns-then-n-lt281474976710656 c = sym (be-length c.args.n 5 (omega arith) (omega arith))

pub returns-then-n-lt72057594037927936 : goal.returns-then-n-lt72057594037927936
returns-then-n-lt72057594037927936 c = sym (be-length c.args.n 6 (omega arith) (omega arith))

pub returns : goal.returns
returns c = sym (be-length c.args.n 7 (omega arith) (omega arith))
