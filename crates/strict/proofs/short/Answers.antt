-- `strict::short` meets its contract. Assumes nothing.
use Rattle.std.proofs.Common.{arith, length}
use Rattle.rlp.proofs.Tests.{is_le, not_le, by_lt}
use Rattle.strict.proofs.Rules.{quick_byte, quick_string}
use Rattle.strict.proofs.short.Goals as goal

pub returns-in-0-to-127 : goal.returns-in-0-to-127
returns-in-0-to-127 c levels = quick_byte levels c.args.bytes.now (omega arith) (omega arith)

pub returns-in_default-first : goal.returns-in_default-first
returns-in_default-first c =
    let b = c.args.bytes.now in
    rw c.then_some.ensures (by_lt (length b) c.from-size.result
    (λ h. rw (not_le h) tt)
    (λ h. rw (is_le h) (λ levels. quick_string levels b c.from-size.result (omega arith) (omega arith) (omega arith) (λ e. absurd (omega arith)) c.from-size.ensures h)))
