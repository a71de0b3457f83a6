-- `open_change` meets its contract. Assumes nothing.
use native.Mathlib.Omega.{arith}
use mathlib.Core.Path.{◌∙◌}
use Rattle.std.proofs.lemmas.Result.{err_from_is_err_and}
use Rattle.rlp.specs.declared.Refusal.TheVariants.{TooDeep, NoRoom}
use Rattle.stream.specs.Stream.{unbounded, lent, answer}
use Rattle.stream.specs.Steps.{state_lent}
use Rattle.stream.proofs.Cascade.{opened-many}
use Rattle.stream.proofs.Calls.{answer_no, answer-past, comes_no, open_deep, open_full, open_yes}
use Rattle.stream.proofs.lists.Lent.open_change.Goals as goal

pub returns-in_err-guard : goal.returns-in_err-guard
unfolding lent
returns-in_err-guard c =
    let p = err_from_is_err_and c.from_residual.result c.from_residual.ensures.1 in
    rw (p.1, p.2) (answer_no (state_lent c.args.self) c.args.buf.now unbounded _ c.in_err-guard.ensures)

pub returns-then-self-ge-LEVELS : goal.returns-then-self-ge-LEVELS
unfolding lent
returns-then-self-ge-LEVELS c =
    let s = state_lent c.args.self in
    let b = c.args.buf.now in
    let g = answer-past s b unbounded c.in_ok-guard.ensures in
    comes_no s.start b (answer s b unbounded) TooDeep (g.so ∙ open_deep s b (omega (arith, opened-many c.args.self c.args.self.opened)))

pub returns-then-buf-self : goal.returns-then-buf-self
unfolding lent
returns-then-buf-self c =
    let s = state_lent c.args.self in
    let b = c.args.buf.now in
    let g = answer-past s b unbounded c.in_ok-guard.ensures in
    comes_no s.start b (answer s b unbounded) NoRoom (g.so ∙ open_full s b g.past (omega (arith, opened-many c.args.self c.args.self.opened)) (omega arith))

pub returns : goal.returns
unfolding lent
returns c =
    let s = state_lent c.args.self in
    let b = c.args.buf.now in
    let g = answer-past s b unbounded c.in_ok-guard.ensures in
    let k = opened-many c.args.self c.args.self.opened in
    open_yes s b g.past (omega arith) (omega arith) (answer s b unbounded) g.so c.args.self.opened k
