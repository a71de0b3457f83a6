-- `estimate` meets its contract. Assumes nothing.
use native.Mathlib.Omega.{arith}
use Rattle.std.specs.Prelude.{◌+◌, ◌-◌, ⊤, Ok}
use mathlib.Core.Path.{sym}
use Rattle.std.proofs.lemmas.Result.{err_from_is_err_and}
use Rattle.stream.specs.State.{total}
use Rattle.stream.specs.Sizes.{size_now, estimate_of}
use Rattle.stream.specs.Steps.{state_lent}
use Rattle.stream.proofs.OpenLists.{growths-most}
use Rattle.stream.proofs.Cascade.{opened-many}
use Rattle.stream.proofs.Calls.{guard_no, guard_past, past-lists}
use Rattle.stream.proofs.lists.Lent.estimate.Goals as goal

pub returns-in_err-guard : goal.returns-in_err-guard
unfolding estimate_of
returns-in_err-guard c =
    let p = err_from_is_err_and c.from_residual.result c.from_residual.ensures.1 in
    rw (p.1, p.2) (sym (guard_no (state_lent c.args.self) c.args.room c.args.n _ _ c.in_err-guard.ensures))

pub overflow_sub-written : goal.overflow_sub-written
overflow_sub-written c =
    let g = guard_past {A = ⊤} (state_lent c.args.self) c.args.room c.args.n (Ok tt) c.in_ok-guard.ensures in
    g.1.starts

pub overflow_add-written : goal.overflow_add-written
overflow_add-written c =
    let g = guard_past {A = ⊤} (state_lent c.args.self) c.args.room c.args.n (Ok tt) c.in_ok-guard.ensures in
    omega (arith, g.1.ends, g.1.small, g.2)

pub growths-requires : goal.growths-requires
growths-requires c =
    let g = guard_past {A = ⊤} (state_lent c.args.self) c.args.room c.args.n (Ok tt) c.in_ok-guard.ensures in
    (omega (arith, g.1.few, opened-many c.args.self c.args.self.opened), omega (arith, g.1.ends, g.1.small, g.2), past-lists (state_lent c.args.self) c.args.room g.1 c.args.n)

pub overflow_add-result : goal.overflow_add-result
overflow_add-result c =
    let s = state_lent c.args.self in
    let g = guard_past {A = ⊤} s c.args.room c.args.n (Ok tt) c.in_ok-guard.ensures in
    omega (arith, g.1.ends, g.1.small, g.2, c.growths.ensures, g.1.few, growths-most (s.end - s.start + c.args.n) s.opens (omega (arith, g.1.ends, g.1.small, g.2)))

pub returns : goal.returns
unfolding estimate_of size_now total
returns c =
    let s = state_lent c.args.self in
    rw c.growths.ensures (sym (guard_past s c.args.room c.args.n (Ok (size_now s.opens (total s + c.args.n))) c.in_ok-guard.ensures).0)
