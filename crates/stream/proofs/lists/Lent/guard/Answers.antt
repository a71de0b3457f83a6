-- `guard` meets its contract. Assumes nothing.
use native.Mathlib.Omega.{arith}
use Rattle.std.specs.Prelude.{◌≡◌, true, false, Ok}
use mathlib.Core.Path.{sym, ◌∙◌}
use mathlib.Core.Logic.{inl, inr}
use Rattle.stream.specs.State.{matches}
use Rattle.stream.specs.Steps.{state_lent}
use Rattle.stream.proofs.Cascade.{opened-many}
use Rattle.stream.proofs.Answered.{guarded_large, guarded_unmatched, guarded_on}
use Rattle.stream.proofs.Calls.{matches_turned, matches-past, matches-deep, matches-lists}
use Rattle.stream.proofs.lists.Lent.guard.Goals as goal
use Rattle.stream.proofs.lists.Lent.guard.Goals.{else-self-via-then-self+then-self-room+then-self-le-LEVELS+else-lists_fit, else-self-via-then-self+then-self-room+else-self-le-LEVELS, else-self-via-then-self+else-self-room, else-self-via-else-self}

pub returns-then-room-gt-LIMIT : goal.returns-then-room-gt-LIMIT
returns-then-room-gt-LIMIT c =
    sym (guarded_large (state_lent c.args.self) c.args.room c.args.lent (Ok tt) (elim c.then-room-gt-LIMIT.either [ inl h ↦ inl h | inr h ↦ inr h.1 ]))

pub returns-then-lists_fit : goal.returns-then-lists_fit
returns-then-lists_fit c =
    let s = state_lent c.args.self in
    let k = opened-many c.args.self c.args.self.opened in
    let yes : matches s c.args.room ≡ true = matches-lists s c.args.room c.if-self.true c.if-self-room.true (omega arith) ∙ (sym c.lists_fit.ensures ∙ c.if-lists_fit.true) in
    sym (guarded_on s c.args.room c.args.lent (Ok tt) (omega arith) (omega arith) yes)

pub returns : goal.returns
returns c =
    let s = state_lent c.args.self in
    let k = opened-many c.args.self c.args.self.opened in
    let no : matches s c.args.room ≡ false =
    elim c.else-self.branch [
      | else-self-via-then-self+then-self-room+then-self-le-LEVELS+else-lists_fit w ↦
          matches-lists s c.args.room w.if-self.true w.if-self-room.true (omega arith) ∙ (sym w.lists_fit.ensures ∙ w.if-lists_fit.false)
      | else-self-via-then-self+then-self-room+else-self-le-LEVELS w ↦ matches-deep s c.args.room w.if-self.true w.if-self-room.true (omega arith)
      | else-self-via-then-self+else-self-room w ↦ matches-past s c.args.room w.if-self.true w.if-self-room.false
      | else-self-via-else-self w ↦ matches_turned s c.args.room w.if-self.false
    ] in
    sym (guarded_unmatched s c.args.room c.args.lent (Ok tt) (omega arith) (omega arith) no)
