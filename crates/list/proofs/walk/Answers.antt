-- `list::walk` meets its contract: a step over an item, and the refusal that ends a walk. Assumes nothing.
use Rattle.std.proofs.Common.{◌-◌, drop, sym, ap, ◌∙◌, arith}
use Rattle.std.proofs.lemmas.List.{take_rest}
use Rattle.header.specs.Header.{item_step}
use Rattle.list.proofs.Rows.{rest-fits, nth-step, nth-stop}
use Rattle.list.proofs.walk.Goals as goal

pub loop-len-preserved : goal.loop-len-preserved
loop-len-preserved c =
    let b = c.args.bytes.now in
    let w = c.loop-len in
    let e = ap item_step (sym (take_rest b w.at)) ∙ sym c.item_step.ensures ∙ c.in-Ok.is in (
      (rest-fits b w.at c.in-Ok.len e w.invariant.0).1,
      nth-step b w.at c.in-Ok.len (w.left - 1) w.left e (omega arith) ∙ w.invariant.1,
    )

pub returns-in-Err : goal.returns-in-Err
returns-in-Err c =
    let b = c.args.bytes.now in
    let w = c.loop-len in
    let e = ap item_step (sym (take_rest b w.at)) ∙ sym c.item_step.ensures ∙ c.in-Err.is in
    sym (nth-stop w.at w.left (drop w.at b) _ e) ∙ w.invariant.1
