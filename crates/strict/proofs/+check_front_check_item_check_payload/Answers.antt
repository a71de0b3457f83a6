-- What the check does not find of the proofs of an item's check and of a payload's. Assumes nothing.
use Rattle.std.proofs.Common.{sym, ◌-◌, ◌∙◌, arith}
use Rattle.std.proofs.lemmas.Bool.Decides.{nat_tests}
use Rattle.std.proofs.lemmas.Result.{err_from_is_err_and}
use Rattle.rlp.proofs.Slices.{bytes_of}
use Rattle.strict.proofs.Rules.{took_small, inside-small, rest-start, rest_stop, rest_more, behind_well, behind_length}
use Rattle.strict.proofs.+check_front_check_item_check_payload.Goals as goal

pub check_item-overflow_add-tally : goal.check_item-overflow_add-tally
check_item-overflow_add-tally t c =
    let w = bytes_of c.args.bytes.now (λ i h. (c.type_inv.bytes i).fits) in
    omega (arith, inside-small (c.args.levels - 1) c.args.bytes.now c.in_ok-info.info c.in_ok-run.run' w (sym c.in_ok-run.ensures))

pub check_item-overflow_add-tally-then-is_list : goal.check_item-overflow_add-tally-then-is_list
check_item-overflow_add-tally-then-is_list t c =
    let w = bytes_of c.args.bytes.now (λ i h. (c.type_inv.bytes i).fits) in
    omega (arith, inside-small (c.args.levels - 1) c.args.bytes.now c.in_ok-info.info c.in_ok-run.run' w (sym c.in_ok-run.ensures))

pub check_payload-loop-rest-init : goal.check_payload-loop-rest-init
check_payload-loop-rest-init t c =
    record { well = bytes_of c.args.bytes.now (λ i h. (c.type_inv.bytes i).fits); tops = omega arith; alls = omega arith; same = rest-start c.args.levels c.args.bytes.now }

pub check_payload-returns-in_err-took : goal.check_payload-returns-in_err-took
check_payload-returns-in_err-took t c =
    let w = c.loop-rest in
    let p = err_from_is_err_and c.from_residual.result c.from_residual.ensures.1 in
    rw (p.1, p.2) (rest_stop c.args.levels w.rest.now w.top w.items w.depth _ (grind (arith, nat_tests)) c.in_err-took.ensures ∙ w.invariant.same)

pub check_payload-loop-rest-preserved : goal.check_payload-loop-rest-preserved
check_payload-loop-rest-preserved t c =
    let w = c.loop-rest in
    let k = c.in_ok-took.took in
    let z = took_small c.args.levels w.rest.now k w.invariant.well (sym c.in_ok-took.ensures) in
    let n = behind_length c.args.levels w.rest.now w.top w.items w.depth k in
    record {
      well = behind_well c.args.levels w.rest.now w.top w.items w.depth k w.invariant.well;
      tops = omega (arith, n, z);
      alls = omega (arith, n, z);
      same = rest_more c.args.levels w.rest.now w.top w.items w.depth k _ c.in_ok-took.ensures (c.max-depth.ensures ∙ omega arith) ∙ w.invariant.same;
    }
