-- `verdict::put_decimal` meets its contract: what `io` spells is the number in decimal, at most 20 digits. Assumes nothing.
use mathlib.Core.Path.{ap, ◌∙◌}
use native.Mathlib.Omega.{arith}
use lib.ListN.{length}
use Rattle.encode.specs.Put.{put}
use Rattle.verdict.proofs.Decimals.{spelled, few}
use Rattle.verdict.proofs.put_decimal.Goals as goal

pub returns : goal.returns
returns c =
    let e = c.decimal-k.ensures.digits ∙ spelled c.decimal-k.result c.args.n c.decimal-k.ensures.len in
    record {
      bytes = c.copy_at.ensures ∙ ap (put c.args.out.now c.args.at) e;
      behind = omega (arith, ap length e, c.decimal-k.ensures.in_bounds.1);
      few = omega (arith, few c.decimal-k.result c.args.n c.ranges.n.fits c.decimal-k.ensures.len);
    }
