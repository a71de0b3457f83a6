-- `value::uint_in` meets its contract: a number of `width` bytes fits. Assumes nothing.
use Rattle.std.proofs.Common.{sym, ap, ◌∙◌}
use Rattle.rlp.proofs.Slices.{bytes_of}
use Rattle.value.specs.Value.{scalar}
use Rattle.value.proofs.Scalars.{uint-got, answer_fits}
use Rattle.value.proofs.uint_in.Goals as goal

pub returns-clause-fits : goal.returns-clause-fits
returns-clause-fits c =
    let b = c.args.bytes.now in
    answer_fits c.args.width b c.scalar_in.result (bytes_of b (λ i h. (c.type_inv.bytes i).fits))
    (c.scalar_in.ensures ∙ ap (scalar c.args.width) c.taken.ensures ∙ uint-got c.args.width b c.in_ok-part.part (sym c.value_place.ensures ∙ c.in_ok-part.was))
