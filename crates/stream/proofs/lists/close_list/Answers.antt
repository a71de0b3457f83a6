-- `lists::close_list` meets its contract. Assumes nothing.
use native.Mathlib.Omega.{arith}
use mathlib.Core.Path.{ap, ◌∙◌}
use Rattle.std.specs.Prelude.{◌-◌}
use Rattle.rlp.specs.Tree.{lists, header}
use Rattle.encode.specs.Put.{put}
use Rattle.stream.proofs.OpenLists.{size-growth}
use Rattle.stream.proofs.Cascade.{close_put}
use Rattle.stream.proofs.lists.close_list.Goals as goal

pub overflow_add-at : goal.overflow_add-at
overflow_add-at c =
    omega (arith, size-growth (c.args.end - c.args.at) c.header_size-size.result c.header_size-size.ensures)

pub slide-requires : goal.slide-requires
slide-requires c =
    let g = size-growth (c.args.end - c.args.at) c.header_size-size.result c.header_size-size.ensures in
    (omega arith, omega (arith, g))

pub write_header-requires : goal.write_header-requires
write_header-requires c =
    let g = size-growth (c.args.end - c.args.at) c.header_size-size.result c.header_size-size.ensures in
    (omega arith, c.header_size-size.ensures, omega (arith, g))

pub overflow_add-result : goal.overflow_add-result
overflow_add-result c =
    omega (arith, size-growth (c.args.end - c.args.at) c.header_size-size.result c.header_size-size.ensures)

pub returns : goal.returns
returns c =
    let a = c.args in
    let n = a.end - a.at in
    let g = size-growth n c.header_size-size.result c.header_size-size.ensures in (
      omega (arith, g),
      c.write_header.ensures
          ∙ (ap (λ b. put b (a.at - 1) (header lists n)) c.slide.ensures
          ∙ close_put a.buf.now a.at n c.header_size-size.result c.requires.0 c.header_size-size.ensures (omega (arith, g))),
    )
