-- `amend::replace_header` meets its contract. Assumes nothing.
use Rattle.std.proofs.Common.{◌≡◌, ◌-◌, arith, sym, ap, ◌∙◌, length, get_or}
use Rattle.rlp.specs.Tree.{lists, header}
use Rattle.rlp.proofs.Sizes.{header-size}
use Rattle.encode.specs.Put.{moved}
use Rattle.amend.proofs.Writing.{slid}
use Rattle.amend.proofs.replace_header.Goals as goal

pub slide-requires : goal.slide-requires
slide-requires c = omega (arith, c.header_size-size.ensures, header-size lists (get_or c.args.lens c.args.k 0))

pub write_header-requires : goal.write_header-requires
write_header-requires c =
    (omega arith, c.header_size-size.ensures, omega (arith, c.slide.auto.buf, c.header_size-size.ensures, header-size lists (get_or c.args.lens c.args.k 0)))

pub overflow_add-result : goal.overflow_add-result
overflow_add-result c = omega (arith, c.header_size-size.ensures, header-size lists (get_or c.args.lens c.args.k 0))

pub returns : goal.returns
returns c =
    let a = c.args in
    let n = get_or a.lens a.k 0 in
    let e : c.header_size-size.result ≡ length (header lists n) = c.header_size-size.ensures ∙ sym (header-size lists n) in (
      omega (arith, e),
      slid a.buf.now c.slide.new.buf _ a.len a.old (header lists n) c.requires.1 c.requires.2 c.requires.3
          (c.slide.ensures ∙ ap (moved a.buf.now a.old (a.len - a.old)) e) c.write_header.ensures,
    )
