-- The claims of specs/Claims.antt, proved. Assumes nothing.
use Rattle.std.specs.Prelude.{Err}
use mathlib.Core.Path.{◌≡◌, refl, sym, ◌∙◌}
use Prim.Native.Nat.{ℕ, ◌^◌, ◌<◌}
use native.Mathlib.Omega.{arith}
use mathlib.Core.List.{List}
use lib.ListN.{length}
use Rattle.rlp.specs.declared.Refusal.TheVariants.{TooLarge}
use Rattle.rlp.specs.Refusals.{also, unless}
use Rattle.rlp.specs.Bytes.{be_from, be_value}
use Rattle.rlp.specs.Tree.{items, items_in, depth, deepest}
use Rattle.rlp.proofs.Tests.{is_le, not_le, by_lt}
use Rattle.rlp.proofs.Answers.{refused-got, unless-true, unless-false}
use Rattle.header.specs.Header.{long_header, header_of, size, within, payload_info}
use Rattle.value.specs.Value.{spare, part}
use Rattle.list.specs.Kinds.{is_list}
use Rattle.strict.specs.Strict.{is_spare, value_of, item_of, front, row, contents, whole, tree, tally_of, strict}
use Rattle.strict.proofs.Claims as checked
use Rattle.verdict.specs.Decimal.{decimal_up_to, decimal}
use Rattle.verdict.specs.Verdict.{largest, verdict}
use Rattle.verdict.specs.Line.{accepted_line, refused_line, line_of}
use Rattle.verdict.specs.Claims.{FilesAreChecked, LargeIs12, AnswersAreTheTrees, NumbersAreDecimal, LinesTellTheAnswer, LinesAreWritten, Claimed}
use Rattle.verdict.proofs.Decimals.{in_decimal}
use Rattle.verdict.proofs.Lines.{line_tells}

pub files_are_checked : FilesAreChecked
unfolding largest verdict
files_are_checked b h = unless-true TooLarge (strict b) (is_le h)

over : (b : List ℕ) → 2 ^ 16 < length b → verdict b ≡ Err TooLarge
unfolding largest verdict
over b h = unless-false TooLarge (strict b) (not_le h)

pub large_is_12 : LargeIs12
large_is_12 b = (
  λ e. by_lt (2 ^ 16) (length b) (λ h. h) (λ h. absurd (omega (arith, (checked.large_is_12 b).0 (sym (files_are_checked b h) ∙ e)))),
  over b,
)

pub answers_are_the_trees : AnswersAreTheTrees
answers_are_the_trees b n d w = (
  λ e. by_lt (2 ^ 16) (length b) (λ h. absurd (refused-got (sym (over b h) ∙ e))) (λ h.
      let t = (checked.answers_are_the_trees b n d w).0 (sym (files_are_checked b h) ∙ e) in
      (t.0, t.1, h, t.2, t.3)),
  λ t S h x y. files_are_checked b h ∙ (checked.answers_are_the_trees b n d w).1 t S x y,
)

pub numbers_are_decimal : NumbersAreDecimal
numbers_are_decimal = in_decimal

pub lines_tell_the_answer : LinesTellTheAnswer
lines_tell_the_answer = line_tells

pub lines_are_written : LinesAreWritten
unfolding also unless be_value be_from long_header header_of size within payload_info spare part is_list is_spare value_of item_of front row contents whole tree tally_of strict items items_in depth deepest decimal_up_to decimal largest verdict accepted_line refused_line line_of
lines_are_written = (refl, refl, refl, refl, refl)

pub claimed : Claimed
claimed = record {
  files_are_checked = files_are_checked;
  large_is_12 = large_is_12;
  answers_are_the_trees = answers_are_the_trees;
  numbers_are_decimal = numbers_are_decimal;
  lines_tell_the_answer = lines_tell_the_answer;
  lines_are_written = lines_are_written;
}
