-- The claims of specs/Claims.antt, proved. Assumes nothing.
use Rattle.std.proofs.Common.{ℕ, [], ◌∷◌, sym, refl, ap, ◌∙◌, arith}
use Rattle.std.specs.Prelude.{Ok}
use Rattle.header.specs.declared.PayloadInfo.{PayloadInfo}
use Rattle.rlp.specs.declared.Refusal.TheVariants.{RlpIsTooShort}
use Rattle.rlp.specs.Refusals.{Or, also, unless}
use Rattle.rlp.specs.Bytes.{be_from, be_value}
use Rattle.rlp.specs.Promises.{said, refusal_in, try, all_refuse}
use Rattle.rlp.proofs.Tests.{is_lt, not_lt}
use Rattle.rlp.proofs.Answers.{unless-true, unless-false}
use Rattle.header.specs.Header.{length_in, length_of, long_header, header_of, size, within, payload_info, total_of, item_step, size_in, whole_size}
use Rattle.header.specs.Claims.{LengthsAreDetermined, HeadersAreDetermined, PromisesAreOfTheAnswer, LengthBytesAreShortest, RefusedLengths, HeadersAreAppendixB, RefusedHeaders, ItemsFit, RefusedItems, SizesAreOfItems, HeaderOfEncoding, TotalsAreSums, order, OrderOfRefusals, Claimed}
use Rattle.header.proofs.LengthBytes.{length-big, length_none, length-zero, length-sound, length_complete}
use Rattle.header.proofs.Fits.{info_refused, info_cut, info_got, info_fits, item_sized}
use Rattle.header.proofs.Refused.{header_reason, reason_header}
use Rattle.header.proofs.Encodings.{begins_read, header-begins, header_of_enc}

pub lengths_are_determined : LengthsAreDetermined
unfolding said
lengths_are_determined d x y p q = p ∙ sym q

pub headers_are_determined : HeadersAreDetermined
unfolding said
headers_are_determined d x y p q = p ∙ sym q

pub promises_are_of_the_answer : PromisesAreOfTheAnswer
unfolding said
promises_are_of_the_answer r s = (refl, refl)

pub length_bytes_are_shortest : LengthBytesAreShortest
length_bytes_are_shortest b n w = (length-sound b n w, λ h. ap length_of (sym h.2) ∙ length_complete n h.0 h.1)

pub refused_lengths : RefusedLengths
refused_lengths = (
  λ b h. sym (length-big b h),
  sym (length_none [] (omega arith) refl),
  λ r h. sym (length-zero (0 ∷ r) (omega arith) (omega arith) refl),
)

pub headers_are_appendix_b : HeadersAreAppendixB
headers_are_appendix_b b p w = (header-begins b p w, begins_read b p)

pub refused_headers : RefusedHeaders
refused_headers b e w = (header_reason b e w, reason_header b e)

pub items_fit : ItemsFit
items_fit b p = (info_fits b p, λ h. sym (info_got b p h.0 h.1))

pub refused_items : RefusedItems
refused_items b = (λ e h. sym (info_refused b e h), λ p h l. sym (info_cut b p h l))

pub sizes_are_of_items : SizesAreOfItems
unfolding item_step whole_size size_in also
sizes_are_of_items b =
    let step : Or PayloadInfo → Or ℕ = λ o. also o (λ q. Ok (size q)) in (
      λ p h. let e = ap step h in (e, ap size_in h, (item_sized b (size p) e).3),
      λ e h. (ap step h, ap size_in h),
    )

pub header_of_encoding : HeaderOfEncoding
header_of_encoding = header_of_enc

pub totals_are_sums : TotalsAreSums
unfolding total_of size
totals_are_sums p = (λ h. unless-true RlpIsTooShort _ (is_lt h), λ h. unless-false RlpIsTooShort _ (not_lt h))

pub order_of_refusals : OrderOfRefusals
unfolding order try all_refuse refusal_in also unless be_value be_from length_in length_of long_header header_of size within payload_info
order_of_refusals = tt

pub claimed : Claimed
claimed =
    record {
      lengths_are_determined = lengths_are_determined;
      headers_are_determined = headers_are_determined;
      promises_are_of_the_answer = promises_are_of_the_answer;
      length_bytes_are_shortest = length_bytes_are_shortest;
      refused_lengths = refused_lengths;
      headers_are_appendix_b = headers_are_appendix_b;
      refused_headers = refused_headers;
      items_fit = items_fit;
      refused_items = refused_items;
      sizes_are_of_items = sizes_are_of_items;
      header_of_encoding = header_of_encoding;
      totals_are_sums = totals_are_sums;
      order_of_refusals = order_of_refusals;
    }
