-- The library's answers in numbers: the refusal's number, or 0 and what was answered. These are definitions.
use Rattle.std.specs.Prelude.{ℕ, zero, suc, Bool, true, false, List, Ok, Err}
use Rattle.rlp.specs.Refusals.{number_of, Or}
use Rattle.header.specs.declared.PayloadInfo.{PayloadInfo}
use Rattle.value.specs.declared.Part.{Part}
use Rattle.list.specs.declared.kinds.Prototype.{Prototype}
use Rattle.list.specs.declared.kinds.Prototype.TheVariants as prototype
use Rattle.list.specs.Walk as walk
use Rattle.strict.specs.declared.Tally.{Tally}
use Rattle.encode.specs.Encode.{Wrote}
use Rattle.amend.specs.Amend as amend
use Rattle.loughcable.specs.declared.Answer.{Answer}
use Rattle.loughcable.specs.declared.Info.{Info}
use Rattle.loughcable.specs.declared.Spot.{Spot}
use Rattle.loughcable.specs.declared.Find.{Find}
use Rattle.loughcable.specs.declared.Kind.{Kind}
use Rattle.loughcable.specs.declared.Count.{Count}

-- 1 for yes, 0 for no; and a number that is handed in as a truth: 0 is false, any other true
unfoldable pub yes_no : Bool → ℕ
yes_no true = 1
yes_no false = 0

unfoldable pub truth_of : ℕ → Bool
truth_of zero = false
truth_of (suc n) = true

unfoldable pub answered : Or ℕ → Answer
answered (Err e) = record { refusal = number_of e; value = 0 }
answered (Ok n) = record { refusal = 0; value = n }

unfoldable pub asked : Or Bool → Answer
asked (Err e) = answered (Err e)
asked (Ok t) = answered (Ok (yes_no t))

unfoldable pub informed : Or PayloadInfo → Info
informed (Err e) = record { refusal = number_of e; header_len = 0; value_len = 0 }
informed (Ok p) = record { refusal = 0; header_len = p.header_len; value_len = p.value_len }

unfoldable pub situated : Or Part → Spot
situated (Err e) = record { refusal = number_of e; start = 0; len = 0 }
situated (Ok p) = record { refusal = 0; start = p.start; len = p.len }

-- on a refusal index and offset are those handed in, for such is the cache then
unfoldable pub found : walk.Answer → Find
found a =
    record {
      refusal = (situated a.place).refusal;
      start = (situated a.place).start;
      len = (situated a.place).len;
      index = a.cache.index;
      offset = a.cache.offset;
    }

unfoldable pub prototyped : Or Prototype → Kind
prototyped (Err e) = record { refusal = number_of e; kind = 0; count = 0 }
prototyped (Ok prototype.Null) = record { refusal = 0; kind = 0; count = 0 }
prototyped (Ok (prototype.Data n)) = record { refusal = 0; kind = 1; count = n }
prototyped (Ok (prototype.List n)) = record { refusal = 0; kind = 2; count = n }

unfoldable pub tallied : Or Tally → Count
tallied (Err e) = record { refusal = number_of e; items = 0; depth = 0 }
tallied (Ok t) = record { refusal = 0; items = t.items; depth = t.depth }

-- ---- an answer with the buffer that the call leaves
pub record Filled : Type 0 where
  pub answer : Answer
  pub buffer : List ℕ

unfoldable pub fills : Answer → List ℕ → Filled
fills r b = record { answer = r; buffer = b }

-- one encoding, and an amending
unfoldable pub written : Wrote → Filled
written w = record { answer = answered w.answer; buffer = w.buffer }

unfoldable pub exchanged : amend.After → Filled
exchanged a = record { answer = answered a.answer; buffer = a.buffer }
