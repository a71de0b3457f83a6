-- The strict reader gives back the tree of every encoding. Assumes nothing.
use Rattle.std.specs.Prelude.{Ok}
use mathlib.Core.Path.{◌≡◌, refl, sym, ap, ◌∙◌}
use mathlib.Core.Bool.{Bool, true, false, ◌&&◌}
use Prim.Native.Nat.{ℕ, zero, suc, ◌+◌, ◌-◌, ◌^◌, ◌≤◌, ◌<◌}
use native.Mathlib.Omega.{arith}
use mathlib.Core.List.{List, [], ◌++◌, append_assoc, append-nil}
use lib.Dec.{eqb}
use lib.ListN.{length, length-append}
use lib.Seq.{drop-append_seam}
use Rattle.rlp.specs.declared.Refusal.TheVariants.{TrailingBytes, TooLarge}
use Rattle.rlp.specs.Refusals.{Or, also}
use Rattle.rlp.specs.Bytes.{be}
use Rattle.rlp.specs.Limits.{limit, levels}
use Rattle.rlp.specs.Tree.{Item, Items, str, list, end, ◌then◌, strings, itself, enc, encs, payload, depth, deepest}
use Rattle.rlp.proofs.Tests.{is_le, not_le, is_eq, not_eq, by_lt, by_test}
use Rattle.rlp.proofs.Answers.{unless-true}
use Rattle.rlp.proofs.BigEndian.{be-short}
use Rattle.rlp.proofs.Sizes.{header-short, header-long, enc-itself, enc-string, itself-one, payload-short}
use Rattle.header.specs.declared.PayloadInfo.{PayloadInfo}
use Rattle.header.specs.Header.{size}
use Rattle.header.proofs.Encodings.{header_of_enc}
use Rattle.value.specs.Value.{spare}
use Rattle.value.proofs.Exact.{spare-itself}
use Rattle.value.proofs.Encodings.{part-payload}
use Rattle.list.specs.Kinds.{is_list}
use Rattle.list.proofs.Encodings.{enc-is-list}
use Rattle.strict.specs.Strict.{is_spare, value_of, Front, front, row, contents, whole, tree, row_tree}
use Rattle.strict.proofs.Reader.{fronted, front-list, front_data, row-none, row_step}

-- ---- an encoding's header and value

abbrev told_by : Item → PayloadInfo
told_by t = record { header_len = length (enc t) - length (payload t); value_len = length (payload t) }

told-size : (t : Item) → size (told_by t) ≡ length (enc t)
unfolding size
told-size t = omega (arith, payload-short t)

-- the value that an encoding's header tells of is its payload
value_of_enc : (t : Item) (r : List ℕ) → value_of (enc t ++ r) (told_by t) ≡ payload t
unfolding value_of
value_of_enc t r = part-payload t r

-- ---- strings

pub string-is_data : (s r : List ℕ) → length s < 256 ^ 8 → is_list (enc (str s) ++ r) ≡ false
unfolding is_list
string-is_data s r l =
    by_test (itself s)
    (λ i. let b = itself-one s i in rw (enc-itself s i) (rw b.2 (not_le {a = 0xc0} {b = b.0} (omega (arith, b.1)))))
    (λ i. rw (enc-string s i)
    (by_lt (length s) 56
    (λ h. rw (header-short strings (length s) h) (not_le {a = 0xc0} {b = strings + length s} (omega arith)))
    (λ h. rw (header-long strings (length s) h) (not_le {a = 0xc0} {b = strings + 55 + length (be (length s))} (omega (arith, be-short 8 (length s) l))))))

string-not-spare : (s r : List ℕ) → is_spare (enc (str s) ++ r) ≡ false
unfolding is_spare
string-not-spare s r =
    by_test (itself s)
    (λ i. let b = itself-one s i in rw (enc-itself s i) (rw b.2 (rw (not_eq {a = b.0} {b = 0x81} (λ e. absurd (omega (arith, b.1)))))))
    (λ i. rw (enc-string s i, append_assoc)
    (by_lt (length s) 56
    (λ h. rw (header-short strings (length s) h) (short_case s i))
    (λ h. rw (header-long strings (length s) h) (rw (not_eq {a = strings + 55 + length (be (length s))} {b = 0x81} (λ e. absurd (omega arith)))))))
  where
    and-false : (t : Bool) → t && false ≡ false
    and-false true = refl
    and-false false = refl

    short_case : (s : List ℕ) → itself s ≡ false → eqb (strings + length s) 0x81 && spare 1 (s ++ r) ≡ false
    short_case s i =
        by_lt 1 (length s)
        (λ h. rw (not_eq {a = strings + length s} {b = 0x81} (λ e. absurd (omega arith))))
        (λ h. by_lt (length s) 1
        (λ k. rw (not_eq {a = strings + length s} {b = 0x81} (λ e. absurd (omega arith))))
        (λ k. let z : length s ≡ 1 = omega arith in ap (λ (t : Bool). eqb (strings + length s) 0x81 && t) (sym (ap (λ (n : ℕ). spare n (s ++ r)) z) ∙ spare-itself s r ∙ i) ∙ and-false (eqb (strings + length s) 0x81)))

-- ---- the reader on encodings

abbrev pub read : Item → Or Front
read t = Ok (record { item = t; size = length (enc t) })

read_as : (t : Item) → fronted (told_by t) t ≡ read t
read_as t = ap (λ (n : ℕ). Ok (record { item = t; size = n })) (told-size t)

front-string : (ins : List ℕ → Or Items) (s r : List ℕ) → length (enc (str s)) < 256 ^ 8 → front ins (enc (str s) ++ r) ≡ read (str s)
unfolding payload
front-string ins s r l =
    front_data ins (enc (str s) ++ r) (told_by (str s)) (header_of_enc (str s) r l).1 (string-is_data s r (omega (arith, payload-short (str s)))) (string-not-spare s r)
    ∙ ap (λ (v : List ℕ). fronted (told_by (str s)) (str v)) (value_of_enc (str s) r)
    ∙ read_as (str s)

front-listed : (lev : ℕ) (ts : Items) (r : List ℕ) → length (enc (list ts)) < 256 ^ 8 → contents lev (encs ts) ≡ Ok ts → front (contents lev) (enc (list ts) ++ r) ≡ read (list ts)
unfolding payload also
front-listed lev ts r l e =
    front-list (contents lev) (enc (list ts) ++ r) (told_by (list ts)) (header_of_enc (list ts) r l).1 (enc-is-list ts r)
    ∙ ap (λ (o : Or Items). also (also o (λ l. Ok (list l))) (fronted (told_by (list ts)))) (ap (contents lev) (value_of_enc (list ts) r) ∙ e)
    ∙ read_as (list ts)

contents-row : (lev : ℕ) (ts : Items) → deepest ts < lev → ((k : ℕ) → deepest ts ≤ k → row (contents k) 0 (encs ts) ≡ Ok ts) → contents lev (encs ts) ≡ Ok ts
unfolding contents
contents-row zero ts h f = absurd (omega arith)
contents-row (suc lev) ts h f = f lev (omega arith)

row_then : (ins : List ℕ → Or Items) (t : Item) (ts : Items) → front ins (enc t ++ encs ts) ≡ read t → row ins 0 (encs ts) ≡ Ok ts → row ins 0 (enc t ++ encs ts) ≡ Ok (t then ts)
unfolding also
row_then ins t ts e f = row_step ins (enc t ++ encs ts) _ e ∙ rw (drop-append_seam, f)

list-payload : (ts : Items) → length (encs ts) ≤ length (enc (list ts))
unfolding payload
list-payload ts = payload-short (list ts)

mutual
  unfolding encs depth deepest

  pub front-enc : (t : Item) (lev : ℕ) (r : List ℕ) → depth t ≤ lev → length (enc t) < 256 ^ 8 → front (contents lev) (enc t ++ r) ≡ read t
  front-enc (str s) lev r d l = front-string (contents lev) s r l
  front-enc (list ts) lev r d l =
      front-listed lev ts r l (contents-row lev ts (omega arith) (λ k h. row-encs ts k h (omega (arith, list-payload ts))))

  pub row-encs : (ts : Items) (lev : ℕ) → deepest ts ≤ lev → length (encs ts) < 256 ^ 8 → row (contents lev) 0 (encs ts) ≡ Ok ts
  row-encs end lev d l = row-none (contents lev)
  row-encs (t then ts) lev d l =
      let f = length-append (enc t) (encs ts) in
      row_then (contents lev) t ts (front-enc t lev (encs ts) (omega arith) (omega arith)) (row-encs ts lev (omega arith) (omega arith))

pub tree-enc : (t : Item) → length (enc t) ≤ limit → depth t ≤ levels → tree (enc t) ≡ Ok t
unfolding tree whole also
tree-enc t l d =
    unless-true TooLarge _ (is_le l)
    ∙ ap (λ (o : Or Front). also o (whole (length (enc t)))) (ap (front (contents levels)) (sym (append-nil (enc t))) ∙ front-enc t levels [] d (omega arith))
    ∙ unless-true TrailingBytes _ (is_eq {a = length (enc t)} refl)

pub row_tree-encs : (l : Items) → length (encs l) ≤ limit → deepest l ≤ levels → row_tree (encs l) ≡ Ok l
unfolding row_tree
row_tree-encs l h d = unless-true TooLarge _ (is_le h) ∙ row-encs l levels d (omega arith)
