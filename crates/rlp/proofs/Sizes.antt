-- How many bytes an encoding has, that they are bytes, and how many items and levels it can hold. Assumes nothing.
use mathlib.Core.Path.{◌≡◌, refl, sym, ap, ◌∙◌}
use mathlib.Core.Bool.{true, false, cond, false≢true}
use Prim.Native.Nat.{ℕ, ◌+◌, ◌^◌, ◌≤◌, ◌<◌}
use native.Mathlib.Omega.{arith}
use mathlib.Core.List.{List, [], ◌∷◌, ◌++◌, append_assoc}
use lib.ListN.{length, length-append}
use borrow.Author.Tests.{ltb-true}
use Rattle.rlp.specs.Bytes.{Bytes, be, be_value, be_from}
use Rattle.rlp.specs.Tree.{Item, Items, str, list, end, ◌then◌, strings, lists, header, header_size, headed_size, itself, enc, encs, joined, payload, items, items_in, depth, deepest, Well, Wells}
use Rattle.rlp.proofs.Tests.{is_lt, not_lt, by_lt, by_test}
use Rattle.rlp.proofs.BigEndian.{value-be, be-bytes, be-short, bytes_append}

-- ---- headers

pub header-short : (first n : ℕ) → n < 56 → header first n ≡ (first + n) ∷ []
unfolding header
header-short first n h = rw (is_lt h)

pub header-long : (first n : ℕ) → 56 ≤ n → header first n ≡ (first + 55 + length (be n)) ∷ be n
unfolding header
header-long first n h = rw (not_lt h)

pub header-some : (first n : ℕ) → 0 < length (header first n)
header-some first n = by_lt n 56 (λ h. rw (header-short first n h) (omega arith)) (λ h. rw (header-long first n h) (omega arith))

pub header-size : (first n : ℕ) → length (header first n) ≡ header_size n
unfolding header header_size
header-size first n = by_lt n 56 (λ h. rw (is_lt h)) (λ h. rw (not_lt h))

-- a length of the long form has a length byte
pub be-some : (n : ℕ) → 56 ≤ n → 0 < length (be n)
unfolding be_value be_from
be-some n h = go (be n) refl (value-be n)
  where
    go : (s : List ℕ) → be n ≡ s → be_value s ≡ n → 0 < length s
    go [] e v = absurd (omega arith)
    go (x ∷ s) e v = omega arith

header-bytes : (first n : ℕ) → first ≤ 192 → n < 256 ^ 8 → Bytes (header first n)
unfolding Bytes
header-bytes first n f l =
    by_lt n 56 (λ h. rw (header-short first n h) (omega arith, tt))
    (λ h. rw (header-long first n h) (omega (arith, be-short 8 n l), be-bytes n))

-- ---- encodings

-- a string that is its own encoding is one byte below 128
pub itself-one : (s : List ℕ) → itself s ≡ true → (x : ℕ) × (x < 128) × (s ≡ x ∷ [])
unfolding itself
itself-one [] e = absurd (false≢true e)
itself-one (x ∷ []) e = (x, ltb-true x 128 e, refl)
itself-one (x ∷ y ∷ s) e = absurd (false≢true e)

pub enc-itself : (s : List ℕ) → itself s ≡ true → enc (str s) ≡ s
unfolding enc
enc-itself s e = rw e

pub enc-string : (s : List ℕ) → itself s ≡ false → enc (str s) ≡ header strings (length s) ++ s
unfolding enc
enc-string s e = rw e

pub enc-list : (l : Items) → enc (list l) ≡ header lists (length (encs l)) ++ encs l
unfolding enc
enc-list l = refl

pub string-size : (s : List ℕ) → length (enc (str s)) ≡ cond (itself s) 1 (headed_size (length s))
unfolding headed_size
string-size s =
    by_test (itself s) (λ e. rw (enc-itself s e, e) (ap length (itself-one s e).2)) (λ e. rw (enc-string s e, e) (rw (length-append, header-size strings (length s))))

pub list-size : (l : Items) → length (enc (list l)) ≡ headed_size (length (encs l))
unfolding headed_size
list-size l = rw (enc-list l, length-append, header-size lists (length (encs l)))

pub enc-some : (t : Item) → 0 < length (enc t)
enc-some (str s) =
    by_test (itself s) (λ e. rw (enc-itself s e) (omega (arith, ap length (itself-one s e).2)))
    (λ e. rw (enc-string s e, length-append) (omega (arith, header-some strings (length s))))
enc-some (list l) = rw (enc-list l, length-append) (omega (arith, header-some lists (length (encs l))))

pub payload-short : (t : Item) → length (payload t) ≤ length (enc t)
unfolding payload
payload-short (str s) =
    by_test (itself s) (λ e. rw (enc-itself s e) (omega arith)) (λ e. rw (enc-string s e, length-append) (omega arith))
payload-short (list l) = rw (enc-list l, length-append) (omega arith)

-- an encoding is something, then the payload
pub enc-payload : (t : Item) → (h : List ℕ) × (enc t ≡ h ++ payload t)
unfolding payload
enc-payload (str s) = by_test (itself s) (λ e. ([], enc-itself s e)) (λ e. (header strings (length s), enc-string s e))
enc-payload (list l) = (header lists (length (encs l)), enc-list l)

mutual
  unfolding Bytes Well Wells encs payload

  pub enc-bytes : (t : Item) → Well t → length (enc t) < 256 ^ 8 → Bytes (enc t)
  enc-bytes (str s) w l =
      by_test (itself s) (λ e. rw (enc-itself s e) w)
      (λ e. rw (enc-string s e) (bytes_append (header strings (length s)) s (header-bytes strings (length s) (omega arith) (omega (arith, payload-short (str s)))) w))
  enc-bytes (list ts) w l =
      let m : length (encs ts) < 256 ^ 8 = omega (arith, payload-short (list ts)) in
      rw (enc-list ts) (bytes_append (header lists (length (encs ts))) (encs ts) (header-bytes lists (length (encs ts)) (omega arith) m) (encs-bytes ts w m))

  pub encs-bytes : (ts : Items) → Wells ts → length (encs ts) < 256 ^ 8 → Bytes (encs ts)
  encs-bytes end w l = tt
  encs-bytes (t then ts) w l = bytes_append (enc t) (encs ts) (enc-bytes t w.0 (omega (arith, length-append (enc t) (encs ts)))) (encs-bytes ts w.1 (omega (arith, length-append (enc t) (encs ts))))

-- each item takes a byte at least, and each level is an item
mutual
  unfolding items items_in encs

  pub items-few : (t : Item) → items t ≤ length (enc t)
  items-few (str s) = enc-some (str s)
  items-few (list ts) = rw (enc-list ts, length-append) (omega (arith, header-some lists (length (encs ts)), items_in_few ts))

  pub items_in_few : (ts : Items) → items_in ts ≤ length (encs ts)
  items_in_few end = omega arith
  items_in_few (t then ts) = rw length-append (omega (arith, items-few t, items_in_few ts))

mutual
  unfolding items items_in depth deepest

  pub depth-few : (t : Item) → depth t ≤ items t
  depth-few (str s) = omega arith
  depth-few (list ts) = omega (arith, deepest-few ts)

  pub deepest-few : (ts : Items) → deepest ts ≤ items_in ts
  deepest-few end = omega arith
  deepest-few (t then ts) = omega (arith, depth-few t, deepest-few ts)

-- ---- rows

pub encs-joined : (l m : Items) → encs (joined l m) ≡ encs l ++ encs m
unfolding encs joined
encs-joined end m = refl
encs-joined (t then l) m = ap (λ (s : List ℕ). enc t ++ s) (encs-joined l m) ∙ sym (append_assoc (enc t) (encs l) (encs m))
