-- An encoding is read back in one way: two trees whose encodings begin the same bytes are one tree. Assumes nothing.
use mathlib.Core.Path.{◌≡◌, refl, sym, ap, ◌∙◌}
use mathlib.Core.Bool.{true}
use Prim.Native.Nat.{ℕ, ◌+◌, ◌*◌, ◌^◌, ◌≤◌, ◌<◌}
use native.Mathlib.Omega.{arith}
use mathlib.Core.List.{List, ◌∷◌, ◌++◌, append_assoc}
use lib.ListN.{length, take, drop, length-append}
use lib.Seq.{take-append_seam, drop-append_seam}
use Rattle.rlp.specs.Bytes.{be, be_value}
use Rattle.rlp.specs.Tree.{Item, Items, str, list, end, ◌then◌, strings, lists, header, itself, enc, encs, payload}
use Rattle.rlp.proofs.Tests.{by_lt, by_test}
use Rattle.rlp.proofs.BigEndian.{value-be, be-short}
use Rattle.rlp.proofs.Sizes.{header-short, header-long, be-some, enc-itself, enc-string, enc-list, enc-some, itself-one, payload-short}

-- two joins whose first parts are as long as each other
pub join_split : {a b x y : List ℕ} → length a ≡ length b → a ++ x ≡ b ++ y → (a ≡ b) × (x ≡ y)
join_split {a} {b} {x} {y} l e = (
  sym (take-append_seam a x) ∙ ap (take (length a)) e ∙ ap (λ (n : ℕ). take n (b ++ y)) l ∙ take-append_seam b y,
  sym (drop-append_seam a x) ∙ ap (drop (length a)) e ∙ ap (λ (n : ℕ). drop n (b ++ y)) l ∙ drop-append_seam b y,
)

cons_head : {a b : ℕ} {x y : List ℕ} → a ∷ x ≡ b ∷ y → a ≡ b
cons_head e = cc

cons_tail : {a b : ℕ} {x y : List ℕ} → a ∷ x ≡ b ∷ y → x ≡ y
cons_tail e = cc

-- ---- headers

-- the first byte is no smaller than where its kind begins
header-first : (first n b : ℕ) (x y : List ℕ) → header first n ++ x ≡ b ∷ y → first ≤ b
header-first first n b x y e =
    by_lt n 56 (λ h. omega (arith, cons_head (rw (header-short first n h) at e))) (λ h. omega (arith, cons_head (rw (header-long first n h) at e)))

-- where lengths take at most 8 bytes the short and long forms of strings and of lists have four ranges of first bytes that do not
-- meet. So a header tells its kind (0: strings, 1: lists) and its length. From 256 ^ 8 on a string's first byte would be a list's
module _ (k j n m : ℕ) (x y : List ℕ) (hk : k ≤ 1) (hj : j ≤ 1) (hn : n < 256 ^ 8) (hm : m < 256 ^ 8) where
  pub header_split : header (strings + 64 * k) n ++ x ≡ header (strings + 64 * j) m ++ y → (k ≡ j) × (n ≡ m) × (x ≡ y)
  header_split e =
      by_lt n 56
      (λ a. by_lt m 56
      (λ b. let p = rw (header-short (strings + 64 * k) n a, header-short (strings + 64 * j) m b) at e in (omega (arith, cons_head p), omega (arith, cons_head p), cons_tail p))
      (λ b. absurd (omega (arith, be-short 8 m hm, be-some m b, cons_head (rw (header-short (strings + 64 * k) n a, header-long (strings + 64 * j) m b) at e)))))
      (λ a. by_lt m 56
      (λ b. absurd (omega (arith, be-short 8 n hn, be-some n a, cons_head (rw (header-long (strings + 64 * k) n a, header-short (strings + 64 * j) m b) at e))))
      (λ b.
      let p = rw (header-long (strings + 64 * k) n a, header-long (strings + 64 * j) m b) at e in
      let c = be-short 8 n hn in
      let d = be-short 8 m hm in
      let f = cons_head p in
      let q = join_split {a = be n} {b = be m} (omega arith) (cons_tail p) in
      (omega arith, sym (value-be n) ∙ ap be_value q.0 ∙ value-be m, q.1)))

-- ---- trees

-- a byte below 128 begins no header
byte-header : (s : List ℕ) (first n : ℕ) (x y : List ℕ) → itself s ≡ true → 128 ≤ first → s ++ x ≡ header first n ++ y → ⊥
byte-header s first n x y i h e =
    let b = itself-one s i in
    omega (arith, b.1, header-first first n b.0 y x (sym e ∙ ap (λ (z : List ℕ). z ++ x) b.2))

string_split : (s u r q : List ℕ) → length s < 256 ^ 8 → length u < 256 ^ 8 → enc (str s) ++ r ≡ enc (str u) ++ q → (s ≡ u) × (r ≡ q)
string_split s u r q l m e =
    by_test (itself s)
    (λ i. by_test (itself u)
    (λ j. let a = itself-one s i in let b = itself-one u j in join_split (ap length a.2 ∙ sym (ap length b.2)) (rw (enc-itself s i, enc-itself u j) at e))
    (λ j. absurd (byte-header s strings (length u) r (u ++ q) i (omega arith) (rw (enc-itself s i, enc-string u j, append_assoc) at e))))
    (λ i. by_test (itself u)
    (λ j. absurd (byte-header u strings (length s) q (s ++ r) j (omega arith) (sym (rw (enc-itself u j, enc-string s i, append_assoc) at e))))
    (λ j. let p = header_split 0 0 (length s) (length u) (s ++ r) (u ++ q) (omega arith) (omega arith) l m (simp append_assoc at (rw (enc-string s i, enc-string u j) at e)) in join_split p.1 p.2))

mixed_split : (s : List ℕ) (l : Items) (r q : List ℕ) → length s < 256 ^ 8 → length (encs l) < 256 ^ 8 → enc (str s) ++ r ≡ enc (list l) ++ q → ⊥
mixed_split s l r q hs hl e =
    by_test (itself s)
    (λ i. byte-header s lists (length (encs l)) r (encs l ++ q) i (omega arith) (rw (enc-itself s i, enc-list l, append_assoc) at e))
    (λ i. omega (arith, (header_split 0 1 (length s) (length (encs l)) (s ++ r) (encs l ++ q) (omega arith) (omega arith) hs hl (simp append_assoc at (rw (enc-string s i, enc-list l) at e))).0))

mutual
  unfolding encs payload

  pub enc_split : (t u : Item) (r q : List ℕ) → length (enc t) < 256 ^ 8 → length (enc u) < 256 ^ 8 → enc t ++ r ≡ enc u ++ q → (t ≡ u) × (r ≡ q)
  enc_split (str s) (str v) r q l m e =
      let p = string_split s v r q (omega (arith, payload-short (str s))) (omega (arith, payload-short (str v))) e in (ap str p.0, p.1)
  enc_split (str s) (list w) r q l m e = absurd (mixed_split s w r q (omega (arith, payload-short (str s))) (omega (arith, payload-short (list w))) e)
  enc_split (list k) (str v) r q l m e = absurd (mixed_split v k q r (omega (arith, payload-short (str v))) (omega (arith, payload-short (list k))) (sym e))
  enc_split (list k) (list w) r q l m e =
      let a : length (encs k) < 256 ^ 8 = omega (arith, payload-short (list k)) in
      let b : length (encs w) < 256 ^ 8 = omega (arith, payload-short (list w)) in
      let p = header_split 1 1 (length (encs k)) (length (encs w)) (encs k ++ r) (encs w ++ q) (omega arith) (omega arith) a b (simp append_assoc at (rw (enc-list k, enc-list w) at e)) in
      let j = join_split p.1 p.2 in
      (ap list (encs_split k w a b j.0), j.1)

  pub encs_split : (k w : Items) → length (encs k) < 256 ^ 8 → length (encs w) < 256 ^ 8 → encs k ≡ encs w → k ≡ w
  encs_split end end l m e = refl
  encs_split end (u then w) l m e = absurd (omega (arith, ap length e, length-append (enc u) (encs w), enc-some u))
  encs_split (t then k) end l m e = absurd (omega (arith, ap length e, length-append (enc t) (encs k), enc-some t))
  encs_split (t then k) (u then w) l m e =
      let a = length-append (enc t) (encs k) in
      let b = length-append (enc u) (encs w) in
      let p = enc_split t u (encs k) (encs w) (omega arith) (omega arith) e in
      let q : k ≡ w = encs_split k w (omega arith) (omega arith) p.1 in
      ap (λ (i : Item). i then k) p.0 ∙ ap (λ (i : Items). u then i) q
