-- Headers, strings and scalars: their sizes, and the bytes that writing them leaves. Assumes nothing.
use mathlib.Core.Path.{◌≡◌, refl, sym, ap, ◌∙◌}
use mathlib.Core.Bool.{true, false}
use Prim.Native.Nat.{ℕ, suc, ◌+◌, ◌-◌, ◌^◌, ◌≤◌, ◌<◌}
use native.Mathlib.Omega.{arith}
use mathlib.Core.List.{List, [], ◌∷◌, ◌++◌}
use lib.ListN.{length, take, get_or, set, length-set}
use lib.Seq.{take-length}
use Rattle.rlp.specs.Bytes.{be, be_value, be_from}
use Rattle.rlp.specs.Tree.{strings, header, header_size, headed_size, itself, str, list, end, enc, payload}
use Rattle.rlp.proofs.Tests.{is_lt, not_lt, by_lt, by_test}
use Rattle.rlp.proofs.BigEndian.{value-be, be-short}
use Rattle.rlp.proofs.Sizes.{payload-short, header-short, header-long, header-size, header-some, itself-one, enc-itself, enc-string, string-size}
use Rattle.encode.specs.Put.{put}
use Rattle.encode.specs.Encode.{numeral}
use Rattle.encode.proofs.Puts.{put_one, put-more, put-joined, down_start, down_step, down_done}
use Rattle.encode.proofs.Numbers.{be-none, be-one}

-- ---- headers

pub size-short : (n : ℕ) → n < 56 → 1 ≡ header_size n
unfolding header_size
size-short n h = sym (rw (is_lt h))

pub size-long : (n : ℕ) → 56 ≤ n → 1 + length (be n) ≡ header_size n
unfolding header_size
size-long n h =
    let e : header_size n ≡ suc (length (be n)) = rw (not_lt h) in
    omega arith

pub size-most : (n : ℕ) → n < 256 ^ 8 → header_size n ≤ 9
size-most n h = by_lt n 56 (λ l. omega (arith, size-short n l)) (λ l. omega (arith, size-long n l, be-short 8 n h))

pub put-short-header : (b : List ℕ) (at first n : ℕ) → at < length b → n < 56 → set b at (first + n) ≡ put b at (header first n)
put-short-header b at first n h l = put_one b at (first + n) h ∙ ap (put b at) (sym (header-short first n l))

-- a byte, then others
put_headed : (b : List ℕ) (at v : ℕ) (x : List ℕ) → at < length b → put (set b at v) (at + 1) x ≡ put b at (v ∷ x)
put_headed b at v x h = ap (λ (l : List ℕ). put l (at + 1) x) (put_one b at v h) ∙ put-more b at (v ∷ []) (omega arith) x

pub put-long-header : (b : List ℕ) (at first n size : ℕ) → 56 ≤ n → size ≡ header_size n → at + size ≤ length b
    → put (set b at (first + 54 + size)) (at + 1) (be n) ≡ put b at (header first n)
put-long-header b at first n size l e h =
    let v : first + 54 + size ≡ first + 55 + length (be n) = omega (arith, e, size-long n l) in
    put_headed b at (first + 54 + size) (be n) (omega (arith, size-long n l))
    ∙ ap (λ (k : ℕ). put b at (k ∷ be n)) v
    ∙ ap (put b at) (sym (header-long first n l))

-- ---- strings

pub size-itself : (x : List ℕ) → itself x ≡ true → 1 ≡ length (enc (str x))
size-itself x e = sym (string-size x ∙ rw e)

pub size_headed : (x : List ℕ) → itself x ≡ false → header_size (length x) + length x ≡ length (enc (str x))
unfolding headed_size
size_headed x e = sym (string-size x ∙ rw e)

-- what an encoding of so many bytes has before its string: its header, or nothing
module _ (x : List ℕ) (size : ℕ) (is : size ≡ length (enc (str x))) where
  headed : length x < size → itself x ≡ false
  headed h = by_test (itself x) (λ e. absurd (omega (arith, ap length (enc-itself x e)))) (λ e. e)

  pub before-header : length x < size → size - length x ≡ header_size (length x)
  before-header h = omega (arith, is, size_headed x (headed h))

  pub put-string : (b : List ℕ) (at : ℕ) → length x < size → at + size ≤ length b
      → put (put b (at + (size - length x)) x) at (header strings (length x)) ≡ put b at (enc (str x))
  put-string b at h f =
      put-joined b (at + (size - length x)) x (omega arith) at (header strings (length x)) (omega (arith, before-header h, header-size strings (length x)))
      ∙ ap (put b at) (sym (enc-string x (headed h)))

  pub put-itself : (b : List ℕ) (at : ℕ) → size ≤ length x → put b (at + (size - length x)) x ≡ put b at (enc (str x))
  put-itself b at h =
      let z : at + (size - length x) ≡ at = omega arith in
      ap (λ (i : ℕ). put b i x) z
      ∙ ap (put b at) (by_test (itself x) (λ e. sym (enc-itself x e)) (λ e. absurd (omega (arith, is, size_headed x e, header-some strings (length x), header-size strings (length x)))))

-- ---- scalars

pub scalar-none : (n : ℕ) → n ≡ 0 → enc (numeral n) ≡ 128 ∷ []
unfolding enc header itself
scalar-none n e = rw (be-none n e)

pub scalar-one : (n : ℕ) → 0 < n → n < 128 → enc (numeral n) ≡ n ∷ []
unfolding itself
scalar-one n p h = ap (λ (s : List ℕ). enc (str s)) (be-one n p (omega arith)) ∙ enc-itself (n ∷ []) (is_lt h)

pub scalar-more : (n : ℕ) → 128 ≤ n → n < 256 ^ 8 → enc (numeral n) ≡ (128 + length (be n)) ∷ be n
unfolding be_value be_from
scalar-more n p h =
    enc-string (be n) (by_test (itself (be n)) small (λ e. e))
    ∙ ap (λ (s : List ℕ). s ++ be n) (header-short strings (length (be n)) (omega (arith, be-short 8 n h)))
  where
    small : itself (be n) ≡ true → itself (be n) ≡ false
    small e =
        let o = itself-one (be n) e in
        absurd (omega (arith, o.1, ap be_value o.2, value-be n))

pub scalar-small : (n : ℕ) → n < 128 → 1 ≡ length (enc (numeral n))
scalar-small n h = by_lt 0 n (λ p. sym (ap length (scalar-one n p h))) (λ z. sym (ap length (scalar-none n (omega arith))))

pub scalar_large : (n : ℕ) → 128 ≤ n → n < 256 ^ 8 → 1 + length (be n) ≡ length (enc (numeral n))
scalar_large n p h = omega (arith, ap length (scalar-more n p h))

pub scalar-most : (n : ℕ) → n < 256 ^ 8 → length (enc (numeral n)) ≤ 9
scalar-most n h = by_lt n 128 (λ l. omega (arith, scalar-small n l)) (λ l. omega (arith, scalar_large n l h, be-short 8 n h))

pub put-scalar : (b : List ℕ) (at n size : ℕ) → 128 ≤ n → n < 256 ^ 8 → size ≡ length (enc (numeral n)) → at + size ≤ length b
    → put (set b at (127 + size)) (at + 1) (be n) ≡ put b at (enc (numeral n))
put-scalar b at n size p l e h =
    let v : 127 + size ≡ 128 + length (be n) = omega (arith, e, scalar_large n p l) in
    put_headed b at (127 + size) (be n) (omega (arith, scalar_large n p l))
    ∙ ap (λ (k : ℕ). put b at (k ∷ be n)) v
    ∙ ap (put b at) (sym (scalar-more n p l))

-- ---- what the check finds these functions' proofs with

-- the empty list is the byte c0
pub enc_end : enc (list end) ≡ 192 ∷ []
unfolding enc header
enc_end = refl

pub ruleset empty_list_steps = (enc_end, put_one)

pub be_few : (n : ℕ) → n < 256 ^ 8 → length (be n) ≤ 8
be_few n h = be-short 8 n h

pub ruleset size_steps = (be_few, size-most, size-itself, size_headed, scalar-small, scalar_large)

pub be_start : (n size : ℕ) → size ≡ length (be n) → be n ≡ take size (be n)
be_start n size e = sym (ap (λ (k : ℕ). take k (be n)) e ∙ take-length (be n))

pub long_size : (n : ℕ) → 56 ≤ n → header_size n ≡ 1 + length (be n)
long_size n h = sym (size-long n h)

pub large_size : (n : ℕ) → 128 ≤ n → n < 256 ^ 8 → length (enc (numeral n)) ≡ 1 + length (be n)
large_size n p h = sym (scalar_large n p h)

pub payload_few : (x : List ℕ) → length x ≤ length (enc (str x))
unfolding payload
payload_few x = payload-short (str x)

pub ruleset be_steps = (be_start, down_start, down_done)

pub ruleset header_steps = (size-short, long_size, size-most, put-short-header, put-long-header, length-set)

pub ruleset string_steps = (before-header, put-string, put-itself, payload_few)

pub ruleset scalar_steps = (put_one, scalar-none, scalar-one, scalar-small, large_size, scalar-most, put-scalar, length-set)
