-- Which bytes have a value, and why others have none. Assumes nothing.
use Rattle.std.specs.Prelude.{Ok, Err}
use mathlib.Core.Path.{◌≡◌, refl, sym, ap, ◌∙◌, subst}
use mathlib.Core.Bool.{true, false, not, false≢true}
use Prim.Native.Nat.{ℕ, zero, suc, ◌+◌, ◌-◌, ◌^◌, ◌≤◌, ◌<◌}
use native.Mathlib.Omega.{arith}
use mathlib.Core.List.{List, [], ◌∷◌, ◌++◌}
use lib.ListN.{length, take, drop, length-append, take-append-drop}
use lib.Seq.{length-take-le, take-append_seam}
use borrow.Author.Tests.{ltb-true}
use Rattle.rlp.specs.declared.Refusal.{Refusal}
use Rattle.rlp.specs.declared.Refusal.TheVariants.{RlpInvalidIndirection, RlpInconsistentLengthAndData, RlpInvalidLength}
use Rattle.rlp.specs.Refusals.{Or, also, unless}
use Rattle.rlp.specs.Bytes.{be_value, Trim}
use Rattle.rlp.specs.Tree.{strings, itself}
use Rattle.rlp.proofs.Tests.{is_lt, not_lt, is_le, not_le, not_eq, by_lt, by_test}
use Rattle.rlp.proofs.Answers.{unless-true, unless-false}
use Rattle.header.specs.Header.{length_in, length_of}
use Rattle.value.specs.declared.Part.{Part}
use Rattle.value.specs.Value.{placed, spare, short_value, long_end, long_value, value_at}
use Rattle.value.specs.Claims.{Valued, byte, short, long, Valueless, none, short_cut, spare-byte, length_cut, zeroed, far, long-cut, listed}
use Rattle.value.proofs.Places.{range_1, range_2, range_3, range_4}

-- ---- what comes of a value: it is read or refused, and each way is known

-- what the answer shows of the bytes
unfoldable Shows : List ℕ → Or Part → Type 0
Shows b (Ok p) = Valued b p
Shows b (Err e) = Valueless b e

-- ---- short strings

-- a string of one byte below 128 is the one that 81 refuses
pub spare-itself : (s r : List ℕ) → spare (length s) (s ++ r) ≡ itself s
unfolding spare itself
spare-itself [] [] = refl
spare-itself [] (y ∷ r) = refl
spare-itself (x ∷ []) r = refl
spare-itself (x ∷ y ∷ s) r = rw (not_eq {a = suc (suc (length s))} {b = 1} (λ z. absurd (omega arith)))

itself-byte : (s : List ℕ) → itself s ≡ true → (y : ℕ) × (s ≡ y ∷ []) × (y < 128)
unfolding itself
itself-byte [] e = absurd (false≢true e)
itself-byte (y ∷ []) e = (y, refl, ltb-true y 128 e)
itself-byte (y ∷ z ∷ s) e = absurd (false≢true e)

short_read : (s r : List ℕ) → itself s ≡ false → short_value (length s) (s ++ r) ≡ placed 1 (length s)
unfolding short_value
short_read s r e =
    unless-true RlpInconsistentLengthAndData _ (is_le {a = length s} {b = length (s ++ r)} (omega (arith, length-append s r)))
    ∙ unless-true RlpInvalidIndirection _ (ap not (spare-itself s r ∙ e))

short-spare : (s r : List ℕ) → itself s ≡ true → short_value (length s) (s ++ r) ≡ Err RlpInvalidIndirection
unfolding short_value
short-spare s r e =
    unless-true RlpInconsistentLengthAndData _ (is_le {a = length s} {b = length (s ++ r)} (omega (arith, length-append s r)))
    ∙ unless-false RlpInvalidIndirection _ (ap not (spare-itself s r ∙ e))

short_shows : (n : ℕ) (r : List ℕ) → n < 56 → Shows ((strings + n) ∷ r) (short_value n r)
unfolding Shows short_value unless
short_shows n r h =
    by_lt (length r) n
    (λ l. rw (not_le {a = n} {b = length r} l) (short_cut n r h l))
    (λ l.
    let s : List ℕ = take n r in
    let z : length s ≡ n = length-take-le n r l in
    let w : s ++ drop n r ≡ r = take-append-drop n r in
    let v : short_value (length s) (s ++ drop n r) ≡ short_value n r = ap (λ (k : ℕ). short_value k (s ++ drop n r)) z ∙ ap (short_value n) w in
    by_test (itself s)
    (λ i. subst (Shows ((strings + n) ∷ r)) (sym (short-spare s (drop n r) i) ∙ v) (spared n r s z w i))
    (λ i. subst (Shows ((strings + n) ∷ r)) (sym (short_read s (drop n r) i) ∙ v)
    (short s (drop n r) (omega arith) i (ap (λ (k : ℕ). (strings + k) ∷ r) (sym z) ∙ ap (λ (t : List ℕ). (strings + length s) ∷ t) (sym w)) refl)))
  where
    spared : (n : ℕ) (r s : List ℕ) → length s ≡ n → s ++ drop n r ≡ r → itself s ≡ true → Valueless ((strings + n) ∷ r) RlpInvalidIndirection
    spared n r s z w i =
        let y = itself-byte s i in
        let o : n ≡ 1 = omega (arith, z, ap length y.1) in
        subst (λ (b : List ℕ). Valueless b RlpInvalidIndirection)
        (ap (λ (k : ℕ). (strings + k) ∷ (y.0 ∷ drop n r)) (sym o) ∙ ap (λ (t : List ℕ). (strings + n) ∷ t) (ap (λ (t : List ℕ). t ++ drop n r) (sym y.1) ∙ w))
        (spare-byte y.0 (drop n r) y.2)

-- ---- long strings, of the length bytes n and what follows them

module _ (n : List ℕ) (few : length n ≤ 8) (some : 1 ≤ length n) where
  length_trim : Trim n → length_of n ≡ Ok (be_value n)
  unfolding length_of length_in Trim
  length_trim t = unless-true _ _ (is_le few) ∙ go n some t
    where
      go : (n : List ℕ) → 1 ≤ length n → Trim n → length_in n ≡ Ok (be_value n)
      go [] h t = absurd (omega arith)
      go (zero ∷ n) h t = absurd (omega arith)
      go (suc x ∷ n) h t = refl

  module _ (r : List ℕ) where
    long-is : (o : Or ℕ) → length_of n ≡ o → long_value (length n) (n ++ r) ≡ also o (long_end (length n) (n ++ r))
    unfolding long_value
    long-is o e =
        unless-true RlpInconsistentLengthAndData _ (is_le {a = length n} {b = length (n ++ r)} (omega (arith, length-append n r)))
        ∙ ap (λ (o : Or ℕ). also o (long_end (length n) (n ++ r))) (ap length_of (take-append_seam n r) ∙ e)

    module _ (t : Trim n) where
      long-ends : long_value (length n) (n ++ r) ≡ long_end (length n) (n ++ r) (be_value n)
      unfolding also
      long-ends = long-is (Ok (be_value n)) (length_trim t)

      long-far : 2 ^ 64 ≤ suc (length n) + be_value n → long_value (length n) (n ++ r) ≡ Err RlpInvalidLength
      unfolding long_end
      long-far h = long-ends ∙ unless-false RlpInvalidLength _ (not_lt h)

      module _ (near : suc (length n) + be_value n < 2 ^ 64) where
        long-short : length r < be_value n → long_value (length n) (n ++ r) ≡ Err RlpInconsistentLengthAndData
        unfolding long_end
        long-short h =
            long-ends ∙ unless-true RlpInvalidLength _ (is_lt near)
            ∙ unless-false RlpInconsistentLengthAndData _ (not_le {a = length n + be_value n} {b = length (n ++ r)} (omega (arith, length-append n r)))

        long-whole : be_value n ≤ length r → long_value (length n) (n ++ r) ≡ placed (suc (length n)) (be_value n)
        unfolding long_end
        long-whole h =
            long-ends ∙ unless-true RlpInvalidLength _ (is_lt near)
            ∙ unless-true RlpInconsistentLengthAndData _ (is_le {a = length n + be_value n} {b = length (n ++ r)} (omega (arith, length-append n r)))

long-zero : (k : ℕ) (r : List ℕ) → 1 ≤ k → k ≤ 8 → k ≤ suc (length r) → long_value k (0 ∷ r) ≡ Err RlpInvalidIndirection
unfolding long_value also length_of length_in
long-zero k r h few l =
    unless-true RlpInconsistentLengthAndData _ (is_le {a = k} {b = suc (length r)} l)
    ∙ ap (λ (o : Or ℕ). also o (long_end k (0 ∷ r))) (unless-true _ _ (is_le {a = length (take k (0 ∷ r))} {b = 8} (omega (arith, length-take-le k (0 ∷ r) l))) ∙ go k h)
  where
    go : (k : ℕ) → 1 ≤ k → length_in (take k (0 ∷ r)) ≡ Err RlpInvalidIndirection
    go zero h = absurd (omega arith)
    go (suc k) h = refl

long-none : (k : ℕ) (r : List ℕ) → length r < k → long_value k r ≡ Err RlpInconsistentLengthAndData
unfolding long_value
long-none k r h = unless-false RlpInconsistentLengthAndData _ (not_le h)

-- with a first length byte that is not 0
ends_show : (n r : List ℕ) → 1 ≤ length n → length n ≤ 8 → Trim n → Shows ((strings + 55 + length n) ∷ (n ++ r)) (long_value (length n) (n ++ r))
unfolding Shows
ends_show n r some few t =
    by_lt (suc (length n) + be_value n) (2 ^ 64)
    (λ near. by_lt (length r) (be_value n)
    (λ l. subst (Shows ((strings + 55 + length n) ∷ (n ++ r))) (sym (long-short n few some r t near l)) (long-cut n r some few t near l))
    (λ l.
    let z : length (take (be_value n) r) ≡ be_value n = length-take-le (be_value n) r l in
    subst (Shows ((strings + 55 + length n) ∷ (n ++ r))) (sym (long-whole n few some r t near l))
    (long n (take (be_value n) r) (drop (be_value n) r) some few t (sym z) (omega (arith, z)) (ap (λ (s : List ℕ). (strings + 55 + length n) ∷ (n ++ s)) (sym (take-append-drop (be_value n) r))) (ap (placed (suc (length n))) z))))
    (λ f. subst (Shows ((strings + 55 + length n) ∷ (n ++ r))) (sym (long-far n few some r t f)) (far n r some few t f))

take_trim : (k y : ℕ) (r : List ℕ) → Trim (take k (suc y ∷ r))
unfolding Trim
take_trim zero y r = tt
take_trim (suc k) y r = omega arith

long_shows : (k : ℕ) (r : List ℕ) → 1 ≤ k → k ≤ 8 → Shows ((strings + 55 + k) ∷ r) (long_value k r)
unfolding Shows
long_shows k r some few =
    by_lt (length r) k
    (λ l. subst (Shows ((strings + 55 + k) ∷ r)) (sym (long-none k r l)) (length_cut k r some few l))
    (λ l. go r l)
  where
    go : (r : List ℕ) → k ≤ length r → Shows ((strings + 55 + k) ∷ r) (long_value k r)
    go [] l = absurd (omega arith)
    go (zero ∷ r) l = subst (Shows ((strings + 55 + k) ∷ 0 ∷ r)) (sym (long-zero k r some few l)) (zeroed k r some few l)
    go (suc y ∷ r) l =
        let n : List ℕ = take k (suc y ∷ r) in
        let z : length n ≡ k = length-take-le k (suc y ∷ r) l in
        let E = ends_show n (drop k (suc y ∷ r)) (omega arith) (omega arith) (take_trim k y r) in
        subst (λ (s : List ℕ). Shows ((strings + 55 + k) ∷ s) (long_value k s)) (take-append-drop k (suc y ∷ r))
        (subst (λ (j : ℕ). Shows ((strings + 55 + j) ∷ (n ++ drop k (suc y ∷ r))) (long_value j (n ++ drop k (suc y ∷ r)))) z E)

-- ---- any bytes

value_shows : (b : List ℕ) → Shows b (value_at b)
unfolding Shows value_at
value_shows [] = none
value_shows (x ∷ r) =
    by_lt 0x7f x
    (λ a. by_lt 0xb7 x
    (λ c. by_lt 0xbf x
    (λ d. subst (Shows (x ∷ r)) (sym (range_4 x r d)) (listed x r (omega arith)))
    (λ d.
    let z : strings + 55 + (x - 0xb7) ≡ x = omega arith in
    subst (Shows (x ∷ r)) (sym (range_3 x r c d)) (subst (λ (y : ℕ). Shows (y ∷ r) (long_value (x - 0xb7) r)) z (long_shows (x - 0xb7) r (omega arith) (omega arith)))))
    (λ c.
    let z : strings + (x - 0x80) ≡ x = omega arith in
    subst (Shows (x ∷ r)) (sym (range_2 x r a c)) (subst (λ (y : ℕ). Shows (y ∷ r) (short_value (x - 0x80) r)) z (short_shows (x - 0x80) r (omega arith)))))
    (λ a. subst (Shows (x ∷ r)) (sym (range_1 x r a)) (byte x r (omega arith) refl refl))

pub value-is : (b : List ℕ) (p : Part) → value_at b ≡ Ok p → Valued b p
unfolding Shows
value-is b p e = subst (Shows b) e (value_shows b)

pub value_not : (b : List ℕ) (e : Refusal) → value_at b ≡ Err e → Valueless b e
unfolding Shows
value_not b e q = subst (Shows b) q (value_shows b)

-- ---- and back

short_at : (n : ℕ) (r : List ℕ) → n < 56 → value_at ((strings + n) ∷ r) ≡ short_value n r
short_at n r h = range_2 (strings + n) r (omega arith) (omega arith) ∙ ap (λ (k : ℕ). short_value k r) (omega arith)

long_at : (k : ℕ) (r : List ℕ) → 1 ≤ k → k ≤ 8 → value_at ((strings + 55 + k) ∷ r) ≡ long_value k r
long_at k r h l = range_3 (strings + 55 + k) r (omega arith) (omega arith) ∙ ap (λ (j : ℕ). long_value j r) (omega arith)

pub is-value : (b : List ℕ) (p : Part) → Valued b p → value_at b ≡ Ok p
is-value b p (byte x r h e q) = ap value_at e ∙ range_1 x r (omega arith) ∙ q
is-value b p (short s r h i e q) = ap value_at e ∙ short_at (length s) (s ++ r) h ∙ short_read s r i ∙ q
is-value b p (long n s r some few t v near e q) =
    ap value_at e ∙ long_at (length n) (n ++ (s ++ r)) some few
    ∙ long-whole n few some (s ++ r) t (omega (arith, v)) (omega (arith, v, length-append s r))
    ∙ ap (placed (suc (length n))) v
    ∙ q

pub no_value : (b : List ℕ) (e : Refusal) → Valueless b e → value_at b ≡ Err e
unfolding value_at short_value itself
no_value b e none = refl
no_value b e (short_cut n r h l) = short_at n r h ∙ unless-false RlpInconsistentLengthAndData _ (not_le l)
no_value b e (spare-byte y r h) = short_at 1 (y ∷ r) (omega arith) ∙ short-spare (y ∷ []) r (is_lt h)
no_value b e (length_cut k r some few l) = long_at k r some few ∙ long-none k r l
no_value b e (zeroed k r some few l) = long_at k (0 ∷ r) some few ∙ long-zero k r some few l
no_value b e (far n r some few t h) = long_at (length n) (n ++ r) some few ∙ long-far n few some r t h
no_value b e (long-cut n r some few t near l) = long_at (length n) (n ++ r) some few ∙ long-short n few some r t near l
no_value b e (listed x r h) = range_4 x r (omega arith)
