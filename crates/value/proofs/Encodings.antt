-- The value of an encoding, and the numbers that are read. Assumes nothing.
use Rattle.std.specs.Prelude.{Ok, Err}
use mathlib.Core.Path.{◌≡◌, refl, sym, ap, ◌∙◌}
use Prim.Native.Nat.{ℕ, zero, suc, ◌+◌, ◌-◌, ◌^◌, ◌≤◌, ◌<◌}
use native.Mathlib.Omega.{arith}
use mathlib.Core.List.{List, [], ◌∷◌, ◌++◌, append_assoc}
use lib.ListN.{length, take, drop, length-append}
use lib.Seq.{take-append_seam, drop_at}
use Rattle.rlp.specs.declared.Refusal.TheVariants.{RlpExpectedToBeData}
use Rattle.rlp.specs.Refusals.{also}
use Rattle.rlp.specs.Bytes.{Bytes, be_from, be_value, be_up_to, be}
use Rattle.rlp.specs.Tree.{Item, Items, str, list, strings, lists, header, itself, enc, encs, payload}
use Rattle.rlp.proofs.Tests.{by_lt, by_test}
use Rattle.rlp.proofs.Answers.{got_inj}
use Rattle.rlp.proofs.BigEndian.{value-be, be-short, be_trim}
use Rattle.rlp.proofs.Sizes.{header-short, header-long, be-some, enc-itself, enc-string, enc-list, itself-one, enc-payload}
use Rattle.header.proofs.LengthBytes.{length-sound, length_complete}
use Rattle.header.proofs.Encodings.{header_of_enc}
use Rattle.value.specs.Value.{placed, value_at, data_at, part, scalar}
use Rattle.value.specs.Claims.{short, long}
use Rattle.value.proofs.Places.{range_1, range_4}
use Rattle.value.proofs.Scalars.{scalar-some, scalar_width}
use Rattle.value.proofs.Exact.{is-value}

-- ---- strings

pub value_of_lem : (s r : List ℕ) → length (enc (str s)) < 2 ^ 64 → value_at (enc (str s) ++ r) ≡ placed (length (enc (str s)) - length s) (length s)
value_of_lem s r l =
    by_test (itself s)
    (λ i. let b = itself-one s i in rw (enc-itself s i) (rw b.2 (range_1 b.0 r (omega (arith, b.1)))))
    (λ i.
    let n : ℕ = length s in
    let h : List ℕ = header strings n in
    let f = length-append h s in
    let m : length (h ++ s) < 2 ^ 64 = rw (enc-string s i) at l in
    rw (enc-string s i, append_assoc)
    (by_lt n 56
    (λ k.
    let g = ap length (header-short strings n k) in
    let z : 1 ≡ length (h ++ s) - n = omega arith in
    is-value (h ++ (s ++ r)) _ (short s r k i (ap (λ (h : List ℕ). h ++ (s ++ r)) (header-short strings n k)) (ap (λ (j : ℕ). placed j n) z)))
    (λ k.
    let g = ap length (header-long strings n k) in
    let z : suc (length (be n)) ≡ length (h ++ s) - n = omega arith in
    is-value (h ++ (s ++ r)) _
    (long (be n) s r (be-some n k) (be-short 8 n (omega arith)) (be_trim n) (value-be n) (omega arith) (ap (λ (h : List ℕ). h ++ (s ++ r)) (header-long strings n k)) (ap (λ (j : ℕ). placed j n) z)))))

-- ---- payloads

-- the bytes that an encoding's header tells of are its payload
pub part-payload : (t : Item) (r : List ℕ) → part (enc t ++ r) (record { start = length (enc t) - length (payload t); len = length (payload t) }) ≡ payload t
unfolding part
part-payload t r =
    let h = enc-payload t in
    let z : length h.0 ≡ length (enc t) - length (payload t) = omega (arith, ap length h.1, length-append h.0 (payload t)) in
    ap (take (length (payload t))) (ap (drop (length (enc t) - length (payload t))) (ap (λ (s : List ℕ). s ++ r) h.1 ∙ append_assoc h.0 (payload t) r) ∙ drop_at h.0 (payload t ++ r) _ z)
    ∙ take-append_seam (payload t) r

pub data_of : (t : Item) (r : List ℕ) → length (enc t) < 2 ^ 64 → data_at (enc t ++ r) ≡ placed (length (enc t) - length (payload t)) (length (payload t))
unfolding data_at also
data_of t r l = rw (header_of_enc t r l).1

-- ---- lists

pub list_no_value : (l : Items) (r : List ℕ) → value_at (enc (list l) ++ r) ≡ Err RlpExpectedToBeData
list_no_value l r =
    let n : ℕ = length (encs l) in
    rw (enc-list l, append_assoc)
    (by_lt n 56
    (λ h. rw (header-short lists n h) (range_4 (lists + n) (encs l ++ r) (omega arith)))
    (λ h. rw (header-long lists n h) (range_4 (lists + 55 + length (be n)) (be n ++ (encs l ++ r)) (omega arith))))

-- ---- numbers

pub scalar-sound : (w : ℕ) (s : List ℕ) (n : ℕ) → w ≤ 8 → Bytes s → scalar w s ≡ Ok n → s ≡ be n
unfolding scalar be be_up_to
scalar-sound w [] n h b e = ap be (got_inj e)
scalar-sound w (x ∷ s) n h b e =
    sym (length-sound (x ∷ s) n b (scalar-some w (x ∷ s) h (λ z. absurd (omega arith)) (scalar_width w x s n e) ∙ e)).2

pub scalar_complete : (w n : ℕ) → w ≤ 8 → n < 256 ^ w → n < 256 ^ 8 → scalar w (be n) ≡ Ok n
unfolding scalar be be_up_to be_value be_from
scalar_complete w zero h l m = refl
scalar_complete w (suc n) h l m =
    sym (scalar-some w (be (suc n)) h (λ z. absurd (some (be (suc n)) z (value-be (suc n)))) (be-short w (suc n) l)) ∙ length_complete (suc n) (omega arith) m
  where
    some : (s : List ℕ) → length s ≡ 0 → be_value s ≡ suc n → ⊥
    some [] z v = omega arith
    some (x ∷ s) z v = omega arith
