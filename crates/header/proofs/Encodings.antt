-- What is read as a header is Appendix B's header, and every such header is read. Assumes nothing.
use Rattle.std.specs.Prelude.{Ok}
use Rattle.std.proofs.Common.{◌≡◌, ℕ, zero, suc, ◌+◌, ◌-◌, ◌^◌, ◌<◌, ◌≤◌, List, [], ◌∷◌, ◌++◌, length, take, drop, sym, refl, ap, ◌∙◌, append_assoc, arith, lit<, length-append, take-append-drop, length-take-le}
use native.Mathlib.Nat.{pow-le-pow_right}
use lib.Seq.{take-append_seam}
use Rattle.rlp.specs.declared.Refusal.TheVariants.{RlpIsTooShort, RlpInvalidIndirection}
use Rattle.rlp.specs.Bytes.{Bytes, be_from, be_value, be, Trim}
use Rattle.rlp.specs.Tree.{Item, str, list, strings, lists, header, header_size, itself, enc, encs, payload}
use Rattle.rlp.proofs.Tests.{is_lt, not_lt, is_le, by_lt, by_test}
use Rattle.rlp.proofs.Answers.{refused-got, unless-true}
use Rattle.rlp.proofs.Slices.{bytes_take}
use Rattle.rlp.proofs.BigEndian.{value-be, be-value, be_trim, be-short, value_upper}
use Rattle.rlp.proofs.Sizes.{header-short, header-long, header-size, be-some, enc-itself, enc-string, enc-list, itself-one, payload-short}
use Rattle.header.specs.declared.PayloadInfo.{PayloadInfo}
use Rattle.header.specs.Header.{told, long_header, header_of, size, payload_info}
use Rattle.header.specs.Claims.{Begins, byte, string, listed}
use Rattle.header.proofs.Ranges.{range_1, range_2, range_3, range_4, range_5, Long, long_read, by_range}
use Rattle.header.proofs.Fits.{info_got}

-- ---- a header that is written is read

long-be : (n : ℕ) (r : List ℕ) → 56 ≤ n → long_header (length (be n)) (be n ++ r) ≡ told (suc (length (be n))) n
unfolding long_header Trim be_value be_from
long-be n r h = go (be n) (be_trim n) (value-be n)
  where
    go : (s : List ℕ) → Trim s → be_value s ≡ n → long_header (length s) (s ++ r) ≡ told (suc (length s)) n
    go [] t v = absurd (omega arith)
    go (zero ∷ s) t v = absurd (omega arith)
    go (suc x ∷ s) t v =
        unless-true RlpIsTooShort _ (is_le {a = suc (length s)} {b = suc (length (s ++ r))} (omega (arith, length-append s r)))
        ∙ rw (take-append_seam s r, v) (unless-true RlpInvalidIndirection _ (is_lt {a = 55} {b = n} (omega arith)))

read_by : (first n : ℕ) (r : List ℕ)
    → (n < 56 → header_of ((first + n) ∷ r) ≡ told 1 n)
    → (56 ≤ n → header_of ((first + 55 + length (be n)) ∷ (be n ++ r)) ≡ long_header (length (be n)) (be n ++ r))
    → header_of (header first n ++ r) ≡ told (header_size n) n
unfolding header_size
read_by first n r f g =
    by_lt n 56
    (λ h. rw (header-short first n h, is_lt h) (f h))
    (λ h. rw (header-long first n h, not_lt h) (g h ∙ long-be n r h))

pub string_read : (n : ℕ) (r : List ℕ) → n < 256 ^ 8 → header_of (header strings n ++ r) ≡ told (header_size n) n
string_read n r l =
    read_by strings n r
    (λ h. range_2 (strings + n) r (omega arith) (omega arith) ∙ ap (told 1) (omega arith))
    (λ h. range_3 (strings + 55 + length (be n)) (be n ++ r) (omega (arith, be-some n h)) (omega (arith, be-short 8 n l)) ∙ ap (λ (k : ℕ). long_header k (be n ++ r)) (omega arith))

pub list_read : (n : ℕ) (r : List ℕ) → header_of (header lists n ++ r) ≡ told (header_size n) n
list_read n r =
    read_by lists n r
    (λ h. range_4 (lists + n) r (omega arith) (omega arith) ∙ ap (told 1) (omega arith))
    (λ h. range_5 (lists + 55 + length (be n)) (be n ++ r) (omega (arith, be-some n h)) ∙ ap (λ (k : ℕ). long_header k (be n ++ r)) (omega arith))

pub begins_read : (b : List ℕ) (p : PayloadInfo) → Begins b p → header_of b ≡ Ok p
begins_read b p (byte x r h e q) = rw e (range_1 x r (omega arith)) ∙ q
begins_read b p (string n r h e q) = rw e (string_read n r h) ∙ q
begins_read b p (listed n r h e q) = rw e (list_read n r) ∙ q

-- ---- a header that is read is one that is written

-- the long form: k length bytes, at most 8, after a first byte that says so
record Written (first x : ℕ) (r : List ℕ) (p : PayloadInfo) : Type 0 where
  small : p.value_len < 256 ^ 8
  is : x ∷ r ≡ header first p.value_len ++ drop (length (be p.value_len)) r
  told_as : told (header_size p.value_len) p.value_len ≡ Ok p

long-written : (first k x : ℕ) (r : List ℕ) (p : PayloadInfo) → Bytes r → k ≤ 8 → x ≡ first + 55 + k → Long k r p → Written first x r p
unfolding header_size
long-written first k x r p w h e L =
    let v : ℕ = p.value_len in
    let n : be v ≡ take k r = ap be (sym L.num) ∙ be-value (take k r) L.trim (bytes_take k r w) in
    let k' : length (be v) ≡ k = ap length n ∙ length-take-le k r L.cut in
    record {
      small = omega (arith, L.num, value_upper (take k r) (bytes_take k r w), length-take-le k r L.cut, pow-le-pow_right {n = 256} (lit< tt) {i = length (take k r)} {j = 8} (omega (arith, length-take-le k r L.cut)));
      is = rw (header-long first v L.big, k', n, e) (rw (take-append-drop k r));
      told_as = rw (not_lt L.big, k') (ap (λ (h : ℕ). told h v) (sym L.len));
    }

pub header-begins : (b : List ℕ) (p : PayloadInfo) → Bytes b → header_of b ≡ Ok p → Begins b p
unfolding header_of Bytes header_size
header-begins [] p w e = absurd (refused-got e)
header-begins (x ∷ r) p w e =
    by_range x r (Ok p) e
    (λ a q. byte x r (omega arith) refl q)
    (λ a b q. string (x - 0x80) r (omega arith) (rw (header-short strings (x - 0x80) (omega arith)) (ap (λ (y : ℕ). y ∷ r) (omega arith))) (rw (is_lt {a = x - 0x80} {b = 56} (omega arith)) q))
    (λ a b q. let W = long-written strings (x - 0xb7) x r p w.1 (omega arith) (omega arith) (long_read (x - 0xb7) r p q) in string p.value_len _ W.small W.is W.told_as)
    (λ a b q. listed (x - 0xc0) r (omega arith) (rw (header-short lists (x - 0xc0) (omega arith)) (ap (λ (y : ℕ). y ∷ r) (omega arith))) (rw (is_lt {a = x - 0xc0} {b = 56} (omega arith)) q))
    (λ a q. let W = long-written lists (x - 0xf7) x r p w.1 (omega (arith, w.0)) (omega arith) (long_read (x - 0xf7) r p q) in listed p.value_len _ W.small W.is W.told_as)

-- ---- encodings

header_of_lem : (t : Item) (r : List ℕ) → length (enc t) < 256 ^ 8 → header_of (enc t ++ r) ≡ told (length (enc t) - length (payload t)) (length (payload t))
unfolding payload
header_of_lem (str s) r l =
    by_test (itself s)
    (λ i. let b = itself-one s i in rw (enc-itself s i) (rw b.2 (range_1 b.0 r (omega (arith, b.1)))))
    (λ i. rw (enc-string s i, append_assoc)
    (string_read (length s) (s ++ r) (omega (arith, payload-short (str s)))
    ∙ ap (λ (h : ℕ). told h (length s)) (omega (arith, header-size strings (length s), length-append (header strings (length s)) s))))
header_of_lem (list ts) r l =
    rw (enc-list ts, append_assoc)
    (list_read (length (encs ts)) (encs ts ++ r)
    ∙ ap (λ (h : ℕ). told h (length (encs ts))) (omega (arith, header-size lists (length (encs ts)), length-append (header lists (length (encs ts))) (encs ts))))

pub header_of_enc : (t : Item) (r : List ℕ) → length (enc t) < 256 ^ 8
    → (header_of (enc t ++ r) ≡ told (length (enc t) - length (payload t)) (length (payload t)))
    × (payload_info (enc t ++ r) ≡ told (length (enc t) - length (payload t)) (length (payload t)))
unfolding size
header_of_enc t r l =
    let h = header_of_lem t r l in
    (h, sym (info_got (enc t ++ r) (record { header_len = length (enc t) - length (payload t); value_len = length (payload t) }) h (omega (arith, payload-short t, length-append (enc t) r))))
