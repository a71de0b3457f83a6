-- The header lies within the bytes, and the item does exactly if `payload_info` takes it. Assumes nothing.
use Rattle.std.specs.Prelude.{Ok, Err}
use Rattle.std.proofs.Common.{◌≡◌, ℕ, ◌+◌, ◌-◌, ◌<◌, ◌≤◌, leb, List, [], ◌∷◌, length, sym, ap, ◌∙◌, subst, arith, leb-true}
use Rattle.rlp.specs.declared.Refusal.{Refusal}
use Rattle.rlp.specs.declared.Refusal.TheVariants.{RlpIsTooShort}
use Rattle.rlp.specs.Refusals.{Or, also}
use Rattle.rlp.proofs.Tests.{is_le, not_le}
use Rattle.rlp.proofs.Answers.{refused-got, got_inj, also-got, unless-got, unless-true, unless-false}
use Rattle.header.specs.declared.PayloadInfo.{PayloadInfo}
use Rattle.header.specs.Header.{long_header, header_of, size, within, payload_info, item_step}
use Rattle.header.proofs.Ranges.{long_read, by_range}

-- the header is there, and header and value together are a byte at least
Sized : List ℕ → PayloadInfo → Type 0
Sized b p = (p.header_len ≤ length b) × (0 < size p)

sized-long : (k x : ℕ) (r : List ℕ) (p : PayloadInfo) → long_header k r ≡ Ok p → Sized (x ∷ r) p
unfolding Sized size
sized-long k x r p e = let L = long_read k r p e in (omega (arith, L.len, L.cut), omega (arith, L.len))

pub header-sized : (b : List ℕ) (p : PayloadInfo) → header_of b ≡ Ok p → (p.header_len ≤ length b) × (0 < size p)
unfolding Sized header_of size
header-sized [] p e = absurd (refused-got e)
header-sized (x ∷ r) p e =
    by_range x r (Ok p) e
    (λ a q. subst (Sized (x ∷ r)) (got_inj q) (omega arith, omega arith))
    (λ a b q. subst (Sized (x ∷ r)) (got_inj q) (omega arith, omega arith))
    (λ a b q. sized-long (x - 0xb7) x r p q)
    (λ a b q. subst (Sized (x ∷ r)) (got_inj q) (omega arith, omega arith))
    (λ a q. sized-long (x - 0xf7) x r p q)

pub header_inside : (b : List ℕ) (p : PayloadInfo) → header_of b ≡ Ok p → p.header_len ≤ length b
header_inside b p e = (header-sized b p e).0

-- ---- the rules of `payload_info`

module _ (b : List ℕ) where
  pub info_refused : (e : Refusal) → header_of b ≡ Err e → Err e ≡ payload_info b
  unfolding payload_info also
  info_refused e h = sym (ap (λ (o : Or PayloadInfo). also o (within (length b))) h)

  module _ (p : PayloadInfo) (h : header_of b ≡ Ok p) where
    bounded : payload_info b ≡ within (length b) p
    unfolding payload_info also
    bounded = ap (λ (o : Or PayloadInfo). also o (within (length b))) h

    pub info_cut : length b < size p → Err RlpIsTooShort ≡ payload_info b
    unfolding within
    info_cut l = sym (bounded ∙ unless-false RlpIsTooShort (Ok p) (not_le l))

    pub info_got : size p ≤ length b → Ok p ≡ payload_info b
    unfolding within
    info_got l = sym (bounded ∙ unless-true RlpIsTooShort (Ok p) (is_le l))

  pub info_fits : (p : PayloadInfo) → payload_info b ≡ Ok p → (header_of b ≡ Ok p) × (size p ≤ length b)
  unfolding payload_info within
  info_fits p e =
      let a = also-got (header_of b) (within (length b)) p e in
      let q : PayloadInfo = a.0 in
      let t = unless-got (leb (size q) (length b)) RlpIsTooShort (Ok q) p a.2 in
      (a.1 ∙ t.1, subst (λ (p : PayloadInfo). size p ≤ length b) (got_inj t.1) (leb-true (size q) (length b) t.0))

pub item_inside : (b : List ℕ) (p : PayloadInfo) → payload_info b ≡ Ok p → p.header_len + p.value_len ≤ length b
unfolding size
item_inside b p e = (info_fits b p e).1

-- ---- the rules of `total`

-- ---- the rules of `item_step`

-- an item that was sized is a byte at least, and within the bytes
pub item_sized : (b : List ℕ) (n : ℕ) → item_step b ≡ Ok n → (p : PayloadInfo) × (payload_info b ≡ Ok p) × (n ≡ size p) × (0 < n) × (n ≤ length b)
unfolding item_step size
item_sized b n e =
    let a = also-got (payload_info b) (λ p. Ok (size p)) n e in
    let f = info_fits b a.0 a.1 in
    let z = got_inj a.2 in
    (a.0, a.1, sym z, omega (arith, (header-sized b a.0 f.0).1, z), omega (arith, f.1, z))
