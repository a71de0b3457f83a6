-- The header at the front of some bytes, by docs/RULES.md, "Length bytes" and "Header". These are definitions.
use Rattle.std.specs.Prelude.{ℕ, zero, suc, ◌+◌, ◌-◌, ◌^◌, cond, List, [], ◌∷◌, length, take, nat_le, nat_lt, Ok, Err}
use Rattle.rlp.specs.declared.Refusal.TheVariants.{RlpIsTooShort, RlpDataLenWithZeroPrefix, RlpInvalidIndirection, RlpIsTooBig}
use Rattle.rlp.specs.Refusals.{Or, also, unless}
use Rattle.rlp.specs.Bytes.{be_value}
use Rattle.header.specs.declared.PayloadInfo.{PayloadInfo}

-- the number of some length bytes: over 8 bytes is 4, none is 1, a first byte 0 is 3
unfoldable pub length_in : List ℕ → Or ℕ
length_in [] = Err RlpIsTooShort
length_in (zero ∷ r) = Err RlpInvalidIndirection
length_in (suc x ∷ r) = Ok (be_value (suc x ∷ r))

unfoldable pub length_of : List ℕ → Or ℕ
length_of b = unless (nat_le (length b) 8) RlpIsTooBig (length_in b)

-- a header of h bytes that tells of v bytes of value
abbrev pub told : ℕ → ℕ → Or PayloadInfo
told h v = Ok (record { header_len = h; value_len = v })

-- the long form, at the bytes after the first: with k length bytes. A second byte 0 is 2, an absent one 1; length bytes cut is 1;
-- a length of 55 or less is 3
unfoldable pub long_header : ℕ → List ℕ → Or PayloadInfo
long_header k [] = Err RlpIsTooShort
long_header k (zero ∷ r) = Err RlpDataLenWithZeroPrefix
long_header k (suc x ∷ r) =
    unless (nat_le k (length (suc x ∷ r))) RlpIsTooShort
    (unless (nat_lt 55 (be_value (take k (suc x ∷ r)))) RlpInvalidIndirection
    (told (suc k) (be_value (take k (suc x ∷ r)))))

-- the first byte falls in one of five ranges: up to 7f, up to b7, up to bf, up to f7, the rest
unfoldable pub header_of : List ℕ → Or PayloadInfo
header_of [] = Err RlpIsTooShort
header_of (x ∷ r) =
    cond (nat_le x 0x7f) (told 0 1)
    (cond (nat_le x 0xb7) (told 1 (x - 0x80))
    (cond (nat_le x 0xbf) (long_header (x - 0xb7) r)
    (cond (nat_le x 0xf7) (told 1 (x - 0xc0))
    (long_header (x - 0xf7) r))))

-- header plus value
unfoldable pub size : PayloadInfo → ℕ
size p = p.header_len + p.value_len

-- ... gives 1 where it passes the slice, so also where it overflows: no slice has 2 ^ 64 bytes
unfoldable pub within : ℕ → PayloadInfo → Or PayloadInfo
within n p = unless (nat_le (size p) n) RlpIsTooShort (Ok p)

unfoldable pub payload_info : List ℕ → Or PayloadInfo
payload_info b = also (header_of b) (within (length b))

-- `total` refuses overflow with 1
unfoldable pub total_of : PayloadInfo → Or ℕ
total_of p = unless (nat_lt (size p) (2 ^ 64)) RlpIsTooShort (Ok (size p))

-- how many bytes the item at the front takes
unfoldable pub item_step : List ℕ → Or ℕ
item_step b = also (payload_info b) (λ p. Ok (size p))

-- ... and 0 where it is refused
unfoldable pub size_in : Or PayloadInfo → ℕ
size_in (Ok p) = size p
size_in (Err e) = 0

unfoldable pub whole_size : List ℕ → ℕ
whole_size b = size_in (payload_info b)
