-- The value of the item at the front of some bytes, by docs/RULES.md, "Value" and "Integers". These are definitions.
use Rattle.std.specs.Prelude.{ℕ, zero, suc, ◌+◌, ◌-◌, ◌^◌, Bool, true, false, cond, not, ◌&&◌, List, [], ◌∷◌, ltb, leb, eqb, length, take, drop, Ok, Err}
use Rattle.rlp.specs.declared.Refusal.TheVariants.{RlpIsTooShort, RlpInvalidIndirection, RlpIsTooBig, RlpInconsistentLengthAndData, RlpInvalidLength, RlpExpectedToBeData, InvalidBoolean}
use Rattle.rlp.specs.Refusals.{Or, also, unless}
use Rattle.rlp.specs.Bytes.{be_value}
use Rattle.header.specs.Header.{length_of, payload_info}
use Rattle.value.specs.declared.Part.{Part}

-- len bytes from start on
abbrev pub placed : ℕ → ℕ → Or Part
placed s n = Ok (record { start = s; len = n })

-- 81 with a byte below 80: the one byte of a string that would be its own encoding
unfoldable pub spare : ℕ → List ℕ → Bool
spare n [] = false
spare n (y ∷ r) = eqb n 1 && ltb y 0x80

-- short data, at the bytes after the first: cut is 5, 81 with a byte below 80 gives 3
unfoldable pub short_value : ℕ → List ℕ → Or Part
short_value n r =
    unless (leb n (length r)) RlpInconsistentLengthAndData
    (unless (not (spare n r)) RlpInvalidIndirection
    (placed 1 n))

-- n bytes of value after k length bytes: the end overflows 6, value cut 5
unfoldable pub long_end : ℕ → List ℕ → ℕ → Or Part
long_end k r n =
    unless (ltb (suc k + n) (2 ^ 64)) RlpInvalidLength
    (unless (leb (k + n) (length r)) RlpInconsistentLengthAndData
    (placed (suc k) n))

-- the long form, at the bytes after the first: with k length bytes. Length bytes cut is 5, then their refusal, then the value's. A long
-- form of 55 or less is not refused
unfoldable pub long_value : ℕ → List ℕ → Or Part
long_value k r = unless (leb k (length r)) RlpInconsistentLengthAndData (also (length_of (take k r)) (long_end k r))

-- where the value lies: empty is 1, a list 7. Bytes after the value are ignored
unfoldable pub value_at : List ℕ → Or Part
value_at [] = Err RlpIsTooShort
value_at (x ∷ r) =
    cond (leb x 0x7f) (placed 0 1)
    (cond (leb x 0xb7) (short_value (x - 0x80) r)
    (cond (leb x 0xbf) (long_value (x - 0xb7) r)
    (Err RlpExpectedToBeData)))

-- `data` uses `payload_info` instead, and also hands back a list's payload
unfoldable pub data_at : List ℕ → Or Part
data_at b = also (payload_info b) λ p. placed p.header_len p.value_len

-- the bytes of a part
unfoldable pub part : List ℕ → Part → List ℕ
part b p = take p.len (drop p.start b)

-- by payload, at a width of w bytes: empty is 0; longer is 4; a first byte 00 is 3
unfoldable pub scalar : ℕ → List ℕ → Or ℕ
scalar w [] = Ok 0
scalar w (zero ∷ r) = unless (leb (length (zero ∷ r)) w) RlpIsTooBig (Err RlpInvalidIndirection)
scalar w (suc x ∷ r) = unless (leb (length (suc x ∷ r)) w) RlpIsTooBig (Ok (be_value (suc x ∷ r)))

-- the value's refusals, then by payload
unfoldable pub uint : ℕ → List ℕ → Or ℕ
uint w b = also (value_at b) λ p. scalar w (part b p)

-- bool takes 0 and 1, else 9
unfoldable pub truth : ℕ → Or Bool
truth zero = Ok false
truth (suc zero) = Ok true
truth (suc (suc n)) = Err InvalidBoolean

unfoldable pub boolean : List ℕ → Or Bool
boolean b = also (uint 1 b) truth
