-- Which refusals the check gives inside a sheet: never 10 and never 12, so those two mean what they say, and never a stream's 20.
-- Assumes nothing.
use Rattle.std.specs.Prelude.{Ok, Err}
use mathlib.Core.Path.{◌≡◌, refl, ap, subst}
use mathlib.Core.Bool.{Bool, true, false, not}
use Prim.Native.Nat.{ℕ, zero, suc, ◌-◌}
use native.Mathlib.Omega.{arith}
use mathlib.Core.List.{List, [], ◌∷◌}
use lib.Dec.{leb, ltb}
use lib.ListN.{length, take}
use Rattle.rlp.specs.declared.Refusal.{Refusal}
use Rattle.rlp.specs.declared.Refusal.TheVariants.{RlpIsTooShort, RlpDataLenWithZeroPrefix, RlpInvalidIndirection, TrailingBytes, TooDeep, TooLarge, StateMismatch}
use Rattle.rlp.specs.Refusals.{Or, also, unless, number_of}
use Rattle.rlp.specs.Bytes.{be_value}
use Rattle.rlp.specs.Limits.{limit, levels}
use Rattle.rlp.specs.Tree.{Item, Items, str, list, end, ◌then◌}
use Rattle.rlp.proofs.Tests.{by_test}
use Rattle.rlp.proofs.Answers.{refused_inj}
use Rattle.header.specs.declared.PayloadInfo.{PayloadInfo}
use Rattle.header.specs.Header.{told, long_header, header_of, size, within, payload_info}
use Rattle.header.proofs.Ranges.{by_range}
use Rattle.list.specs.Kinds.{is_list}
use Rattle.strict.specs.Strict.{is_spare, value_of, Front, item_of, front, row, contents, row_tree}

-- neither 10, nor 12, nor 20
Within : Refusal → Type 0
Within e = (number_of e ≡ 10 → ⊥) × (number_of e ≡ 12 → ⊥) × (number_of e ≡ 20 → ⊥)

-- an answer is not refused with one of these
Fine : {A : Type 0} → Or A → Type 0
Fine (Err e) = Within e
Fine (Ok a) = Unit {0}

fine_also : {A B : Type 0} (o : Or A) (f : A → Or B) → Fine o → ((a : A) → o ≡ Ok a → Fine (f a)) → Fine (also o f)
unfolding also Fine
fine_also (Err e) f h k = h
fine_also (Ok a) f h k = k a refl

fine_unless : {A : Type 0} (t : Bool) (e : Refusal) (o : Or A) → Within e → Fine o → Fine (unless t e o)
unfolding unless Fine
fine_unless true e o h k = k
fine_unless false e o h k = h

within_1 : Within RlpIsTooShort
unfolding Within
within_1 = (λ e. omega arith, λ e. omega arith, λ e. omega arith)

within_2 : Within RlpDataLenWithZeroPrefix
unfolding Within
within_2 = (λ e. omega arith, λ e. omega arith, λ e. omega arith)

within_3 : Within RlpInvalidIndirection
unfolding Within
within_3 = (λ e. omega arith, λ e. omega arith, λ e. omega arith)

within_11 : Within TooDeep
unfolding Within
within_11 = (λ e. omega arith, λ e. omega arith, λ e. omega arith)

fine_got : {A : Type 0} (a : A) → Fine (Ok a)
unfolding Fine
fine_got a = tt

told_fine : (h v : ℕ) → Fine (told h v)
unfolding Fine
told_fine h v = tt

long_fine : (k : ℕ) (r : List ℕ) → Fine (long_header k r)
unfolding long_header Fine
long_fine k [] = within_1
long_fine k (zero ∷ r) = within_2
long_fine k (suc x ∷ r) =
    let v : ℕ = be_value (take k (suc x ∷ r)) in
    fine_unless (leb k (length (suc x ∷ r))) RlpIsTooShort (unless (ltb 55 v) RlpInvalidIndirection (told (suc k) v)) within_1
    (fine_unless (ltb 55 v) RlpInvalidIndirection (told (suc k) v) within_3 (told_fine (suc k) v))

header_fine : (b : List ℕ) → Fine (header_of b)
unfolding header_of Fine
header_fine [] = within_1
header_fine (x ∷ r) =
    by_range x r (header_of (x ∷ r)) refl
    (λ a e. subst Fine e (told_fine 0 1))
    (λ a b e. subst Fine e (told_fine 1 (x - 0x80)))
    (λ a b e. subst Fine e (long_fine (x - 0xb7) r))
    (λ a b e. subst Fine e (told_fine 1 (x - 0xc0)))
    (λ a e. subst Fine e (long_fine (x - 0xf7) r))

info_fine : (b : List ℕ) → Fine (payload_info b)
unfolding payload_info within
info_fine b = fine_also (header_of b) (within (length b)) (header_fine b) (λ p e. fine_unless (leb (size p) (length b)) RlpIsTooShort (Ok p) within_1 (fine_got p))

item_fine : (ins : List ℕ → Or Items) (b : List ℕ) (p : PayloadInfo) → ((s : List ℕ) → Fine (ins s)) → Fine (item_of ins b p)
unfolding item_of
item_fine ins b p h =
    by_test (is_list b)
    (λ e. rw e (fine_also (ins (value_of b p)) (λ l. Ok (list l)) (h (value_of b p)) (λ l q. fine_got (list l))))
    (λ e. rw e (fine_unless (not (is_spare b)) RlpInvalidIndirection _ within_3 (fine_got (str (value_of b p)))))

front-got : (t : Item) (n : ℕ) → Fine {A = Front} (Ok (record { item = t; size = n }))
unfolding Fine
front-got t n = tt

front_fine : (ins : List ℕ → Or Items) (b : List ℕ) → ((s : List ℕ) → Fine (ins s)) → Fine (front ins b)
unfolding front
front_fine ins b h =
    fine_also (payload_info b) (λ p. also (item_of ins b p) (λ t. Ok (record { item = t; size = size p }))) (info_fine b)
    (λ p e. fine_also (item_of ins b p) (λ t. Ok (record { item = t; size = size p })) (item_fine ins b p h) (λ t q. front-got t (size p)))

row_fine : (ins : List ℕ → Or Items) → ((s : List ℕ) → Fine (ins s)) → (skip : ℕ) (b : List ℕ) → Fine (row ins skip b)
unfolding row
row_fine ins h skip [] = fine_got end
row_fine ins h (suc skip) (x ∷ r) = row_fine ins h skip r
row_fine ins h zero (x ∷ r) =
    fine_also (front ins (x ∷ r)) (λ f. also (row ins (f.size - 1) r) (λ l. Ok (f.item then l))) (front_fine ins (x ∷ r) h)
    (λ f e. fine_also (row ins (f.size - 1) r) (λ l. Ok (f.item then l)) (row_fine ins h (f.size - 1) r) (λ l q. fine_got (f.item then l)))

contents_fine : (k : ℕ) (b : List ℕ) → Fine (contents k b)
unfolding contents Fine
contents_fine zero b = within_11
contents_fine (suc k) b = row_fine (contents k) (contents_fine k) 0 b

-- the front of a sheet is never refused with 10 or 12
pub front-within : (k : ℕ) (b : List ℕ) (e : Refusal) → front (contents k) b ≡ Err e → (e ≡ TrailingBytes → ⊥) × (e ≡ TooLarge → ⊥)
unfolding Fine Within
front-within k b e q =
    let h : Within e = subst Fine q (front_fine (contents k) b (contents_fine k)) in
    (λ z. h.0 (ap number_of z), λ z. h.1 (ap number_of z))

-- and neither is a row of items
pub row_within : (k : ℕ) (b : List ℕ) (e : Refusal) → row (contents k) 0 b ≡ Err e → (e ≡ TrailingBytes → ⊥) × (e ≡ TooLarge → ⊥)
unfolding Fine Within
row_within k b e q =
    let h : Within e = subst Fine q (row_fine (contents k) (contents_fine k) 0 b) in
    (λ z. h.0 (ap number_of z), λ z. h.1 (ap number_of z))

-- bytes read as a payload are never refused with 20
pub row_tree-within : (b : List ℕ) → row_tree b ≡ Err StateMismatch → ⊥
unfolding row_tree unless Fine Within
row_tree-within b =
    by_test (leb (length b) limit)
    (λ e. rw e λ q. let h : Within StateMismatch = subst Fine q (row_fine (contents levels) (contents_fine levels) 0 b) in h.2 refl)
    (λ e. rw e λ q. omega (arith, ap number_of (refused_inj q)))
