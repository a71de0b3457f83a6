-- What is read into a buffer, turn by turn, and that the bytes read have the answer of the file. Assumes nothing.
use Rattle.std.proofs.Common.{◌≡◌, ℕ, ◌+◌, ◌-◌, ◌^◌, ◌≤◌, List, ◌++◌, None, Some, IfSome, arith, sym, ap, ◌∙◌, subst, length, take, length-take-le, take_all}
use Rattle.std.proofs.lemmas.List.{take-append-le}
use Rattle.std.proofs.Math.Seq.{take-append-add}
use Rattle.std.specs.Prelude.{Option, Result, Ok, Err, OnOk}
use Rattle.std.specs.Result.{MatchResult, IfOk, is_ok}
use mathlib.Core.Bool.{true≢false}
use Rattle.std.specs.Io.KnownBytes.{Appends}
use borrow.Rule.Slice.PartMut.{put_mid, post_of}
use Rattle.rlp.proofs.Tests.{by_lt}
use Rattle.rlp.specs.Refusals.{Or}
use Rattle.strict.specs.declared.Tally.{Tally}
use Rattle.encode.specs.Put.{put}
use Rattle.verdict.specs.Verdict.{verdict}
use Rattle.verdict.specs.Line.{line_of}
use Rattle.verdict.proofs.Claims.{large_is_12}

Ok_inj : {T E : Type 0} {x y : T} → ◌≡◌ {A = Result T E} (Ok x) (Ok y) → x ≡ y
Ok_inj e = cc

-- behind the first i bytes of b stand the first n of c, where c was read
pub read_next : (i n : ℕ) (b c : List ℕ) → i ≤ length b → n ≤ length c → take i b ++ take n c ≡ take (i + n) (put_mid i (length b - i) b c)
read_next i n b c h f =
    let rest = post_of i (length b - i) b in
    sym (
    ap (λ (k : ℕ). take (k + n) (put_mid i (length b - i) b c)) (sym (length-take-le i b h))
    ∙ take-append-add (take i b) (c ++ rest) n
    ∙ ap (λ (l : List ℕ). take i b ++ l) (take-append-le n c rest f)
    )

-- 65,537 bytes of a file have the answer of all of it
pub verdict-take : (b : List ℕ) → verdict (take (2 ^ 16 + 1) b) ≡ verdict b
verdict-take b =
    by_lt (2 ^ 16) (length b) (λ h.
    let n : length (take (2 ^ 16 + 1) b) ≡ 2 ^ 16 + 1 = length-take-le (2 ^ 16 + 1) b (omega arith) in
    (large_is_12 (take (2 ^ 16 + 1) b)).1 (omega arith) ∙ sym ((large_is_12 b).1 h)) (λ h.
    ap verdict (take_all (2 ^ 16 + 1) b (omega arith)))

-- so their line is the file's, where the file's bytes are known
pub line_known : (known old new : Option (List ℕ)) (part : List ℕ) (room : ℕ) → room ≡ 2 ^ 16 + 1 → IfSome known (λ bytes. part ≡ take room bytes)
    → Appends old new (line_of (verdict part)) → IfSome known (λ bytes. Appends old new (line_of (verdict bytes)))
line_known None old new part room e p a = tt
line_known (Some b) old new part room e p a =
    subst (λ (v : Or Tally). Appends old new (line_of v)) (ap verdict (p ∙ ap (λ (k : ℕ). take k b) e) ∙ verdict-take b) a

-- ---- behind a `map_err`, which makes of an error another

-- what is there was there before
pub mapped_ok : {T E F : Type 0} (P : T → Type 0) (Q : E → Type 0) (s : Result T E) {r : Result T F} {n : T} → MatchResult s (λ x. r ≡ Ok x) Q → is_ok r ≡ is_ok s → r ≡ Ok n
    → IfOk s P → P n
mapped_ok P Q (Ok x) m v e p = subst P (Ok_inj (sym m ∙ e)) p
mapped_ok P Q (Err d) m v e p = absurd (true≢false (sym (ap is_ok e) ∙ v))

pub on_mapped : {T E F : Type 0} (P : Type 0) (s : Result T E) (r : Result T F) → is_ok r ≡ is_ok s → OnOk s P → OnOk r P
on_mapped P (Ok x) (Ok y) v p = p
on_mapped P s (Err y) v p = tt
on_mapped P (Err d) (Ok y) v p = absurd (true≢false v)

-- what `line` puts at the front of a buffer is the line
pub front_put : (o x : List ℕ) (n : ℕ) → n ≡ length x → take n (put o 0 x) ≡ x
unfolding put
front_put o x n e = rw e (take-append-le (length x) x _ (omega arith)) ∙ take_all (length x) x (omega arith)
