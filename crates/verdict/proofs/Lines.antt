-- A line written piece by piece, and that a line tells its answer. Assumes nothing.
use Rattle.std.specs.Prelude.{Ok, Err}
use mathlib.Core.Path.{◌≡◌, refl, sym, ap, ◌∙◌}
use Prim.Native.Nat.{ℕ, ◌+◌, ◌≤◌, ◌<◌}
use native.Mathlib.Omega.{arith}
use mathlib.Core.List.{List, [], ◌∷◌, ◌++◌, append_assoc}
use lib.Dec.{lit<}
use lib.ListN.{length, drop, get_or, length-append}
use Rattle.rlp.specs.declared.Refusal.{Refusal}
use Rattle.rlp.specs.Refusals.{number_of, Or}
use Rattle.rlp.proofs.Claims.{numbers_are_names}
use Rattle.strict.specs.declared.Tally.{Tally}
use Rattle.encode.specs.Put.{put}
use Rattle.encode.proofs.Puts.{put-more, put-length}
use Rattle.verdict.specs.Decimal.{decimal, AreDigits}
use Rattle.verdict.specs.Line.{accepted_items, and_depth, refused_with, newline, accepted_line, refused_line, line_of}
use Rattle.verdict.specs.Steps.{Spelled, Lined}
use Rattle.verdict.proofs.Decimals.{in_decimal, decimal_inj}

-- ---- piece by piece

-- behind x, which stands at the front, y is written
pub put_next : (o b c x y : List ℕ) (i : ℕ) → length x ≤ length o → b ≡ put o 0 x → i ≡ length x → c ≡ put b i y → c ≡ put o 0 (x ++ y)
put_next o b c x y i f e l g =
    let z : i ≡ 0 + length x = omega arith in
    g ∙ ap (λ (k : ℕ). put b k y) z ∙ ap (λ (b : List ℕ). put b (0 + length x) y) e ∙ put-more o 0 x (omega arith) y

-- three pieces
put_three : (o b c d x y z : List ℕ) (i j : ℕ) → length x + length y ≤ length o → b ≡ put o 0 x → i ≡ length x → c ≡ put b i y
    → j ≡ i + length y → d ≡ put c j z → d ≡ put o 0 (x ++ (y ++ z))
put_three o b c d x y z i j f p h q l r =
    put_next o c d (x ++ y) z j (omega (arith, length-append x y)) (put_next o b c x y i (omega arith) p h q) (omega (arith, length-append x y)) r
    ∙ ap (put o 0) (append_assoc x y z)

three_long : (x y z : List ℕ) → length (x ++ (y ++ z)) ≡ length x + length y + length z
three_long x y z = simp length-append (omega arith)

regroup : (x y z u v : List ℕ) → (x ++ (y ++ z)) ++ (u ++ v) ≡ x ++ (y ++ (z ++ (u ++ v)))
regroup x y z u v = simp append_assoc

lined : (o c x : List ℕ) (r : ℕ) → r ≤ length o → c ≡ put o 0 x → r ≡ length x → Lined o c x r
lined o c x r h e l = record { bytes = e; count = l; fits = omega (arith, ap length e, put-length o 0 x (omega arith)) }

-- a refusal's line, and that of an accepted sheet
pub refused-put : (o b c d : List ℕ) (e : Refusal) (j : ℕ) → 64 ≤ length o → b ≡ put o 0 refused_with → Spelled b c 8 (number_of e) j
    → d ≡ put c j newline → Lined o d (refused_line e) (j + 1)
unfolding refused_line
refused-put o b c d e j room p S q =
    let n : List ℕ = decimal (number_of e) in
    let l : j + 1 ≡ length (refused_with ++ (n ++ newline)) = omega (arith, S.behind, three_long refused_with n newline) in
    lined o d _ (j + 1) (omega (arith, S.few))
    (put_three o b c d refused_with n newline 8 j (omega (arith, S.behind, S.few)) p refl S.bytes S.behind q) l

pub accepted-put : (o b c d e f : List ℕ) (n m i j : ℕ) → 64 ≤ length o → b ≡ put o 0 accepted_items → Spelled b c 15 n i → d ≡ put c i and_depth
    → Spelled d e (i + 7) m j → f ≡ put e j newline → Lined o f (accepted_line n m) (j + 1)
unfolding accepted_line
accepted-put o b c d e f n m i j room p S q R r =
    let x : List ℕ = decimal n in
    let y : List ℕ = decimal m in
    let w : List ℕ = accepted_items ++ (x ++ and_depth) in
    let a : d ≡ put o 0 w = put_three o b c d accepted_items x and_depth 15 i (omega (arith, S.behind, S.few)) p refl S.bytes S.behind q in
    let l : i + 7 ≡ length w = omega (arith, S.behind, three_long accepted_items x and_depth) in
    let g : w ++ (y ++ newline) ≡ accepted_items ++ (x ++ (and_depth ++ (y ++ newline))) = regroup accepted_items x and_depth y newline in
    lined o f _ (j + 1) (omega (arith, S.few, R.few))
    (put_three o d e f w y newline (i + 7) j (omega (arith, S.few, R.behind, R.few)) a l R.bytes R.behind r ∙ ap (put o 0) g)
    (omega (arith, R.behind, three_long w y newline, ap length g))

-- ---- the line tells the answer

-- digits before something that begins with no digit end where that begins
split : (s t x y : List ℕ) → AreDigits s → AreDigits t → get_or x 0 0 < 48 → get_or y 0 0 < 48 → s ++ x ≡ t ++ y → (s ≡ t) × (x ≡ y)
unfolding AreDigits
split [] [] x y a b h l e = (refl, e)
split [] (d ∷ t) x y a b h l e = absurd (omega (arith, ap (λ (z : List ℕ). get_or z 0 0) e, b.0))
split (c ∷ s) [] x y a b h l e = absurd (omega (arith, ap (λ (z : List ℕ). get_or z 0 0) e, a.0))
split (c ∷ s) (d ∷ t) x y a b h l e =
    let z : c ≡ d = ap (λ (z : List ℕ). get_or z 0 0) e in
    let q = split s t x y a.2 b.2 h l (ap (drop 1) e) in
    (cc q.0, q.1)

-- numbers in decimal before something that begins with no digit
split_decimal : (n m : ℕ) (x y : List ℕ) → get_or x 0 0 < 48 → get_or y 0 0 < 48 → decimal n ++ x ≡ decimal m ++ y → (n ≡ m) × (x ≡ y)
split_decimal n m x y h l e =
    let q = split (decimal n) (decimal m) x y (in_decimal n).digits (in_decimal m).digits h l e in
    (decimal_inj n m q.0, q.1)

accepted_tells : (n d m e : ℕ) → accepted_line n d ≡ accepted_line m e → (n ≡ m) × (d ≡ e)
unfolding accepted_line
accepted_tells n d m e p =
    let q = split_decimal n m (and_depth ++ (decimal d ++ newline)) (and_depth ++ (decimal e ++ newline)) (lit< tt) (lit< tt) (ap (drop 15) p) in
    (q.0, (split_decimal d e newline newline (lit< tt) (lit< tt) (ap (drop 7) q.1)).0)

refused_tells : (d e : Refusal) → refused_line d ≡ refused_line e → d ≡ e
unfolding refused_line
refused_tells d e p = (numbers_are_names d e).2 (split_decimal (number_of d) (number_of e) newline newline (lit< tt) (lit< tt) (ap (drop 8) p)).0

-- an `a` is no `r`
differ : (n d : ℕ) (e : Refusal) → accepted_line n d ≡ refused_line e → ⊥
unfolding accepted_line refused_line
differ n d e p = omega (arith, ap (λ (z : List ℕ). get_or z 0 0) p)

pub line_tells : (a c : Or Tally) → line_of a ≡ line_of c → a ≡ c
unfolding line_of
line_tells (Ok t) (Ok u) p = let q = accepted_tells t.items t.depth u.items u.depth p in same q.0 q.1
  where
    same : {n d m e : ℕ} → n ≡ m → d ≡ e → ◌≡◌ {A = Or Tally} (Ok (record { items = n; depth = d })) (Ok (record { items = m; depth = e }))
    same x y = cc
line_tells (Ok t) (Err e) p = absurd (differ t.items t.depth e p)
line_tells (Err d) (Ok u) p = absurd (differ u.items u.depth d (sym p))
line_tells (Err d) (Err e) p = ap Err (refused_tells d e p)
