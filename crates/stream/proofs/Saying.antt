-- A call does to what is shown what it says. Assumes nothing.
use Rattle.std.specs.Prelude.{◌≡◌, ℕ, zero, suc, ◌+◌, ◌-◌, ◌<◌, ◌≤◌, max, true, false, eqb, leb, List, ◌∷◌, ◌++◌, length, drop, Ok, Err}
use mathlib.Core.Path.{refl, sym, ap, ◌∙◌}
use native.Mathlib.Omega.{arith}
use mathlib.Core.List.{append_assoc, append-nil}
use lib.ListN.{length-append}
use lib.Seq.{take-append_seam, drop-append-add}
use borrow.Author.Tests.{leb-true, ltb-true, eqb-true, eqb-false}
use Rattle.rlp.specs.declared.Refusal.TheVariants.{TooDeep, TooLarge, TooManyItems, CountMismatch}
use Rattle.rlp.specs.Refusals.{Or, also, unless}
use Rattle.rlp.specs.Limits.{limit, levels}
use Rattle.rlp.specs.Bytes.{Bytes}
use Rattle.rlp.specs.Tree.{Item, Items, str, list, end, ◌then◌, lists, header, enc, encs, many, joined, depth, deepest}
use Rattle.rlp.proofs.Tests.{is_lt, is_le, by_test}
use Rattle.rlp.proofs.Answers.{refused-got, got_inj, also-got, unless-got}
use Rattle.rlp.proofs.Sizes.{enc-some, encs-joined}
use Rattle.strict.specs.Strict.{row, contents, row_tree}
use Rattle.strict.proofs.Sound.{row-tree}
use Rattle.stream.specs.State.{Most, any, up_to, waits, full, holds, sane, sound, View}
use Rattle.stream.specs.Stream.{closed, counted, appended, begun, level, unless_counted, finalized, takes, raw_items, Call, value, begin, unbounded, finalize, raw, clear, lent, own}
use Rattle.stream.specs.Said.{Said, top, inner, add, ended, add_read, step, rendered, opens_of, shown, opened, deeper, takes_of, ends, says}
use Rattle.stream.specs.Claims.{Deep}
use Rattle.stream.proofs.Stores.{Waiting}

pub many-joined : (k l : Items) → many (joined k l) ≡ many k + many l
unfolding many joined
many-joined end l = omega arith
many-joined (t then k) l = rw (many-joined k l) (omega arith)

-- ---- a list that closes

closed_at : (a e : List ℕ) → closed (suc (length a)) (a ++ 0 ∷ e) ≡ a ++ (header lists (length e) ++ e)
unfolding closed
closed_at a e =
    let p : suc (length a) - 1 ≡ length a = omega arith in
    let q : length (a ++ 0 ∷ e) - suc (length a) ≡ length e = omega (arith, length-append a (0 ∷ e)) in
    let n : suc (length a) ≡ length a + 1 = omega arith in
    let r : drop (suc (length a)) (a ++ 0 ∷ e) ≡ e = rw n (drop-append-add a (0 ∷ e) 1) in
    rw (p, q, r, take-append_seam)

-- so a list that was said whole is shown as an item of its parent
close_shows : (m : Said) (k : Items) → closed (suc (length (rendered m))) (rendered m ++ 0 ∷ encs k) ≡ rendered m ++ encs (list k then end)
unfolding enc
close_shows m k = closed_at (rendered m) (encs k) ∙ rw append-nil

close_more : (m : Said) (k l : Items)
    → closed (suc (length (rendered m))) ((rendered m ++ 0 ∷ encs k) ++ encs l) ≡ rendered m ++ encs (list (joined k l) then end)
close_more m k l = rw (append_assoc, ← encs-joined k l, close_shows m (joined k l))

-- items that are said, whatever closes then
pub add_shows : (l : Items) (m : Said) → counted (many l) (opens_of m) (rendered m ++ encs l) ≡ shown (add l m)
unfolding counted opens_of rendered shown add many
add_shows l (top k) = rw (encs-joined k l)
add_shows l (inner m x k) =
    by_test (full (many k + many l) x)
    (λ e. rw (e, close_more m k l) (add_shows (list (joined k l) then end) m))
    (λ e. rw (e, append_assoc, many-joined k l, encs-joined k l))

item_shows : (t : Item) (m : Said) → counted 1 (opens_of m) (rendered m ++ enc t) ≡ shown (add (t then end) m)
unfolding encs many
item_shows t m = rw (append-nil (enc t)) at (add_shows (t then end) m)

-- ---- a call's own refusals

pub length-opens_of : (m : Said) → length (opens_of m) ≡ opened m
unfolding opens_of opened
length-opens_of (top k) = refl
length-opens_of (inner m x k) = rw (length-opens_of m)

-- what is shown of what was said, if it was not refused
abbrev showing : Or Said → Or View
showing o = also o (λ k. Ok (shown k))

level_shows : (n : ℕ) (m r : Said) (v : View) → v ≡ shown r → level n (shown m) v ≡ showing (deeper n m r)
unfolding level deeper unless shown also
level_shows n m r v e = rw (length-opens_of m, e) (by_test (leb (opened m + n) levels) (λ t. rw t) (λ t. rw t))

takes_shows : (n : ℕ) (m : Said) → takes n (opens_of m) ≡ takes_of n m
unfolding takes takes_of opens_of
takes_shows n (top k) = refl
takes_shows n (inner m x k) = refl

raw_shows : (x : List ℕ) (n : ℕ) (m : Said) (l : Items) → encs l ≡ x
    → raw_items x n (shown m) l
    ≡ showing
    (unless (eqb (many l) n) CountMismatch
    (unless (takes_of n m) TooManyItems
    (deeper (deepest l) m (add l m))))
unfolding raw_items unless also shown appended
raw_shows x n m l e =
    by_test (eqb (many l) n)
    (λ t. rw t
    (rw (takes_shows n m)
    (by_test (takes_of n m)
    (λ u. rw u
    (level_shows (deepest l) m (add l m) (counted n (opens_of m) (rendered m ++ x)) (rw (← eqb-true (many l) n t, ← e) (add_shows l m))))
    (λ u. rw u))))
    (λ t. rw t)

ends_shows : (m : Said) → finalized (opens_of m) (rendered m) ≡ showing (ends m)
unfolding finalized unless_counted ends opens_of rendered also ended many
ends_shows (top k) = refl
ends_shows (inner m any k) = rw (close_shows m k) (ap Ok (add_shows (list k then end) m))
ends_shows (inner m (up_to n) k) = refl

-- what was read as a payload has the bytes that it was read from
pub row_tree-bytes : (x : List ℕ) (l : Items) → Bytes x → row_tree x ≡ Ok l → encs l ≡ x
unfolding row_tree
row_tree-bytes x l b e = (row-tree levels x l b (unless-got (leb (length x) limit) TooLarge (row (contents levels) 0 x) l e).1).0

-- each call, with its own refusals
pub own-says : (c : Call) (m : Said) → Bytes (lent c) → own c (shown m) ≡ showing (says m c)
unfolding own says step appended begun shown also encs lent rendered opens_of many
own-says (value x) m b = ap Ok (item_shows (str x) m)
own-says (begin zero) m b = level_shows 1 m (add (list end then end) m) (counted 1 (opens_of m) (rendered m ++ enc (list end))) (item_shows (list end) m)
own-says (begin (suc n)) m b = level_shows 1 m (inner m (up_to (suc n)) end) (begun (up_to (suc n)) (shown m)) refl
own-says unbounded m b = level_shows 1 m (inner m any end) (begun any (shown m)) refl
own-says finalize m b = ends_shows m
own-says (raw x n) m b = go (row_tree x) refl
  where
    go : (o : Or Items) → row_tree x ≡ o → own (raw x n) (shown m) ≡ showing (says m (raw x n))
    go (Err e) p = rw p
    go (Ok l) p = rw p (raw_shows x n m l (row_tree-bytes x l b p))
own-says clear m b = refl

-- ---- what every said thing keeps to: its lists wait, and nothing lies deeper than the levels

pub deep-opened : (m : Said) → Deep m → opened m ≤ levels
unfolding Deep opened
deep-opened (top k) d = omega arith
deep-opened (inner m x k) d = omega (arith, d.1)

deepest-joined : (k l : Items) → deepest (joined k l) ≡ max (deepest k) (deepest l)
unfolding deepest joined
deepest-joined end l = omega arith
deepest-joined (t then k) l = rw (deepest-joined k l) (omega arith)

add-deep : (l : Items) (m : Said) → Deep m → opened m + deepest l ≤ levels → Deep (add l m)
unfolding Deep add opened depth
add-deep l (top k) d h = rw (deepest-joined k l) (omega arith)
add-deep l (inner m x k) d h =
    by_test (full (many k + many l) x)
    (λ e. rw e (add-deep (list (joined k l) then end) m d.0 (rw (deepest-joined k l) (omega (arith, d.1)))))
    (λ e. rw e (d.0, rw (deepest-joined k l) (omega (arith, d.1))))

waits-holds : (c : ℕ) (x : Most) → waits c x ≡ true → holds (c + 1) x ≡ true
unfolding waits holds
waits-holds c any e = refl
waits-holds c (up_to n) e = is_le {a = c + 1} {b = n} (omega (arith, ltb-true c n e))

holds-waits : (c : ℕ) (x : Most) → holds c x ≡ true → full c x ≡ false → waits c x ≡ true
unfolding waits holds full
holds-waits c any h e = refl
holds-waits c (up_to n) h e = is_lt {a = c} {b = n} (omega (arith, leb-true c n h, eqb-false c n e))

-- a list that waits takes one
waiting-takes : (m : Said) → Waiting (opens_of m) → takes_of 1 m ≡ true
unfolding Waiting opens_of takes_of
waiting-takes (top k) w = refl
waiting-takes (inner m x k) w = waits-holds (many k) x w.0

add-waiting : (l : Items) (m : Said) → Waiting (opens_of m) → takes_of (many l) m ≡ true → Waiting (opens_of (add l m))
unfolding Waiting opens_of add takes_of many
add-waiting l (top k) w t = tt
add-waiting l (inner m x k) w t =
    by_test (full (many k + many l) x)
    (λ e. rw e (add-waiting (list (joined k l) then end) m w.1 (waiting-takes m w.1)))
    (λ e. rw e (rw (many-joined k l) (holds-waits (many k + many l) x t e), w.1))

pub record Fit (m : Said) : Type 0 where
  pub deep : Deep m
  pub waiting : Waiting (opens_of m)

-- a list that takes some, or any number, opens
inner_fit : (m : Said) (x : Most) → Fit m → waits 0 x ≡ true → opened m + 1 ≤ levels → Fit (inner m x end)
unfolding Deep Waiting opens_of many deepest
inner_fit m x f w h = record { deep = (f.deep, omega arith); waiting = (w, f.waiting) }

add_fit : (l : Items) (m : Said) → Fit m → takes_of (many l) m ≡ true → opened m + deepest l ≤ levels → Fit (add l m)
add_fit l m f t d = record { deep = add-deep l m f.deep d; waiting = add-waiting l m f.waiting t }

item_fit : (t : Item) (m : Said) → Fit m → opened m + depth t ≤ levels → Fit (add (t then end) m)
unfolding many deepest
item_fit t m f d = add_fit (t then end) m f (waiting-takes m f.waiting) (omega arith)

-- an accepted call says what `step` says of it, and keeps to the limits
pub record Stepped (m : Said) (c : Call) (n : Said) : Type 0 where
  pub is : n ≡ step m c
  pub fit : Fit n

-- it is enough to show so of what is accepted
stepped : {m n r : Said} {c : Call} → ◌≡◌ {A = Or Said} (Ok r) (Ok n) → r ≡ step m c → Fit r → Stepped m c n
stepped e i f = rw (← got_inj e) (record { is = i; fit = f })

pub says_steps : (c : Call) (m n : Said) → Fit m → says m c ≡ Ok n → Stepped m c n
unfolding says step waits deepest ends deeper ended unless_counted add_read Deep Waiting opens_of
says_steps (value x) m n f e = stepped e refl (item_fit (str x) m f (omega (arith, deep-opened m f.deep)))
says_steps (begin zero) m n f e =
    let p = unless-got (leb (opened m + 1) levels) TooDeep (Ok (add (list end then end) m)) n e in
    stepped p.1 refl (item_fit (list end) m f (omega (arith, leb-true (opened m + 1) levels p.0)))
says_steps (begin (suc x)) m n f e =
    let p = unless-got (leb (opened m + 1) levels) TooDeep (Ok (inner m (up_to (suc x)) end)) n e in
    stepped p.1 refl (inner_fit m (up_to (suc x)) f (is_lt {a = 0} {b = suc x} (omega arith)) (leb-true (opened m + 1) levels p.0))
says_steps unbounded m n f e =
    let p = unless-got (leb (opened m + 1) levels) TooDeep (Ok (inner m any end)) n e in
    stepped p.1 refl (inner_fit m any f refl (leb-true (opened m + 1) levels p.0))
says_steps finalize (top k) n f e = absurd (refused-got e)
says_steps finalize (inner m any k) n f e =
    stepped e refl (item_fit (list k) m (record { deep = f.deep.0; waiting = f.waiting.1 }) (omega (arith, f.deep.1)))
says_steps finalize (inner m (up_to x) k) n f e = absurd (refused-got e)
says_steps (raw x y) m n f e =
    let a = also-got (row_tree x) (λ l. unless (eqb (many l) y) CountMismatch (unless (takes_of y m) TooManyItems (deeper (deepest l) m (add l m)))) n e in
    let l : Items = a.0 in
    let p = unless-got (eqb (many l) y) CountMismatch (unless (takes_of y m) TooManyItems (deeper (deepest l) m (add l m))) n a.2 in
    let q = unless-got (takes_of y m) TooManyItems (deeper (deepest l) m (add l m)) n p.1 in
    let r = unless-got (leb (opened m + deepest l) levels) TooDeep (Ok (add l m)) n q.1 in
    stepped r.1 (ap (λ o. add_read o m) (sym a.1))
    (add_fit l m f (rw (eqb-true (many l) y p.0) q.0) (leb-true (opened m + deepest l) levels r.0))
says_steps clear m n f e = stepped e refl (record { deep = omega arith; waiting = tt })

-- ---- 20 is not given

many-bytes : (l : Items) → many l ≤ length (encs l)
unfolding many encs
many-bytes end = omega arith
many-bytes (t then l) = omega (arith, many-bytes l, enc-some t, length-append (enc t) (encs l))

pub sound_shows : (m : Said) (written bound : ℕ) → Waiting (opens_of m) → length (rendered m) ≤ written → length (rendered m) < bound → sound written bound (opens_of m) ≡ true
unfolding sound sane opens_of rendered Waiting
sound_shows (top k) written bound w h i = refl
sound_shows (inner m x k) written bound w h i =
    let n : length (rendered m ++ 0 ∷ encs k) ≡ length (rendered m) + suc (length (encs k)) = length-append (rendered m) (0 ∷ encs k) in
    rw (
      is_lt {a = 0} {b = suc (length (rendered m))} (omega arith),
      is_lt {a = suc (length (rendered m))} {b = bound} (omega arith),
      is_le {a = many k} {b = written - suc (length (rendered m))} (omega (arith, many-bytes k)),
      w.0,
      sound_shows m written (suc (length (rendered m))) w.1 (omega arith) (omega arith),
    )
