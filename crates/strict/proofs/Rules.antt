-- The rules that the check's calls follow: each is the contract of one way through the code. Assumes nothing.
use Rattle.std.specs.Prelude.{Ok, Err}
use mathlib.Core.Path.{◌≡◌, refl, sym, ap, ◌∙◌, subst}
use mathlib.Core.Bool.{false, cond, not}
use Prim.Native.Nat.{ℕ, zero, suc, ◌+◌, ◌-◌, ◌≤◌, ◌<◌, max}
use native.Mathlib.Omega.{arith}
use mathlib.Core.List.{List, [], ◌∷◌}
use lib.Dec.{leb, eqb}
use lib.ListN.{length, take, drop, get_or, length-take, length-drop}
use lib.Seq.{take_all, length-take-le}
use Rattle.std.proofs.lemmas.Grind.{common_steps}
use Rattle.rlp.specs.declared.Refusal.{Refusal}
use Rattle.rlp.specs.declared.Refusal.TheVariants.{RlpInvalidIndirection, TrailingBytes, TooDeep, TooLarge}
use Rattle.rlp.specs.Refusals.{Or, also, unless}
use Rattle.rlp.specs.Bytes.{Bytes}
use Rattle.rlp.specs.Limits.{limit, levels}
use Rattle.rlp.specs.Tree.{Items, list, ◌then◌, enc, items, items_in, depth, deepest, many}
use Rattle.rlp.proofs.Tests.{not_le, not_eq, by_test}
use Rattle.rlp.proofs.Answers.{refused-got, got_inj, refused_inj, also-got}
use Rattle.rlp.proofs.Slices.{at_first, bytes_take, bytes_drop}
use Rattle.rlp.proofs.Sizes.{items-few, depth-few, items_in_few, deepest-few}
use Rattle.header.specs.declared.PayloadInfo.{PayloadInfo}
use Rattle.header.specs.Header.{told, size, header_of, payload_info}
use Rattle.header.proofs.Ranges.{range_1, range_2}
use Rattle.header.proofs.Fits.{info_got, item_inside}
use Rattle.value.specs.Value.{part}
use Rattle.list.specs.Kinds.{is_list}
use Rattle.strict.specs.declared.Took.{Took}
use Rattle.strict.specs.declared.Run.{Run}
use Rattle.strict.specs.declared.Tally.{Tally}
use Rattle.strict.specs.Strict.{is_spare, value_of, Front, item_of, front, row, contents, whole, tree, tally_of, strict, row_tree, row_tally_of, strict_items}
use Rattle.strict.specs.Steps.{string_of, took_of, run_of, front_at, row_at}
use Rattle.strict.proofs.Reader.{fronted, front-size, row-refused, row_step}
use Rattle.strict.proofs.Sound.{Fronted, front-tree, row-tree}

-- ---- an item, in numbers

-- its items are no more than its bytes, and its levels no more than its items
pub took_small : (lev : ℕ) (b : List ℕ) (t : Took) → Bytes b → front_at lev b ≡ Ok t → (0 < t.size) × (t.size ≤ length b) × (t.tally.items ≤ t.size) × (t.tally.depth ≤ t.tally.items)
unfolding front_at took_of
took_small lev b t w e =
    let a = also-got (front (contents lev) b) (λ f. Ok (took_of f)) t e in
    let f : Front = a.0 in
    let z = front-size (contents lev) b f a.1 in
    let F : Fronted lev b f = front-tree lev b f w a.1 in
    let l : length (enc f.item) ≡ f.size = ap length F.bytes ∙ length-take-le f.size b z.1 in
    subst (λ (t : Took). (0 < t.size) × (t.size ≤ length b) × (t.tally.items ≤ t.size) × (t.tally.depth ≤ t.tally.items)) (got_inj a.2)
    (z.0, z.1, omega (arith, items-few f.item), depth-few f.item)

pub run_small : (lev : ℕ) (b : List ℕ) (r : Run) → Bytes b → row_at lev b ≡ Ok r → (r.tally.items ≤ length b) × (r.tally.depth ≤ r.tally.items)
unfolding row_at run_of
run_small lev b r w e =
    let a = also-got (row (contents lev) 0 b) (λ l. Ok (run_of l)) r e in
    let l : Items = a.0 in
    let t = row-tree lev b l w a.1 in
    subst (λ (r : Run). (r.tally.items ≤ length b) × (r.tally.depth ≤ r.tally.items)) (got_inj a.2)
    (omega (arith, items_in_few l, ap length t.0), deepest-few l)

-- a list's numbers from those of its contents
abbrev pub wrap : ℕ → Run → Or Took
wrap n r = Ok (record { tally = record { items = r.tally.items + 1; depth = r.tally.depth + 1 }; size = n })

wrapped : (n : ℕ) (c : Or Items) → also (also (also c (λ l. Ok (list l))) (λ t. Ok (record { item = t; size = n }))) (λ f. Ok (took_of f)) ≡ also (also c (λ l. Ok (run_of l))) (wrap n)
unfolding also took_of run_of items depth
wrapped n (Err e) = refl
wrapped n (Ok l) =
    let x : suc (items_in l) ≡ items_in l + 1 = omega arith in
    let y : suc (deepest l) ≡ deepest l + 1 = omega arith in
    let z : ◌≡◌ {A = Took} (record { tally = record { items = suc (items_in l); depth = suc (deepest l) }; size = n }) (record { tally = record { items = items_in l + 1; depth = deepest l + 1 }; size = n }) = cc in
    ap Ok z

-- the value that a header tells of, as the code cuts it
abbrev pub inside : List ℕ → PayloadInfo → List ℕ
inside b p = take (p.header_len + p.value_len - p.header_len) (drop p.header_len b)

-- a level less for what is inside
abbrev pub listed : ℕ → List ℕ → PayloadInfo → Or Took
listed lev b p = cond (eqb lev 0) (Err TooDeep) (also (row_at (lev - 1) (inside b p)) (wrap (p.header_len + p.value_len)))

deeper : (lev : ℕ) (b : List ℕ) (p : PayloadInfo) → also (also (also (contents lev (value_of b p)) (λ l. Ok (list l))) (fronted p)) (λ f. Ok (took_of f)) ≡ listed lev b p
unfolding contents also value_of part size row_at
deeper zero b p = refl
deeper (suc lev) b p =
    let z : p.header_len + p.value_len - p.header_len ≡ p.value_len = omega arith in
    let y : suc lev - 1 ≡ lev = omega arith in
    let n : eqb (suc lev) 0 ≡ false = not_eq (λ e. omega arith) in
    rw (z, n, y) (wrapped (p.header_len + p.value_len) (row (contents lev) 0 (take p.value_len (drop p.header_len b))))

-- the item at the front, in numbers
pub front_by : (lev : ℕ) (b : List ℕ) → front_at lev b ≡ also (payload_info b) (λ p. cond (is_list b) (listed lev b p) (unless (not (is_spare b)) RlpInvalidIndirection (Ok (string_of (p.header_len + p.value_len)))))
unfolding front_at front item_of also unless took_of items depth size
front_by lev b = go (payload_info b)
  where
    go : (o : Or PayloadInfo) → also (also o (λ p. also (item_of (contents lev) b p) (fronted p))) (λ f. Ok (took_of f)) ≡ also o (λ p. cond (is_list b) (listed lev b p) (unless (not (is_spare b)) RlpInvalidIndirection (Ok (string_of (p.header_len + p.value_len)))))
    go (Err e) = refl
    go (Ok p) =
        by_test (is_list b)
        (λ l. rw l (deeper lev b p))
        (λ l. by_test (is_spare b) (λ s. rw (l, s)) (λ s. rw (l, s)))

pub inside-small : (lev : ℕ) (b : List ℕ) (p : PayloadInfo) (r : Run) → Bytes b → row_at lev (inside b p) ≡ Ok r → (r.tally.items ≤ length b) × (r.tally.depth ≤ r.tally.items)
inside-small lev b p r w q =
    let k : ℕ = p.header_len + p.value_len - p.header_len in
    let z = run_small lev (inside b p) r (bytes_take k (drop p.header_len b) (bytes_drop p.header_len b w)) q in
    (omega (arith, z.0, length-take k (drop p.header_len b), length-drop p.header_len b), z.1)

-- ---- the shorter way

data_first : (b : List ℕ) → 0 < length b → get_or b 0 0 < 0xc0 → is_list b ≡ false
unfolding is_list
data_first b h l = sym (at_first is_list b false h (not_le l))

not_spare : (b : List ℕ) → (get_or b 0 0 ≡ 0x81 → ⊥) → is_spare b ≡ false
unfolding is_spare
not_spare [] h = refl
not_spare (x ∷ b) h = rw (not_eq h)

item_data : (lev : ℕ) (b : List ℕ) (p : PayloadInfo) → payload_info b ≡ Ok p → is_list b ≡ false → is_spare b ≡ false → Ok (string_of (p.header_len + p.value_len)) ≡ front_at lev b
unfolding also unless
item_data lev b p h l s = sym (front_by lev b ∙ rw (h, l, s))

-- an item of one number: the answer that the shorter way gives for n bytes
abbrev pub Quick : ℕ → List ℕ → ℕ → Type 0
Quick lev b n = Ok (string_of n) ≡ front_at lev b

quick : (lev : ℕ) (b : List ℕ) (h v n : ℕ) → 0 < length b → header_of b ≡ told h v → n ≡ h + v → n ≤ length b → get_or b 0 0 < 0xc0 → (get_or b 0 0 ≡ 0x81 → ⊥) → Quick lev b n
unfolding size
quick lev b h v n some e z fit l m =
    let p : PayloadInfo = record { header_len = h; value_len = v } in
    ap (λ (k : ℕ). Ok (string_of k)) z
    ∙ item_data lev b p (sym (info_got b p e (omega arith))) (data_first b some l) (not_spare b m)

pub quick_byte : (lev : ℕ) (b : List ℕ) → 0 < length b → get_or b 0 0 < 0x80 → Quick lev b 1
quick_byte lev b h l =
    quick lev b 0 1 1 h (sym (at_first header_of b _ h (range_1 (get_or b 0 0) (drop 1 b) (omega arith)))) (omega arith) (omega arith) (omega arith) (λ e. absurd (omega arith))

pub quick_string : (lev : ℕ) (b : List ℕ) (n : ℕ) → 0 < length b → 0x80 ≤ get_or b 0 0 → get_or b 0 0 ≤ 0xb7 → (get_or b 0 0 ≡ 0x81 → ⊥) → n ≡ get_or b 0 0 - 0x7f → n ≤ length b → Quick lev b n
quick_string lev b n h k l m z fit =
    quick lev b 1 (get_or b 0 0 - 0x80) n h (sym (at_first header_of b _ h (range_2 (get_or b 0 0) (drop 1 b) (omega arith) l))) (omega arith) fit (omega arith) m

-- ---- a row, in numbers

-- one more item in front
add : Took → Run → Or Run
add t r = Ok (record { top = suc r.top; tally = record { items = t.tally.items + r.tally.items; depth = max t.tally.depth r.tally.depth } })

row-empty : (lev : ℕ) (b : List ℕ) → length b ≡ 0 → row_at lev b ≡ Ok (record { top = 0; tally = record { items = 0; depth = 0 } })
unfolding row_at row also run_of many items_in deepest
row-empty lev [] h = refl
row-empty lev (x ∷ b) h = absurd (omega arith)

row_cut : (lev : ℕ) (b : List ℕ) (e : Refusal) → 0 < length b → front_at lev b ≡ Err e → row_at lev b ≡ Err e
unfolding front_at row_at also
row_cut lev b e h q = go (front (contents lev) b) refl q
  where
    go : (o : Or Front) → front (contents lev) b ≡ o → also o (λ f. Ok (took_of f)) ≡ Err e → row_at lev b ≡ Err e
    go (Err g) z q = rw (row-refused (contents lev) b g h z) (ap Err (refused_inj q))
    go (Ok f) z q = absurd (refused-got (sym q))

row_more : (lev : ℕ) (b : List ℕ) (t : Took) → front_at lev b ≡ Ok t → row_at lev b ≡ also (row_at lev (drop t.size b)) (add t)
unfolding front_at row_at also took_of run_of add many items_in deepest
row_more lev b t e =
    let a = also-got (front (contents lev) b) (λ f. Ok (took_of f)) t e in
    subst (λ (t : Took). row_at lev b ≡ also (row_at lev (drop t.size b)) (add t)) (got_inj a.2)
    (ap (λ (o : Or Items). also o (λ l. Ok (run_of l))) (row_step (contents lev) b a.0 a.1) ∙ go a.0 (row (contents lev) 0 (drop a.0.size b)))
  where
    go : (f : Front) (o : Or Items) → also (also o (λ l. Ok (f.item then l))) (λ l. Ok (run_of l)) ≡ also (also o (λ l. Ok (run_of l))) (add (took_of f))
    go f (Err g) = refl
    go f (Ok l) = refl

-- so many items at the top, so many in all and so deep before
unfoldable pub plus : ℕ → ℕ → ℕ → Run → Or Run
plus t n d r = Ok (record { top = t + r.top; tally = record { items = n + r.tally.items; depth = max d r.tally.depth } })

abbrev pub Rest : ℕ → List ℕ → ℕ → ℕ → ℕ → Or Run
Rest lev r t n d = also (row_at lev r) (plus t n d)

run-same : {t n d t' n' d' : ℕ} → t ≡ t' → n ≡ n' → d ≡ d'
    → ◌≡◌ {A = Or Run} (Ok (record { top = t; tally = record { items = n; depth = d } })) (Ok (record { top = t'; tally = record { items = n'; depth = d' } }))
run-same x y z = cc

pub rest-start : (lev : ℕ) (b : List ℕ) → Rest lev b 0 0 0 ≡ row_at lev b
unfolding also plus
rest-start lev b = go (row_at lev b)
  where
    go : (o : Or Run) → also o (plus 0 0 0) ≡ o
    go (Err e) = refl
    go (Ok r) = run-same (omega arith) (omega arith) (omega arith)

module _ (lev : ℕ) (r : List ℕ) (t n d : ℕ) where
  pub rest-done : length r ≡ 0 → Ok (record { top = t; tally = record { items = n; depth = d } }) ≡ Rest lev r t n d
  unfolding also plus
  rest-done h = sym (ap (λ (o : Or Run). also o (plus t n d)) (row-empty lev r h) ∙ run-same (omega arith) (omega arith) (omega arith))

  pub rest_stop : (e : Refusal) → 0 < length r → Err e ≡ front_at lev r → Err e ≡ Rest lev r t n d
  unfolding also
  rest_stop e l q = sym (ap (λ (o : Or Run). also o (plus t n d)) (row_cut lev r e l (sym q)))

  -- what is left behind an item, as the code cuts it
  abbrev pub behind : Took → List ℕ
  behind k = take (length r - k.size) (drop k.size r)

  behind_it : (k : Took) → behind k ≡ drop k.size r
  behind_it k = take_all (length r - k.size) (drop k.size r) (omega (arith, length-drop k.size r))

  pub behind_well : (k : Took) → Bytes r → Bytes (behind k)
  behind_well k w = bytes_take (length r - k.size) (drop k.size r) (bytes_drop k.size r w)

  pub behind_length : (k : Took) → length (behind k) ≡ length r - k.size
  behind_length k = ap length (behind_it k) ∙ length-drop k.size r

  pub behind_less : (k : Took) → (0 < k.size) × (k.size ≤ length r) × (k.tally.items ≤ k.size) × (k.tally.depth ≤ k.tally.items) → length (behind k) < length r
  behind_less k z = omega (arith, behind_length k, z)

  pub rest_more : (k : Took) (d' : ℕ) → Ok k ≡ front_at lev r → d' ≡ max d k.tally.depth → Rest lev (behind k) (t + 1) (n + k.tally.items) d' ≡ Rest lev r t n d
  unfolding also plus add
  rest_more k d' q z =
      ap (λ (s : List ℕ). also (row_at lev s) (plus (t + 1) (n + k.tally.items) d')) (behind_it k)
      ∙ sym (ap (λ (o : Or Run). also o (plus t n d)) (row_more lev r k (sym q)) ∙ go (row_at lev (drop k.size r)))
    where
      go : (o : Or Run) → also (also o (add k)) (plus t n d) ≡ also o (plus (t + 1) (n + k.tally.items) d')
      go (Err f) = refl
      go (Ok r) = run-same (omega arith) (omega arith) (omega arith)

-- ---- the whole

-- the front must be all
abbrev pub all : ℕ → Took → Or Tally
all n t = unless (eqb t.size n) TrailingBytes (Ok t.tally)

-- what is left of a front's tree is its numbers
whole_all : (n : ℕ) (o : Or Front) → also (also o (whole n)) (λ t. Ok (tally_of t)) ≡ also (also o (λ f. Ok (took_of f))) (all n)
unfolding also whole took_of tally_of unless
whole_all n (Err e) = refl
whole_all n (Ok f) = by_test (eqb f.size n) (λ e. rw e) (λ e. rw e)

pub strict_by : (b : List ℕ) → strict b ≡ unless (leb (length b) limit) TooLarge (also (front_at levels b) (all (length b)))
unfolding strict tree front_at also unless
strict_by b = by_test (leb (length b) limit) (λ e. rw e (whole_all (length b) (front (contents levels) b))) (λ e. rw e)

-- bytes read as a payload
abbrev pub top_of : Run → Or Tally
top_of r = Ok (record { items = r.top; depth = r.tally.depth })

row-top : (o : Or Items) → also o (λ l. Ok (row_tally_of l)) ≡ also (also o (λ l. Ok (run_of l))) top_of
unfolding also row_tally_of run_of
row-top (Err e) = refl
row-top (Ok l) = refl

pub items_by : (b : List ℕ) → strict_items b ≡ unless (leb (length b) limit) TooLarge (also (row_at levels b) top_of)
unfolding strict_items row_tree row_at also unless
items_by b = by_test (leb (length b) limit) (λ e. rw e (row-top (row (contents levels) 0 b))) (λ e. rw e)

pub ruleset item_steps = (front_by, item_inside, common_steps)

pub ruleset row_steps = (rest-done, rest_stop, took_small, behind_less, common_steps)

pub ruleset check_steps = (strict_by, items_by, common_steps)
