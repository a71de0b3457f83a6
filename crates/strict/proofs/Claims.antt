-- The claims of specs/Claims.antt, proved. Assumes nothing.
use Rattle.std.specs.Prelude.{Ok, Err}
use mathlib.Core.Path.{◌≡◌, refl, sym, ap, ◌∙◌}
use mathlib.Core.Logic.{◌⊎◌, inl, inr}
use Prim.Native.Nat.{ℕ, ◌≤◌, ◌<◌}
use native.Mathlib.Nat.{pos_of_ne-zero}
use native.Mathlib.Omega.{arith}
use mathlib.Core.List.{List, ◌++◌}
use lib.Dec.{leb}
use lib.ListN.{length, drop, length-append, length-drop, take-append-drop}
use borrow.Author.Tests.{leb-true}
use Rattle.rlp.specs.declared.Refusal.{Refusal}
use Rattle.rlp.specs.declared.Refusal.TheVariants.{TrailingBytes, TooLarge}
use Rattle.rlp.specs.Refusals.{number_of, Or, also, unless}
use Rattle.rlp.specs.Bytes.{be_from, be_value}
use Rattle.rlp.specs.Promises.{said}
use Rattle.rlp.specs.Limits.{limit, levels}
use Rattle.rlp.specs.Tree.{Item, Items, enc, items, items_in, depth, deepest, many}
use Rattle.rlp.proofs.Tests.{is_le, not_le, is_eq, not_eq, by_lt, by_eq}
use Rattle.rlp.proofs.Answers.{refused-got, got_inj, refused_inj, also-got, also-refused, also_stop, unless-got, unless-true, unless-false, determined}
use Rattle.header.specs.Header.{long_header, header_of, size, within, payload_info}
use Rattle.value.specs.Value.{spare, part}
use Rattle.list.specs.Kinds.{is_list}
use Rattle.strict.specs.declared.Tally.{Tally}
use Rattle.strict.specs.Strict.{is_spare, value_of, Front, item_of, front, row, contents, whole, tree, tally_of, strict, row_tree, row_tally_of, strict_items}
use Rattle.strict.specs.Sheets.{accepts, refuses, same, answered, sheets, nest, edges}
use Rattle.strict.specs.Claims.{AnswersAreDetermined, PromisesAreOfTheAnswer, Sheet, CheckIsExact, AnswersAreTheTrees, TreeIsTheOnlyOne, Payload, PayloadsAreExact, LargeIs12, Trailing, TrailingIs10, FirstDamage, FirstDamageOfPayloads, RowsAreFronts, StringsAgree, IntsAgree, ListsAgree, SheetsAreAnswered, EdgesAreAnswered, Claimed}
use Rattle.strict.specs.Damage.{Bad}
use Rattle.strict.proofs.Reader.{front-size, row-none, row-front}
use Rattle.strict.proofs.Complete.{read, front-enc, tree-enc, row_tree-encs}
use Rattle.strict.proofs.Sound.{Fronted, front-tree, row-tree, tree-sound}
use Rattle.strict.proofs.Refusals.{front-within, row_within}
use Rattle.strict.proofs.Damage.{bad_front, bad_row, front_bad, row_bad}
use Rattle.strict.proofs.Agree.{strings_agree_lem, lists_agree_lem, ints_agree_lem}

pub answers_are_determined : AnswersAreDetermined
unfolding said
answers_are_determined = determined said said (λ r. refl)

pub promises_are_of_the_answer : PromisesAreOfTheAnswer
unfolding said
promises_are_of_the_answer r = refl

pub check_is_exact : CheckIsExact
check_is_exact b t w = (
  λ e. let s = tree-sound b t w e in record { bytes = s.0; well = s.1; deep = s.2; small = s.3 },
  λ (S : Sheet b t). ap tree (sym S.bytes) ∙ tree-enc t (omega (arith, S.small, ap length S.bytes)) S.deep,
)

pub answers_are_the_trees : AnswersAreTheTrees
unfolding strict tally_of also
answers_are_the_trees b n d w = (
  λ e.
      let a = also-got (tree b) (λ t. Ok (tally_of t)) (record { items = n; depth = d }) e in
      let z : ◌≡◌ {A = Tally} (record { items = items a.0; depth = depth a.0 }) (record { items = n; depth = d }) = got_inj a.2 in
      (a.0, (check_is_exact b a.0 w).0 a.1, ap (λ (t : Tally). t.items) z, ap (λ (t : Tally). t.depth) z),
  λ t S x y. rw ((check_is_exact b t w).1 S) (tally_same x y),
)
  where
    tally_same : {n d m e : ℕ} → n ≡ m → d ≡ e → ◌≡◌ {A = Or Tally} (Ok (record { items = n; depth = d })) (Ok (record { items = m; depth = e }))
    tally_same x y = cc

pub tree_is_the_only_one : TreeIsTheOnlyOne
tree_is_the_only_one b t u S R = got_inj (sym (reads t S) ∙ reads u R)
  where
    reads : (t : Item) → Sheet b t → tree b ≡ Ok t
    reads t S = ap tree (sym S.bytes) ∙ tree-enc t (omega (arith, S.small, ap length S.bytes)) S.deep

pub payloads_are_exact : PayloadsAreExact
unfolding strict_items row_tree row_tally_of also
payloads_are_exact b n d w = (
  λ e.
      let a = also-got (row_tree b) (λ l. Ok (row_tally_of l)) (record { items = n; depth = d }) e in
      let u = unless-got (leb (length b) limit) TooLarge (row (contents levels) 0 b) a.0 a.1 in
      let r = row-tree levels b a.0 w u.1 in
      let z : ◌≡◌ {A = Tally} (record { items = many a.0; depth = deepest a.0 }) (record { items = n; depth = d }) = got_inj a.2 in (
        a.0,
        record { bytes = r.0; well = r.1; deep = r.2; small = leb-true (length b) limit u.0 },
        ap (λ (t : Tally). t.items) z,
        ap (λ (t : Tally). t.depth) z,
      ),
  λ (l : Items) (P : Payload b l) x y.
      let q : row_tree b ≡ Ok l = ap row_tree (sym P.bytes) ∙ row_tree-encs l (omega (arith, P.small, ap length P.bytes)) P.deep in
      ap (λ (o : Or Items). also o (λ l. Ok (row_tally_of l))) q ∙ tally_same x y,
)
  where
    tally_same : {n d m e : ℕ} → n ≡ m → d ≡ e → ◌≡◌ {A = Or Tally} (Ok (record { items = n; depth = d })) (Ok (record { items = m; depth = e }))
    tally_same x y = cc

-- ---- 12 and 10

-- what the check makes of the front of a sheet within the limit
judged : (n : ℕ) → Or Front → Or Tally
judged n o = also (also o (whole n)) (λ t. Ok (tally_of t))

within-limit : (b : List ℕ) → length b ≤ limit → strict b ≡ judged (length b) (front (contents levels) b)
unfolding strict tree judged
within-limit b h = ap (λ (o : Or Item). also o (λ t. Ok (tally_of t))) (unless-true TooLarge _ (is_le h))

over_limit : (b : List ℕ) → limit < length b → strict b ≡ Err TooLarge
unfolding strict tree also
over_limit b h = ap (λ (o : Or Item). also o (λ t. Ok (tally_of t))) (unless-false TooLarge _ (not_le h))

-- a refusal of what was judged is the front's, or 10 for bytes that are left
judged_refused : (n : ℕ) (o : Or Front) (e : Refusal) → judged n o ≡ Err e → (o ≡ Err e → ⊥) → (f : Front) × (o ≡ Ok f) × (e ≡ TrailingBytes) × (f.size ≡ n → ⊥)
unfolding judged also whole
judged_refused n (Err g) e q h = absurd (h (ap Err (refused_inj q)))
judged_refused n (Ok f) e q h =
    by_eq f.size n
    (λ z. absurd (refused-got (sym q ∙ ap (λ (o : Or Item). also o (λ t. Ok (tally_of t))) (unless-true TrailingBytes (Ok f.item) (is_eq z)))))
    (λ z. (f, refl, refused_inj (sym q ∙ ap (λ (o : Or Item). also o (λ t. Ok (tally_of t))) (unless-false TrailingBytes (Ok f.item) (not_eq z))), z))

not_10 : ◌≡◌ {A = Refusal} TooLarge TrailingBytes → ⊥
not_10 e = omega (arith, ap number_of e)

pub large_is_12 : LargeIs12
unfolding strict_items row_tree
large_is_12 b = (
  λ e. by_lt limit (length b) (λ h. h) (λ h.
      let f = front (contents levels) b in
      let j = judged_refused (length b) f TooLarge (sym (within-limit b h) ∙ e) (λ q. (front-within levels b TooLarge q).1 refl) in
      absurd (not_10 j.2)),
  over_limit b,
  λ e. by_lt limit (length b) (λ h. h) (λ h.
      absurd ((row_within levels b TooLarge (sym (unless-true TooLarge _ (is_le h)) ∙ also-refused (row_tree b) row_tally_of TooLarge e)).1 refl)),
  λ h. also_stop (λ l. Ok (row_tally_of l)) TooLarge (unless-false TooLarge _ (not_le h)),
)

pub trailing_is_10 : TrailingIs10
unfolding judged also whole
trailing_is_10 b w = (
  λ e. by_lt limit (length b) (λ h. absurd (not_10 (refused_inj (sym (over_limit b h) ∙ e)))) (λ h.
      let j = judged_refused (length b) (front (contents levels) b) TrailingBytes (sym (within-limit b h) ∙ e) (λ q. (front-within levels b TrailingBytes q).0 refl) in
      let f : Front = j.0 in
      let F : Fronted levels b f = front-tree levels b f w j.1 in
      let z = front-size (contents levels) b f j.1 in
      record {
        item = f.item;
        rest = drop f.size b;
        bytes = sym (ap (λ (s : List ℕ). s ++ drop f.size b) F.bytes ∙ take-append-drop f.size b);
        some = pos_of_ne-zero (λ k. j.3 (omega (arith, z, k, length-drop f.size b)));
        well = F.well;
        deep = F.deep;
        small = h;
      }),
  λ (T : Trailing b).
      let n = length-append (enc T.item) T.rest in
      let m : length b ≡ length (enc T.item ++ T.rest) = ap length T.bytes in
      let f : front (contents levels) b ≡ read T.item = ap (front (contents levels)) T.bytes ∙ front-enc T.item levels T.rest T.deep (omega (arith, T.small)) in
      within-limit b T.small ∙ ap (judged (length b)) f
      ∙ ap (λ (o : Or Item). also o (λ t. Ok (tally_of t))) (unless-false TrailingBytes (Ok T.item) (not_eq {a = length (enc T.item)} {b = length b} (λ e. omega (arith, T.some)))),
)

-- ---- the first damage

pub first_damage : FirstDamage
unfolding judged also
first_damage b e w h = (λ q. to (front (contents levels) b) refl q, from)
  where
    to : (o : Or Front) → front (contents levels) b ≡ o → strict b ≡ Err e → Bad levels b e ⊎ (Trailing b × (e ≡ TrailingBytes))
    to (Err d) f q = inl (front_bad levels b e w (f ∙ ap Err (refused_inj (sym (within-limit b h ∙ ap (judged (length b)) f) ∙ q))))
    to (Ok g) f q =
        let j = judged_refused (length b) (Ok g) e (sym (within-limit b h ∙ ap (judged (length b)) f) ∙ q) (λ z. refused-got (sym z)) in
        inr ((trailing_is_10 b w).0 (q ∙ ap Err j.2), j.2)

    from : Bad levels b e ⊎ (Trailing b × (e ≡ TrailingBytes)) → strict b ≡ Err e
    from (inl d) = within-limit b h ∙ ap (judged (length b)) (bad_front levels b e (omega arith) d)
    from (inr t) = (trailing_is_10 b w).1 t.0 ∙ ap Err (sym t.1)

pub first_damage_of_payloads : FirstDamageOfPayloads
unfolding strict_items row_tree
first_damage_of_payloads b e w h = (
  λ q. row_bad levels b e w (sym (unless-true TooLarge _ (is_le h)) ∙ also-refused (row_tree b) row_tally_of e q),
  λ d. also_stop (λ l. Ok (row_tally_of l)) e (unless-true TooLarge _ (is_le h) ∙ bad_row levels b e (omega arith) d),
)

pub rows_are_fronts : RowsAreFronts
rows_are_fronts ins = (row-none ins, row-front ins)

-- ---- the lenient calls, and the tables

pub strings_agree : StringsAgree
strings_agree = strings_agree_lem

pub ints_agree : IntsAgree
ints_agree = ints_agree_lem

pub lists_agree : ListsAgree
lists_agree = lists_agree_lem

pub sheets_are_answered : SheetsAreAnswered
unfolding also unless be_value be_from long_header header_of size within payload_info spare part is_list is_spare value_of item_of front row contents whole tree tally_of strict items items_in depth deepest accepts refuses same answered sheets
sheets_are_answered = tt

pub edges_are_answered : EdgesAreAnswered
unfolding also unless be_value be_from long_header header_of size within payload_info spare part is_list is_spare value_of item_of front row contents whole tree tally_of strict items items_in depth deepest accepts refuses same answered nest edges
edges_are_answered = tt

pub claimed : Claimed
claimed =
    record {
      answers_are_determined = answers_are_determined;
      promises_are_of_the_answer = promises_are_of_the_answer;
      check_is_exact = check_is_exact;
      answers_are_the_trees = answers_are_the_trees;
      tree_is_the_only_one = tree_is_the_only_one;
      payloads_are_exact = payloads_are_exact;
      large_is_12 = large_is_12;
      trailing_is_10 = trailing_is_10;
      first_damage = first_damage;
      first_damage_of_payloads = first_damage_of_payloads;
      rows_are_fronts = rows_are_fronts;
      strings_agree = strings_agree;
      ints_agree = ints_agree;
      lists_agree = lists_agree;
      sheets_are_answered = sheets_are_answered;
      edges_are_answered = edges_are_answered;
    }
