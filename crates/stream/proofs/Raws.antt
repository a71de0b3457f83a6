-- Raw items: what the strict check of their bytes says of the call. Assumes nothing.
use Rattle.std.specs.Prelude.{◌≡◌, ℕ, ◌+◌, ◌<◌, ◌≤◌, true, false, leb, List, length, Ok, Err}
use mathlib.Core.Path.{refl, sym, ap, ◌∙◌}
use native.Mathlib.Omega.{arith}
use lib.ListN.{length-append}
use Rattle.rlp.specs.declared.Refusal.{Refusal}
use Rattle.rlp.specs.declared.Refusal.TheVariants.{TooDeep, TooLarge, TooManyItems, CountMismatch}
use Rattle.rlp.specs.Refusals.{Or, also, unless}
use Rattle.rlp.specs.Limits.{limit, levels}
use Rattle.rlp.specs.Bytes.{Bytes}
use Rattle.rlp.specs.Tree.{Items, end, ◌then◌, encs, many, deepest}
use Rattle.rlp.proofs.Tests.{is_eq, not_eq}
use Rattle.rlp.proofs.Answers.{refused-got, got_inj, refused_inj, unless-got}
use Rattle.rlp.proofs.Sizes.{enc-some}
use Rattle.strict.specs.declared.Tally.{Tally}
use Rattle.strict.specs.Strict.{contents, row, row_tree, row_tally_of, strict_items}
use Rattle.strict.proofs.Sound.{row-tree}
use Rattle.stream.specs.State.{State, view}
use Rattle.stream.specs.Stream.{takes, appended, raw_items, raw, lent, own, answer}
use Rattle.stream.specs.Steps.{change_leaves, changes}
use Rattle.stream.proofs.Calls.{Goes, comes_no, Adds, level_no, level_yes}

-- ---- from what the check says to what was read

counts : Items → Or Tally
counts l = Ok (row_tally_of l)

unread : (o : Or Items) (e : Refusal) → Err e ≡ also o counts → o ≡ Err e
unfolding also counts
unread (Err d) e r = ap Err (sym (refused_inj r))
unread (Ok l) e r = absurd (refused-got r)

was_read : (o : Or Items) (t : Tally) → Ok t ≡ also o counts → (l : Items) × (o ≡ Ok l) × (t ≡ row_tally_of l)
unfolding also counts
was_read (Err d) t r = absurd (refused-got (sym r))
was_read (Ok l) t r = (l, refl, got_inj r)

many-few : (l : Items) → many l ≤ length (encs l)
unfolding many encs
many-few end = omega arith
many-few (t then l) = rw length-append (omega (arith, enc-some t, many-few l))

-- what is read of bytes that the check accepts with a tally of t
pub record Read (x : List ℕ) (t : Tally) : Type 0 where
  pub l : Items
  pub is : row_tree x ≡ Ok l
  pub items : t.items ≡ many l
  pub depth : t.depth ≡ deepest l
  pub few : many l ≤ length x
  pub low : deepest l ≤ levels

pub items-small : (x : List ℕ) → Bytes x → (l : Items) → row_tree x ≡ Ok l → (many l ≤ length x) × (deepest l ≤ levels)
unfolding row_tree
items-small x h l e =
    let r = row-tree levels x l h (unless-got (leb (length x) limit) TooLarge (row (contents levels) 0 x) l e).1 in
    (rw r.0 at (many-few l), r.2)

module _ (x : List ℕ) where
  pub items_unread : (e : Refusal) → Err e ≡ strict_items x → row_tree x ≡ Err e
  unfolding strict_items counts
  items_unread e p = unread (row_tree x) e p

  pub items_read : Bytes x → (t : Tally) → Ok t ≡ strict_items x → Read x t
  unfolding strict_items counts row_tally_of
  items_read h t p =
      let q = was_read (row_tree x) t p in
      let m = items-small x h q.0 q.1 in
      record { l = q.0; is = q.1; items = ap (λ (k : Tally). k.items) q.2; depth = ap (λ (k : Tally). k.depth) q.2; few = m.0; low = m.1 }

-- ---- the call, past 12 and 20
module _ (s : State) (b x : List ℕ) (n : ℕ) (G : Goes s b (raw x n)) where
  pub raw_unread : (e : Refusal) → Err e ≡ strict_items x → change_leaves (Err e) b ≡ changes s.start b (answer s b (raw x n))
  unfolding own also
  raw_unread e r = comes_no s.start b (answer s b (raw x n)) e (G.so ∙ rw (items_unread x e r))

  module _ (t : Tally) (R : Read x t) where
    pub raw-other : (t.items ≡ n → ⊥) → change_leaves (Err CountMismatch) b ≡ changes s.start b (answer s b (raw x n))
    unfolding own also raw_items unless
    raw-other h =
        let f : many R.l ≡ n → ⊥ = λ e. h (R.items ∙ e) in
        comes_no s.start b (answer s b (raw x n)) CountMismatch (G.so ∙ rw (R.is, not_eq f))

    module _ (h : t.items ≡ n) where
      same : many R.l ≡ n
      same = sym R.items ∙ h

      pub raw_few : n ≤ limit
      unfolding lent
      raw_few = omega (arith, same, R.few, G.lent-few)

      pub raw-many : takes n s.opens ≡ false → change_leaves (Err TooManyItems) b ≡ changes s.start b (answer s b (raw x n))
      unfolding own also raw_items unless view
      raw-many k = comes_no s.start b (answer s b (raw x n)) TooManyItems (G.so ∙ rw (R.is, is_eq same, k))

      module _ (k : takes n s.opens ≡ true) where
        pub raw-deep : levels < length s.opens + t.depth → change_leaves (Err TooDeep) b ≡ changes s.start b (answer s b (raw x n))
        unfolding own also raw_items unless view
        raw-deep d =
            let d' : levels < length s.opens + deepest R.l = rw R.depth at d in
            comes_no s.start b (answer s b (raw x n)) TooDeep (G.so ∙ rw (R.is, is_eq same, k, level_no s b (deepest R.l) (appended n x (view s b)) d'))

        pub raw_adds : length s.opens + t.depth ≤ levels → Adds s b x n (length x) (answer s b (raw x n))
        unfolding own also raw_items unless view
        raw_adds d =
            let d' : length s.opens + deepest R.l ≤ levels = rw R.depth at d in
            let p = G.so ∙ rw (R.is, is_eq same, k, level_yes s b (deepest R.l) (appended n x (view s b)) d') in
            record { past = G.past; items = raw_few; size = refl; so = p }
