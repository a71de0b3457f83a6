-- What a call leaves of a state, kept in place: the arrays that a call was lent, with the innermost list's entry changed, are what the
-- call's view, stored, leaves. Assumes nothing.
use Rattle.std.specs.Prelude.{IfOk, ◌≡◌, ℕ, zero, suc, ◌+◌, ◌-◌, ◌<◌, ◌≤◌, Bool, true, ◌&&◌, eqb, leb, List, [], ◌∷◌, ◌++◌, length, get_or, set, Ok, Err}
use mathlib.Core.Path.{refl, sym, ap, ◌∙◌}
use native.Mathlib.Omega.{arith}
use lib.ListN.{length-append}
use lib.Seq.{set-get_or}
use borrow.Author.Tests.{leb-true}
use Rattle.std.proofs.lemmas.Grind.{common_steps}
use Rattle.encode.proofs.Numbers.{be-none}
use Rattle.rlp.specs.declared.Refusal.{Refusal}
use Rattle.rlp.specs.declared.Refusal.TheVariants.{TooDeep, TooManyItems, CountMismatch}
use Rattle.rlp.specs.Refusals.{Or, also, unless}
use Rattle.rlp.specs.Limits.{limit, levels}
use Rattle.rlp.specs.Tree.{Items, many, deepest}
use Rattle.rlp.proofs.Tests.{by_test}
use Rattle.rlp.proofs.Answers.{refused-got, got_inj, refused_inj, also-got, unless-got}
use Rattle.strict.specs.Strict.{row_tree}
use Rattle.stream.specs.declared.Stream.{Stream}
use Rattle.stream.specs.declared.lists.Lent.{Lent}
use Rattle.stream.specs.declared.lists.Left.{Left}
use Rattle.stream.specs.State.{Most, any, up_to, full, State, state_of, most_of, opens_in, View, view, placed, stored, laid, matches}
use Rattle.stream.specs.Stream.{closed, counted, appended, begun, level, unless_counted, finalized, takes, raw_items, Call, value, begin, unbounded, finalize, raw, clear, lent, own, roomed, guarded, answer, after, called}
use Rattle.stream.specs.Answers.{leaves}
use Rattle.stream.specs.Steps.{state_lent, set_last, keeping, step_of, kept_step, opening, opened_step, Opens, innermost, changed, Changed, change_leaves, changes}
use Rattle.stream.proofs.OpenLists.{length-opens}
use Rattle.stream.proofs.Stores.{kept_most_most_of, placed_same}
use Rattle.stream.proofs.Answered.{answer-got}
use Rattle.stream.proofs.Calls.{matches_facts}

-- ---- what is stored, entry by entry

pub last_some : (n x : ℕ) (a : List ℕ) → 0 < n → set_last n x a ≡ set a (n - 1) x
unfolding set_last
last_some zero x a h = absurd (omega arith)
last_some (suc n) x a h =
    let e : suc n - 1 ≡ n = omega arith in
    rw e

pub last_none : (n x : ℕ) (a : List ℕ) → n ≤ 0 → set_last n x a ≡ a
unfolding set_last
last_none zero x a h = refl
last_none (suc n) x a h = absurd (omega arith)

-- ---- a view whose open lists are the first k of the state's, the innermost with n items more or, where that is all, closed and counted
pub record Counts (s : Stream) (v : View) : Type 0 where
  pub k : ℕ
  pub n : ℕ
  pub w : List ℕ
  pub few : k ≤ s.opened
  pub is : v ≡ counted n (opens_in s.positions s.currents s.maxima k) w

module _ (s : Stream) where
  counted-stored : (k n : ℕ) (w : List ℕ) → stored s (counted n (opens_in s.positions s.currents s.maxima k) w)
      ≡ keeping s (changed s.start (counted n (opens_in s.positions s.currents s.maxima k) w))
  unfolding counted opens_in stored placed keeping changed innermost set_last
  counted-stored zero n w = refl
  counted-stored (suc k) n w =
      let g = placed_same s.positions s.currents s.maxima k in
      let l : length (opens_in s.positions s.currents s.maxima k) ≡ k = length-opens s.positions s.currents s.maxima k in
      by_test (full (get_or s.currents k 0 + n) (most_of (get_or s.maxima k 0)))
      (λ t. rw t (counted-stored k 1 (closed (get_or s.positions k 0) w)))
      (λ t. rw (t, g.0, g.1, g.2, l, kept_most_most_of (get_or s.maxima k 0), set-get_or s.positions k 0, set-get_or s.maxima k 0))

  counted-few : (k n : ℕ) (w : List ℕ) → length (counted n (opens_in s.positions s.currents s.maxima k) w).opens ≤ k
  unfolding counted opens_in
  counted-few zero n w = omega arith
  counted-few (suc k) n w =
      by_test (full (get_or s.currents k 0 + n) (most_of (get_or s.maxima k 0)))
      (λ t. rw t (omega (arith, counted-few k 1 (closed (get_or s.positions k 0) w))))
      (λ t. rw t (omega (arith, length-opens s.positions s.currents s.maxima k)))

  pub counts-stored : (v : View) → Counts s v → stored s v ≡ keeping s (changed s.start v)
  counts-stored v h = rw h.is (counted-stored h.k h.n h.w)

  pub counts-few : (v : View) → Counts s v → length v.opens ≤ s.opened
  counts-few v h = rw h.is (omega (arith, h.few, counted-few h.k h.n h.w))

-- ---- the calls that count items
unfoldable pub Counting : Call → Type 0
Counting (value x) = Unit {0}
Counting (begin zero) = Unit {0}
Counting (begin (suc n)) = ⊥
Counting unbounded = ⊥
Counting finalize = Unit {0}
Counting (raw x n) = Unit {0}
Counting clear = ⊥

got-level : (n : ℕ) (u r v : View) → level n u r ≡ Ok v → r ≡ v
unfolding level
got-level n u r v e = got_inj (unless-got (leb (length u.opens + n) levels) TooDeep (Ok r) v e).1

got_uncounted : (x : Most) (r v : View) → unless_counted x r ≡ Ok v → r ≡ v
unfolding unless_counted
got_uncounted any r v e = got_inj e
got_uncounted (up_to n) r v e = absurd (refused-got e)

got_items : (x : List ℕ) (n : ℕ) (u : View) (l : Items) (v : View) → raw_items x n u l ≡ Ok v → appended n x u ≡ v
unfolding raw_items
got_items x n u l v e =
    let a = unless-got (eqb (many l) n) CountMismatch (unless (takes n u.opens) TooManyItems (level (deepest l) u (appended n x u))) v e in
    let d = unless-got (takes n u.opens) TooManyItems (level (deepest l) u (appended n x u)) v a.1 in
    got-level (deepest l) u (appended n x u) v d.1

module _ (s : Stream) (b : List ℕ) where
  counts_all : (n : ℕ) (w : List ℕ) (v : View) → counted n (opens_in s.positions s.currents s.maxima s.opened) w ≡ v → Counts s v
  counts_all n w v e = record { k = s.opened; n = n; w = w; few = omega arith; is = sym e }

  ended : (k : ℕ) → k ≤ s.opened → (w : List ℕ) (v : View) → finalized (opens_in s.positions s.currents s.maxima k) w ≡ Ok v → Counts s v
  unfolding finalized opens_in
  ended zero h w v e = absurd (refused-got e)
  ended (suc k) h w v e =
      record {
        k = k;
        n = 1;
        w = closed (get_or s.positions k 0) w;
        few = omega arith;
        is = sym (got_uncounted (most_of (get_or s.maxima k 0)) (counted 1 (opens_in s.positions s.currents s.maxima k) (closed (get_or s.positions k 0) w)) v e);
      }

  own-counts : (c : Call) → Counting c → (v : View) → own c (view (state_of s) b) ≡ Ok v → Counts s v
  unfolding Counting own appended view state_of
  own-counts (value x) h v e = counts_all 1 _ v (got_inj e)
  own-counts (begin zero) h v e = counts_all 1 _ v (got-level 1 _ _ v e)
  own-counts (begin (suc n)) h v e = absurd h
  own-counts unbounded h v e = absurd h
  own-counts finalize h v e = ended s.opened (omega arith) _ v e
  own-counts (raw x n) h v e =
      let r = also-got (row_tree x) (raw_items x n (view (state_of s) b)) v e in
      counts_all n _ v (got_items x n (view (state_of s) b) r.0 v r.2)
  own-counts clear h v e = absurd h

-- ---- what a change says of the call's own answer
module _ (start : ℕ) (b d : List ℕ) where
  changes-refused : (o : Or View) (e : Refusal) → change_leaves (Err e) d ≡ changes start b o → (o ≡ Err e) × (d ≡ b)
  unfolding change_leaves changes
  changes-refused (Err f) e q = (ap Err (sym (refused_inj (ap (λ (x : Changed). x.answer) q))), ap (λ (x : Changed). x.buffer) q)
  changes-refused (Ok v) e q = absurd (refused-got (ap (λ (x : Changed). x.answer) q))

  changes-got : (o : Or View) (l : Left) → change_leaves (Ok l) d ≡ changes start b o → (v : View) × (o ≡ Ok v) × (l ≡ changed start v) × (d ≡ laid start b v)
  unfolding change_leaves changes
  changes-got (Err f) l q = absurd (refused-got (sym (ap (λ (x : Changed). x.answer) q)))
  changes-got (Ok v) l q = (v, refl, got_inj (ap (λ (x : Changed). x.answer) q), ap (λ (x : Changed). x.buffer) q)

-- an accepted call
accepted : (s : Stream) (b : List ℕ) (c : Call) (v : View) → answer (state_of s) b c ≡ Ok v → (t : Stream) (d : List ℕ) → t ≡ stored s v → d ≡ laid s.start b v
    → leaves (step_of (Ok true) t) d ≡ called s b c
unfolding called after leaves
accepted s b c v p t d e f = rw (p, e, f)

-- ---- the state after a change in which lists may have closed
module _ (s : Stream) (b d : List ℕ) (L : Lent) (is : (L.start ≡ s.start) × (state_lent L ≡ state_of s)) (c : Call) where
  so : (r : Or Left) → change_leaves r d ≡ changes L.start b (answer (state_lent L) b c) → change_leaves r d ≡ changes s.start b (answer (state_of s) b c)
  so r q = q ∙ (ap (λ x. changes x b (answer (state_lent L) b c)) is.0 ∙ ap (λ x. changes s.start b (answer x b c)) is.1)

  pub refused_called : (e : Refusal) → change_leaves (Err e) d ≡ changes L.start b (answer (state_lent L) b c) → leaves (step_of (Err e) s) d ≡ called s b c
  unfolding called after leaves
  refused_called e q =
      let r = changes-refused s.start b d (answer (state_of s) b c) e (so (Err e) q) in
      rw (r.0, r.1)

  module _ (count : Counting c) (l : Left) (q : change_leaves (Ok l) d ≡ changes L.start b (answer (state_lent L) b c)) where
    pub kept_few : l.opened ≤ levels
    unfolding changed state_of
    kept_few =
        let r = changes-got s.start b d (answer (state_of s) b c) l (so (Ok l) q) in
        let a = answer-got (state_of s) b c r.0 r.1 in
        let f = counts-few s r.0 (own-counts s b c count r.0 a.2) in
        let g = (matches_facts (state_of s) (length b) a.0 a.1).few in
        let k = length-opens s.positions s.currents s.maxima s.opened in
        let e : l.opened ≡ length r.0.opens = ap (λ (x : Left). x.opened) r.2 in
        omega arith

    pub kept_called : (t : Stream) → t ≡ keeping s l → leaves (step_of (Ok true) t) d ≡ called s b c
    kept_called t e =
        let r = changes-got s.start b d (answer (state_of s) b c) l (so (Ok l) q) in
        let a = answer-got (state_of s) b c r.0 r.1 in
        let k : t ≡ stored s r.0 = e ∙ (ap (keeping s) r.2 ∙ sym (counts-stored s r.0 (own-counts s b c count r.0 a.2))) in
        accepted s b c r.0 r.1 t d k r.3

  -- whatever the change is
  module _ (count : Counting c) where
    pub placed_change : (r : Or Left) → change_leaves r d ≡ changes L.start b (answer (state_lent L) b c) → IfOk r (λ l. l.opened ≤ levels)
    placed_change (Ok l) q = kept_few count l q
    placed_change (Err e) q = tt

    pub step_called : (r : Or Left) → change_leaves r d ≡ changes L.start b (answer (state_lent L) b c) → (t : Stream) (a : Or Bool) → step_of a t ≡ kept_step s r → leaves (step_of a t) d ≡ called s b c
    unfolding kept_step
    step_called (Ok l) q t a e = rw e (kept_called count l q _ refl)
    step_called (Err e) q t a z = rw z (refused_called e q)

-- ---- the state after a change that opened a list. The call answers for a list of any number of items; one of so many is answered alike

-- the call that opens a list with this maximum, 0 for any number
unfoldable pub asking : ℕ → Call
asking zero = unbounded
asking (suc n) = begin (suc n)

pub asking_some : (m : ℕ) → (m ≡ 0 → ⊥) → asking m ≡ begin m
unfolding asking
asking_some zero h = absurd (h refl)
asking_some (suc m) h = refl

own_asking : (m : ℕ) (v : View) → own (asking m) v ≡ level 1 v (begun (most_of m) v)
unfolding own asking most_of
own_asking zero v = refl
own_asking (suc m) v = refl

lent_asking : (m : ℕ) → lent (asking m) ≡ []
unfolding lent asking
lent_asking zero = refl
lent_asking (suc m) = refl

module _ (s : State) (b : List ℕ) (m : ℕ) where
  alike : answer s b (asking m) ≡ also (answer s b unbounded) (λ v. Ok (begun (most_of m) (view s b)))
  unfolding answer own lent level begun roomed guarded unless also
  alike =
      rw (own_asking m (view s b), lent_asking m)
      (by_test (leb (length b) limit && leb 0 limit)
      (λ t. rw t
      (by_test (matches s (length b))
      (λ u. rw u
      (by_test (leb (length (view s b).opens + 1) levels)
      (λ w. rw w
      (by_test (leb (s.start + length ((view s b).written ++ 0 ∷ [])) (length b)) (λ x. rw x) (λ x. rw x)))
      (λ w. rw w)))
      (λ u. rw u)))
      (λ t. rw t))

  opened-got : (v : View) → answer s b unbounded ≡ Ok v
      → (v ≡ begun any (view s b)) × (length s.opens < levels) × (length v.written ≤ limit)
  unfolding own level view
  opened-got v e =
      let a = answer-got s b unbounded v e in
      let l = unless-got (leb (length s.opens + 1) levels) TooDeep (Ok (begun any (view s b))) v a.2 in
      (sym (got_inj l.1), omega (arith, leb-true (length s.opens + 1) levels l.0), omega (arith, a.0, a.3))

module _ (s : Stream) (b : List ℕ) (m : ℕ) where
  begun-stored : stored s (begun (most_of m) (view (state_of s) b)) ≡ opening s (changed s.start (begun any (view (state_of s) b))) m
  unfolding stored begun view state_of placed opening changed innermost set_last
  begun-stored =
      let g = placed_same s.positions s.currents s.maxima s.opened in
      let w : List ℕ = (view (state_of s) b).written in
      let e : s.start + length (w ++ 0 ∷ []) - s.start ≡ suc (length w) = omega (arith, length-append w (0 ∷ [])) in
      rw (g.0, g.1, g.2, kept_most_most_of m, e)

  begun-laid : laid s.start b (begun any (view (state_of s) b)) ≡ laid s.start b (begun (most_of m) (view (state_of s) b))
  unfolding laid begun
  begun-laid = refl

  begun-opens : (l : Left) (v : View) → l ≡ changed s.start v → v ≡ begun any (view (state_of s) b) → length (state_of s).opens < levels
      → length v.written ≤ limit → (0 < l.opened) × (l.opened ≤ levels) × (s.start ≤ l.end) × (l.end - s.start ≤ limit)
  unfolding changed begun view
  begun-opens l v e u h z =
      let k : length v.opens ≡ suc (length (state_of s).opens) = ap (λ (x : View). length x.opens) u in
      rw e (omega arith, omega arith, omega arith, omega arith)

  module _ (d : List ℕ) (L : Lent) (is : (L.start ≡ s.start) × (state_lent L ≡ state_of s)) where
    asked : (e : Refusal) → answer (state_of s) b unbounded ≡ Err e → answer (state_of s) b (asking m) ≡ Err e
    unfolding also
    asked e r = alike (state_of s) b m ∙ rw r

    pub unopened-called : (e : Refusal) → change_leaves (Err e) d ≡ changes L.start b (answer (state_lent L) b unbounded) → leaves (step_of (Err e) s) d ≡ called s b (asking m)
    unfolding called after leaves
    unopened-called e q =
        let r = changes-refused s.start b d (answer (state_of s) b unbounded) e (so s b d L is unbounded (Err e) q) in
        rw (asked e r.0, r.1)

    module _ (l : Left) (q : change_leaves (Ok l) d ≡ changes L.start b (answer (state_lent L) b unbounded)) where
      pub opened_facts : (0 < l.opened) × (l.opened ≤ levels) × (s.start ≤ l.end) × (l.end - s.start ≤ limit)
      opened_facts =
          let r = changes-got s.start b d (answer (state_of s) b unbounded) l (so s b d L is unbounded (Ok l) q) in
          let k = opened-got (state_of s) b m r.0 r.1 in
          begun-opens l r.0 r.2 k.0 k.1 k.2

      pub opened-called : (t : Stream) → t ≡ opening s l m → leaves (step_of (Ok true) t) d ≡ called s b (asking m)
      unfolding also
      opened-called t e =
          let r = changes-got s.start b d (answer (state_of s) b unbounded) l (so s b d L is unbounded (Ok l) q) in
          let k = opened-got (state_of s) b m r.0 r.1 in
          let v : View = begun (most_of m) (view (state_of s) b) in
          let p : answer (state_of s) b (asking m) ≡ Ok v = alike (state_of s) b m ∙ rw r.1 in
          accepted s b (asking m) v p t d
          (e ∙ (ap (λ x. opening s x m) (r.2 ∙ ap (changed s.start) k.0) ∙ sym begun-stored))
          (r.3 ∙ (ap (laid s.start b) k.0 ∙ begun-laid))

    -- whatever the change is
    pub opens_change : (r : Or Left) → change_leaves r d ≡ changes L.start b (answer (state_lent L) b unbounded) → IfOk r (Opens s.start)
    opens_change (Ok l) q = opened_facts l q
    opens_change (Err e) q = tt

    pub opened_step_called : (r : Or Left) → change_leaves r d ≡ changes L.start b (answer (state_lent L) b unbounded)
        → (t : Stream) (a : Or Bool) → step_of a t ≡ opened_step s r m → (c : Call) → asking m ≡ c → leaves (step_of a t) d ≡ called s b c
    unfolding opened_step
    opened_step_called (Ok l) q t a e c k = rw (← k, e) (opened-called l q _ refl)
    opened_step_called (Err e) q t a z c k = rw (← k, z) (unopened-called e q)

-- ---- the sets of these that find the methods' proofs

pub ruleset kept_steps = (placed_change, step_called, common_steps)

pub ruleset opened_steps = (opens_change, opened_step_called, common_steps)

pub ruleset begun_steps = (placed_change, step_called, opens_change, opened_step_called, asking_some, common_steps)

pub ruleset none_steps = (be-none, common_steps)
