-- What any call answers and leaves, whatever the state. Assumes nothing.
use Rattle.std.specs.Prelude.{◌≡◌, ℕ, zero, suc, ◌+◌, ◌<◌, ◌≤◌, ⊤, Bool, true, false, ◌&&◌, eqb, ltb, leb, ◌⊎◌, List, [], ◌∷◌, length, Ok, Err}
use mathlib.Core.Path.{refl, sym, ap, ◌∙◌, subst}
use mathlib.Core.Bool.{false≢true}
use mathlib.Core.Logic.{inl, inr}
use native.Mathlib.Omega.{arith}
use borrow.Author.Tests.{ltb-true, leb-true}
use Rattle.rlp.specs.declared.Refusal.{Refusal}
use Rattle.rlp.specs.declared.Refusal.TheVariants.{TooDeep, TooLarge, NoRoom, TooManyItems, CountMismatch, StateMismatch}
use Rattle.rlp.specs.Refusals.{number_of, Or, also, unless}
use Rattle.rlp.specs.Limits.{limit, levels}
use Rattle.rlp.specs.Tree.{Items, many, deepest}
use Rattle.rlp.proofs.Tests.{is_lt, is_le, not_le, by_test}
use Rattle.rlp.proofs.Answers.{refused-got, got_inj, refused_inj, also-got, unless-got}
use Rattle.strict.specs.Strict.{row_tree}
use Rattle.strict.proofs.Refusals.{row_tree-within}
use Rattle.stream.specs.declared.Stream.{Stream}
use Rattle.stream.specs.State.{Most, any, up_to, Open, State, state_of, total, View, view, stored, matches}
use Rattle.stream.specs.Stream.{counted, closed, appended, level, unless_counted, finalized, takes, raw_items, Call, value, begin, unbounded, finalize, raw, clear, lent, own, roomed, guarded, answer, After, after, called}
use Rattle.stream.specs.Sizes.{size_now, estimate_of, unless_over, checked}
use Rattle.stream.specs.Claims.{Unchanged, Keeps, Matches}
use Rattle.stream.proofs.Stores.{laid-before, laid-after, laid-length}
use Rattle.stream.proofs.OpenLists.{both}
use Rattle.stream.proofs.Sentence.{matches-is}

-- ---- 12 and 20

module _ {A : Type 0} (s : State) (room n : ℕ) (o : Or A) where
  pub guarded-got : (a : A) → guarded s room n o ≡ Ok a → (room ≤ limit) × (n ≤ limit) × (matches s room ≡ true) × (o ≡ Ok a)
  unfolding guarded
  guarded-got a e =
      let p = unless-got (leb room limit && leb n limit) TooLarge (unless (matches s room) StateMismatch o) a e in
      let q = unless-got (matches s room) StateMismatch o a p.1 in
      let h = both (leb room limit) (leb n limit) p.0 in
      (leb-true room limit h.0, leb-true n limit h.1, q.0, q.1)

  pub guarded_on : room ≤ limit → n ≤ limit → matches s room ≡ true → guarded s room n o ≡ o
  unfolding guarded unless
  guarded_on h i m = rw (is_le h, is_le i, m)

  pub guarded_large : (limit < room) ⊎ (limit < n) → guarded s room n o ≡ Err TooLarge
  unfolding guarded unless
  guarded_large (inl h) = rw (not_le h)
  guarded_large (inr h) = by_test (leb room limit) (λ t. rw (t, not_le h)) (λ t. rw t)

  pub guarded_unmatched : room ≤ limit → n ≤ limit → matches s room ≡ false → guarded s room n o ≡ Err StateMismatch
  unfolding guarded unless
  guarded_unmatched h i m = rw (is_le h, is_le i, m)

  -- what comes after them has no part in them
  pub guarded-also : guarded s room n o ≡ also (guarded s room n (Ok tt)) (λ (k : ⊤). o)
  unfolding guarded unless also
  guarded-also =
      by_test (leb room limit && leb n limit)
      (λ t. rw t (by_test (matches s room) (λ m. rw m) (λ m. rw m)))
      (λ t. rw t)

-- an accepted call: what it answered, past 12 and 20, fits
pub answer-got : (s : State) (b : List ℕ) (c : Call) (v : View) → answer s b c ≡ Ok v
    → (length b ≤ limit) × (matches s (length b) ≡ true) × (own c (view s b) ≡ Ok v) × (s.start + length v.written ≤ length b)
unfolding answer roomed
answer-got s b c v e =
    let g = guarded-got s (length b) (length (lent c)) (also (own c (view s b)) (roomed s.start (length b))) v e in
    let a = also-got (own c (view s b)) (roomed s.start (length b)) v g.3 in
    let p = unless-got (leb (s.start + length a.0.written) (length b)) NoRoom (Ok a.0) v a.2 in
    (g.0, g.2, a.1 ∙ p.1, rw (← got_inj p.1) (leb-true (s.start + length a.0.written) (length b) p.0))

-- ---- what is left

no_yes : {A : Type 0} {e : Refusal} {a : A} → Ok a ≡ Err e → ⊥
no_yes p = refused-got (sym p)

false-true : ◌≡◌ {A = Or Bool} (Ok false) (Ok true) → ⊥
false-true p = false≢true (got_inj p)

module _ (s : Stream) (b : List ℕ) where
  pub after-refused : (o : Or View) (e : Refusal) → (after s b o).answer ≡ Err e → o ≡ Err e
  unfolding after
  after-refused (Err d) e p = ap Err (refused_inj p)
  after-refused (Ok v) e p = absurd (no_yes p)

  after-not_no : (o : Or View) → (after s b o).answer ≡ Ok false → ⊥
  unfolding after
  after-not_no (Err e) p = refused-got p
  after-not_no (Ok v) p = false-true (sym p)

  after_unchanged : (o : Or View) → ((after s b o).answer ≡ Ok true → ⊥) → Unchanged s b (after s b o)
  unfolding after
  after_unchanged (Err e) f = record { stream = refl; buffer = refl }
  after_unchanged (Ok v) f = absurd (f refl)

  after_keeps : (o : Or View) → ((v : View) → o ≡ Ok v → s.start + length v.written ≤ length b) → Keeps s b (after s b o)
  unfolding after stored
  after_keeps (Err e) f = record { start = refl; long = refl; before = refl; behind = refl }
  after_keeps (Ok v) f =
      let h = f v refl in
      record { start = refl; long = laid-length s.start b v h; before = laid-before s.start b v h; behind = laid-after s.start b v h }

  pub called_unchanged : (c : Call) → ((called s b c).answer ≡ Ok true → ⊥) → Unchanged s b (called s b c)
  unfolding called
  called_unchanged c f = after_unchanged (answer (state_of s) b c) f

  pub called-not_no : (c : Call) → (called s b c).answer ≡ Ok false → ⊥
  unfolding called
  called-not_no c p = after-not_no (answer (state_of s) b c) p

  -- what is accepted fits
  pub answer-fits : (c : Call) (v : View) → answer (state_of s) b c ≡ Ok v → s.start + length v.written ≤ length b
  unfolding state_of
  answer-fits c v e = (answer-got (state_of s) b c v e).3

  pub called_keeps : (c : Call) → Keeps s b (called s b c)
  unfolding called
  called_keeps c = after_keeps (answer (state_of s) b c) (answer-fits c)

  pub called_large : (c : Call) → (limit < length b) ⊎ (limit < length (lent c)) → (called s b c).answer ≡ Err TooLarge
  unfolding called answer after
  called_large c h =
      ap (λ (o : Or View). (after s b o).answer)
      (guarded_large (state_of s) (length b) (length (lent c)) (also (own c (view (state_of s) b)) (roomed (state_of s).start (length b))) h)

-- ---- 20 is given by the guard alone

-- an answer is not refused with 20
abbrev Other : {A : Type 0} → Or A → Type 0
Other o = o ≡ Err StateMismatch → ⊥

other-also : {A B : Type 0} (o : Or A) (f : A → Or B) → Other o → ((a : A) → Other (f a)) → Other (also o f)
unfolding also
other-also (Err e) f h k = λ p. h (ap Err (refused_inj p))
other-also (Ok a) f h k = k a

other-unless : {A : Type 0} (t : Bool) (e : Refusal) (o : Or A) → (number_of e ≡ 20 → ⊥) → Other o → Other (unless t e o)
unfolding unless
other-unless true e o h k = k
other-unless false e o h k = λ p. h (ap number_of (refused_inj p))

other-level : (n : ℕ) (v r : View) → Other (level n v r)
unfolding level
other-level n v r = other-unless (leb (length v.opens + n) levels) TooDeep (Ok r) (λ e. omega arith) no_yes

other-finalized : (os : List Open) (w : List ℕ) → Other (finalized os w)
unfolding finalized unless_counted
other-finalized [] w = λ p. omega (arith, ap number_of (refused_inj p))
other-finalized (o ∷ os) w = other-counted o.most
  where
    other-counted : (x : Most) → Other (unless_counted x (counted 1 os (closed o.position w)))
    other-counted any = no_yes
    other-counted (up_to n) = λ p. omega (arith, ap number_of (refused_inj p))

other_items : (x : List ℕ) (n : ℕ) (v : View) (l : Items) → Other (raw_items x n v l)
unfolding raw_items
other_items x n v l =
    other-unless (eqb (many l) n) CountMismatch _ (λ e. omega arith)
    (other-unless (takes n v.opens) TooManyItems (level (deepest l) v (appended n x v)) (λ e. omega arith)
    (other-level (deepest l) v (appended n x v)))

other-own : (c : Call) (v : View) → Other (own c v)
unfolding own
other-own (value x) v = no_yes
other-own (begin zero) v = other-level 1 v _
other-own (begin (suc n)) v = other-level 1 v _
other-own unbounded v = other-level 1 v _
other-own finalize v = other-finalized v.opens v.written
other-own (raw x n) v = other-also (row_tree x) (raw_items x n v) (row_tree-within x) (other_items x n v)
other-own clear v = no_yes

other-roomed : (start room : ℕ) (v : View) → Other (roomed start room v)
unfolding roomed
other-roomed start room v = other-unless (leb (start + length v.written) room) NoRoom (Ok v) (λ e. omega arith) no_yes

module _ (s : Stream) (b : List ℕ) (c : Call) (h : length b ≤ limit) (l : length (lent c) ≤ limit) where
  room_for : Or View
  room_for = also (own c (view (state_of s) b)) (roomed (state_of s).start (length b))

  pub matching-other : (called s b c).answer ≡ Err StateMismatch → Matches s (length b) → ⊥
  unfolding called answer room_for
  matching-other e M =
      other-also (own c (view (state_of s) b)) (roomed (state_of s).start (length b)) (other-own c (view (state_of s) b)) (other-roomed (state_of s).start (length b))
      (sym (guarded_on (state_of s) (length b) (length (lent c)) room_for h l ((matches-is s (length b)).1 M)) ∙ after-refused s b (answer (state_of s) b c) StateMismatch e)

  pub unmatched_20 : (Matches s (length b) → ⊥) → (called s b c).answer ≡ Err StateMismatch
  unfolding called answer after room_for
  unmatched_20 f =
      by_test (matches (state_of s) (length b))
      (λ t. absurd (f ((matches-is s (length b)).0 t)))
      (λ t. ap (λ (o : Or View). (after s b o).answer) (guarded_unmatched (state_of s) (length b) (length (lent c)) room_for h l t))

-- ---- the checked append

module _ (s : Stream) (b x : List ℕ) (n most : ℕ) where
  -- the estimate
  size : ℕ
  size = size_now (state_of s).opens (total (state_of s) + length x)

  -- a no leaves all as handed in
  abbrev pub said_no : After
  said_no = record { answer = Ok false; stream = s; buffer = b }

  -- it is the guard's refusal, a no, or `append_raw`
  module _ (g : Or ⊤) (p : guarded {A = ⊤} (state_of s) (length b) (length x) (Ok tt) ≡ g) where
    checked-is : checked s b x n most ≡ unless_over s b x n (also g (λ k. Ok size)) most
    unfolding checked estimate_of size
    checked-is = ap (λ (o : Or ℕ). unless_over s b x n o most) (guarded-also (state_of s) (length b) (length x) (Ok size) ∙ ap (λ (o : Or ⊤). also o (λ k. Ok size)) p)

    raw-is : called s b (raw x n) ≡ after s b (also g (λ k. also (own (raw x n) (view (state_of s) b)) (roomed (state_of s).start (length b))))
    unfolding called answer lent
    raw-is =
        let o : Or View = also (own (raw x n) (view (state_of s) b)) (roomed (state_of s).start (length b)) in
        ap (after s b) (guarded-also (state_of s) (length b) (length x) o ∙ ap (λ (g : Or ⊤). also g (λ k. o)) p)

  pub checked_either : (P : After → Type 0) → P said_no → P (called s b (raw x n)) → P (checked s b x n most)
  unfolding unless_over after also
  checked_either P f h = go (guarded {A = ⊤} (state_of s) (length b) (length x) (Ok tt)) refl
    where
      go : (g : Or ⊤) → guarded {A = ⊤} (state_of s) (length b) (length x) (Ok tt) ≡ g → P (checked s b x n most)
      go (Err e) p = subst P (raw-is (Err e) p ∙ sym (checked-is (Err e) p)) h
      go (Ok k) p = subst P (sym (checked-is (Ok k) p)) (by_test (ltb most size) (λ t. rw t f) (λ t. rw t h))

  -- a no: neither 12 nor 20 is given, and the estimate passes the maximum
  abbrev pub Passes : Type 0
  Passes = (length b ≤ limit) × (length x ≤ limit) × (matches (state_of s) (length b) ≡ true) × (most < size_now (state_of s).opens (total (state_of s) + length x))

  pub no_passes : (checked s b x n most).answer ≡ Ok false → Passes
  unfolding unless_over also size
  no_passes = go (guarded {A = ⊤} (state_of s) (length b) (length x) (Ok tt)) refl
    where
      go : (g : Or ⊤) → guarded {A = ⊤} (state_of s) (length b) (length x) (Ok tt) ≡ g → (checked s b x n most).answer ≡ Ok false → Passes
      go (Err e) p q = absurd (refused-got (sym (ap (λ (a : After). a.answer) (checked-is (Err e) p)) ∙ q))
      go (Ok k) p q =
          let g = guarded-got (state_of s) (length b) (length x) (Ok tt) k p in
          let r = sym (ap (λ (a : After). a.answer) (checked-is (Ok k) p)) ∙ q in
          (g.0, g.1, g.2, by_test (ltb most size) (λ t. ltb-true most size t) (λ t. absurd (called-not_no s b (raw x n) (rw t at r))))

  pub passes_no : Passes → (checked s b x n most).answer ≡ Ok false
  unfolding unless_over also size
  passes_no h =
      ap (λ (a : After). a.answer) (checked-is (Ok tt) (guarded_on (state_of s) (length b) (length x) (Ok tt) h.0 h.1 h.2))
      ∙ rw (is_lt h.3)
