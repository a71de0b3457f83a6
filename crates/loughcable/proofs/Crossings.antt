-- What the calls over the lent state answer and leave, stored in the numbers, is what the call of the stream leaves, in numbers. Assumes nothing.
use mathlib.Core.Path.{◌≡◌, refl, sym, ap, ◌∙◌}
use mathlib.Core.Bool.{Bool, true, false, false≢true}
use Prim.Native.Nat.{ℕ, zero, suc, ◌+◌, ◌^◌, ◌≤◌, ◌<◌}
use native.Mathlib.Omega.{arith}
use mathlib.Core.List.{List, []}
use lib.Dec.{eqb}
use lib.ListN.{length, get_or}
use borrow.Author.Tests.{eqb-true}
use Rattle.std.specs.Prelude.{Ok, Err}
use Rattle.rlp.specs.declared.Refusal.{Refusal}
use Rattle.rlp.specs.declared.Refusal.TheVariants.{StateMismatch}
use Rattle.rlp.specs.Refusals.{Or, unless}
use Rattle.rlp.specs.Limits.{limit}
use Rattle.rlp.specs.Bytes.{be}
use Rattle.rlp.proofs.BigEndian.{be-short}
use Rattle.rlp.proofs.Tests.{is_le, is_eq, not_eq, by_test}
use Rattle.rlp.proofs.Answers.{refused-got, got_inj, refused_inj, unless-got}
use Rattle.stream.specs.declared.Stream.{Stream}
use Rattle.stream.specs.declared.lists.Left.{Left}
use Rattle.stream.specs.declared.lists.Lent.{Lent}
use Rattle.stream.specs.State.{opens_in, State, state_of, View}
use Rattle.stream.specs.Stream.{new_of, Call, value, begin, unbounded, finalize, raw, clear, lent, answer, After, called}
use Rattle.stream.specs.Answers as stream
use Rattle.stream.specs.Steps.{state_lent, keeping, opening, changed, Changed, change_leaves, changes}
use Rattle.stream.proofs.Answered.{answer-got}
use Rattle.stream.proofs.Kept.{Counting, refused_called, kept_few, kept_called, asking, asking_some, unopened-called, opened_facts, opened-called}
use Rattle.loughcable.specs.Answers.{asked}
use Rattle.loughcable.specs.Crossing.{size, numbers, stream_in, state_in, misfit, fitting, leaves, numbers_after, in_numbers, across, crossed, new_after, crossed_new, crossed_new_list}
use Rattle.loughcable.specs.Steps.{lends, Stores, StoresList}
use Rattle.loughcable.proofs.Numbers.{new-stores, new-stores-list, new_in}

-- ---- the numbers as a state

-- the numbers are 51, and this state is lent for the stream
pub record Fits (ns : List ℕ) (s : Stream) (l : Lent) : Type 0 where
  pub long : length ns ≡ size
  pub is : (l.start ≡ s.start) × (state_lent l ≡ state_of s)

module _ (ns : List ℕ) (room n : ℕ) where
  -- it is lent where they are 51
  pub lent_long : (l : Lent) → lends (Ok l) ≡ fitting ns room n (Ok (state_in ns)) → (length ns ≡ size) × (state_lent l ≡ state_in ns)
  unfolding lends fitting
  lent_long l e =
      let g = unless-got (eqb (length ns) size) (misfit room n) (Ok (state_in ns)) (state_lent l) (sym e) in
      (eqb-true (length ns) size g.0, sym (got_inj g.1))

  lent_fits : (l : Lent) → lends (Ok l) ≡ fitting ns room n (Ok (state_in ns)) → Fits ns (stream_in ns) l
  unfolding state_in state_of
  lent_fits l e = record { long = (lent_long l e).0; is = (ap (λ (s : State). s.start) (lent_long l e).1, (lent_long l e).1) }

  -- and where they are not, nothing else has a part in the answer
  unlent_so : (e : Refusal) → lends (Err e) ≡ fitting ns room n (Ok (state_in ns)) → (eqb (length ns) size ≡ false) × (e ≡ misfit room n)
  unfolding lends fitting unless
  unlent_so e p =
      by_test (eqb (length ns) size)
      (λ t. absurd (refused-got (rw t at p)))
      (λ t. (t, refused_inj (rw t at p)))

module _ (ns b : List ℕ) (n : ℕ) (a : After) where
  pub unlent_across : (e : Refusal) → lends (Err e) ≡ fitting ns (length b) n (Ok (state_in ns)) → leaves (asked (Err e)) ns b ≡ across ns b n a
  unfolding leaves asked across
  unlent_across e p =
      let u = unlent_so ns (length b) n e p in
      rw (u.0, u.1)

  -- a call on 51 numbers
  pub crosses : (r : Or Bool) (s : Stream) (d : List ℕ) → length ns ≡ size → record { answer = r; stream = s; buffer = d } ≡ a → leaves (asked r) (numbers_after ns s r) d ≡ across ns b n a
  unfolding leaves in_numbers across
  crosses r s d h p = rw (is_eq h) (ap (in_numbers ns) p)

-- ---- a call over the lent state, for a state that the numbers are or will be

near : (b d : List ℕ) (l : Lent) (c : Call) (left : Left) → change_leaves (Ok left) d ≡ changes l.start b (answer (state_lent l) b c) → left.end ≤ limit
unfolding change_leaves changes changed
near b d l c left = go (answer (state_lent l) b c) refl
  where
    go : (o : Or View) → answer (state_lent l) b c ≡ o → change_leaves (Ok left) d ≡ changes l.start b o → left.end ≤ limit
    go (Err f) p e = absurd (refused-got (sym (ap (λ (x : Changed). x.answer) e)))
    go (Ok v) p e =
        let k : left.end ≡ l.start + length v.written = ap (λ (x : Left). x.end) (got_inj (ap (λ (x : Changed). x.answer) e)) in
        let a = answer-got (state_lent l) b c v p in
        omega (arith, a.0, a.3)

module _ (ns b d : List ℕ) (n : ℕ) (s : Stream) (l : Lent) (fits : Fits ns s l) where
  module _ (c : Call) where
    pub kept_no : (e : Refusal) → change_leaves (Err e) d ≡ changes l.start b (answer (state_lent l) b c) → leaves (asked (Err e)) ns d ≡ across ns b n (called s b c)
    unfolding numbers_after stream.leaves
    kept_no e q = crosses ns b n (called s b c) (Err e) s d fits.long (refused_called s b d l fits.is c e q)

    module _ (left : Left) (k : Counting c) (q : change_leaves (Ok left) d ≡ changes l.start b (answer (state_lent l) b c)) where
      pub kept-stores : Stores ns left
      kept-stores = record { long = fits.long; few = kept_few s b d l fits.is c k left q; near = near b d l c left q }

      pub kept_yes : leaves (asked (Ok true)) (numbers (keeping s left)) d ≡ across ns b n (called s b c)
      unfolding numbers_after stream.leaves
      kept_yes = crosses ns b n (called s b c) (Ok true) (keeping s left) d fits.long (kept_called s b d l fits.is c k left q (keeping s left) refl)

  module _ (m : ℕ) where
    pub opened_no : (e : Refusal) → change_leaves (Err e) d ≡ changes l.start b (answer (state_lent l) b unbounded) → leaves (asked (Err e)) ns d ≡ across ns b n (called s b (asking m))
    unfolding numbers_after stream.leaves
    opened_no e q = crosses ns b n (called s b (asking m)) (Err e) s d fits.long (unopened-called s b m d l fits.is e q)

    module _ (left : Left) (q : change_leaves (Ok left) d ≡ changes l.start b (answer (state_lent l) b unbounded)) where
      pub opened-stores : StoresList ns s.start left
      opened-stores =
          let o = opened_facts s b m d l fits.is left q in
          record { stores = record { long = fits.long; few = o.1; near = near b d l unbounded left q }; some = o.0; starts = o.2 }

      pub opened_yes : leaves (asked (Ok true)) (numbers (opening s left m)) d ≡ across ns b n (called s b (asking m))
      unfolding numbers_after stream.leaves
      opened_yes = crosses ns b n (called s b (asking m)) (Ok true) (opening s left m) d fits.long (opened-called s b m d l fits.is left q (opening s left m) refl)

-- ---- the same by what the calls were answered

-- a call that counts items
abbrev pub counts : Call → Bool
counts (value x) = true
counts (begin zero) = true
counts (begin (suc n)) = false
counts unbounded = false
counts finalize = true
counts (raw x n) = true
counts clear = false

counting : (c : Call) → counts c ≡ true → Counting c
unfolding Counting
counting (value x) e = tt
counting (begin zero) e = tt
counting (begin (suc n)) e = false≢true e
counting unbounded e = false≢true e
counting finalize e = tt
counting (raw x n) e = tt
counting clear e = false≢true e

module _ (ns b d : List ℕ) (c : Call) (l : Lent) (lends_it : lends (Ok l) ≡ fitting ns (length b) (length (lent c)) (Ok (state_in ns))) where
  pub call_refused : (e : Refusal) → change_leaves (Err e) d ≡ changes l.start b (answer (state_lent l) b c) → leaves (asked (Err e)) ns d ≡ crossed ns b c
  unfolding state_in crossed
  call_refused e q =
      kept_no ns b d (length (lent c)) (stream_in ns) l (lent_fits ns (length b) (length (lent c)) l lends_it) c e q

  module _ (left : Left) (k : counts c ≡ true) (q : change_leaves (Ok left) d ≡ changes l.start b (answer (state_lent l) b c)) where
    pub call_stores : Stores ns left
    unfolding state_in
    call_stores =
        kept-stores ns b d (length (lent c)) (stream_in ns) l (lent_fits ns (length b) (length (lent c)) l lends_it) c left (counting c k) q

    pub call_kept : leaves (asked (Ok true)) (numbers (keeping (stream_in ns) left)) d ≡ crossed ns b c
    unfolding state_in crossed
    call_kept =
        kept_yes ns b d (length (lent c)) (stream_in ns) l (lent_fits ns (length b) (length (lent c)) l lends_it) c left (counting c k) q

module _ (ns b d : List ℕ) (l : Lent) (lends_it : lends (Ok l) ≡ fitting ns (length b) 0 (Ok (state_in ns))) where
  list_begun : (m : ℕ) → (m ≡ 0 → ⊥) → across ns b 0 (called (stream_in ns) b (asking m)) ≡ crossed ns b (begin m)
  unfolding crossed lent
  list_begun zero h = absurd (h refl)
  list_begun (suc m) h = ap (λ (c : Call). across ns b 0 (called (stream_in ns) b c)) (asking_some (suc m) h)

  pub list_refused : (m : ℕ) (e : Refusal) → (m ≡ 0 → ⊥) → change_leaves (Err e) d ≡ changes l.start b (answer (state_lent l) b unbounded) → leaves (asked (Err e)) ns d ≡ crossed ns b (begin m)
  unfolding state_in
  list_refused m e h q =
      opened_no ns b d 0 (stream_in ns) l (lent_fits ns (length b) 0 l lends_it) m e q ∙ list_begun m h

  module _ (left : Left) (q : change_leaves (Ok left) d ≡ changes l.start b (answer (state_lent l) b unbounded)) where
    pub list_stores : StoresList ns (get_or ns 0 0) left
    unfolding state_in stream_in
    list_stores =
        opened-stores ns b d 0 (stream_in ns) l (lent_fits ns (length b) 0 l lends_it) 0 left q

    pub list_kept : (m : ℕ) → (m ≡ 0 → ⊥) → leaves (asked (Ok true)) (numbers (opening (stream_in ns) left m)) d ≡ crossed ns b (begin m)
    unfolding state_in
    list_kept m h =
        opened_yes ns b d 0 (stream_in ns) l (lent_fits ns (length b) 0 l lends_it) m left q ∙ list_begun m h

    pub unbounded_kept : leaves (asked (Ok true)) (numbers (opening (stream_in ns) left 0)) d ≡ crossed ns b unbounded
    unfolding state_in crossed lent asking
    unbounded_kept =
        opened_yes ns b d 0 (stream_in ns) l (lent_fits ns (length b) 0 l lends_it) 0 left q

pub lent_refused : (ns b : List ℕ) (c : Call) (e : Refusal) → lends (Err e) ≡ fitting ns (length b) (length (lent c)) (Ok (state_in ns)) → leaves (asked (Err e)) ns b ≡ crossed ns b c
unfolding crossed
lent_refused ns b c e p = unlent_across ns b (length (lent c)) (called (stream_in ns) b c) e p

-- a number's string is lent to no call, and is within the limit
pub scalar_lent : (ns b : List ℕ) (x : ℕ) (r : Or Lent) → x < 256 ^ 8 → lends r ≡ fitting ns (length b) 0 (Ok (state_in ns)) → lends r ≡ fitting ns (length b) (length (be x)) (Ok (state_in ns))
unfolding fitting misfit
scalar_lent ns b x r h p = rw (is_le {a = length (be x)} {b = limit} (omega (arith, be-short 8 x h))) p

-- ---- a new stream

module _ (ns : List ℕ) (at : ℕ) where
  pub new_refused : (length ns ≡ size → ⊥) → leaves (asked (Err StateMismatch)) ns [] ≡ crossed_new ns at
  unfolding crossed_new across leaves misfit asked
  new_refused h = rw (not_eq h)

  pub new_made : length ns ≡ size → leaves (asked (Ok true)) (numbers (new_after at).stream) [] ≡ crossed_new ns at
  unfolding crossed_new numbers_after
  new_made h = crosses ns [] 0 (new_after at) (Ok true) (new_after at).stream [] h refl

-- the state that is lent for it: with no open list, what the numbers held has no part in it
abbrev fresh : Lent → ℕ → Lent
fresh l at = record { start = at; end = at; opened = 0; positions = l.positions; currents = l.currents; maxima = l.maxima }

fresh_fits : (ns : List ℕ) (l : Lent) (at : ℕ) → length ns ≡ size → Fits ns (new_of at) (fresh l at)
unfolding state_of opens_in
fresh_fits ns l at h = record { long = h; is = (refl, refl) }

module _ (ns b : List ℕ) (at : ℕ) where
  pub new_list_unlent : (m : ℕ) (e : Refusal) → lends (Err e) ≡ fitting ns (length b) 0 (Ok (state_in ns)) → leaves (asked (Err e)) ns b ≡ crossed_new_list ns b at m
  unfolding crossed_new_list
  new_list_unlent m e p = unlent_across ns b 0 (called (new_of at) b (begin m)) e p

  new_begun : (m : ℕ) → (m ≡ 0 → ⊥) → across ns b 0 (called (new_of at) b (asking m)) ≡ crossed_new_list ns b at m
  unfolding crossed_new_list
  new_begun m h = ap (λ (c : Call). across ns b 0 (called (new_of at) b c)) (asking_some m h)

  module _ (d : List ℕ) (l : Lent) (lends_it : lends (Ok l) ≡ fitting ns (length b) 0 (Ok (state_in ns))) where
    pub new_long : length ns ≡ size
    new_long = (lent_long ns (length b) 0 l lends_it).0

    pub new_empty_refused : (m : ℕ) (e : Refusal) → m ≡ 0 → change_leaves (Err e) d ≡ changes at b (answer (state_lent (fresh l at)) b (begin 0)) → leaves (asked (Err e)) ns d ≡ crossed_new_list ns b at m
    unfolding crossed_new_list
    new_empty_refused m e z q =
        kept_no ns b d 0 (new_of at) (fresh l at) (fresh_fits ns l at new_long) (begin 0) e q
        ∙ ap (λ (k : ℕ). across ns b 0 (called (new_of at) b (begin k))) (sym z)

    pub new_list_refused : (m : ℕ) (e : Refusal) → (m ≡ 0 → ⊥) → change_leaves (Err e) d ≡ changes at b (answer (state_lent (fresh l at)) b unbounded) → leaves (asked (Err e)) ns d ≡ crossed_new_list ns b at m
    new_list_refused m e z q = opened_no ns b d 0 (new_of at) (fresh l at) (fresh_fits ns l at new_long) m e q ∙ new_begun m z

    module _ (now : List ℕ) (new : now ≡ numbers (new_of at)) (left : Left) where
      module _ (q : change_leaves (Ok left) d ≡ changes at b (answer (state_lent (fresh l at)) b (begin 0))) where
        pub new_empty_stores : Stores now left
        unfolding Counting
        new_empty_stores = new-stores ns now at left new (kept-stores ns b d 0 (new_of at) (fresh l at) (fresh_fits ns l at new_long) (begin 0) left tt q)

        pub new_empty_kept : (m : ℕ) → m ≡ 0 → leaves (asked (Ok true)) (numbers (keeping (stream_in now) left)) d ≡ crossed_new_list ns b at m
        unfolding Counting crossed_new_list
        new_empty_kept m z =
            ap (λ (s : Stream). leaves (asked (Ok true)) (numbers (keeping s left)) d) (new_in now at new)
            ∙ kept_yes ns b d 0 (new_of at) (fresh l at) (fresh_fits ns l at new_long) (begin 0) left tt q
            ∙ ap (λ (k : ℕ). across ns b 0 (called (new_of at) b (begin k))) (sym z)

      module _ (q : change_leaves (Ok left) d ≡ changes at b (answer (state_lent (fresh l at)) b unbounded)) where
        pub new_list_stores : StoresList now (get_or now 0 0) left
        new_list_stores = new-stores-list ns now at left new (opened-stores ns b d 0 (new_of at) (fresh l at) (fresh_fits ns l at new_long) 0 left q)

        pub new_list_kept : (m : ℕ) → (m ≡ 0 → ⊥) → leaves (asked (Ok true)) (numbers (opening (stream_in now) left m)) d ≡ crossed_new_list ns b at m
        new_list_kept m z =
            ap (λ (s : Stream). leaves (asked (Ok true)) (numbers (opening s left m)) d) (new_in now at new)
            ∙ opened_yes ns b d 0 (new_of at) (fresh l at) (fresh_fits ns l at new_long) m left q
            ∙ new_begun m z
