-- Where state and buffer show what was said, they show after each call what was said with it; and so after any events. Assumes nothing.
use Rattle.std.specs.Prelude.{◌≡◌, ℕ, suc, ◌+◌, ◌-◌, ◌<◌, ◌≤◌, true, leb, List, [], ◌∷◌, length, drop, Ok, Err}
use mathlib.Core.Path.{refl, sym, ap, ◌∙◌, subst}
use native.Mathlib.Omega.{arith}
use mathlib.Core.List.{append-nil}
use lib.ListN.{length-drop}
use lib.Seq.{length-take-le}
use borrow.Author.Tests.{leb-true}
use Rattle.rlp.specs.declared.Refusal.TheVariants.{NoRoom}
use Rattle.rlp.specs.Refusals.{Or, also}
use Rattle.rlp.specs.Limits.{limit, levels}
use Rattle.rlp.specs.Bytes.{Bytes}
use Rattle.rlp.specs.Tree.{Item, Items, end, ◌then◌, enc, encs, deepest}
use Rattle.rlp.proofs.Tests.{is_le}
use Rattle.rlp.proofs.Answers.{refused-got, got_inj, also-got, unless-got}
use Rattle.strict.specs.Strict.{tree}
use Rattle.strict.proofs.Complete.{tree-enc}
use Rattle.stream.specs.declared.Stream.{Stream}
use Rattle.stream.specs.State.{opens_in, state_of, total, View, view, stored, laid, matches}
use Rattle.stream.specs.Stream.{Call, value, begin, unbounded, finalize, raw, clear, lent, own, roomed, answer, after, called}
use Rattle.stream.specs.Said.{Said, top, inner, step, meaning, rendered, opens_of, shown, opened, says}
use Rattle.stream.specs.Runs.{Event, calls, checks, writes, Run, since_then, counting, noted, one, run, May, Allowed, Sized, New, fresh, Reached}
use Rattle.stream.specs.Claims.{Matches, Deep, Shows, written, Finished}
use Rattle.stream.proofs.OpenLists.{length-opens}
use Rattle.stream.proofs.Stores.{Waiting, sized-stored, opens-stored, view-stored, laid-length}
use Rattle.stream.proofs.Sentence.{matches-is, matches-waiting}
use Rattle.stream.proofs.Saying.{length-opens_of, own-says, deep-opened, Fit, Stepped, says_steps, sound_shows}
use Rattle.stream.proofs.Answered.{guarded-got, guarded_on, checked_either}

-- ---- what a state that shows something has

module _ (s : Stream) (b : List ℕ) (m : Said) (h : Shows s b m) where
  pub shows_total : s.end - s.start ≡ length (rendered m)
  unfolding view state_of total shown
  shows_total =
      sym (length-take-le (s.end - s.start) (drop s.start b) (omega (arith, h.matching.starts, h.matching.ends, length-drop s.start b)))
      ∙ ap (λ (v : View). length v.written) h.same

  pub shows_opened : s.opened ≡ opened m
  unfolding view state_of shown
  shows_opened =
      sym (length-opens s.positions s.currents s.maxima s.opened) ∙ ap (λ (v : View). length v.opens) h.same ∙ length-opens_of m

  shows_fit : Fit m
  unfolding view shown
  shows_fit =
      record { deep = h.deep; waiting = subst Waiting (ap (λ (v : View). v.opens) h.same) (matches-waiting s (length b) h.matching) }

-- ---- each call: its answer is by what was said

pub answer-is : (s : Stream) (b : List ℕ) (m : Said) (c : Call) → Shows s b m → Bytes (lent c) → length (lent c) ≤ limit
    → answer (state_of s) b c ≡ also (says m c) (λ k. roomed s.start (length b) (shown k))
unfolding answer state_of also
answer-is s b m c h w l =
    guarded_on (state_of s) (length b) (length (lent c)) (also (own c (view (state_of s) b)) (roomed s.start (length b))) h.small l ((matches-is s (length b)).1 h.matching)
    ∙ ap (λ (v : View). also (own c v) (roomed s.start (length b))) h.same
    ∙ ap (λ (o : Or View). also o (roomed s.start (length b))) (own-says c m w)
    ∙ go (says m c)
  where
    go : (o : Or Said) → also (also o (λ k. Ok (shown k))) (roomed s.start (length b)) ≡ also o (λ k. roomed s.start (length b) (shown k))
    go (Err e) = refl
    go (Ok k) = refl

-- ---- and what it leaves shows what was said with it

module _ (s : Stream) (b : List ℕ) (m : Said) (z : Sized s) (f : Fit m) (fits : s.start + length (rendered m) ≤ length b) where
  few : length (opens_of m) ≤ levels
  few = omega (arith, length-opens_of m, deep-opened m f.deep)

  store_matches : matches (state_of (stored s (shown m))) (length b) ≡ true
  unfolding matches total state_of stored shown
  store_matches =
      let e : s.start + length (rendered m) - s.start ≡ length (rendered m) = omega arith in
      rw (opens-stored s (shown m) z f.waiting few, e, is_le {a = s.start} {b = s.start + length (rendered m)} (omega arith), is_le fits, is_le few)
      (sound_shows m (length (rendered m)) (suc (length (rendered m))) f.waiting (omega arith) (omega arith))

  store_shows : length b ≤ limit → Shows (stored s (shown m)) (laid s.start b (shown m)) m
  unfolding shown
  store_shows l =
      let n : length (laid s.start b (shown m)) ≡ length b = laid-length s.start b (shown m) fits in
      record {
        sized = sized-stored s (shown m) z;
        small = omega (arith, l, n);
        matching = subst (Matches (stored s (shown m))) (sym n) ((matches-is (stored s (shown m)) (length b)).0 store_matches);
        same = view-stored s b (shown m) z f.waiting few fits;
        deep = f.deep;
      }

accepted_shows : (s : Stream) (b : List ℕ) (m : Said) (c : Call) (v : View) → Shows s b m → Bytes (lent c) → answer (state_of s) b c ≡ Ok v
    → Shows (stored s v) (laid s.start b v) (step m c)
unfolding roomed answer shown
accepted_shows s b m c v h w e =
    let g = guarded-got (state_of s) (length b) (length (lent c)) (also (own c (view (state_of s) b)) (roomed (state_of s).start (length b))) v e in
    let a = also-got (says m c) (λ k. roomed s.start (length b) (shown k)) v (sym (answer-is s b m c h w g.1) ∙ e) in
    let k : Said = a.0 in
    let p = unless-got (leb (s.start + length (rendered k)) (length b)) NoRoom (Ok (shown k)) v a.2 in
    let q : Stepped m c k = says_steps c m k (shows_fit s b m h) a.1 in
    let r : Shows (stored s (shown k)) (laid s.start b (shown k)) k =
    store_shows s b k h.sized q.fit (leb-true (s.start + length (rendered k)) (length b) p.0) h.small in
    rw (← got_inj p.1) (subst (Shows (stored s (shown k)) (laid s.start b (shown k))) q.is r)

pub called_shows : (s : Stream) (b : List ℕ) (m : Said) (c : Call) → Shows s b m → Bytes (lent c) → (called s b c).answer ≡ Ok true
    → Shows (called s b c).stream (called s b c).buffer (step m c)
unfolding called after
called_shows s b m c h w = go (answer (state_of s) b c) refl
  where
    go : (o : Or View) → answer (state_of s) b c ≡ o → (after s b o).answer ≡ Ok true → Shows (after s b o).stream (after s b o).buffer (step m c)
    go (Err e) p q = absurd (refused-got q)
    go (Ok v) p q = accepted_shows s b m c v h w p

-- ---- the beginning

pub new_shows : (s : Stream) (b : List ℕ) → New s b → Shows s b (top end)
unfolding view state_of total shown rendered opens_of encs Deep deepest opens_in
new_shows s b N =
    let e : s.end - s.start ≡ 0 = omega (arith, N.nothing) in
    let none : (i : ℕ) → i < s.opened → ⊥ = λ i h. omega (arith, N.none) in
    record {
      sized = N.sized;
      small = N.small;
      matching =
          record {
            starts = omega (arith, N.nothing);
            ends = omega (arith, N.nothing, N.inside);
            few = omega (arith, N.none);
            rise = λ i h. absurd (omega (arith, N.none));
            low = λ i h. absurd (none i h);
            high = λ i h. absurd (none i h);
            counts = λ i h. absurd (none i h);
            waiting = λ i h. absurd (none i h);
          };
      same = rw (e, N.none);
      deep = omega arith;
    }

cleared_new : (s : Stream) (b : List ℕ) (v : View) → Sized s → answer (state_of s) b clear ≡ Ok v → New (stored s v) (laid s.start b v)
unfolding answer own also roomed lent state_of stored
cleared_new s b v z e =
    let n : View = record { opens = []; written = [] } in
    let g = guarded-got (state_of s) (length b) 0 (roomed s.start (length b) n) v e in
    let p = unless-got (leb (s.start + 0) (length b)) NoRoom (Ok n) v g.3 in
    let f : s.start + 0 ≤ length b = leb-true (s.start + 0) (length b) p.0 in
    let l : length (laid s.start b n) ≡ length b = laid-length s.start b n f in
    rw (← got_inj p.1)
    (record { sized = sized-stored s n z; nothing = omega arith; none = refl; inside = omega (arith, l, f); small = omega (arith, l, g.0) })

pub clear-new : (s : Stream) (b : List ℕ) → Sized s → (called s b clear).answer ≡ Ok true → New (called s b clear).stream (called s b clear).buffer
unfolding called after
clear-new s b z = go (answer (state_of s) b clear) refl
  where
    go : (o : Or View) → answer (state_of s) b clear ≡ o → (after s b o).answer ≡ Ok true → New (after s b o).stream (after s b o).buffer
    go (Err e) p q = absurd (refused-got q)
    go (Ok v) p q = cleared_new s b v z p

-- ---- any events

abbrev pub Held : Run → Type 0
Held r = Shows r.stream r.buffer (meaning r.since)

since_means : (c : Call) (l : List Call) → meaning (since_then c l) ≡ step (meaning l) c
unfolding meaning since_then step
since_means (value x) l = refl
since_means (begin n) l = refl
since_means unbounded l = refl
since_means finalize l = refl
since_means (raw x n) l = refl
since_means clear l = refl

call-holds : (r : Run) (c : Call) → Bytes (lent c) → Held r → Held (noted r c (called r.stream r.buffer c))
unfolding noted counting called after
call-holds r c w h = go (answer (state_of r.stream) r.buffer c) refl
  where
    go : (o : Or View) → answer (state_of r.stream) r.buffer c ≡ o → Held (noted r c (after r.stream r.buffer o))
    go (Err e) p = h
    go (Ok v) p = rw (since_means c r.since) (accepted_shows r.stream r.buffer (meaning r.since) c v h w p)

one_holds : (r : Run) (e : Event) → May r e → Held r → Held (one r e)
unfolding one May noted counting lent
one_holds r (calls c) w h = call-holds r c w h
one_holds r (checks x n most) w h =
    checked_either r.stream r.buffer x n most (λ a. Held (noted r (raw x n) a)) h (call-holds r (raw x n) w h)
one_holds r (writes b) w h =
    record {
      sized = h.sized;
      small = omega (arith, h.small, w.long);
      matching = subst (Matches r.stream) (sym w.long) h.matching;
      same = w.same ∙ h.same;
      deep = h.deep;
    }

run_holds : (r : Run) (l : List Event) → Allowed r l → Held r → Held (run r l)
unfolding run Allowed
run_holds r [] w h = h
run_holds r (e ∷ l) w h = run_holds (one r e) l w.1 (one_holds r e w.0 h)

pub reached_holds : (r : Run) → Reached r → Held r
unfolding fresh meaning
reached_holds r R =
    subst (λ (r : Run). Held r) (sym R.is) (run_holds (fresh R.stream R.buffer) R.events R.allowed (new_shows R.stream R.buffer R.new))

-- ---- the bytes from start to end

pub held_written : (r : Run) → Held r → written r ≡ rendered (meaning r.since)
unfolding written view state_of total shown
held_written r h = ap (λ (v : View). v.written) h.same

nothing_open : (m : Said) → opened m ≡ 0 → (l : Items) × (m ≡ top l)
unfolding opened
nothing_open (top l) e = (l, refl)
nothing_open (inner m x l) e = absurd (omega arith)

pub held_finished : (r : Run) → Held r → r.stream.opened ≡ 0 → Finished r
unfolding rendered
held_finished r h e =
    let m : Said = meaning r.since in
    let a = nothing_open m (omega (arith, e, shows_opened r.stream r.buffer m h)) in
    record { items = a.0; said = a.1; bytes = held_written r h ∙ ap rendered a.1 }

-- one item alone is a sheet
pub held_tree : (r : Run) (t : Item) → Held r → meaning r.since ≡ top (t then end) → tree (written r) ≡ Ok t
unfolding rendered encs Deep deepest
held_tree r t h e =
    let m : Said = meaning r.since in
    let w : written r ≡ enc t = held_written r h ∙ ap rendered e ∙ append-nil (enc t) in
    let d : Deep (top (t then end)) = subst Deep e h.deep in
    let n : length (rendered m) ≡ length (enc t) = ap (λ (m : Said). length (rendered m)) e ∙ ap length (append-nil (enc t)) in
    ap tree w ∙ tree-enc t (omega (arith, n, shows_total r.stream r.buffer m h, h.matching.ends, h.small)) (omega (arith, d))
