-- What the calls over the lent state answer, branch by branch: 12 and 20, then each call's own way. Assumes nothing.
use Rattle.std.specs.Prelude.{◌≡◌, ℕ, zero, suc, ◌+◌, ◌-◌, ◌^◌, ◌<◌, ◌≤◌, ⊤, true, false, ◌&&◌, leb, List, [], ◌∷◌, ◌++◌, length, take, drop, set, Ok, Err}
use mathlib.Core.Path.{refl, sym, ap, ◌∙◌}
use native.Mathlib.Omega.{arith}
use lib.ListN.{length-append, length-drop}
use lib.Seq.{length-take-le}
use borrow.Author.Tests.{leb-true}
use Rattle.rlp.specs.declared.Refusal.{Refusal}
use Rattle.rlp.specs.declared.Refusal.TheVariants.{TooDeep, NoRoom, NoOpenList, ListTypeMismatch}
use Rattle.rlp.specs.Refusals.{Or, also, unless}
use Rattle.rlp.specs.Limits.{limit, levels}
use Rattle.rlp.specs.Bytes.{be}
use Rattle.rlp.specs.Tree.{list, end, lists, header, itself, str, enc, encs}
use Rattle.rlp.proofs.Tests.{is_le, not_le, by_test, by_lt}
use Rattle.rlp.proofs.Answers.{refused-got, refused_inj, unless-got}
use Rattle.rlp.proofs.BigEndian.{be-short}
use Rattle.encode.specs.Put.{put}
use Rattle.encode.proofs.Puts.{put_same, put-length, put-there, put-more, put_over, put_one}
use Rattle.encode.proofs.Writes.{size-most, size-itself, size_headed}
use Rattle.stream.specs.declared.lists.Left.{Left}
use Rattle.stream.specs.State.{any, up_to, Open, list_at, State, total, most_of, View, view, laid, sound, matches}
use Rattle.stream.specs.Stream.{closed, counted, appended, begun, level, unless_counted, finalized, Call, value, begin, unbounded, finalize, lent, own, roomed, guarded, answer}
use Rattle.stream.specs.Sizes.{growth}
use Rattle.stream.specs.Steps.{total_after, Lists, Past, room_for, Ready, counted_in, innermost, changed, change_leaves, changes}
use Rattle.stream.proofs.OpenLists.{both, lists-more, sound-lists, total_grows}
use Rattle.stream.proofs.Cascade.{length-closed, close_window, counted-length}
use Rattle.stream.proofs.Answered.{guarded-got, guarded_on, guarded-also}

-- ---- 12 and 20

module _ (s : State) (room : ℕ) where
  pub matches_turned : s.end < s.start → matches s room ≡ false
  unfolding matches
  matches_turned h = rw (not_le h)

  module _ (h : s.start ≤ s.end) where
    pub matches-past : room < s.end → matches s room ≡ false
    unfolding matches
    matches-past l = rw (is_le h, not_le l)

    pub matches-deep : s.end ≤ room → levels < length s.opens → matches s room ≡ false
    unfolding matches
    matches-deep l d = rw (is_le h, is_le l, not_le d)

    pub matches-lists : s.end ≤ room → length s.opens ≤ levels → matches s room ≡ sound (s.end - s.start) (suc (s.end - s.start)) s.opens
    unfolding matches total
    matches-lists l d = rw (is_le h, is_le l, is_le d)

pub matches_facts : (s : State) (room : ℕ) → room ≤ limit → matches s room ≡ true → Past s room
unfolding matches total
matches_facts s room h e =
    let m = both (leb s.start s.end && leb s.end room) (leb (length s.opens) levels && sound (s.end - s.start) (suc (s.end - s.start)) s.opens) e in
    let p = both (leb s.start s.end) (leb s.end room) m.0 in
    let q = both (leb (length s.opens) levels) (sound (s.end - s.start) (suc (s.end - s.start)) s.opens) m.1 in
    record {
      small = h;
      starts = leb-true s.start s.end p.0;
      ends = leb-true s.end room p.1;
      few = leb-true (length s.opens) levels q.0;
      lists = sound-lists (s.end - s.start) (suc (s.end - s.start)) s.opens (omega arith) q.1;
    }

-- what they say, whatever comes after them
abbrev pub pass : State → ℕ → ℕ → Or ⊤
pass s room n = guarded s room n (Ok tt)

module _ {A : Type 0} (s : State) (room n : ℕ) (o : Or A) where
  pub guard_no : (e : Refusal) → Err e ≡ pass s room n → guarded s room n o ≡ Err e
  unfolding also
  guard_no e r = guarded-also s room n o ∙ ap (λ (g : Or ⊤). also g (λ k. o)) (sym r)

  pub guard_past : Ok tt ≡ pass s room n → (guarded s room n o ≡ o) × Past s room × (n ≤ limit)
  guard_past r =
      let g = guarded-got s room n (Ok tt) tt (sym r) in
      (guarded_on s room n o g.0 g.1 g.2, matches_facts s room g.0 g.2, g.1)

-- bytes lent, unless over the limit, have no part in them; a number's string is lent to no call, and is within the limit
pub pass_scalar : (s : State) (room n : ℕ) → n < 256 ^ 8 → pass s room 0 ≡ pass s room (length (be n))
unfolding guarded
pass_scalar s room n h = rw (is_le {a = 0} {b = limit} (omega arith), is_le {a = length (be n)} {b = limit} (omega (arith, be-short 8 n h)))

-- a call goes on past them
pub record Goes (s : State) (b : List ℕ) (c : Call) : Type 0 where
  pub so : answer s b c ≡ also (own c (view s b)) (roomed s.start (length b))
  pub past : Past s (length b)
  pub lent-few : length (lent c) ≤ limit

module _ (s : State) (b : List ℕ) (c : Call) where
  pub answer_no : (e : Refusal) → Err e ≡ pass s (length b) (length (lent c)) → change_leaves (Err e) b ≡ changes s.start b (answer s b c)
  unfolding answer change_leaves changes
  answer_no e r = rw (guard_no s (length b) (length (lent c)) (also (own c (view s b)) (roomed s.start (length b))) e r)

  pub answer-past : Ok tt ≡ pass s (length b) (length (lent c)) → Goes s b c
  unfolding answer
  answer-past r =
      let g = guard_past s (length b) (length (lent c)) (also (own c (view s b)) (roomed s.start (length b))) r in
      record { so = g.0; past = g.1; lent-few = g.2 }

-- ---- what is left
module _ (start : ℕ) (b : List ℕ) (o : Or View) where
  pub comes_no : (e : Refusal) → o ≡ Err e → change_leaves (Err e) b ≡ changes start b o
  unfolding change_leaves changes
  comes_no e p = rw p

  pub comes_yes : (v : View) (l : Left) (d : List ℕ) → o ≡ Ok v → l ≡ changed start v → d ≡ laid start b v → change_leaves (Ok l) d ≡ changes start b o
  unfolding change_leaves changes
  comes_yes v l d p q r = rw (p, q, r)

-- ---- 13
module _ (s : State) (room n z : ℕ) where
  room-refused : (e : Refusal) → Err e ≡ room_for s room n z → (e ≡ NoRoom) × (room < s.start + total_after n s.opens (s.end - s.start + z))
  unfolding room_for unless
  room-refused e r =
      by_lt room (s.start + total_after n s.opens (s.end - s.start + z))
      (λ h. (refused_inj (r ∙ rw (not_le h)), h))
      (λ h. absurd (refused-got (r ∙ rw (is_le h))))

  -- and where the test is made
  pub room_short : room - s.start < total_after n s.opens (s.end - s.start + z) → s.start ≤ room → Err NoRoom ≡ room_for s room n z
  unfolding room_for unless
  room_short h l = rw (not_le {a = s.start + total_after n s.opens (s.end - s.start + z)} {b = room} (omega arith))

  pub room_enough : total_after n s.opens (s.end - s.start + z) ≤ room - s.start → s.start ≤ room → Ok tt ≡ room_for s room n z
  unfolding room_for unless
  room_enough h l = rw (is_le {a = s.start + total_after n s.opens (s.end - s.start + z)} {b = room} (omega arith))

  room-there : Ok tt ≡ room_for s room n z → s.start + total_after n s.opens (s.end - s.start + z) ≤ room
  unfolding room_for
  room-there r = leb-true (s.start + total_after n s.opens (s.end - s.start + z)) room (unless-got (leb (s.start + total_after n s.opens (s.end - s.start + z)) room) NoRoom (Ok tt) tt (sym r)).0

-- ---- w bytes W lie from the start on, and n items at their end are counted
module _ (start : ℕ) (b : List ℕ) (os : List Open) (n w : ℕ) (W : List ℕ) (long : w ≡ length W) (inside : start ≤ length b) (above : Lists w os)
    (o : Or View) (so : o ≡ roomed start (length b) (counted n os W)) where
  ended : length (counted n os W).written ≡ total_after n os w
  ended = counted-length n os W (rw (sym long) above) ∙ ap (total_after n os) (sym long)

  pub count_no : length b < start + total_after n os w → change_leaves (Err NoRoom) b ≡ changes start b o
  unfolding roomed unless
  count_no h = comes_no start b o NoRoom (so ∙ rw (ended, not_le h))

  module _ (fits : start + total_after n os w ≤ length b) where
    pub count_room : start + w ≤ length b
    count_room = omega (arith, total_grows n os w)

    module _ (now : List ℕ) (is : now ≡ put b start W) (end : ℕ) (at : end ≡ start + w) where
      same : length now ≡ length b
      same = rw is (put-length b start W (omega (arith, count_room)))

      written : end - start ≡ w
      written = omega arith

      pub count-ready : length b ≤ limit → length os ≤ levels → n ≤ limit → Ready (length now) start os n end
      count-ready small few items =
          record {
            small = rw same small;
            few = few;
            starts = omega arith;
            items = items;
            lists = rw written above;
            fits = rw (written, same) fits;
          }

      whole : counted_in start now os n end ≡ counted n os W
      unfolding counted_in
      whole = ap (counted n os) (rw (is, written, long) (put-there b start W (omega (arith, count_room))))

      pub count_yes : (l : Left) (d : List ℕ) → l ≡ changed start (counted_in start now os n end) → d ≡ laid start now (counted_in start now os n end)
          → change_leaves (Ok l) d ≡ changes start b o
      unfolding roomed unless laid
      count_yes l d p q =
          comes_yes start b o (counted n os W) l d (so ∙ rw (ended, is_le fits)) (p ∙ ap (changed start) whole)
          (q ∙ (ap (λ (v : View). put now start v.written) whole
          ∙ rw is (put_over b start W (omega (arith, count_room)) start (counted n os W).written (omega arith) (omega (arith, ended, total_grows n os w)))))

pub past-lists : (s : State) (room : ℕ) → Past s room → (z : ℕ) → Lists (s.end - s.start + z) s.opens
past-lists s room P z = lists-more (s.end - s.start) (s.end - s.start + z) s.opens (omega arith) P.lists

-- ---- what is written so far
module _ (s : State) (b : List ℕ) (P : Past s (length b)) where
  pub view-length : length (view s b).written ≡ s.end - s.start
  unfolding view total
  view-length = length-take-le (s.end - s.start) (drop s.start b) (omega (arith, length-drop s.start b, P.starts, P.ends))

  pub view-there : put b s.start (view s b).written ≡ b
  unfolding view total
  view-there = put_same b s.start (s.end - s.start) (omega (arith, P.starts, P.ends))

-- ---- z bytes X of n items are to follow it
pub record Adds (s : State) (b X : List ℕ) (n z : ℕ) (o : Or View) : Type 0 where
  pub past : Past s (length b)
  pub items : n ≤ limit
  pub size : z ≡ length X
  pub so : o ≡ roomed s.start (length b) (appended n X (view s b))

module _ {s : State} {b X : List ℕ} {n z : ℕ} {o : Or View} (A : Adds s b X n z o) where
  joined : s.end - s.start + z ≡ length ((view s b).written ++ X)
  joined = omega (arith, A.size, length-append (view s b).written X, view-length s b A.past)

  inside : s.start ≤ length b
  inside = omega (arith, A.past.starts, A.past.ends)

  so_counted : o ≡ roomed s.start (length b) (counted n s.opens ((view s b).written ++ X))
  unfolding appended view
  so_counted = A.so

  pub app_no : (e : Refusal) → Err e ≡ room_for s (length b) n z → change_leaves (Err e) b ≡ changes s.start b o
  app_no e r =
      let f = room-refused s (length b) n z e r in
      rw f.0 (count_no s.start b s.opens n (s.end - s.start + z) ((view s b).written ++ X) joined inside (past-lists s (length b) A.past z) o so_counted f.1)

  module _ (room : Ok tt ≡ room_for s (length b) n z) where
    fits : s.start + total_after n s.opens (s.end - s.start + z) ≤ length b
    fits = room-there s (length b) n z room

    pub app_room : s.end + z ≤ length b
    app_room =
        omega (
          arith,
          A.past.starts,
          count_room s.start b s.opens n (s.end - s.start + z) ((view s b).written ++ X) joined inside (past-lists s (length b) A.past z) o so_counted fits,
        )

    module _ (now : List ℕ) (is : now ≡ put b s.end X) where
      window : now ≡ put b s.start ((view s b).written ++ X)
      window =
          let w : List ℕ = (view s b).written in
          let e : s.start + length w ≡ s.end = omega (arith, view-length s b A.past, A.past.starts) in
          is ∙ (rw (view-there s b A.past, e) at (put-more b s.start w (omega (arith, A.past.ends)) X))

      ends : s.end + z ≡ s.start + (s.end - s.start + z)
      ends = omega (arith, A.past.starts)

      pub app_ready : Ready (length now) s.start s.opens n (s.end + z)
      app_ready =
          count-ready s.start b s.opens n (s.end - s.start + z) ((view s b).written ++ X) joined inside (past-lists s (length b) A.past z) o so_counted fits now window (s.end + z) ends
          A.past.small A.past.few A.items

      pub app_yes : (l : Left) (d : List ℕ) → l ≡ changed s.start (counted_in s.start now s.opens n (s.end + z))
          → d ≡ laid s.start now (counted_in s.start now s.opens n (s.end + z)) → change_leaves (Ok l) d ≡ changes s.start b o
      app_yes = count_yes s.start b s.opens n (s.end - s.start + z) ((view s b).written ++ X) joined inside (past-lists s (length b) A.past z) o so_counted fits now window (s.end + z) ends

-- a string, in z bytes: its header takes 9 at most
string-most : (x : List ℕ) → length x ≤ limit → length (enc (str x)) ≤ limit + 9
string-most x h =
    by_test (itself x) (λ t. omega (arith, size-itself x t)) (λ t. omega (arith, size_headed x t, size-most (length x) (omega arith)))

module _ (s : State) (b x : List ℕ) (G : Goes s b (value x)) (z : ℕ) (size : z ≡ length (enc (str x))) where
  pub value_size : z ≤ limit + 9
  unfolding lent
  value_size = omega (arith, size, string-most x G.lent-few)

  pub value_adds : Adds s b (enc (str x)) 1 z (answer s b (value x))
  unfolding own also
  value_adds = record { past = G.past; items = omega arith; size = size; so = G.so }

-- ---- a list begins: 11 where there is no level for it
module _ (s : State) (b : List ℕ) (n : ℕ) (v : View) where
  pub level_no : levels < length s.opens + n → level n (view s b) v ≡ Err TooDeep
  unfolding level unless view
  level_no h = rw (not_le h)

  pub level_yes : length s.opens + n ≤ levels → level n (view s b) v ≡ Ok v
  unfolding level unless view
  level_yes h = rw (is_le h)

-- of no items: it is written at once
module _ (s : State) (b : List ℕ) (G : Goes s b (begin 0)) where
  pub empty_deep : levels ≤ length s.opens → change_leaves (Err TooDeep) b ≡ changes s.start b (answer s b (begin 0))
  unfolding own also
  empty_deep h = comes_no s.start b (answer s b (begin 0)) TooDeep (G.so ∙ rw (level_no s b 1 (appended 1 (enc (list end)) (view s b)) (omega arith)))

  pub empty_adds : length s.opens < levels → Adds s b (192 ∷ []) 1 1 (answer s b (begin 0))
  unfolding own also enc encs header
  empty_adds h =
      record { past = G.past; items = omega arith; size = refl; so = G.so ∙ rw (level_yes s b 1 (appended 1 (enc (list end)) (view s b)) (omega arith)) }

-- of any number
module _ (s : State) (b : List ℕ) where
  pub open_deep : levels ≤ length s.opens → also (own unbounded (view s b)) (roomed s.start (length b)) ≡ Err TooDeep
  unfolding own also
  open_deep h = rw (level_no s b 1 (begun any (view s b)) (omega arith))

  module _ (P : Past s (length b)) (h : length s.opens < levels) where
    begun-length : s.start + length (begun any (view s b)).written ≡ s.end + 1
    unfolding begun
    begun-length = omega (arith, length-append (view s b).written (0 ∷ []), view-length s b P, P.starts)

    pub open_full : length b ≤ s.end → also (own unbounded (view s b)) (roomed s.start (length b)) ≡ Err NoRoom
    unfolding own also roomed unless
    open_full l = rw (level_yes s b 1 (begun any (view s b)) (omega arith), begun-length, not_le {a = s.end + 1} {b = length b} (omega arith))

    module _ (l : s.end < length b) where
      pub open_got : also (own unbounded (view s b)) (roomed s.start (length b)) ≡ Ok (begun any (view s b))
      unfolding own also roomed unless
      open_got = rw (level_yes s b 1 (begun any (view s b)) (omega arith), begun-length, is_le {a = s.end + 1} {b = length b} (omega arith))

      begun-changed : (opened : ℕ) → length s.opens ≡ opened
          → ◌≡◌ {A = Left} (record { end = s.end + 1; opened = opened + 1; current = 0 }) (changed s.start (begun any (view s b)))
      unfolding changed innermost begun view
      begun-changed opened k =
          let e : suc (length s.opens) ≡ opened + 1 = omega arith in
          rw (e, begun-length)

      begun-laid : set b s.end 0 ≡ laid s.start b (begun any (view s b))
      unfolding laid begun
      begun-laid =
          let w : List ℕ = (view s b).written in
          let e : s.start + length w ≡ s.end = omega (arith, view-length s b P, P.starts) in
          put_one b s.end 0 l ∙ (rw (view-there s b P, e) at (put-more b s.start w (omega (arith, P.ends)) (0 ∷ [])))

      pub open_yes : (o : Or View) → o ≡ also (own unbounded (view s b)) (roomed s.start (length b)) → (opened : ℕ) → length s.opens ≡ opened
          → change_leaves (Ok (record { end = s.end + 1; opened = opened + 1; current = 0 })) (set b s.end 0) ≡ changes s.start b o
      open_yes o so opened k = comes_yes s.start b o (begun any (view s b)) _ _ (so ∙ open_got) (begun-changed opened k) begun-laid

-- ---- the innermost list ends

counting : (x : ℕ) → 0 < x → most_of x ≡ up_to x
unfolding most_of
counting zero h = absurd (omega arith)
counting (suc x) h = refl

pub fin_none : (s : State) (b : List ℕ) → s.opens ≡ [] → also (own finalize (view s b)) (roomed s.start (length b)) ≡ Err NoOpenList
unfolding own finalized view also
fin_none s b e = rw e

module _ (s : State) (b : List ℕ) (at c x : ℕ) (os : List Open) (is : s.opens ≡ list_at at c (most_of x) ∷ os) where
  pub fin_counted : 0 < x → also (own finalize (view s b)) (roomed s.start (length b)) ≡ Err ListTypeMismatch
  unfolding own finalized unless_counted view also
  fin_counted h = rw (is, counting x h)

  fin_own : x ≤ 0 → also (own finalize (view s b)) (roomed s.start (length b)) ≡ roomed s.start (length b) (counted 1 os (closed at (view s b).written))
  unfolding own finalized unless_counted view also most_of
  fin_own h =
      let z : x ≡ 0 = omega arith in
      rw (is, z)

  module _ (P : Past s (length b)) where
    pub fin_list : (0 < at) × (at ≤ s.end - s.start) × (c ≤ s.end - s.start) × Lists (s.end - s.start) os
    unfolding Lists
    fin_list = rw is at P.lists

    outer_few : length os ≤ levels
    outer_few =
        let f : suc (length os) ≤ levels = rw is at P.few in
        omega arith

    -- the total once it is closed
    shut_long : s.end - s.start + growth (s.end - (s.start + at)) ≡ length (closed at (view s b).written)
    shut_long =
        let e : s.end - (s.start + at) ≡ length (view s b).written - at = omega (arith, view-length s b P) in
        rw e (omega (arith, length-closed at (view s b).written fin_list.0 (omega (arith, fin_list.1, view-length s b P)), view-length s b P))

    -- and the state without it
    pub fin_outer : Past (record { start = s.start; end = s.end; opens = os }) (length b)
    fin_outer = record { small = P.small; starts = P.starts; ends = P.ends; few = outer_few; lists = fin_list.3 }

-- it takes any number, and closes in z bytes more
pub record Ends (s : State) (b : List ℕ) (at c x : ℕ) (os : List Open) (z : ℕ) (o : Or View) : Type 0 where
  pub is : s.opens ≡ list_at at c (most_of x) ∷ os
  pub past : Past s (length b)
  pub more : z ≡ growth (s.end - (s.start + at))
  pub none : x ≤ 0
  pub so : o ≡ also (own finalize (view s b)) (roomed s.start (length b))

module _ {s : State} {b : List ℕ} {at c x : ℕ} {os : List Open} {z : ℕ} {o : Or View} (E : Ends s b at c x os z o) where
  abbrev outer : State
  outer = record { start = s.start; end = s.end; opens = os }

  long : s.end - s.start + z ≡ length (closed at (view s b).written)
  long = rw E.more (shut_long s b at c x os E.is E.past)

  within : s.start ≤ length b
  within = omega (arith, E.past.starts, E.past.ends)

  left : Lists (s.end - s.start + z) os
  left = past-lists outer (length b) (fin_outer s b at c x os E.is E.past) z

  so_ended : o ≡ roomed s.start (length b) (counted 1 os (closed at (view s b).written))
  so_ended = E.so ∙ fin_own s b at c x os E.is E.none

  pub fin_no : (e : Refusal) → Err e ≡ room_for outer (length b) 1 z → change_leaves (Err e) b ≡ changes s.start b o
  fin_no e r =
      let f = room-refused outer (length b) 1 z e r in
      rw f.0 (count_no s.start b os 1 (s.end - s.start + z) (closed at (view s b).written) long within left o so_ended f.1)

  module _ (room : Ok tt ≡ room_for outer (length b) 1 z) where
    fitting : s.start + total_after 1 os (s.end - s.start + z) ≤ length b
    fitting = room-there outer (length b) 1 z room

    pub fin_room : s.end + z ≤ length b
    fin_room = omega (arith, E.past.starts, total_grows 1 os (s.end - s.start + z), fitting)

    module _ (now : List ℕ)
        (put-so : now ≡ put b (s.start + at - 1) (header lists (s.end - (s.start + at)) ++ take (s.end - (s.start + at)) (drop (s.start + at) b))) where
      shut_window : now ≡ put b s.start (closed at (view s b).written)
      shut_window =
          let w : List ℕ = (view s b).written in
          let l = fin_list s b at c x os E.is E.past in
          let e : s.end - (s.start + at) ≡ length w - at = omega (arith, view-length s b E.past) in
          put-so
          ∙ rw e (rw (view-there s b E.past) at (close_window b w s.start at l.0 (omega (arith, l.1, view-length s b E.past)) (omega (arith, view-length s b E.past, E.past.ends, E.past.starts))))

      pub fin_ready : Ready (length now) s.start os 1 (s.end + z)
      fin_ready =
          count-ready s.start b os 1 (s.end - s.start + z) (closed at (view s b).written) long within left o so_ended fitting now shut_window (s.end + z)
          (omega (arith, E.past.starts)) E.past.small (outer_few s b at c x os E.is E.past) (omega arith)

      pub fin_yes : (l : Left) (d : List ℕ) → l ≡ changed s.start (counted_in s.start now os 1 (s.end + z)) → d ≡ laid s.start now (counted_in s.start now os 1 (s.end + z))
          → change_leaves (Ok l) d ≡ changes s.start b o
      fin_yes =
          count_yes s.start b os 1 (s.end - s.start + z) (closed at (view s b).written) long within left o so_ended fitting now shut_window (s.end + z)
          (omega (arith, E.past.starts))
