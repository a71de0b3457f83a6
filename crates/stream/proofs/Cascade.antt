-- The cascade over the buffer: full lists close, each an item of its parent. Assumes nothing.
use Rattle.std.specs.Prelude.{◌≡◌, ℕ, suc, ◌+◌, ◌-◌, ◌<◌, ◌≤◌, true, false, List, [], ◌∷◌, ◌++◌, length, take, drop}
use mathlib.Core.Path.{refl, sym, ap, ◌∙◌}
use native.Mathlib.Omega.{arith}
use lib.ListN.{length-append, length-drop}
use lib.Seq.{length-take-le}
use Rattle.rlp.specs.Limits.{limit, levels}
use Rattle.rlp.specs.Tree.{lists, header, header_size}
use Rattle.rlp.proofs.Tests.{by_test}
use Rattle.rlp.proofs.Sizes.{header-size}
use Rattle.encode.specs.Put.{put, moved}
use Rattle.encode.proofs.Puts.{put_into, put-part, put_same, put-joined, part_length}
use Rattle.stream.specs.declared.lists.Lent.{Lent}
use Rattle.stream.specs.declared.lists.Left.{Left}
use Rattle.stream.specs.State.{full, Open, View, laid}
use Rattle.stream.specs.Stream.{closed, counted}
use Rattle.stream.specs.Sizes.{growth}
use Rattle.stream.specs.Steps.{opens_to, opens_lent, total_after, Lists, Ready, counted_in, innermost, changed}
use Rattle.stream.proofs.OpenLists.{growth-header, lists-more, total_grows, length-opens, none_open}

-- ---- one list closes

pub length-closed : (p : ℕ) (w : List ℕ) → 0 < p → p ≤ length w → length (closed p w) ≡ length w + growth (length w - p)
unfolding closed
length-closed p w h l =
    rw (length-append, length-append, length-take-le (p - 1) w (omega arith), header-size, length-drop, ← growth-header (length w - p)) (omega arith)

-- its contents moved, then its header written
pub close_put : (b : List ℕ) (at n size : ℕ) → 0 < at → size ≡ header_size n → at + n + size ≤ length b + 1
    → put (moved b at n (at + size - 1)) (at - 1) (header lists n) ≡ put b (at - 1) (header lists n ++ take n (drop at b))
unfolding moved
close_put b at n size p e h =
    let g : suc (growth n) ≡ header_size n = growth-header n in
    let l : length (take n (drop at b)) ≡ n = part_length b at n (omega arith) in
    put-joined b (at + size - 1) (take n (drop at b)) (omega arith) (at - 1) (header lists n) (omega (arith, header-size lists n))

-- in a buffer that holds w from a start on
pub close_window : (b w : List ℕ) (start p : ℕ) → 0 < p → p ≤ length w → start + length w ≤ length b
    → put (put b start w) (start + p - 1) (header lists (length w - p) ++ take (length w - p) (drop (start + p) (put b start w))) ≡ put b start (closed p w)
unfolding closed
close_window b w start p h l f =
    let e : start + p - 1 ≡ start + (p - 1) = omega arith in
    rw (e, put-part b start w f p l)
    (put_into b start w f (p - 1) (header lists (length w - p) ++ drop p w) (omega arith)
    (omega (arith, length-append (header lists (length w - p)) (drop p w), length-drop p w, header-size lists (length w - p), growth-header (length w - p))))

-- ---- and those around it

pub counted-length : (n : ℕ) (os : List Open) (w : List ℕ) → Lists (length w) os → length (counted n os w).written ≡ total_after n os (length w)
unfolding counted total_after Lists
counted-length n [] w l = refl
counted-length n (o ∷ os) w l =
    let e : length (closed o.position w) ≡ length w + growth (length w - o.position) = length-closed o.position w l.0 l.1 in
    by_test (full (o.current + n) o.most)
    (λ t. rw t (counted-length 1 os (closed o.position w) (lists-more (length w) (length (closed o.position w)) os (omega arith) l.3) ∙ ap (total_after 1 os) e))
    (λ t. rw t)

-- ---- the loop that counts: what is left of the count where it stands is the whole count

-- the first i lists of L are still open, with these bytes written and so many items to count
pub record At (L : Lent) (b : List ℕ) (n end : ℕ) (buf : List ℕ) (i e add : ℕ) : Type 0 where
  pub written : List ℕ
  pub ends : e ≡ L.start + length written
  pub holds : buf ≡ put b L.start written
  pub few : i ≤ levels
  pub items : add ≤ limit
  pub small : length b ≤ limit
  pub lists : Lists (length written) (opens_to L i)
  pub fits : L.start + total_after add (opens_to L i) (length written) ≤ length b
  pub so : counted add (opens_to L i) written ≡ counted_in L.start b (opens_lent L) n end
  pub long : length buf ≡ length b

pub opened-many : (L : Lent) (i : ℕ) → length (opens_to L i) ≡ i
opened-many L i = length-opens L.positions.now L.currents.now L.maxima.now i

module _ (L : Lent) (b : List ℕ) (n end : ℕ) where
  pub at_start : Ready (length b) L.start (opens_lent L) n end → At L b n end b L.opened end n
  unfolding counted_in
  at_start r =
      let g = total_grows n (opens_lent L) (end - L.start) in
      let w : List ℕ = take (end - L.start) (drop L.start b) in
      let l : length w ≡ end - L.start = length-take-le (end - L.start) (drop L.start b) (omega (arith, length-drop L.start b, r.fits, r.starts)) in
      record {
        written = w;
        ends = omega (arith, r.starts);
        holds = sym (put_same b L.start (end - L.start) (omega (arith, r.fits, r.starts)));
        few = omega (arith, r.few, opened-many L L.opened);
        items = r.items;
        small = r.small;
        lists = rw l r.lists;
        fits = rw l r.fits;
        so = refl;
        long = refl;
      }

module _ {L : Lent} {b : List ℕ} {n end : ℕ} {buf : List ℕ} {i e add : ℕ} (A : At L b n end buf i e add) where
  pub at_here : e ≤ length b
  at_here = omega (arith, A.ends, A.fits, total_grows add (opens_to L i) (length A.written))

  pub at_end : i ≤ 0
      → (◌≡◌ {A = Left} (record { end = e; opened = 0; current = 0 }) (changed L.start (counted_in L.start b (opens_lent L) n end)))
      × (buf ≡ laid L.start b (counted_in L.start b (opens_lent L) n end))
  unfolding laid changed counted innermost
  at_end h =
      let s : counted add [] A.written ≡ counted_in L.start b (opens_lent L) n end = rw (none_open L i h) at A.so in
      (ap (λ x. record { end = x; opened = 0; current = 0 }) A.ends ∙ ap (changed L.start) s, A.holds ∙ ap (λ (v : View). put b L.start v.written) s)

  -- o is the innermost of them
  module _ (o : Open) (h : 0 < i) (is : opens_to L i ≡ o ∷ opens_to L (i - 1)) where
    inner : (0 < o.position) × (o.position ≤ length A.written) × (o.current ≤ length A.written) × Lists (length A.written) (opens_to L (i - 1))
    unfolding Lists
    inner = rw is at A.lists

    pub at_list : (0 < o.position) × (L.start + o.position ≤ e) × (o.current ≤ limit)
    at_list = (inner.0, omega (arith, inner.1, A.ends), omega (arith, inner.2, at_here, A.ends, A.small))

    pub at_stop : full (o.current + add) o.most ≡ false → (k : ℕ) → k ≡ i
        → (◌≡◌ {A = Left} (record { end = e; opened = k; current = o.current + add }) (changed L.start (counted_in L.start b (opens_lent L) n end)))
        × (buf ≡ laid L.start b (counted_in L.start b (opens_lent L) n end))
    unfolding laid changed counted innermost
    at_stop not_full k is_i =
        let s = rw (is, not_full) at A.so in
        let l : k ≡ suc (length (opens_to L (i - 1))) = omega (arith, opened-many L (i - 1)) in
        (rw A.ends (ap (λ x. record { end = L.start + length A.written; opened = x; current = o.current + add }) l ∙ ap (changed L.start) s), A.holds ∙ ap (λ (v : View). put b L.start v.written) s)

    module _ (yes : full (o.current + add) o.most ≡ true) where
      room : L.start + total_after 1 (opens_to L (i - 1)) (length A.written + growth (length A.written - o.position)) ≤ length b
      unfolding total_after
      room = rw (is, yes) at A.fits

      gap : e - (L.start + o.position) ≡ length A.written - o.position
      gap = omega (arith, A.ends)

      pub at_room : e + growth (e - (L.start + o.position)) ≤ length buf
      at_room =
          rw gap (omega (
            arith,
            room,
            A.long,
            A.ends,
            total_grows 1 (opens_to L (i - 1)) (length A.written + growth (length A.written - o.position)),
          ))

      pub at_next : (later : List ℕ) (f : ℕ) → f ≡ e + growth (e - (L.start + o.position))
          → later ≡ put buf (L.start + o.position - 1) (header lists (e - (L.start + o.position)) ++ take (e - (L.start + o.position)) (drop (L.start + o.position) buf))
          → length later ≡ length b
          → At L b n end later (i - 1) f 1
      unfolding counted
      at_next later f q r long =
          let w : List ℕ = A.written in
          let k : length (closed o.position w) ≡ length w + growth (length w - o.position) = length-closed o.position w inner.0 inner.1 in
          record {
            written = closed o.position w;
            ends = q ∙ rw (gap, k, A.ends) (omega arith);
            holds = r ∙ rw (gap, A.holds) (close_window b w L.start o.position inner.0 inner.1 (omega (arith, at_here, A.ends)));
            few = omega (arith, A.few);
            items = omega arith;
            small = A.small;
            lists = lists-more (length w) (length (closed o.position w)) (opens_to L (i - 1)) (omega arith) inner.3;
            fits = rw k room;
            so = rw (is, yes) at A.so;
            long = long;
          }
