-- The item written, then a header: what the bytes are before and after. Assumes nothing.
use Rattle.std.specs.Prelude.{Ok}
use mathlib.Core.Path.{◌≡◌, refl, sym, ap, ◌∙◌}
use Prim.Native.Nat.{ℕ, ◌+◌, ◌-◌, ◌≤◌, max}
use native.Mathlib.Omega.{arith}
use mathlib.Core.List.{List, [], ◌∷◌, ◌++◌, append_assoc}
use lib.ListN.{length, take, drop, length-append, length-drop, length-take}
use lib.Seq.{drop-append_seam, drop_at, take_at, take-append-add, drop-append-add, drop-drop, length-take-le, take-add, take-take}
use Rattle.rlp.specs.Bytes.{be}
use Rattle.rlp.specs.Tree.{Item, Items, list, lists, header, enc, encs}
use Rattle.rlp.specs.Paths.{exchange}
use Rattle.rlp.proofs.Answers.{got_inj}
use Rattle.rlp.proofs.Tests.{by_lt}
use Rattle.rlp.proofs.BigEndian.{be-short, be_upper}
use Rattle.rlp.proofs.Sizes.{header-short, header-long, header-some}
use Rattle.encode.specs.Put.{put, moved}
use Rattle.encode.proofs.Puts.{put-joined, put-there, put_beyond, part_length}
use Rattle.amend.specs.Steps.{Split, head_of, start, Told, spliced, Ready, Written}
use Rattle.amend.proofs.Splits.{other, exchange-whole, pieces, new_pieces, payload-length, other_length, list_length, told-out}

-- what lies from m up to n
between : (m n : ℕ) (s : List ℕ) → m ≤ n → n ≤ length s → take (n - m) (drop m s) ≡ drop m (take n s)
between m n s h l =
    let e : m + (n - m) ≡ n = omega arith in
    sym (ap (drop m) (ap (λ (k : ℕ). take k s) (sym e) ∙ take-add m (n - m) s) ∙ drop_at (take m s) (take (n - m) (drop m s)) m (length-take-le m s (omega arith)))

-- the rest slid to its new place, then x written before it
pub slid : (s mid exit : List ℕ) (len old : ℕ) (x : List ℕ) → old ≤ len → len ≤ length s → len - old + length x ≤ length s
    → mid ≡ moved s old (len - old) (length x) → exit ≡ put mid 0 x → exit ≡ spliced s len old x
unfolding moved spliced
slid s mid exit len old x h l room e f =
    let n : length (take (len - old) (drop old s)) ≡ len - old = part_length s old (len - old) (omega arith) in
    f ∙ ap (λ (y : List ℕ). put y 0 x) e
    ∙ put-joined s (length x) (take (len - old) (drop old s)) (omega (arith, n)) 0 x (omega arith)
    ∙ ap (λ (y : List ℕ). put s 0 (x ++ y)) (between old len s h l)

-- a buffer whose first bytes are A, and that is s1 otherwise, which from the old end on is s
written_of : (s s1 exit A : List ℕ) (len ret : ℕ) (v : Item) (r : List ℕ) → exit ≡ put s1 0 A → length A ≤ length s1 → length A ≡ ret → A ≡ enc v ++ r
    → drop (max ret len) s1 ≡ drop (max ret len) s → Written s exit len ret v r
written_of s s1 exit A len ret v r e fits n a d =
    record {
      size = sym n ∙ ap length a;
      front = ap (take ret) e ∙ ap (λ (m : ℕ). take m (put s1 0 A)) (sym n) ∙ put-there s1 0 A (omega arith) ∙ a;
      rest = ap (drop (max ret len)) e ∙ put_beyond s1 0 A (omega arith) (max ret len) (omega arith) ∙ d;
    }

-- ---- at the path's end

pub write_leaf : (s x lens : List ℕ) (len fin ret : ℕ) (exit : List ℕ) (t u v : Item) (r : List ℕ) → len ≤ length s → Ready (take len s) [] x lens fin (length s) t u v r
    → ret ≡ len - fin + length x → exit ≡ spliced s len fin x → Written s exit len ret v r
unfolding spliced
write_leaf s x lens len fin ret exit t u v r l R n d =
    let same : u ≡ v = got_inj (sym (exchange-whole t u) ∙ R.goal) in
    let size : len ≡ length (enc t) + length r = sym (length-take-le len s l) ∙ ap length R.here ∙ length-append (enc t) r in
    let tail : drop fin (take len s) ≡ r = ap (drop fin) R.here ∙ drop_at (enc t) r fin (sym R.whole) in
    let bytes : x ≡ enc v = sym R.what ∙ ap enc same in
    let all : x ++ drop fin (take len s) ≡ enc v ++ r = ap (λ (y : List ℕ). x ++ y) tail ∙ ap (λ (y : List ℕ). y ++ r) bytes in
    written_of s s exit (x ++ drop fin (take len s)) len ret v r d
    (omega (arith, ap length all, R.new))
    (ap length all ∙ length-append (enc v) r ∙ omega (arith, ap length bytes, R.whole))
    all
    refl

-- ---- at a list

-- a longer payload has no shorter header
header_grows : (n m : ℕ) → n ≤ m → length (header lists n) ≤ length (header lists m)
header_grows n m h =
    by_lt n 56
    (λ a. rw (header-short lists n a) (omega (arith, header-some lists m)))
    (λ a. rw (header-long lists n a, header-long lists m (omega arith)) (omega (arith, be-short (length (be m)) n (omega (arith, be_upper m)))))

-- two buffers that agree before f, and from far enough on
far : (s part : List ℕ) (f n m : ℕ) → f ≤ length s → drop n part ≡ drop n (drop f s) → f + n ≤ m → drop m (take f s ++ part) ≡ drop m s
far s part f n m h e l =
    let lf : length (take f s) ≡ f = length-take-le f s h in
    let k : m ≡ length (take f s) + (n + (m - f - n)) = omega arith in
    let j : f + (n + (m - f - n)) ≡ m = omega arith in
    ap (λ (a : ℕ). drop a (take f s ++ part)) k ∙ drop-append-add (take f s) part (n + (m - f - n))
    ∙ sym (drop-drop (m - f - n) n part) ∙ ap (drop (m - f - n)) e ∙ drop-drop (m - f - n) n (drop f s) ∙ drop-drop (n + (m - f - n)) f s ∙ ap (λ (a : ℕ). drop a s) j

module _ (s x lens p r : List ℕ) (len size i : ℕ) (l : Items) (S : Split l i) (u new : Item) (fits : len ≤ length s)
    (R : Ready (take len s) (i ∷ p) x lens size (length s) (list l) u (list (other l i S new)) r)
    (inner : exchange S.old p u ≡ Ok new) where
  len_is : len ≡ length (head_of l) + (length (encs l) + length r)
  len_is = sym (length-take-le len s fits) ∙ ap length R.here ∙ list_length l r

  rest-is : length (enc new ++ (encs S.after ++ r)) ≡ length (enc new) + (length (encs S.after) + length r)
  rest-is = simp length-append

  pub from_fits : start l i S ≤ len
  from_fits = omega (arith, len_is, payload-length l i S)

  -- the new rest has room from the item's start on, whether the sheet grows or shrinks: header and payload change in one direction
  pub room : start l i S + (length (enc new) + (length (encs S.after) + length r)) ≤ length s
  room =
      let n = other_length l i S new in
      let o = payload-length l i S in
      let b = list_length (other l i S new) r in
      by_lt (length (encs l)) (length (encs (other l i S new)))
      (λ h. omega (arith, header_grows (length (encs l)) (length (encs (other l i S new))) (omega arith), R.new, n, o, b))
      (λ h. omega (arith, len_is, n, o))

  pub ready_in : Ready (take (len - start l i S) (drop (start l i S) s)) p x (drop 1 lens) (length (enc S.old)) (length (drop (start l i S) s)) S.old u new (encs S.after ++ r)
  unfolding Told
  ready_in = record {
    here = between (start l i S) len s from_fits fits ∙ ap (drop (start l i S)) (R.here ∙ pieces l i S r)
        ∙ drop_at (head_of l ++ encs S.before) (enc S.old ++ (encs S.after ++ r)) (start l i S) (length-append (head_of l) (encs S.before));
    whole = refl;
    what = R.what;
    goal = inner;
    told = told-out (drop 1 lens) l i S new p R.told.1;
    deep = simp length-drop (omega (arith, R.deep));
    old = simp (length-take, length-drop) (omega (arith, fits));
    new = simp length-drop (omega (arith, room, rest-is));
    small = simp length-drop (omega (arith, R.small));
  }

  -- after the item is written: the header
  pub write_step : (part exit : List ℕ) (ri ret : ℕ) → length part ≡ length (drop (start l i S) s)
      → Written (drop (start l i S) s) part (len - start l i S) ri new (encs S.after ++ r)
      → ret ≡ start l i S + ri - length (head_of l) + length (head_of (other l i S new))
      → exit ≡ spliced (take (start l i S) s ++ part) (start l i S + ri) (length (head_of l)) (head_of (other l i S new))
      → Written s exit len ret (list (other l i S new)) r
  unfolding spliced
  write_step part exit ri ret n W e d =
      let f = start l i S in
      let H = head_of l in
      let H' = head_of (other l i S new) in
      let B = encs S.before in
      let X = enc new ++ (encs S.after ++ r) in
      let b1 = take f s ++ part in
      let lf : length (take f s) ≡ f = length-take-le f s (omega (arith, from_fits)) in
      let front : take f s ≡ H ++ B =
      sym (take-take f len s from_fits) ∙ ap (take f) (R.here ∙ pieces l i S r) ∙ take_at (H ++ B) (enc S.old ++ (encs S.after ++ r)) f (length-append H B) in
      let cut : take (f + ri) b1 ≡ (H ++ B) ++ X =
      ap (λ (m : ℕ). take (m + ri) b1) (sym lf) ∙ take-append-add (take f s) part ri ∙ ap (λ (y : List ℕ). take f s ++ y) W.front ∙ ap (λ (y : List ℕ). y ++ X) front in
      let tail : drop (length H) (take (f + ri) b1) ≡ B ++ X = ap (drop (length H)) (cut ∙ append_assoc H B X) ∙ drop-append_seam H (B ++ X) in
      let all : H' ++ drop (length H) (take (f + ri) b1) ≡ enc (list (other l i S new)) ++ r = ap (λ (y : List ℕ). H' ++ y) tail ∙ sym (new_pieces l i S new r) in
      let lb : length b1 ≡ length s = length-append (take f s) part ∙ simp (lf, n, length-drop) (omega (arith, from_fits)) in
      let size : ri ≡ length (enc new) + (length (encs S.after) + length r) = W.size ∙ rest-is in
      written_of s b1 exit (H' ++ drop (length H) (take (f + ri) b1)) len ret (list (other l i S new)) r d
      (omega (arith, ap length all, lb, R.new))
      (ap length all ∙ list_length (other l i S new) r ∙ omega (arith, e, size, other_length l i S new))
      all
      (far s part f (max ri (len - f)) (max ret len) (omega (arith, from_fits)) W.rest
      (by_lt (length (encs l)) (length (encs (other l i S new)))
      (λ h. omega (arith, header_grows (length (encs l)) (length (encs (other l i S new))) (omega arith), e, size, len_is, other_length l i S new, payload-length l i S))
      (λ h. omega (arith, e, size, len_is, other_length l i S new, payload-length l i S))))
