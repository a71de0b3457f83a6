-- What is asked of a list: the rules that the code follows. Assumes nothing.
use Rattle.std.specs.Prelude.{Ok, Err}
use mathlib.Core.Path.{◌≡◌, refl, sym, ap, ◌∙◌}
use mathlib.Core.Bool.{Bool, true, false, ◌&&◌}
use Prim.Native.Nat.{ℕ, ◌+◌, ◌-◌, ◌≤◌, ◌<◌}
use native.Mathlib.Omega.{arith}
use mathlib.Core.List.{List}
use lib.Dec.{leb}
use lib.ListN.{length, take, drop}
use Rattle.std.proofs.lemmas.List.{drop-take}
use Rattle.rlp.specs.declared.Refusal.{Refusal}
use Rattle.rlp.specs.declared.Refusal.TheVariants.{RlpIsTooShort, RlpExpectedToBeList}
use Rattle.rlp.specs.Refusals.{also}
use Rattle.rlp.proofs.Tests.{is_le, not_le}
use Rattle.rlp.proofs.Answers.{unless-got, unless-true, unless-false}
use Rattle.value.specs.declared.Part.{Part}
use Rattle.value.specs.Value.{data_at, part}
use Rattle.value.proofs.Places.{data_inside}
use Rattle.list.specs.declared.OffsetCache.{OffsetCache}
use Rattle.list.specs.declared.Found.{Found}
use Rattle.list.specs.declared.kinds.Prototype.TheVariants as prototype
use Rattle.list.specs.Kinds.{is_list, is_data, size_of}
use Rattle.list.specs.Walk.{Row, row_from, nth, count_in, payload_at, row_in, item_count, item_at, item_within, prototype_of, rest_at, cached_at, Answer}
use Rattle.list.proofs.Rows.{Rest, count_anywhere}
use Rattle.std.proofs.lemmas.Grind.{common_steps}

-- ---- the payload

pub payload-list : (b : List ℕ) → is_list b ≡ true → data_at b ≡ payload_at b
unfolding payload_at
payload-list b h = sym (unless-true RlpExpectedToBeList (data_at b) h)

pub payload-other : (b : List ℕ) → is_list b ≡ false → Err RlpExpectedToBeList ≡ payload_at b
unfolding payload_at
payload-other b h = sym (unless-false RlpExpectedToBeList (data_at b) h)

pub payload_inside : (b : List ℕ) (p : Part) → payload_at b ≡ Ok p → p.start + p.len ≤ length b
unfolding payload_at
payload_inside b p e = data_inside b p (unless-got (is_list b) RlpExpectedToBeList (data_at b) p e).1

-- the items from `s` on of the bytes up to `e` are those of the part between
pub row_between : (b : List ℕ) (s e : ℕ) → s ≤ e → Rest (take e b) s ≡ row_in b (record { start = s; len = e - s })
unfolding row_in part
row_between b s e h = let z : s + (e - s) ≡ e = omega arith in ap (λ (k : ℕ). row_from s 0 (drop s (take k b))) (sym z) ∙ ap (row_from s 0) (drop-take s (e - s) b)

pub row_part : (b : List ℕ) (p : Part) → Rest (take (p.start + p.len) b) p.start ≡ row_in b p
unfolding row_in part
row_part b p = ap (row_from p.start 0) (drop-take p.start p.len b)

pub ruleset payload_steps = (payload_inside, row_part, row_between, count_anywhere, common_steps)

-- ---- a list's items, once its payload is known

pub count-refused : (b : List ℕ) (e : Refusal) → payload_at b ≡ Err e → Err e ≡ item_count b
unfolding item_count also
count-refused b e h = sym (rw h)

pub count-got : (b : List ℕ) (p : Part) → payload_at b ≡ Ok p → count_in (row_in b p) ≡ item_count b
unfolding item_count also
count-got b p h = sym (rw h)

pub at_refused : (b : List ℕ) (i : ℕ) (e : Refusal) → payload_at b ≡ Err e → Err e ≡ item_at b i
unfolding item_at also
at_refused b i e h = sym (rw h)

pub at_got : (b : List ℕ) (i : ℕ) (p : Part) → payload_at b ≡ Ok p → nth (row_in b p) i ≡ item_at b i
unfolding item_at also
at_got b i p h = sym (rw h)

-- ---- what an item is

pub proto_data : (b : List ℕ) → is_data b ≡ true → Ok (prototype.Data (size_of b)) ≡ prototype_of b
unfolding prototype_of
proto_data b h = sym (rw h)

module _ (b : List ℕ) (h : is_data b ≡ false) where
  pub proto_refused : (e : Refusal) → is_list b ≡ true → item_count b ≡ Err e → Err e ≡ prototype_of b
  unfolding prototype_of also
  proto_refused e l c = sym (rw (h, l, c))

  pub proto_list : (n : ℕ) → is_list b ≡ true → item_count b ≡ Ok n → Ok (prototype.List n) ≡ prototype_of b
  unfolding prototype_of also
  proto_list n l c = sym (rw (h, l, c))

  pub proto_null : is_list b ≡ false → Ok prototype.Null ≡ prototype_of b
  unfolding prototype_of
  proto_null l = sym (rw (h, l))

-- ---- with a cached place

-- the `Found` that says an answer
unfoldable pub found_of_said : Answer → Found
found_of_said a = record { place = a.place; cache = a.cache }

both : (s t : Bool) → s ≡ true → t ≡ true → s && t ≡ true
both true t q r = r
both false t q r = q

neither : (s t : Bool) → t ≡ false → s && t ≡ false
neither true t r = r
neither false t r = refl

module _ (b : List ℕ) (o i : ℕ) (p : Part) where
  pub rest-before : o < p.start → Err RlpIsTooShort ≡ rest_at b o i p
  unfolding rest_at
  rest-before h = sym (unless-false RlpIsTooShort _ (ap (λ (t : Bool). t && leb o (p.start + p.len)) (not_le h)))

  pub rest-behind : p.start + p.len < o → Err RlpIsTooShort ≡ rest_at b o i p
  unfolding rest_at
  rest-behind h = sym (unless-false RlpIsTooShort _ (neither (leb p.start o) (leb o (p.start + p.len)) (not_le h)))

  pub rest-within : p.start ≤ o → o ≤ p.start + p.len → nth (Rest (take (p.start + p.len) b) o) i ≡ rest_at b o i p
  unfolding rest_at
  rest-within h k = ap (λ (l : Row). nth l i) (row_between b o (p.start + p.len) k) ∙ sym (unless-true RlpIsTooShort _ (both (leb p.start o) (leb o (p.start + p.len)) (is_le h) (is_le k)))

-- ---- one step of a walk

module _ (b : List ℕ) (from end : ℕ) where
  pub within-behind : end < from → Err RlpIsTooShort ≡ item_within b from end
  unfolding item_within
  within-behind h = sym (unless-false RlpIsTooShort _ (ap (λ (t : Bool). t && leb end (length b)) (not_le h)))

  pub within_outside : length b < end → Err RlpIsTooShort ≡ item_within b from end
  unfolding item_within
  within_outside h = sym (unless-false RlpIsTooShort _ (neither (leb from end) (leb end (length b)) (not_le h)))

  pub within-there : from ≤ end → end ≤ length b → nth (Rest (take end b) from) 0 ≡ item_within b from end
  unfolding item_within
  within-there h k = ap (λ (l : Row). nth l 0) (row_between b from end h) ∙ sym (unless-true RlpIsTooShort _ (both (leb from end) (leb end (length b)) (is_le h) (is_le k)))

pub cached_fresh : (b : List ℕ) (c : OffsetCache) (i : ℕ) → i < c.index → item_at b i ≡ cached_at b c i
unfolding cached_at
cached_fresh b c i h = sym (rw (not_le h))

pub cached_refused : (b : List ℕ) (c : OffsetCache) (i : ℕ) (e : Refusal) → c.index ≤ i → payload_at b ≡ Err e → Err e ≡ cached_at b c i
unfolding cached_at also
cached_refused b c i e h q = sym (rw (is_le h, q))

pub cached_rest : (b : List ℕ) (c : OffsetCache) (i : ℕ) (p : Part) → c.index ≤ i → payload_at b ≡ Ok p → rest_at b c.offset (i - c.index) p ≡ cached_at b c i
unfolding cached_at also
cached_rest b c i p h q = sym (rw (is_le h, q))
