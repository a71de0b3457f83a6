-- What the tests of a call on a lent state have found, for all that comes after them: of a number, of raw items, and of a list that ends. Assumes nothing.
use Rattle.std.specs.Prelude.{◌≡◌, ℕ, suc, ◌+◌, ◌-◌, ◌^◌, ◌<◌, ◌≤◌, true, List, ◌∷◌, length, Ok}
use mathlib.Core.Path.{◌∙◌}
use native.Mathlib.Omega.{arith}
use Rattle.rlp.specs.Limits.{levels}
use Rattle.rlp.specs.Bytes.{be, Bytes}
use Rattle.strict.specs.declared.Tally.{Tally}
use Rattle.strict.specs.Strict.{strict_items}
use Rattle.stream.specs.declared.lists.Lent.{Lent}
use Rattle.stream.specs.declared.lists.Entry.{Entry}
use Rattle.stream.specs.Stream.{value, finalize, raw, lent, takes, answer}
use Rattle.stream.specs.Sizes.{growth}
use Rattle.stream.specs.Steps.{opens_to, opens_lent, open_of, state_lent, Lists}
use Rattle.stream.proofs.OpenLists.{innermost_of}
use Rattle.stream.proofs.Cascade.{opened-many}
use Rattle.stream.proofs.Calls.{pass, pass_scalar, Goes, answer-past, Adds, Ends, fin_list}
use Rattle.stream.proofs.Raws.{Read, items_read, raw_adds}

-- ---- a number, with nothing lent beside the buffer
pub scalar_goes : (L : Lent) (b : List ℕ) (n : ℕ) → n < 256 ^ 8 → Ok tt ≡ pass (state_lent L) (length b) 0 → Goes (state_lent L) b (value (be n))
unfolding lent
scalar_goes L b n h r = answer-past (state_lent L) b (value (be n)) (r ∙ pass_scalar (state_lent L) (length b) n h)

-- ---- raw items, which the strict check reads as t
pub record Tallied (L : Lent) (b x : List ℕ) (n : ℕ) (t : Tally) : Type 0 where
  pub goes : Goes (state_lent L) b (raw x n)
  pub read : Read x t
  pub opened : length (opens_lent L) ≡ L.opened

pub tallied : (L : Lent) (b x : List ℕ) (n : ℕ) → Ok tt ≡ pass (state_lent L) (length b) (length x) → Bytes x → (t : Tally) → Ok t ≡ strict_items x → Tallied L b x n t
unfolding lent
tallied L b x n g w t r = record { goes = answer-past (state_lent L) b (raw x n) g; read = items_read x w t r; opened = opened-many L L.opened }

pub added : {L : Lent} {b x : List ℕ} {n : ℕ} {t : Tally} → Tallied L b x n t → t.items ≡ n → takes n (opens_lent L) ≡ true → L.opened + t.depth ≤ levels
    → Adds (state_lent L) b x n (length x) (answer (state_lent L) b (raw x n))
added {L} {b} {x} {n} {t} T h k d = raw_adds (state_lent L) b x n T.goes t T.read h k (omega (arith, T.opened, d))

-- ---- the end of a list, the innermost, which is e
pub record Innermost (L : Lent) (b : List ℕ) (e : Entry) : Type 0 where
  pub goes : Goes (state_lent L) b finalize
  pub is : opens_lent L ≡ open_of e ∷ opens_to L (L.opened - 1)
  pub list : (0 < e.position) × (e.position ≤ L.end - L.start) × (e.current ≤ L.end - L.start) × Lists (L.end - L.start) (opens_to L (L.opened - 1))

pub innermost : (L : Lent) (b : List ℕ) → Ok tt ≡ pass (state_lent L) (length b) 0 → 0 < L.opened → (e : Entry) → opens_to L (suc (L.opened - 1)) ≡ open_of e ∷ opens_to L (L.opened - 1) → Innermost L b e
unfolding lent
innermost L b r h e q =
    let g = answer-past (state_lent L) b finalize r in
    let i = innermost_of L L.opened (open_of e) h q in
    record { goes = g; is = i; list = fin_list (state_lent L) b e.position e.current e.most (opens_to L (L.opened - 1)) i g.past }

pub ending : {L : Lent} {b : List ℕ} {e : Entry} → Innermost L b e → e.most ≤ 0 → (z : ℕ) → z ≡ growth (L.end - (L.start + e.position))
    → Ends (state_lent L) b e.position e.current e.most (opens_to L (L.opened - 1)) z (answer (state_lent L) b finalize)
ending I n z m = record { is = I.is; past = I.goes.past; more = m; none = n; so = I.goes.so }
