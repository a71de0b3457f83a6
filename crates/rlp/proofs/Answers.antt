-- What follows from an answer that was not refused. Assumes nothing.
use Rattle.std.specs.Prelude.{Ok, Err}
use mathlib.Core.Path.{◌≡◌, refl, sym, ap, ◌∙◌}
use mathlib.Core.Bool.{Bool, true, false}
use Prim.Native.Nat.{ℕ}
use native.Mathlib.Omega.{arith}
use Rattle.rlp.specs.declared.Refusal.{Refusal}
use Rattle.rlp.specs.Refusals.{Or, also, unless}
use Rattle.rlp.specs.Promises.{Determined}

pub refused-got : {A : Type 0} {e : Refusal} {a : A} → ◌≡◌ {A = Or A} (Err e) (Ok a) → ⊥
refused-got p = let z : ◌≡◌ {A = ℕ} 0 1 = cc in omega arith

pub got_inj : {A : Type 0} {a b : A} → ◌≡◌ {A = Or A} (Ok a) (Ok b) → a ≡ b
got_inj p = cc

pub refused_inj : {A : Type 0} {d e : Refusal} → ◌≡◌ {A = Or A} (Err d) (Err e) → d ≡ e
refused_inj p = cc

-- what was read, and what came of it
pub also-got : {A B : Type 0} (o : Or A) (f : A → Or B) (b : B) → also o f ≡ Ok b → (a : A) × (o ≡ Ok a) × (f a ≡ Ok b)
unfolding also
also-got (Err e) f b p = absurd (refused-got p)
also-got (Ok a) f b p = (a, refl, p)

-- a refusal, where what follows is never refused; and a refusal stops what follows
pub also-refused : {A B : Type 0} (o : Or A) (g : A → B) (e : Refusal) → also o (λ a. Ok (g a)) ≡ Err e → o ≡ Err e
unfolding also
also-refused (Err d) g e q = ap Err (refused_inj q)
also-refused (Ok a) g e q = absurd (refused-got (sym q))

pub also_stop : {A B : Type 0} {o : Or A} (f : A → Or B) (e : Refusal) → o ≡ Err e → also o f ≡ Err e
unfolding also
also_stop f e q = rw q

-- the test passed
pub unless-got : {A : Type 0} (t : Bool) (e : Refusal) (o : Or A) (a : A) → unless t e o ≡ Ok a → (t ≡ true) × (o ≡ Ok a)
unfolding unless
unless-got true e o a p = (refl, p)
unless-got false e o a p = absurd (refused-got p)

-- a test that passes, and one that does not
pub unless-true : {A : Type 0} {t : Bool} (e : Refusal) (o : Or A) → t ≡ true → unless t e o ≡ o
unfolding unless
unless-true e o p = rw p

pub unless-false : {A : Type 0} {t : Bool} (e : Refusal) (o : Or A) → t ≡ false → unless t e o ≡ Err e
unfolding unless
unless-false e o p = rw p

-- a promise is determined where the answer can be made again from what it says
pub determined : {A B : Type 0} (says : A → B) (back : B → A) → ((x : A) → back (says x) ≡ x) → Determined says
determined says back h d x y p q = sym (h x) ∙ ap back (p ∙ sym q) ∙ h y
