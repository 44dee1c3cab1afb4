-- Choices by a test: what holds of the parts holds of the choice.
use mathlib.Core.Path.{◌≡◌, refl}
use mathlib.Core.Bool.{Bool, true, false, cond}
use Prim.Native.Nat.{ℕ, ◌≤◌}
use native.Mathlib.Omega.{arith}

-- Each part may use what the test said.
pub choice_by : {A : Type 0} (P : A → Type 0) (b : Bool) {x y : A} → (b ≡ true → P x) → (b ≡ false → P y) → P (cond b x y)
choice_by P true f g = f refl
choice_by P false f g = g refl

pub choice : {A : Type 0} (P : A → Type 0) (b : Bool) (x y : A) → P x → P y → P (cond b x y)
choice P b x y p q = choice_by P b (λ _. p) (λ _. q)

-- Two choices by one test.
pub choices : {A B : Type 0} (R : A → B → Type 0) (b : Bool) {x y : A} {x' y' : B} → R x x' → R y y' → R (cond b x y) (cond b x' y')
choices R true p q = p
choices R false p q = q

-- A choice that came out as its second part does not was decided by the test.
pub taken : {X : Type 0} (b : Bool) (x y z : X) → cond b x y ≡ z → (y ≡ z → ⊥) → (b ≡ true) × (x ≡ z)
taken true x y z e other = (refl, e)
taken false x y z e other = absurd (other e)

-- A number or 0 is at most the number.
pub pick_le : (b : Bool) (a : ℕ) → cond b a 0 ≤ a
pick_le b a = choice (λ k. k ≤ a) b a 0 (omega arith) (omega arith)

pub skip_le : (b : Bool) (a : ℕ) → cond b 0 a ≤ a
skip_le b a = choice (λ k. k ≤ a) b 0 a (omega arith) (omega arith)

pub pick_mono : (b : Bool) (a c : ℕ) → a ≤ c → cond b a 0 ≤ cond b c 0
pick_mono b a c h = choices (λ k l. k ≤ l) b h (omega arith)
