-- A decision that is known, and one that a test or a choice agrees with.
use mathlib.Core.Path.{◌≡◌, refl, sym}
use mathlib.Core.Bool.{Bool, true, false, cond}
use mathlib.Core.Logic.{ite}
use Prim.Native.Nat.{ℕ}
use borrow.Author.Tests.{eq-eqb, ne_eqb}
use lib.Dec.{eqb}
use Rattle.laws.specs.Decision.{decided}

pub decided_yes : {P : Type 0} (d : Dec P) → P → decided d ≡ true
decided_yes (yes e) x = refl
decided_yes (no n) x = absurd (n x)

pub decided_no : {P : Type 0} (d : Dec P) → (P → ⊥) → decided d ≡ false
decided_no (yes e) n = absurd (n e)
decided_no (no _) n = refl

-- The test of two numbers says what was decided.
pub eqb_decided : (j i : ℕ) (d : Dec (j ≡ i)) → eqb j i ≡ decided d
eqb_decided j i (yes e) = eq-eqb j i e
eqb_decided j i (no e) = ne_eqb j i e

-- A choice by the truth value is the choice by the decision.
pub cond_ite : {A B P : Type 0} (f : A → B) (d : Dec P) (x y : A) → cond (decided d) (f x) (f y) ≡ f (ite d x y)
cond_ite f (yes e) x y = refl
cond_ite f (no e) x y = refl

-- Two tests that hold together are one.
pub same_tests : (a b : Bool) → (a ≡ true → b ≡ true) → (b ≡ true → a ≡ true) → a ≡ b
same_tests true b f g = sym (f refl)
same_tests false true f g = g refl
same_tests false false f g = refl
