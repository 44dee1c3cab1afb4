-- The ceiling is 1,000 × n × n × n for 1 to 8 tasks, as the contract lists it, and no other number of tasks has one: laws, and a
-- proof of each statement about ceilings in specs/Statement.antt but `AsListed`, which is in Listed.antt.
use Rattle.std.specs.Prelude.{Ok, Err}
use mathlib.Core.Path.{◌≡◌, refl, sym, ap, ◌∙◌}
use mathlib.Core.Bool.{Bool, true, false, ◌&&◌, cond}
use mathlib.Core.List.{[], ◌∷◌}
use Prim.Native.Nat.{ℕ, suc, ◌*◌, ◌-◌, ◌<◌, ◌≤◌}
use native.Mathlib.Nat.{mul-le-mul, mul-le-mul_right, mul-lt-mul_of_pos_left, one-le-mul}
use native.Mathlib.Omega.{arith}
use borrow.Author.Tests.{eqb-true}
use lib.Dec.{eqb, leb}
use lib.ListN.{get_or}
use Rattle.laws.specs.Below.{all_below}
use Rattle.laws.proofs.Below.{all_at}
use Rattle.laws.proofs.Choice.{choice_by}
use Rattle.refusal.specs.declared.Refusal.TheVariants.{Row}
use Rattle.refusal.specs.Number.{accepted}
use Rattle.refusal.proofs.Numbers.{numbers_apart, values_same}
use Rattle.cells.specs.Ceiling.{ceiling_of, ceiling_said, listed_ceilings}
use Rattle.cells.specs.Statement.{CeilingIs, Product, RefusedOutside, Grows, Greatest}
use Rattle.cells.proofs.Served.{passes, in_range}

-- ---- The product

-- For up to 8 tasks square and cube are small.
pub products : (n : ℕ) → n ≤ 8 → (n * n ≤ 64) × (n * n * n ≤ 512)
products n h = let square = mul-le-mul h h in (square, mul-le-mul square h)

-- For 1 to 8 tasks the ceiling is the product.
pub ceiling_cubed : (n : ℕ) → 1 ≤ n → n ≤ 8 → ceiling_of n ≡ Ok (1000 * (n * n * n))
unfolding ceiling_of
ceiling_cubed n h l = rw (passes n h l)

-- Any other number of tasks has no ceiling.
pub no_ceiling : (n : ℕ) → (1 ≤ n → n ≤ 8 → ⊥) → ceiling_of n ≡ Err Row
unfolding ceiling_of
no_ceiling n out =
    choice_by (λ c. c ≡ Err Row) _ (λ e. let range = in_range n e in absurd (out range.0 range.1)) (λ _. refl)

-- The number that it is told is 5.
pub ceiling_refused : (n : ℕ) → (1 ≤ n → n ≤ 8 → ⊥) → (ceiling_said (ceiling_of n)).number ≡ 5
ceiling_refused n out = rw (no_ceiling n out)

-- ---- What the answers say

pub product : (n : ℕ) → Product n
product n some few = ap ceiling_said (ceiling_cubed n some few)

pub refused_outside : (n : ℕ) → RefusedOutside n
refused_outside n = (λ e some few. numbers_apart (sym (product n some few) ∙ e) (λ z. omega arith), λ out. ap ceiling_said (no_ceiling n out))

-- Whoever is told a ceiling is 1 to 8 tasks, and it is the product.
abbrev pub InRange : (n c : ℕ) → Type 0
InRange n c = (1 ≤ n) × (n ≤ 8) × (1000 * (n * n * n) ≡ c)

pub ceiling_told : (n c : ℕ) → CeilingIs n c → InRange n c
unfolding ceiling_of
ceiling_told n c = by (leb 1 n && leb n 8) refl
  where
    by : (b : Bool) → leb 1 n && leb n 8 ≡ b → ceiling_said (cond b (Ok (1000 * (n * n * n))) (Err Row)) ≡ accepted (c ∷ []) → InRange n c
    by true e told = let range = in_range n e in (range.0, range.1, values_same told)
    by false e told = absurd (numbers_apart told (λ z. omega arith))

-- ---- The list

as_product : ℕ → Bool
as_product k = eqb (get_or listed_ceilings k 0) (1000 * (suc k * suc k * suc k))

-- The list's entry for n tasks is the product, by one computed test over its eight entries.
pub entry_cubed : (n : ℕ) → 1 ≤ n → n ≤ 8 → get_or listed_ceilings (n - 1) 0 ≡ 1000 * (n * n * n)
unfolding as_product all_below
entry_cubed n h l =
    let e : suc (n - 1) ≡ n = omega arith in
    let tested : as_product (n - 1) ≡ true = all_at 8 as_product refl (n - 1) (omega arith) in
    rw e at (eqb-true (get_or listed_ceilings (n - 1) 0) (1000 * (suc (n - 1) * suc (n - 1) * suc (n - 1))) tested)

-- ---- Growth

cube_less : (n k : ℕ) → n < k → n * n * n < k * k * k
cube_less n k h =
    let p : n * n * n ≤ k * k * n = mul-le-mul_right n (mul-le-mul (omega arith) (omega arith)) in
    let q : k * k * n < k * k * k = mul-lt-mul_of_pos_left h (one-le-mul (omega arith) (omega arith)) in
    omega (arith, p, q)

pub grows : (n k : ℕ) → Grows n k
grows n k some less few = (_, (_, (product n some (omega arith), product k (omega arith) few, omega (arith, cube_less n k less))))

pub greatest : Greatest
greatest = (product 8 (omega arith) (omega arith), λ n c told. let t = ceiling_told n c told in omega (arith, (products n t.1).1, t.2))
