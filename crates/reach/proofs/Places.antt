-- The place of a state in a list: what stands there, and what becomes of it when the list grows at its end.
use mathlib.Core.Path.{◌≡◌, refl, ap, ◌∙◌}
use mathlib.Core.Bool.{Bool, true, false, cond}
use mathlib.Core.List.{List, [], ◌∷◌, ◌++◌}
use Prim.Native.Nat.{ℕ, zero, suc, ◌+◌, ◌<◌, ◌≤◌}
use native.Mathlib.Omega.{arith}
use borrow.Author.Tests.{eqb-true, eqb-false, eq-eqb}
use lib.Dec.{eqb}
use lib.ListN.{length, get_or}
use Rattle.reach.specs.Order.{place_in}

-- The test of the first state decides.
by_first : (P : ℕ → Type 0) (first state rest : ℕ) → (first ≡ state → P 0) → ((first ≡ state → ⊥) → P (suc rest)) → P (cond (eqb first state) 0 (suc rest))
by_first P first state rest same other = at (eqb first state) refl
  where
    at : (b : Bool) → eqb first state ≡ b → P (cond b 0 (suc rest))
    at true e = same (eqb-true first state e)
    at false e = other (eqb-false first state e)

module _ (state : ℕ) where
  pub place_bound : (order : List ℕ) → place_in order state ≤ length order
  place_bound [] = omega arith
  place_bound (first ∷ rest) = by_first (λ k. k ≤ suc (length rest)) first state (place_in rest state) (λ _. omega arith) (λ _. omega (arith, place_bound rest))

  -- The state stands at its place.
  pub place_holds : (order : List ℕ) → place_in order state < length order → get_or order (place_in order state) 0 ≡ state
  place_holds [] h = absurd (omega arith)
  place_holds (first ∷ rest) h =
      by_first (λ k. k < suc (length rest) → get_or (first ∷ rest) k 0 ≡ state) first state (place_in rest state) (λ e _. e) (λ _ h. place_holds rest (omega arith)) h

  -- No place at which it stands is lower.
  pub place_first : (order : List ℕ) (i : ℕ) → i < length order → get_or order i 0 ≡ state → place_in order state ≤ i
  place_first [] i h e = absurd (omega arith)
  place_first (first ∷ rest) zero h e = rw (eq-eqb first state e) (omega arith)
  place_first (first ∷ rest) (suc i) h e =
      by_first (λ k. k ≤ suc i) first state (place_in rest state) (λ _. omega arith) (λ _. omega (arith, place_first rest i (omega arith) e))

  -- It keeps its place when the list grows.
  pub place_kept : (order more : List ℕ) → place_in order state < length order → place_in (order ++ more) state ≡ place_in order state
  place_kept [] more h = absurd (omega arith)
  place_kept (first ∷ rest) more h = at (eqb first state) (place_kept rest more) h
    where
      at : (b : Bool) → (place_in rest state < length rest → place_in (rest ++ more) state ≡ place_in rest state) → cond b 0 (suc (place_in rest state)) < suc (length rest) → cond b 0 (suc (place_in (rest ++ more) state)) ≡ cond b 0 (suc (place_in rest state))
      at true later h = refl
      at false later h = ap suc (later (omega arith))

  -- A state that isn't in the list is found behind it.
  pub place_behind : (order more : List ℕ) → place_in order state ≡ length order → place_in (order ++ more) state ≡ length order + place_in more state
  place_behind [] more h = omega arith
  place_behind (first ∷ rest) more h = at (eqb first state) (place_behind rest more) h
    where
      at : (b : Bool) → (place_in rest state ≡ length rest → place_in (rest ++ more) state ≡ length rest + place_in more state) → cond b 0 (suc (place_in rest state)) ≡ suc (length rest) → cond b 0 (suc (place_in (rest ++ more) state)) ≡ suc (length rest) + place_in more state
      at true later h = absurd (omega arith)
      at false later h = omega (arith, later (omega arith))

  -- At the end of the list it has the last place.
  pub place_last : (order : List ℕ) → place_in order state ≡ length order → place_in (order ++ (state ∷ [])) state ≡ length order
  place_last order h = place_behind order (state ∷ []) h ∙ rw (eq-eqb state state refl) (omega arith)
