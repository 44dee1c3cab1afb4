-- Replay of an order: the outcome at each place, and an order that is extended by one operation at its end.
use mathlib.Core.Path.{◌≡◌, refl}
use mathlib.Core.List.{List, [], ◌∷◌, ◌++◌}
use Prim.Native.Nat.{ℕ}
use lib.ListN.{length, take}
use Rattle.laws.specs.Places.{At, here, later}
use Rattle.machine.specs.Object.{Object}
use Rattle.machine.specs.Book.{Operation}
use Rattle.machine.specs.History.{replayed, reached}

-- The outcome at a place is that of its operation in the state which the operations before it lead to.
pub replayed_at : (b : Object) (q : ℕ) {xs : List Operation} {i : ℕ} {x : Operation} → At xs i x → replayed b q xs i ≡ b.outcome (reached b q (take i xs)) x.operation
replayed_at b q here = refl
replayed_at b q (later {y = y} a) = replayed_at b (b.next q y.operation) a

module _ (b : Object) (x : Operation) where
  -- The last operation leads from the state reached before it to the next one.
  pub reached_next : (q : ℕ) (xs : List Operation) → reached b q (xs ++ (x ∷ [])) ≡ b.next (reached b q xs) x.operation
  reached_next q [] = refl
  reached_next q (y ∷ xs) = reached_next (b.next q y.operation) xs

  -- Its outcome is the one in the state reached before it.
  pub replayed_next : (q : ℕ) (xs : List Operation) → replayed b q (xs ++ (x ∷ [])) (length xs) ≡ b.outcome (reached b q xs) x.operation
  replayed_next q [] = refl
  replayed_next q (y ∷ xs) = replayed_next (b.next q y.operation) xs

  -- The outcomes before it stay.
  pub replayed_before : (q : ℕ) {xs : List Operation} {i : ℕ} {y : Operation} → At xs i y → replayed b q (xs ++ (x ∷ [])) i ≡ replayed b q xs i
  replayed_before q here = refl
  replayed_before q (later {y = z} a) = replayed_before (b.next q z.operation) a
