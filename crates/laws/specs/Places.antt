-- Which element stands at which place of a list.
use Rattle.std.specs.Prelude.{List, ◌∷◌, ℕ, zero, suc}

-- The element x stands at a place of a list, counted from 0.
pub data At {A : Type 0} : List A → ℕ → A → Type 0 where
  here : {x : A} {xs : List A} → At (x ∷ xs) zero x
  later : {x y : A} {xs : List A} {i : ℕ} → At xs i x → At (y ∷ xs) (suc i) x
