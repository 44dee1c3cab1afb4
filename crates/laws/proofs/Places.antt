-- The places of a list: one element a place, and what becomes of the places when a list is extended at its end.
use mathlib.Core.Path.{◌≡◌, refl, ap}
use mathlib.Core.List.{List, [], ◌∷◌, ◌++◌}
use mathlib.Core.Logic.{◌⊎◌, inl, inr}
use Prim.Native.Nat.{ℕ, suc, ◌<◌}
use native.Mathlib.Omega.{arith}
use lib.ListN.{length}
use Rattle.laws.specs.Places.{At, here, later}

-- The element y stands at place i of a list, or it is x, at the place after the list.
abbrev pub Either : {A : Type 0} → List A → A → ℕ → A → Type 0
Either xs x i y = At xs i y ⊎ ((i ≡ length xs) × (y ≡ x))

module _ {A : Type 0} where
  -- One element stands at a place.
  pub at_same : {xs : List A} {i : ℕ} {x y : A} → At xs i x → At xs i y → x ≡ y
  at_same here here = refl
  at_same (later a) (later b) = at_same a b

  -- Places are below the length.
  pub at_bound : {xs : List A} {i : ℕ} {x : A} → At xs i x → i < length xs
  at_bound (here {xs = xs}) = omega arith
  at_bound (later {xs = xs} a) = let h = at_bound a in omega arith

  -- No element stands in the empty list.
  pub at_none : {i : ℕ} {x : A} → At [] i x → ⊥
  at_none a = let h = at_bound a in omega arith

  -- An extension keeps the elements at their places.
  pub at_extended : {xs : List A} {i : ℕ} {x : A} (ys : List A) → At xs i x → At (xs ++ ys) i x
  at_extended ys here = here
  at_extended ys (later a) = later (at_extended ys a)

  -- What follows a list begins at the place of its length.
  pub at_next : (xs : List A) (x : A) (ys : List A) → At (xs ++ (x ∷ ys)) (length xs) x
  at_next [] x ys = here
  at_next (_ ∷ xs) x ys = later (at_next xs x ys)

  -- An element of a list with one more at its end stands in the list, or is the last one.
  pub at_either : (xs : List A) (x : A) {i : ℕ} {y : A} → At (xs ++ (x ∷ [])) i y → Either xs x i y
  at_either [] x here = inr (refl, refl)
  at_either [] x {y = y} (later {i = i} a) = elim a [ ]
  at_either (_ ∷ xs) x here = inl here
  at_either (z ∷ xs) x (later {x = y} {i = i} a) = go (at_either xs x a)
    where
      go : Either xs x i y → Either (z ∷ xs) x (suc i) y
      go (inl h) = inl (later h)
      go (inr e) = inr (ap suc e.0, e.1)
