-- A function changed at one place.
use mathlib.Core.Path.{◌≡◌, refl, subst}
use mathlib.Core.Logic.{◌≢◌, ite, if_pos, if_neg}
use Prim.Native.Nat.{ℕ}
use native.Mathlib.Decide.{ℕ_discrete}
use Rattle.laws.specs.Update.{update}

-- What holds at j, and at every other place, holds everywhere.
pub everywhere : (P : ℕ → Type 0) (j : ℕ) → P j → ((k : ℕ) → j ≢ k → P k) → (k : ℕ) → P k
everywhere P j own others k = go (ℕ_discrete j k)
  where
    go : Dec (j ≡ k) → P k
    go (yes e) = subst P e own
    go (no n) = others k n

module _ {A : Type 0} (f : ℕ → A) (j : ℕ) (x : A) where
  -- What holds of x at j, and of f elsewhere, holds of the changed function.
  pub update_all : (P : ℕ → A → Type 0) → P j x → ((k : ℕ) → j ≢ k → P k (f k)) → (k : ℕ) → P k (update f j x k)
  unfolding update
  update_all P y g k = go (ℕ_discrete j k)
    where
      go : (d : Dec (j ≡ k)) → P k (ite d x (f k))
      go (yes e) = rw e at y
      go (no n) = g k n

  pub update_same : update f j x j ≡ x
  unfolding update
  update_same = if_pos (ℕ_discrete j j) refl x (f j)

  pub update_other : (k : ℕ) → j ≢ k → update f j x k ≡ f k
  unfolding update
  update_other k n = if_neg (ℕ_discrete j k) n x (f k)

  -- Writing what a place holds leaves every place as it was.
  pub update_held : x ≡ f j → (k : ℕ) → update f j x k ≡ f k
  update_held e = update_all (λ k v. v ≡ f k) e (λ k _. refl)
