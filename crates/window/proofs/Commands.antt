-- A window call by its tests: one case for each command, with the facts that the tests found.
use Rattle.std.specs.Prelude.{Result, Ok, Err, ⊤}
use mathlib.Core.Path.{◌≡◌}
use mathlib.Core.Bool.{true, false}
use mathlib.Core.List.{List}
use mathlib.Core.Logic.{◌≢◌}
use Prim.Native.Nat.{ℕ, ◌*◌, ◌<◌, ◌≤◌}
use native.Mathlib.Omega.{arith}
use borrow.Author.Tests.{ltb-true, ltb-false, eqb-true, eqb-false, le-ltb, eq-eqb, ne_eqb}
use lib.Dec.{eqb, ltb}
use lib.ListN.{length}
use Rattle.laws.proofs.Choice.{choice_by}
use Rattle.refusal.specs.declared.Refusal.TheVariants as cause
use Rattle.window.specs.Window.{byte_at, status_at, place_of}
use Rattle.window.specs.Written.{acknowledged_in}
use Rattle.window.specs.Serve.{Asked, Settled, Begins, Steps, refused_command, commanded}
use Rattle.refusal.specs.declared.Refusal.{Refusal}

-- ---- Where a task has a window

pub data Placed (windows : List ℕ) (n t : ℕ) : Result ⊤ Refusal → Type 0 where
  inside : length windows ≡ 8 * n → t < n → Placed windows n t (Ok tt)
  past : length windows ≡ 8 * n → n ≤ t → Placed windows n t (Err cause.Task)
  unfit : length windows ≢ 8 * n → Placed windows n t (Err cause.Window)

pub placed : (windows : List ℕ) (n t : ℕ) → Placed windows n t (place_of windows n t)
placed windows n t =
    choice_by (Placed windows n t) (eqb (length windows) (8 * n))
    (λ e. choice_by (Placed windows n t) (ltb t n) (λ h. inside (eqb-true _ _ e) (ltb-true t n h)) (λ h. past (eqb-true _ _ e) (ltb-false t n h)))
    (λ e. unfit (eqb-false _ _ e))

module _ (windows : List ℕ) (n t : ℕ) where
  pub place_unfit : length windows ≢ 8 * n → Err cause.Window ≡ place_of windows n t
  place_unfit h = simp (ne_eqb (length windows) (8 * n) h)

  pub place_past : length windows ≡ 8 * n → n ≤ t → Err cause.Task ≡ place_of windows n t
  place_past e h = simp (eq-eqb (length windows) (8 * n) e, le-ltb t n h)

-- ---- The commands

module _ (windows : List ℕ) (t : ℕ) where
  pub data Command (k : ℕ) : Asked → Type 0 where
    nothing : k ≡ 0 → Command k (Settled (Ok tt) windows)
    begins : k ≡ 1 → (status_at windows t).done ≡ false → Command k (Begins (byte_at windows t 0))
    unacknowledged : k ≡ 1 → (status_at windows t).done ≡ true → Command k (refused_command windows t cause.Unacknowledged)
    steps : k ≡ 2 → Command k Steps
    acknowledges : k ≡ 3 → Command k (Settled (Ok tt) (acknowledged_in windows t))
    unknown : 3 < k → Command k (refused_command windows t cause.Window)

  pub command : (k : ℕ) → Command k (commanded windows t k)
  command k =
      choice_by (Command k) (eqb k 0) (λ e. nothing (eqb-true k 0 e))
      (λ zero. choice_by (Command k) (ltb 3 k) (λ e. unknown (ltb-true 3 k e))
      (λ few. choice_by (Command k) (eqb k 3) (λ e. acknowledges (eqb-true k 3 e))
      (λ three. choice_by (Command k) (eqb k 2) (λ e. steps (eqb-true k 2 e))
      (λ two. let one : k ≡ 1 = omega (arith, eqb-false k 0 zero, ltb-false 3 k few, eqb-false k 3 three, eqb-false k 2 two) in
      choice_by (Command k) (status_at windows t).done (unacknowledged one) (begins one)))))
