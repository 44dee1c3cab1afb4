-- Which call empties an announcement, over whatever serves the calls: a step that ends a changing operation, and no other.
use Rattle.std.specs.Prelude.{◌≡◌, true, ◌↔◌, List, [], ◌∷◌, ◌++◌, ℕ, ◌<◌}
use Rattle.machine.specs.Outcome.{Outcome}
use Rattle.machine.specs.Object.{Object}
use Rattle.machine.specs.Calls.{Call, Step, Ended}
use Rattle.machine.specs.History.{Pends, pending}
use Rattle.machine.specs.Demand.{Shown}

-- The call x after the calls xs is a step of task t that answers *ended* for a changing operation.
pub record EndsChanging (b : Object) {C : Type 0} (run : Shown C) (xs : List Call) (x : Call) (t : ℕ) : Type 0 where
  pub operation : ℕ
  pub steps : ℕ
  pub outcome : Outcome
  pub count : ℕ
  pub step : x ≡ Step t
  pub pends : pending (run.history xs) t ≡ Pends operation steps
  pub changes : b.changing operation ≡ true
  pub ended : run.answer xs x ≡ Ended outcome count

-- At every point and for every call: the announcement of one of n tasks isn't empty before the call and is empty after it
-- exactly if the call is such a step of that task.
abbrev pub Emptyings : Object → ℕ → {C : Type 0} → (empty : C → ℕ → Type 0) → Shown C → Type 0
Emptyings b n empty run =
    (xs : List Call) (x : Call) (t : ℕ) → t < n
    → ((empty (run.cells xs) t → ⊥) × empty (run.cells (xs ++ (x ∷ []))) t) ↔ EndsChanging b run xs x t
