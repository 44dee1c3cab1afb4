-- Calls of other tasks tell nothing of this one, a window call makes one call at most, and how a served command is noted.
use Rattle.std.specs.Prelude.{Ok}
use mathlib.Core.Path.{◌≡◌, refl}
use mathlib.Core.Logic.{◌↔◌, ◌≢◌, ◌⊎◌, inl, inr}
use mathlib.Core.Bool.{Bool, true, false, ◌||◌}
use mathlib.Core.List.{List, [], ◌∷◌}
use Prim.Native.Nat.{ℕ}
use borrow.Author.Tests.{ne_eqb}
use Rattle.laws.proofs.Clash.{never}
use Rattle.machine.specs.Outcome.{Outcome}
use Rattle.machine.specs.Calls.{Call, Begin, Step, Answer, Begun, Running, Ended, Refused, Event}
use Rattle.machine.specs.History.{Pending, Nothing, Pends, longer, heard}
use Rattle.window.specs.Serve.{Asked, Settled, Begins, Steps}
use Rattle.window.specs.Events.{call_by}
use Rattle.window.specs.Console.{task_of, is_pending, ended_by, ending_by, noted}

-- ---- Calls of other tasks

pub heard_other : (t : ℕ) (x : Call) (a : Answer) (p : Pending) → task_of x ≢ t → heard t x a p ≡ p
heard_other t (Begin i o) Begun p h = simp (ne_eqb i t h)
heard_other t (Begin i o) Running p h = refl
heard_other t (Begin i o) (Ended r k) p h = refl
heard_other t (Begin i o) (Refused k) p h = refl
heard_other t (Step i) Begun p h = refl
heard_other t (Step i) Running p h = simp (ne_eqb i t h)
heard_other t (Step i) (Ended r k) p h = simp (ne_eqb i t h)
heard_other t (Step i) (Refused k) p h = refl

pub ended_other : (t : ℕ) (x : Call) (a : Answer) (r : Outcome) → task_of x ≢ t → ended_by t x a r ≡ r
ended_other t (Begin i o) a r h = refl
ended_other t (Step i) Begun r h = refl
ended_other t (Step i) Running r h = refl
ended_other t (Step i) (Ended v k) r h = simp (ne_eqb i t h)
ended_other t (Step i) (Refused k) r h = refl

-- One more step is as pending as before.
pub longer_pending : (p : Pending) → is_pending (longer p) ≡ is_pending p
longer_pending Nothing = refl
longer_pending (Pends o s) = refl

-- At most one call is made, and it is for the task.
pub one_call : (t : ℕ) (a : Asked) → (call_by t a ≡ []) ⊎ ((x : Call) × (call_by t a ≡ x ∷ []) × (task_of x ≡ t))
one_call t (Settled answer left) = inl refl
one_call t (Begins o) = inr (Begin t o, refl, refl)
one_call t Steps = inr (Step t, refl, refl)

-- A served command is noted by its direct call.
pub noted_served : (k : ℕ) (es : List Event) → k ≢ 3 → noted k (Ok tt) es ≡ ending_by es
noted_served k es h = simp (ne_eqb k 3 h)

-- One of two bits.
pub or_read : (a b : Bool) → ((a || b) ≡ true) ↔ ((a ≡ true) ⊎ (b ≡ true))
or_read true b = ((λ _. inl refl), λ _. refl)
or_read false true = ((λ _. inr refl), λ _. refl)
or_read false false = ((λ e. never cc), by)
  where
    by : (false ≡ true) ⊎ (false ≡ true) → false ≡ true
    by (inl e) = e
    by (inr e) = e
