-- A task with no changing operation pending leaves no trace in the cells; the head's holder has one pending.
use mathlib.Core.Path.{◌≡◌, refl}
use mathlib.Core.Bool.{true, cond}
use Prim.Native.Nat.{ℕ, ◌<◌}
use native.Mathlib.Decide.{dec_lt}
use Rattle.laws.proofs.Clash.{clash}
use Rattle.machine.specs.Outcome.{Outcome}
use Rattle.machine.specs.Object.{Object}
use Rattle.machine.specs.Memory.{Held, Content, Empty, Memory}
use Rattle.machine.specs.Machine.{Phase, Idle, ReadOnly, Announce, Poll, LoadHead, LinkHead, LoadPriority, LoadOwn, Apply, ReloadApply, LoadHelped, LinkHelped, Validate, HandOver, ReloadHandOver, Release, ReloadRelease, ClearHead, ReloadClear, LoadExit, LinkExit, ClearExit, ReleaseExit, Retract}
use Rattle.machine.specs.Kind.{Kind, Off, Reading, Opening, Looping, Exiting, Retracting, kind, off, calm}
use Rattle.machine.specs.Run.{Config}
use Rattle.machine.specs.History.{Nothing, Pends, Quiet}
use Rattle.machine.specs.Invariant.{head_value, content, OwnContent, Unlinked, NoMark, TaskSafe, Safe}
use Rattle.machine.specs.Form.{OperationFormed, Formed}
use Rattle.machine.proofs.Points.Pending.{pending_of}

-- No trace of task t: its announcement is empty, and it has no mark in any cell.
pub record NoTrace (m : Memory) (t : ℕ) : Type 0 where
  pub empty : content m t ≡ Empty
  pub head : Unlinked m t
  pub marks : NoMark m t

-- A task that is idle or reads leaves no trace.
calm_no_trace : (m : Memory) (i o : ℕ) (f : Phase) → calm (kind f) ≡ true → TaskSafe m i o f → NoTrace m i
calm_no_trace m i o Idle e s = record { empty = s.own; head = s.head; marks = s.saved.0 }
calm_no_trace m i o ReadOnly e s = record { empty = s.own; head = s.head; marks = s.saved.0 }
calm_no_trace m i o Announce e s = clash e refl
calm_no_trace m i o Poll e s = clash e refl
calm_no_trace m i o LoadHead e s = clash e refl
calm_no_trace m i o (LinkHead h) e s = clash e refl
calm_no_trace m i o (LoadPriority h) e s = clash e refl
calm_no_trace m i o (LoadOwn h) e s = clash e refl
calm_no_trace m i o (Apply h j x) e s = clash e refl
calm_no_trace m i o (ReloadApply h j x) e s = clash e refl
calm_no_trace m i o (LoadHelped h j) e s = clash e refl
calm_no_trace m i o (LinkHelped h j a) e s = clash e refl
calm_no_trace m i o (Validate h j a) e s = clash e refl
calm_no_trace m i o (HandOver h j a) e s = clash e refl
calm_no_trace m i o (ReloadHandOver h j a) e s = clash e refl
calm_no_trace m i o (Release h j a) e s = clash e refl
calm_no_trace m i o (ReloadRelease h j a) e s = clash e refl
calm_no_trace m i o (ClearHead h j) e s = clash e refl
calm_no_trace m i o (ReloadClear h j) e s = clash e refl
calm_no_trace m i o (LoadExit v) e s = clash e refl
calm_no_trace m i o (LinkExit h v) e s = clash e refl
calm_no_trace m i o (ClearExit h v) e s = clash e refl
calm_no_trace m i o (ReleaseExit h v) e s = clash e refl
calm_no_trace m i o (Retract v) e s = clash e refl

module _ (b : Object) where
  -- A pending operation that is reading is in its only phase.
  reads_calm : (d : Kind) (o s : ℕ) → OperationFormed b d o s → Quiet b (cond (off d) Nothing (Pends o s)) → calm d ≡ true
  reads_calm Off o s y r = refl
  reads_calm Reading o s y r = refl
  reads_calm Opening o s y r = clash y.1 r
  reads_calm Looping o s y r = clash y.1 r
  reads_calm (Exiting v) o s y r = clash y.1 r
  reads_calm (Retracting v) o s y r = clash y.1 r

  -- A task whose announcement isn't empty has a changing operation pending.
  works : (d : Kind) (a : Content) (o s : ℕ) → OperationFormed b d o s → OwnContent a o d → (a ≡ Empty → ⊥) → (cond (off d) Nothing (Pends o s) ≡ Pends o s) × (b.changing o ≡ true)
  works Off a o s y w n = absurd (n w)
  works Reading a o s y w n = absurd (n w)
  works Opening a o s y w n = absurd (n w)
  works Looping a o s y w n = (refl, y.1)
  works (Exiting v) a o s y w n = (refl, y.1)
  works (Retracting v) a o s y w n = (refl, y.1)

  module _ (n : ℕ) (c : Config) (safe : Safe c) (formed : Formed b n c) where
    -- The records of all tasks, those from n on too.
    operation_formed : (t : ℕ) → OperationFormed b (kind (c.task t).phase) (c.task t).operation (c.task t).steps
    operation_formed t = go (dec_lt t n)
      where
        go : Dec (t < n) → OperationFormed b (kind (c.task t).phase) (c.task t).operation (c.task t).steps
        go (yes h) = (formed.task t h).operation
        go (no h) = rw (formed.untouched t h) (refl, refl)

    pub no_trace : (t : ℕ) → Quiet b (pending_of (c.task t)) → NoTrace c.memory t
    no_trace t r = calm_no_trace c.memory t (c.task t).operation (c.task t).phase (reads_calm (kind (c.task t).phase) (c.task t).operation (c.task t).steps (operation_formed t) r) (safe.each t)

    -- The task of an announcement that isn't empty.
    pub announces_changing : (j : ℕ) → (content c.memory j ≡ Empty → ⊥) → (pending_of (c.task j) ≡ Pends (c.task j).operation (c.task j).steps) × (b.changing (c.task j).operation ≡ true)
    announces_changing j f = works (kind (c.task j).phase) (content c.memory j) _ _ (operation_formed j) (safe.each j).own f

    pub holder_works : (q j : ℕ) (r : Outcome) → head_value c.memory ≡ Held q j r → (pending_of (c.task j) ≡ Pends (c.task j).operation (c.task j).steps) × (b.changing (c.task j).operation ≡ true)
    holder_works q j r e = announces_changing j (λ z. (rw z at (safe.holder j q r e)))
