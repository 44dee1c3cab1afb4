-- What is pending by the history is what is pending by the records.
use mathlib.Core.Path.{◌≡◌, refl, sym, ◌∙◌, ap}
use mathlib.Core.Bool.{Bool, true, false, cond}
use mathlib.Core.List.{List, [], ◌∷◌}
use Prim.Native.Nat.{ℕ, suc}
use lib.Dec.{eqb}
use borrow.Author.Tests.{eq-eqb, ne_eqb}
use Rattle.laws.specs.Update.{update}
use Rattle.laws.proofs.Update.{update_all}
use Rattle.machine.specs.Object.{Object}
use Rattle.machine.specs.Machine.{Task, Next, Go, Turn, End, phase_of, ends, advance}
use Rattle.machine.specs.Kind.{kind, off}
use Rattle.machine.specs.Run.{Config, Served, start, first_phase, answer_of, serve, run, history}
use Rattle.machine.specs.Calls.{Call, Step}
use Rattle.machine.specs.History.{Pending, Nothing, Pends, longer, heard, pending_from, pending}
use Rattle.machine.proofs.Steps.Calls.{Serving, begins, begin_task, begin_operation, begin_pending, moves, step_task, step_idle, serving}
use Rattle.machine.proofs.Book.Progress.{progress, progress_pends}

-- The pending operation in a record, with its count of steps.
abbrev pub pending_of : Task → Pending
pending_of t = cond (off (kind t.phase)) Nothing (Pends t.operation t.steps)

-- A record is changed, and what is pending for its task with it.
changed : (f : ℕ → Task) (i : ℕ) (x : Task) (g : ℕ → Pending) → g i ≡ pending_of x → (t : ℕ) → cond (eqb i t) (g t) (pending_of (f t)) ≡ pending_of (update f i x t)
changed f i x g e = update_all f i x (λ t (y : Task). cond (eqb i t) (g t) (pending_of (f t)) ≡ pending_of y)
    (ap (λ (z : Bool). cond z (g i) (pending_of (f i))) (eq-eqb i i refl) ∙ e)
    (λ t d. ap (λ (z : Bool). cond z (g t) (pending_of (f t))) (ne_eqb i t d))

begun_pends : (d : Bool) (o p : ℕ) → Pends o 0 ≡ pending_of (record { phase = first_phase d; operation = o; priority = p; steps = 0 })
begun_pends true o p = refl
begun_pends false o p = refl

-- Two pending records: the second has made one more step with the operation.
longer_pends : (d e : Bool) (o s : ℕ) → d ≡ false → e ≡ false → longer (cond d Nothing (Pends o s)) ≡ cond e Nothing (Pends o (suc s))
longer_pends d e o s p q = ap (λ z. longer (cond z Nothing (Pends o s))) p ∙ ap (λ z. cond z Nothing (Pends o (suc s))) (sym q)

module _ (b : Object) (n : ℕ) where
  -- A step that runs is one more of the own steps; one that ends leaves nothing pending.
  heard_step : (c : Config) (i : ℕ) (y : Next) → off (kind (c.task i).phase) ≡ false → off (kind (phase_of y)) ≡ ends y
      → (t : ℕ) → heard t (Step i) (answer_of (c.task i).steps y) (pending_of (c.task t)) ≡ pending_of (update c.task i (advance n (c.task i) y) t)
  heard_step c i (Go f) p q = changed c.task i (advance n (c.task i) (Go f)) (λ t. longer (pending_of (c.task t))) (longer_pends _ _ _ _ p q)
  heard_step c i (Turn f) p q = changed c.task i (advance n (c.task i) (Turn f)) (λ t. longer (pending_of (c.task t))) (longer_pends _ _ _ _ p q)
  heard_step c i (End v) p q = changed c.task i (advance n (c.task i) (End v)) (λ _. Nothing) refl

  heard_serving : {c : Config} {x : Call} {s : Served} → Serving b n c x s → (t : ℕ) → heard t x s.answer (pending_of (c.task t)) ≡ pending_of (s.config.task t)
  heard_serving {c} (begins {i = i} {o = o} h k e) t = changed c.task i _ (λ _. Pends o 0) (begun_pends (b.changing o) o (c.task i).priority) t
  heard_serving (begin_task h) t = refl
  heard_serving (begin_operation h k) t = refl
  heard_serving (begin_pending h k e) t = refl
  heard_serving {c} (moves {i = i} {y = y} h p v) t =
      heard_step c i y p (progress_pends (progress b c.memory i (c.task i).priority (c.task i).operation v) p) t
  heard_serving (step_task h) t = refl
  heard_serving (step_idle h e) t = refl

  pending_from_lem : (xs : List Call) (c : Config) (t : ℕ) (p : Pending) → p ≡ pending_of (c.task t) → pending_from t p (history b n xs c) ≡ pending_of ((run b n xs c).task t)
  pending_from_lem [] c t p e = e
  pending_from_lem (x ∷ xs) c t p e = pending_from_lem xs (serve b n x c).config t _ (ap (heard t x (serve b n x c).answer) e ∙ heard_serving (serving b n c x) t)

  -- At every point of a run.
  pub pending_is : (xs : List Call) (q t : ℕ) → pending (history b n xs (start q)) t ≡ pending_of ((run b n xs (start q)).task t)
  pending_is xs q t = pending_from_lem xs (start q) t Nothing refl
