-- Lists of calls that go on, and what an accepted step tells of its task.
use mathlib.Core.Path.{◌≡◌, refl, ap, ◌∙◌}
use mathlib.Core.List.{List, [], ◌∷◌, ◌++◌}
use Prim.Native.Nat.{ℕ}
use Rattle.machine.specs.Object.{Object}
use Rattle.machine.specs.Run.{Config, Served, start, run}
use Rattle.machine.specs.Calls.{Call, Step, Refused, Event}
use Rattle.machine.specs.History.{Pending, Pends, heard, pending_from, pending}
use Rattle.machine.proofs.Steps.Calls.{Serving, moves, step_task, step_idle, serving}
use Rattle.machine.proofs.Points.Pending.{pending_of, pending_is}
use Rattle.stepping.specs.Runs.{Store, serve_of, run_of, history_of}
use Rattle.stepping.specs.Opening.{Opening, object_in}
use Rattle.stepping.proofs.Demands.{history_opened, answer_opened}

-- One list of calls after another.
pub run_append : (file : List ℕ) (xs ys : List Call) (s : Store) → run_of file (xs ++ ys) s ≡ run_of file ys (run_of file xs s)
run_append file [] ys s = refl
run_append file (x ∷ xs) ys s = run_append file xs ys (serve_of file x s).store

-- What is pending after one more call.
pub pending_more : (t : ℕ) (p : Pending) (es : List Event) (e : Event) → pending_from t p (es ++ (e ∷ [])) ≡ heard t e.call e.answer (pending_from t p es)
pending_more t p [] e = refl
pending_more t p (x ∷ es) e = pending_more t (heard t x.call x.answer p) es e

-- A step of the machine that is not refused is one of a pending operation.
machine_pends : {b : Object} {n : ℕ} {c : Config} {t : ℕ} {z : Served} → Serving b n c (Step t) z → ((k : ℕ) → z.answer ≡ Refused k → ⊥)
    → pending_of (c.task t) ≡ Pends (c.task t).operation (c.task t).steps
machine_pends (moves h d v) a = rw d
machine_pends (step_task h) a = absurd (a 7 refl)
machine_pends (step_idle h d) a = absurd (a 10 refl)

-- In a run too.
pub accepted_pends : {file : List ℕ} {n q : ℕ} {s : Store} → Opening file n q s → (xs : List Call) (t : ℕ) → ((k : ℕ) → (serve_of file (Step t) (run_of file xs s)).answer ≡ Refused k → ⊥)
    → (o : ℕ) × ((k : ℕ) × (pending (history_of file xs s) t ≡ Pends o k))
accepted_pends {n = n} {q = q} a xs t h =
    let b = object_in a in
    let z = machine_pends (serving b n (run b n xs (start q)) (Step t)) (λ k e. h k (answer_opened a xs (Step t) ∙ e)) in
    (_, (_, ap (λ es. pending es t) (history_opened a xs) ∙ pending_is b n xs q t ∙ z))
