-- What an answer in a run tells of its task: whether an operation was pending, and how large a response can be.
use mathlib.Core.Path.{◌≡◌, refl, sym, ap, subst, ◌∙◌}
use mathlib.Core.Bool.{true, false}
use mathlib.Core.List.{List}
use Prim.Native.Nat.{ℕ, ◌<◌}
use Rattle.laws.proofs.Clash.{never}
use Rattle.machine.specs.Outcome.{Outcome}
use Rattle.machine.specs.Object.{Object}
use Rattle.machine.specs.Machine.{Phase, Next}
use Rattle.machine.specs.Run.{Config, Served, answer_of}
use Rattle.machine.specs.Calls.{Call, Begin, Step, Begun, Ended, Refused}
use Rattle.machine.specs.Form.{PhaseFormed, Formed}
use Rattle.machine.specs.History.{Pending, Nothing, Pends, pending}
use Rattle.machine.specs.Invariant.{head_value}
use Rattle.machine.specs.Memory.{Memory, state_of}
use Rattle.machine.proofs.Steps.Effect.{Effect}
use Rattle.machine.proofs.Steps.Calls.{Serving, begins, begin_task, begin_operation, begin_pending, moves, step_task, step_idle, serving}
use Rattle.machine.proofs.Book.Progress.{Progress, idles, reads, announces, applies, continues, retracts, progress}
use Rattle.machine.proofs.Points.Pending.{pending_of, pending_is}
use Rattle.stepping.specs.Runs.{Store}
use Rattle.stepping.specs.Opening.{Opening, object_in, shown}
use Rattle.stepping.proofs.Continued.{accepted_pends}
use Rattle.stepping.proofs.Demands.{machine_run, in_range, history_opened, answer_opened}
use Rattle.stepping.proofs.Theorem.{demands_met}
use Rattle.table.proofs.Accepted.{response_byte}
use Rattle.machine.specs.Demand.{StepAccepted}
use Rattle.window.specs.Console.{is_pending}

-- ---- The machine

module _ {b : Object} {n : ℕ} {c : Config} {t : ℕ} where
  begin_idle : {o : ℕ} {z : Served} → Serving b n c (Begin t o) z → z.answer ≡ Begun → is_pending (pending_of (c.task t)) ≡ false
  begin_idle (begins h k e) a = rw e refl
  begin_idle (begin_task h) a = never cc
  begin_idle (begin_operation h k) a = never cc
  begin_idle (begin_pending h k d) a = never cc

-- An operation ends with an outcome of the object, or with one that its record has saved.
ended_bounded : (b : Object) (n : ℕ) {m : Memory} {i x : ℕ} {f : Phase} {e : Effect} {y : Next} → Progress b m i x f e y → ((q o : ℕ) → (b.outcome q o).response < b.outcomes)
    → PhaseFormed b n f → (k : ℕ) (r : Outcome) (j : ℕ) → answer_of k y ≡ Ended r j → r.response < b.outcomes
ended_bounded b n idles all formed k r j e = never cc
ended_bounded b n {m} {x = x} reads all formed k r j e = let same : b.outcome (state_of (head_value m)) x ≡ r = cc in subst (λ (v : Outcome). v.response < b.outcomes) same (all (state_of (head_value m)) x)
ended_bounded b n announces all formed k r j e = never cc
ended_bounded b n (applies _) all formed k r j e = never cc
ended_bounded b n (continues _ _ _) all formed k r j e = never cc
ended_bounded b n (retracts {v = v}) all formed k r j e = let same : v ≡ r = cc in subst (λ (w : Outcome). w.response < b.outcomes) same formed

step_bounded : (b : Object) (n : ℕ) (c : Config) → Formed b n c → ((q o : ℕ) → (b.outcome q o).response < b.outcomes) → {t : ℕ} {z : Served} → Serving b n c (Step t) z
    → (r : Outcome) (j : ℕ) → z.answer ≡ Ended r j → r.response < b.outcomes
step_bounded b n c formed all (moves {i = i} h d v) r j e =
    ended_bounded b n (progress b c.memory i (c.task i).priority (c.task i).operation v) all (formed.task i h).phase (c.task i).steps r j e
step_bounded b n c formed all (step_task h) r j e = never cc
step_bounded b n c formed all (step_idle h d) r j e = never cc

-- ---- Runs

module _ {file : List ℕ} {n q : ℕ} {s : Store} (o : Opening file n q s) (xs : List Call) (t : ℕ) where
  pub begun_idle : (x : ℕ) → (shown o).answer xs (Begin t x) ≡ Begun → is_pending (pending ((shown o).history xs) t) ≡ false
  begun_idle x e =
      ap (λ es. is_pending (pending es t)) (history_opened o xs) ∙ ap is_pending (pending_is (object_in o) n xs q t)
      ∙ begin_idle (serving (object_in o) n (machine_run o xs) (Begin t x)) (sym (answer_opened o xs (Begin t x)) ∙ e)

  pub accepted_pending : ((k : ℕ) → (shown o).answer xs (Step t) ≡ Refused k → ⊥) → is_pending (pending ((shown o).history xs) t) ≡ true
  accepted_pending h = let (_, (_, e)) = accepted_pends o xs t h in ap is_pending e

  -- A pending task's step is accepted: the demand.
  pub refused_idle : (k : ℕ) → (shown o).answer xs (Step t) ≡ Refused k → is_pending (pending ((shown o).history xs) t) ≡ false
  refused_idle k e = by (pending ((shown o).history xs) t) refl
    where
      by : (p : Pending) → pending ((shown o).history xs) t ≡ p → is_pending p ≡ false
      by Nothing z = refl
      by (Pends x j) z = absurd (subst StepAccepted e ((demands_met o).accepted xs t x j z))

  -- A response fits byte 3.
  pub response_fits : (r : Outcome) (k : ℕ) → (shown o).answer xs (Step t) ≡ Ended r k → r.response < 256
  response_fits r k e =
      step_bounded (object_in o) n (machine_run o xs) (in_range o xs).formed (λ a x. response_byte file o.shape o.table.bytes a x) (serving (object_in o) n (machine_run o xs) (Step t)) r k (sym (answer_opened o xs (Step t)) ∙ e)
