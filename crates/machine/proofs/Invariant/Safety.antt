-- The invariant holds at the start and after every list of calls.
use mathlib.Core.Path.{◌≡◌, refl, sym}
use mathlib.Core.Bool.{Bool, true, false, cond}
use mathlib.Core.List.{List, [], ◌∷◌}
use Prim.Native.Nat.{ℕ}
use Rattle.laws.proofs.Update.{update_all}
use Rattle.machine.specs.Object.{Object}
use Rattle.machine.specs.Memory.{Memory}
use Rattle.machine.specs.Machine.{Idle, Task, Next, Go, Turn, End, phase_of, ends, advance}
use Rattle.machine.specs.Run.{Config, Served, start, first_phase, begun, serve, run}
use Rattle.machine.specs.Calls.{Call}
use Rattle.machine.specs.Invariant.{TaskSafe, Safe}
use Rattle.machine.proofs.Steps.Effect.{Effect, effect, Allowed}
use Rattle.machine.proofs.Steps.Coverage.{free_not_holder}
use Rattle.machine.proofs.Steps.Successor.{moved, Steps}
use Rattle.machine.proofs.Steps.Calls.{Serving, begins, begin_task, begin_operation, begin_pending, moves, step_task, step_idle, serving}
use Rattle.machine.proofs.Invariant.Rely.{relies, holders, no_mark}
use Rattle.machine.proofs.Invariant.Stable.{stable}
use Rattle.machine.proofs.Invariant.Guarantee.{allowed, own_safe}

pub safe_start : (q : ℕ) → Safe (start q)
safe_start q = record {
  holder = λ i q r e. absurd (free_not_holder refl q r e);
  each = λ i. record { own = refl; head = no_mark i; saved = (λ j. no_mark i, tt) };
}

module _ {m : Memory} {i : ℕ} where
  -- An ended task is safe whatever its operation was.
  ended_safe : {o : ℕ} (y : Next) → TaskSafe m i o (phase_of y) → TaskSafe m i (cond (ends y) 0 o) (phase_of y)
  ended_safe (Go f) s = s
  ended_safe (Turn f) s = s
  ended_safe (End v) s = record { own = s.own; head = s.head; saved = s.saved }

  -- An idle task may begin any operation.
  begun_safe : {o : ℕ} (o' : ℕ) (t : Bool) → TaskSafe m i o Idle → TaskSafe m i o' (first_phase t)
  begun_safe o' true s = record { own = s.own; head = s.head; saved = s.saved }
  begun_safe o' false s = record { own = s.own; head = s.head; saved = s.saved }

module _ (b : Object) (n : ℕ) where
  pub safe_moved : (i : ℕ) {c : Config} {e : Effect} {y : Next} → Safe c → Steps b i c e y → Safe (moved n i c e y)
  safe_moved i {c} {e} {y} s v = record {
    holder = holders b c.memory i s.holder e may;
    each = update_all c.task i (advance n (c.task i) y) (λ j (t : Task). TaskSafe (effect i e c.memory) j t.operation t.phase)
        (ended_safe y (own_safe b c.memory i (c.task i).priority (c.task i).operation s.holder v (s.each i)))
        (λ j d. stable (relies b c.memory (λ z. d (sym z)) e may) (s.each j));
  }
    where
      may : Allowed b c.memory i e
      may = allowed b c.memory i (c.task i).priority (c.task i).operation s.holder v (s.each i)

  pub safe_begun : (i o : ℕ) {c : Config} → Safe c → (c.task i).phase ≡ Idle → Safe (begun b i o c).config
  safe_begun i o {c} s e = record {
    holder = s.holder;
    each = update_all c.task i _ (λ j (t : Task). TaskSafe c.memory j t.operation t.phase)
        (begun_safe o (b.changing o) (rw e at (s.each i)))
        (λ j _. s.each j);
  }

  pub safe_serving : {x : Call} {c : Config} {r : Served} → Safe c → Serving b n c x r → Safe r.config
  safe_serving s (begins {i = i} {o = o} h k e) = safe_begun i o s e
  safe_serving s (begin_task h) = s
  safe_serving s (begin_operation h k) = s
  safe_serving s (begin_pending h k e) = s
  safe_serving s (moves {i = i} h e v) = safe_moved i s v
  safe_serving s (step_task h) = s
  safe_serving s (step_idle h e) = s

  pub safe_serve : (x : Call) (c : Config) → Safe c → Safe (serve b n x c).config
  safe_serve x c s = safe_serving s (serving b n c x)

  -- From a safe configuration every list of calls leads to a safe one.
  pub safe_from : (xs : List Call) (c : Config) → Safe c → Safe (run b n xs c)
  safe_from [] c s = s
  safe_from (x ∷ xs) c s = safe_from xs (serve b n x c).config (safe_serve x c s)

  pub safe_run : (xs : List Call) (q : ℕ) → Safe (run b n xs (start q))
  safe_run xs q = safe_from xs (start q) (safe_start q)
