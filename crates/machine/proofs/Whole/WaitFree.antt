-- Every operation ends within a number of its own steps that follows from the number of tasks alone.
use mathlib.Core.Path.{◌≡◌, ap}
use mathlib.Core.Bool.{false, cond}
use mathlib.Core.List.{List, [], ◌∷◌}
use Prim.Native.Nat.{ℕ, suc, ◌+◌, ◌*◌, ◌≤◌, ◌<◌}
use native.Mathlib.Decide.{ℕ_discrete}
use native.Mathlib.Nat.{mul-add, mul_left_comm, mul-le-mul_left, mul-le-mul_right}
use native.Mathlib.Omega.{arith}
use Rattle.laws.proofs.Update.{update_same, update_other}
use Rattle.laws.proofs.Clash.{never}
use Rattle.machine.specs.Object.{Object}
use Rattle.machine.specs.Lawful.{Opens}
use Rattle.machine.specs.Machine.{Idle, Task, Next, Go, Turn, End, ends, advance}
use Rattle.machine.specs.Kind.{Kind, Off, kind, off}
use Rattle.machine.specs.Run.{Config, Served, start, begun, serve, run}
use Rattle.machine.specs.Calls.{Call}
use Rattle.machine.specs.Invariant.{Safe}
use Rattle.machine.specs.Form.{Formed}
use Rattle.machine.specs.Potential.{bound, potential, Bounded}
use Rattle.machine.proofs.Steps.Effect.{Effect}
use Rattle.machine.proofs.Steps.Successor.{moved, Steps, steps}
use Rattle.machine.proofs.Steps.Calls.{Serving, begins, begin_task, begin_operation, begin_pending, moves, step_task, step_idle, serving}
use Rattle.machine.proofs.Invariant.Safety.{safe_start, safe_serve, safe_run}
use Rattle.machine.proofs.Invariant.Ranges.{formed_start, formed_serve, formed_run}
use Rattle.machine.proofs.Potential.Falling.{potential_other, potential_own}
use Rattle.machine.proofs.Potential.Beginning.{begun_task, potential_begin, potential_begun}

-- ---- The bound

-- The bound is below the ceiling of docs/RUNS.md, for every number of tasks.
pub bound_ceiling : (n : ℕ) → 1 ≤ n → bound n ≤ 1000 * (n * n * n)
bound_ceiling n h =
    let s = n * n in
    omega (
      arith,
      mul-add s (16 * n) 47,
      mul_left_comm s 16 n,
      mul-le-mul_right n h,
      mul-le-mul_left s h,
    )

-- ---- One call

pending : {k : Kind} → off k ≡ false → k ≡ Off → ⊥
pending e z = never cc

module _ (b : Object) (n : ℕ) {c : Config} (safe : Safe c) (formed : Formed b n c) where
  -- A pending operation has a potential.
  potential_left : (i : ℕ) → i < n → (kind (c.task i).phase ≡ Off → ⊥) → 1 ≤ potential n c i
  potential_left i h z = omega (arith, potential_own b n i h c safe (formed.task i h).priority (steps b n i c).branch z)

  module _ (bounded : Bounded n c) where
    -- While an operation is pending, the count of its steps is below the bound.
    pub pending_below : (t : ℕ) → t < n → (kind (c.task t).phase ≡ Off → ⊥) → (c.task t).steps < bound n
    pending_below t h z = omega (arith, bounded t h, potential_left t h z)

    bounded_moved : (i : ℕ) {e : Effect} {y : Next} → i < n → off (kind (c.task i).phase) ≡ false → Steps b i c e y → Bounded n (moved n i c e y)
    bounded_moved i {e} {y} h d v t l = go (ℕ_discrete i t)
      where
        counted : (x : Next) → cond (ends x) 0 (suc (c.task i).steps) ≤ suc (c.task i).steps
        counted (Go f) = omega arith
        counted (Turn f) = omega arith
        counted (End r) = omega arith

        go : Dec (i ≡ t) → ((moved n i c e y).task t).steps + potential n (moved n i c e y) t ≤ bound n
        go (yes z) = rw (← z) (omega (
          arith,
          ap (λ (s : Task). s.steps) (update_same c.task i (advance n (c.task i) y)),
          counted y,
          potential_own b n i h c safe (formed.task i h).priority v (pending d),
          bounded i h,
        ))
        go (no z) = omega (
          arith,
          ap (λ (s : Task). s.steps) (update_other c.task i (advance n (c.task i) y) t z),
          potential_other b n i h c safe (formed.task i h).priority v t z l,
          bounded t l,
        )

    bounded_begun : (i o : ℕ) → i < n → (c.task i).phase ≡ Idle → Bounded n (begun b i o c).config
    bounded_begun i o h e t l = go (ℕ_discrete i t)
      where
        go : Dec (i ≡ t) → ((begun b i o c).config.task t).steps + potential n (begun b i o c).config t ≤ bound n
        go (yes z) = rw (← z) (omega (arith, ap (λ (s : Task). s.steps) (update_same c.task i (begun_task b i o c)), potential_begun b n i o h c safe e))
        go (no z) = omega (arith, ap (λ (s : Task). s.steps) (update_other c.task i (begun_task b i o c) t z), potential_begin b n i o h c safe e t z, bounded t l)

    bounded_serving : {x : Call} {r : Served} → Serving b n c x r → Bounded n r.config
    bounded_serving (begins {i = i} {o = o} h k e) = bounded_begun i o h e
    bounded_serving (begin_task h) = bounded
    bounded_serving (begin_operation h k) = bounded
    bounded_serving (begin_pending h k e) = bounded
    bounded_serving (moves {i = i} h d v) = bounded_moved i h d v
    bounded_serving (step_task h) = bounded
    bounded_serving (step_idle h e) = bounded

-- ---- Lists of calls

module _ (b : Object) (n : ℕ) where
  bounded_from : (xs : List Call) (c : Config) → Safe c → Formed b n c → Bounded n c → Bounded n (run b n xs c)
  bounded_from [] c s f w = w
  bounded_from (x ∷ xs) c s f w = bounded_from xs (serve b n x c).config (safe_serve b n x c s) (formed_serve b n x c s f) (bounded_serving b n s f w (serving b n c x))

  module _ (q : ℕ) (good : Opens b q) (xs : List Call) where
    -- After every list of calls, every operation's steps so far and its potential are within the bound.
    pub steps_bounded : Bounded n (run b n xs (start q))
    steps_bounded = bounded_from xs (start q) (safe_start q) (formed_start b n good) (λ t h. omega arith)

    -- So the count of a pending operation is below the bound.
    pub pending_steps : (t : ℕ) → t < n → (kind ((run b n xs (start q)).task t).phase ≡ Off → ⊥) → ((run b n xs (start q)).task t).steps < bound n
    pending_steps = pending_below b n (safe_run b n xs q) (formed_run b n xs good) steps_bounded
