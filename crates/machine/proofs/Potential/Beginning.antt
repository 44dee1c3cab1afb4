-- A begin raises the potential of no other operation, and opens its own at most at the bound.
use mathlib.Core.Path.{◌≡◌, refl, sym, ◌∙◌, ap}
use mathlib.Core.Bool.{Bool, true, false}
use mathlib.Core.Logic.{◌≢◌}
use Prim.Native.Nat.{ℕ, ◌≤◌, ◌<◌}
use native.Mathlib.Omega.{arith}
use Rattle.laws.proofs.Update.{update_same, update_other}
use Rattle.machine.specs.Object.{Object}
use Rattle.machine.specs.Memory.{Content, Empty, Op, Resp, Memory}
use Rattle.machine.specs.Machine.{Idle, Task}
use Rattle.machine.specs.Kind.{kind}
use Rattle.machine.specs.Run.{Config, first_phase, begun}
use Rattle.machine.specs.Invariant.{is_in_head, head_value, content, Safe}
use Rattle.machine.specs.Potential.{Row, row, answered, held, dist, changes_left, bound, waiting_potential, announced_potential, potential_by, potential}
use Rattle.machine.proofs.Steps.Effect.{Unchanged}
use Rattle.machine.proofs.Potential.EffectTable.{effect_row}
use Rattle.machine.proofs.Potential.EffectOnOthers.{ordinary, unchanged, untouched}
use Rattle.machine.proofs.Potential.Waiting.{Pays, dists_fall, waiting_stays, place_other}
use Rattle.machine.proofs.Potential.Answered.{NeitherRises, lasts_no_longer, head_stays, marks_stay}
use Rattle.machine.proofs.Potential.Falling.{kind_stays}

-- The record of a task that began.
abbrev pub begun_task : Object → (j o : ℕ) → Config → Task
begun_task b j o c = record { phase = first_phase (b.changing o); operation = o; priority = (c.task j).priority; steps = 0 }

first_row : (x : Bool) → row (first_phase x) ≡ row Idle
first_row true = refl
first_row false = refl

module _ (b : Object) (n j o : ℕ) (lt : j < n) (c : Config) (safe : Safe c) (idle : (c.task j).phase ≡ Idle) where
  abbrev m : Memory
  m = c.memory

  abbrev t' : Task
  t' = begun_task b j o c

  abbrev c' : Config
  c' = (begun b j o c).config

  same : row t'.phase ≡ row (c.task j).phase
  same = first_row (b.changing o) ∙ sym (ap row idle)

  rank : Pays j c m t' (effect_row Unchanged)
  rank = omega (arith, ap (λ (r : Row). r.rank (held (head_value m)) (is_in_head m j) (answered (content m j))) same)

  module _ (p : ℕ) (d : j ≢ p) where
    waiting : waiting_potential n c' p ≤ waiting_potential n c p
    waiting =
        omega (
          arith,
          waiting_stays n j lt c m t' p 0 (unchanged m j) rank
              (omega (arith, dists_fall n j lt c m t' p 0 (omega (arith, ap (λ (r : Row). dist n p t'.priority r.work) same))))
              (omega (arith, place_other {b = b} j c t' p {e = Unchanged} (ordinary (unchanged m j)) d)),
        )

    neither_rises : NeitherRises n c c' p
    neither_rises = record {
      head = head_stays n j lt c m t' p d (unchanged m j) rank;
      marks = λ t. marks_stay n j lt c m t' p t d (untouched m j t m.head (effect_row Unchanged) refl) (λ x _ w _ _. omega arith) (omega (arith, ap (λ (r : Row). changes_left m j t r.work) same));
    }

    at_p : c'.task p ≡ c.task p
    at_p = update_other c.task j t' p d

    announced : (a : Content) → announced_potential n c' p a ≤ announced_potential n c p a
    announced Empty = waiting
    announced (Op x) = waiting
    announced (Resp r) = rw at_p (lasts_no_longer n c c' p neither_rises (c.task p).phase (safe.each p).saved)

    pub potential_begin : potential n c' p ≤ potential n c p
    potential_begin = rw at_p (kind_stays n c c' p (content m p) (content m p) (kind (c.task p).phase) (λ _. announced (content m p)))

  first_most : (x : Bool) (a : Content) → potential_by n c' j (kind (first_phase x)) a ≤ bound n
  first_most true a = omega arith
  first_most false a = omega arith

  pub potential_begun : potential n c' j ≤ bound n
  potential_begun = rw (update_same c.task j t') (first_most (b.changing o) (content m j))
