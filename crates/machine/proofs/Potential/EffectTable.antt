-- The table of effects by what they mean to the potential: seven ordinary ones, and three stage changes (apply, hand over, clear).
use mathlib.Core.Bool.{Bool, true, false, cond}
use Prim.Native.Nat.{ℕ, ◌+◌}
use native.Mathlib.Decide.{ℕ_discrete}
use Rattle.laws.specs.Decision.{decided}
use Rattle.machine.specs.Potential.{always, head_weight, announcement_weight, lost_weight}
use Rattle.machine.proofs.Steps.Effect.{Effect, Unchanged, Linked, Released, Cleared, Retracted, Applied, LinkedAt, ReleasedAt, HandedOver, Announced}

-- The rank that the effect takes from its task, by whether the own mark stands in the head; what a stage change may cost
-- a task at its place: a stale word, and a lost mark in the head if it takes all marks off; whether it puts the own mark
-- into the head; whether it marks or unmarks, and whether it rewrites, the announcement of task t.
pub record EffectRow : Type 0 where
  pub cost : Bool → ℕ
  pub stage : ℕ
  pub links : Bool
  pub marks : (i t : ℕ) → Bool
  pub writes : (i t : ℕ) → Bool

abbrev pub nowhere : (i t : ℕ) → Bool
nowhere i t = false

abbrev pub own : (i t : ℕ) → Bool
own i t = decided (ℕ_discrete i t)

abbrev pub at : ℕ → (i t : ℕ) → Bool
at j i t = decided (ℕ_discrete j t)

abbrev pub columns : (Bool → ℕ) → ℕ → Bool → ((i t : ℕ) → Bool) → ((i t : ℕ) → Bool) → EffectRow
columns c s l m w = record { cost = c; stage = s; links = l; marks = m; writes = w }

abbrev pub effect_row : Effect → EffectRow
effect_row Unchanged = columns (always 0) 0 false nowhere nowhere
effect_row Linked = columns (λ marked. cond marked 0 head_weight) 0 true nowhere nowhere
effect_row Released = columns (always head_weight) 0 false nowhere nowhere
effect_row Cleared = columns (always 0) (head_weight + lost_weight) false nowhere nowhere
effect_row Retracted = columns (always announcement_weight) 0 false nowhere own
effect_row (Applied q j r) = columns (always 0) (head_weight + lost_weight) false nowhere nowhere
effect_row (LinkedAt j) = columns (always announcement_weight) 0 false (at j) nowhere
effect_row (ReleasedAt j) = columns (always announcement_weight) 0 false (at j) nowhere
effect_row (HandedOver j r) = columns (always 0) announcement_weight false nowhere (at j)
effect_row (Announced o) = columns (always announcement_weight) 0 false nowhere own
