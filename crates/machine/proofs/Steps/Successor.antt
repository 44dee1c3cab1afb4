-- The configuration after a step, by the effect of the step.
use mathlib.Core.Path.{◌≡◌, ap}
use Prim.Native.Nat.{ℕ}
use Rattle.laws.specs.Update.{update}
use Rattle.machine.specs.Object.{Object}
use Rattle.machine.specs.Memory.{Memory}
use Rattle.machine.specs.Machine.{Next, advance}
use Rattle.machine.specs.Run.{Config, stepped, outcome_of_step}
use Rattle.machine.proofs.Steps.Effect.{Effect, effect}
use Rattle.machine.proofs.Steps.Branch.{Branch}
use Rattle.machine.proofs.Steps.Coverage.{taken}

-- The configuration after a step of task i with effect e that leads to y.
abbrev pub moved : (n i : ℕ) → Config → Effect → Next → Config
moved n i c e y = record { memory = effect i e c.memory; task = update c.task i (advance n (c.task i) y) }

-- The branch that the next step of task i takes.
abbrev pub Steps : Object → ℕ → Config → Effect → Next → Type 0
Steps b i c e y = Branch b c.memory i (c.task i).priority (c.task i).operation (c.task i).phase e y

pub record Stepped (b : Object) (n i : ℕ) (c : Config) : Type 0 where
  pub change : Effect
  pub branch : Steps b i c change (outcome_of_step b i c)
  pub config : (stepped b n i c).config ≡ moved n i c change (outcome_of_step b i c)

pub steps : (b : Object) (n i : ℕ) (c : Config) → Stepped b n i c
steps b n i c =
    let t = taken b c.memory i (c.task i).priority (c.task i).operation (c.task i).phase in
    record {
      change = t.change;
      branch = t.branch;
      config = ap (λ (m : Memory). record { memory = m; task = update c.task i (advance n (c.task i) (outcome_of_step b i c)) }) t.cells;
    }
