-- The step machine as a whole: configurations, what begin and step do to them, and lists of calls.
use Rattle.std.specs.Prelude.{Bool, true, false, cond, List, [], ◌∷◌, ℕ, suc, ltb}
use Rattle.laws.specs.Update.{update}
use Rattle.machine.specs.Demand.{Shown}
use Rattle.machine.specs.Object.{Object}
use Rattle.machine.specs.Calls.{Call, Begin, Step, Answer, Begun, Running, Ended, Refused, Event}
use Rattle.machine.specs.Memory.{Memory, image}
use Rattle.machine.specs.Machine.{Phase, Idle, ReadOnly, Announce, Task, plan, result, perform, Next, Go, Turn, End, after, advance}
use Rattle.machine.specs.Kind.{kind, off}

-- A configuration: the cells, and the record of each task.
pub record Config : Type 0 where
  pub memory : Memory
  pub task : ℕ → Task

-- What a call leaves, and what it answers.
pub record Served : Type 0 where
  pub config : Config
  pub answer : Answer

-- An idle task keeps its priority alone.
abbrev pub idle_task : ℕ → Task
idle_task p = record { phase = Idle; operation = 0; priority = p; steps = 0 }

-- At the start the cells are the image of a state, and every task is idle, with priority to itself.
abbrev pub start : ℕ → Config
start q = record { memory = image q; task = idle_task }

-- A refused call changes nothing.
abbrev pub unserved : Config → ℕ → Served
unserved c k = record { config = c; answer = Refused k }

-- A changing operation begins with its announcement, a reading one with its only step.
abbrev pub first_phase : Bool → Phase
first_phase true = Announce
first_phase false = ReadOnly

-- Begin writes the task's record and no cell.
abbrev pub begun : Object → (i o : ℕ) → Config → Served
begun b i o c = record {
  config = record { memory = c.memory; task = update c.task i (record { phase = first_phase (b.changing o); operation = o; priority = (c.task i).priority; steps = 0 }) };
  answer = Begun;
}

unfoldable pub begin : Object → (n i o : ℕ) → Config → Served
begin b n i o c =
    cond (ltb i n)
    (cond (ltb o b.operations)
    (cond (off (kind (c.task i).phase)) (begun b i o c) (unserved c 9))
    (unserved c 8))
    (unserved c 7)

-- What a step leads to: the access follows from the record, the rest from the record and the access's result.
abbrev pub outcome_of_step : Object → ℕ → Config → Next
outcome_of_step b i c =
    let t = c.task i in
    after b i t.priority t.operation t.phase (result (plan b i t.priority t.operation t.phase) c.memory)

-- The answer of a step; the count takes in this step.
abbrev pub answer_of : ℕ → Next → Answer
answer_of k (Go f) = Running
answer_of k (Turn f) = Running
answer_of k (End v) = Ended v (suc k)

-- A step makes its one access and writes the task's record.
abbrev pub stepped : Object → (n i : ℕ) → Config → Served
stepped b n i c =
    let t = c.task i in
    record {
      config = record { memory = perform (plan b i t.priority t.operation t.phase) c.memory; task = update c.task i (advance n t (outcome_of_step b i c)) };
      answer = answer_of t.steps (outcome_of_step b i c);
    }

unfoldable pub step : Object → (n i : ℕ) → Config → Served
step b n i c = cond (ltb i n) (cond (off (kind (c.task i).phase)) (unserved c 10) (stepped b n i c)) (unserved c 7)

abbrev pub serve : Object → ℕ → Call → Config → Served
serve b n (Begin i o) c = begin b n i o c
serve b n (Step i) c = step b n i c

-- The configuration after a list of calls.
abbrev pub run : Object → ℕ → List Call → Config → Config
run b n [] c = c
run b n (x ∷ xs) c = run b n xs (serve b n x c).config

-- The history of a list of calls: each with its answer.
abbrev pub history : Object → ℕ → List Call → Config → List Event
history b n [] c = []
history b n (x ∷ xs) c = record { call = x; answer = (serve b n x c).answer } ∷ history b n xs (serve b n x c).config

-- What a run of the machine shows.
abbrev pub machine_shows : Object → (n q : ℕ) → Shown Memory
machine_shows b n q = record {
  answer = λ xs x. (serve b n x (run b n xs (start q))).answer;
  history = λ xs. history b n xs (start q);
  cells = λ xs. (run b n xs (start q)).memory;
}
