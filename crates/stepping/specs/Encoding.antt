-- How a configuration of the step machine stands in cells and a row of records.
use Rattle.std.specs.Prelude.{List, ◌∷◌, ℕ}
use Rattle.laws.specs.Tabulate.{tabulate}
use Rattle.machine.specs.Memory.{Memory}
use Rattle.machine.specs.Machine as machine
use Rattle.machine.specs.Run.{Config, Served}
use Rattle.records.specs.declared.record.Task.{Task}
use Rattle.transition.specs.Encoding.{encode_head, encode_announcement, encode_task}
use Rattle.stepping.specs.Runs.{Store, CallOutcome}

-- The cells of n tasks: the head, then the announcements in the order of the tasks.
abbrev pub encode_cells : ℕ → Memory → List ℕ
encode_cells n m = encode_head m.head ∷ tabulate n (λ j. encode_announcement (m.announcement j))

-- The row of n tasks.
abbrev pub encode_row : ℕ → (ℕ → machine.Task) → List Task
encode_row n tasks = tabulate n (λ i. encode_task (tasks i))

-- The cells and the row of a configuration of n tasks.
abbrev pub encode_config : ℕ → Config → Store
encode_config n c = record { cells = encode_cells n c.memory; row = encode_row n c.task }

-- What a call leaves of a configuration, and its answer.
abbrev pub encode_served : ℕ → Served → CallOutcome
encode_served n r = record { store = encode_config n r.config; answer = r.answer }
