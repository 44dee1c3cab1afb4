-- The window call of docs/FORMATS.md, "The register window", for all arguments: the tests in their order, the library call that the
-- command asks for, and what is left.
use Rattle.std.specs.Prelude.{cond, List, [], ℕ, eqb, ltb, length, Result, Ok, Err, ⊤}
use Rattle.refusal.specs.declared.Refusal.{Refusal}
use Rattle.refusal.specs.declared.Refusal.TheVariants as cause
use Rattle.refusal.specs.Number.{Said, accepted, refused}
use Rattle.records.specs.declared.record.Task.{Task}
use Rattle.stepping.specs.Call.{begin_of, step_of}
use Rattle.window.specs.Window.{byte_at, status_at, place_of}
use Rattle.window.specs.Written.{refused_in, acknowledged_in, after_begin, after_step}
use Rattle.stepping.specs.declared.answer.Progress.{Progress}
use Rattle.stepping.specs.declared.answer.Progress.TheVariants as progress

-- What an answer says.
abbrev pub window_said : Result ⊤ Refusal → Said
window_said (Ok tt) = accepted []
window_said (Err c) = refused c

-- What a window call comes to: it is settled by the windows alone, or it makes a begin or a step.
pub data Asked : Type 0 where
  Settled : (answer : Result ⊤ Refusal) (windows : List ℕ) → Asked
  Begins : (operation : ℕ) → Asked
  Steps : Asked

-- A refused command.
abbrev pub refused_command : List ℕ → ℕ → Refusal → Asked
refused_command windows t c = Settled (Err c) (refused_in windows t c)

-- The command in byte 1: 0 nothing, 1 begin, 2 step, 3 acknowledge; 18 for any other, and 17 for a begin before done is acknowledged.
abbrev pub commanded : List ℕ → (t command : ℕ) → Asked
commanded windows t command =
    cond (eqb command 0) (Settled (Ok tt) windows)
    (cond (ltb 3 command) (refused_command windows t cause.Window)
    (cond (eqb command 3) (Settled (Ok tt) (acknowledged_in windows t))
    (cond (eqb command 2) Steps
    (cond (status_at windows t).done (refused_command windows t cause.Unacknowledged) (Begins (byte_at windows t 0))))))

-- A task that has no window is refused, and no byte changes.
abbrev pub asked_in : List ℕ → ℕ → Result ⊤ Refusal → Asked
asked_in windows t (Err c) = Settled (Err c) windows
asked_in windows t (Ok tt) = commanded windows t (byte_at windows t 1)

-- For task t of n.
unfoldable pub asked_of : List ℕ → (n t : ℕ) → Asked
asked_of windows n t = asked_in windows t (place_of windows n t)

-- What a window call leaves, and what it answers.
pub record WindowOutcome : Type 0 where
  pub cells : List ℕ
  pub row : List Task
  pub windows : List ℕ
  pub answer : Result ⊤ Refusal

-- A begin and a step are served, or refused for the cause that they answer.
abbrev pub begun_answer : Result ⊤ Refusal → Result ⊤ Refusal
begun_answer (Ok tt) = (Ok tt)
begun_answer (Err c) = Err c

abbrev pub stepped_answer : Result Progress Refusal → Result ⊤ Refusal
stepped_answer (Ok progress.Running) = (Ok tt)
stepped_answer (Ok (progress.Ended response moved steps)) = (Ok tt)
stepped_answer (Err c) = Err c

-- What is asked for is made, and its answer goes into the window.
abbrev pub made : (file cells : List ℕ) → List Task → List ℕ → ℕ → Asked → WindowOutcome
made file cells row windows t (Settled answer left) = record { cells = cells; row = row; windows = left; answer = answer }
made file cells row windows t (Begins operation) =
    let out = begin_of file row t operation in
    record { cells = cells; row = out.row; windows = after_begin windows t out.answer; answer = begun_answer out.answer }
made file cells row windows t Steps =
    let out = step_of file cells row t in
    record { cells = out.cells; row = out.row; windows = after_step windows t out.answer; answer = stepped_answer out.answer }

-- The call for task t of a row of n records.
unfoldable pub window_of : (file cells : List ℕ) → List Task → List ℕ → ℕ → WindowOutcome
window_of file cells row windows t = made file cells row windows t (asked_of windows (length row) t)
