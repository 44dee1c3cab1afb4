-- docs/FORMATS.md, "The bench": how a command is served. The bench holds nine cells and nine records; a run of n tasks has
-- the first n + 1 and the first n of them, and before an accepted start n is 0.
use Rattle.std.specs.Prelude.{Bool, true, false, not, ◌&&◌, cond, List, ◌++◌, ℕ, zero, suc, ◌+◌, eqb, ltb, take, drop, replicate, Result, Ok, Err, ⊤}
use Rattle.refusal.specs.declared.Refusal.TheVariants as cause
use Rattle.cells.specs.Ceiling.{greatest_ceiling}
use Rattle.table.specs.declared.Shape.{Shape}
use Rattle.table.specs.File.{shape_of}
use Rattle.records.specs.declared.record.Task.{Task}
use Rattle.stepping.specs.Call as call
use Rattle.stepping.specs.Call.{StartOutcome, BeginOutcome}
use Rattle.records.specs.Record.{idle_task}
use Rattle.stepping.specs.Runs.{Store}
use Rattle.bench_row.specs.First.{first_count, start_first, begin_first, step_first}
use Rattle.bench_lines.specs.declared.command.Command.{Command}
use Rattle.bench_lines.specs.declared.command.Command.TheVariants as command
use Rattle.bench_session.specs.declared.run.Bench.{Bench}
use Rattle.bench_lines.specs.Line.{reply_line, cells_line}
use Rattle.refusal.specs.declared.Refusal.{Refusal}
use Rattle.stepping.specs.declared.answer.Progress.{Progress}
use Rattle.stepping.specs.declared.answer.Progress.TheVariants as progress
use Rattle.bench_lines.specs.declared.reply.Reply.{Reply}
use Rattle.bench_lines.specs.declared.reply.Reply.TheVariants as reply

-- The bench before the first line.
abbrev pub unstarted_bench : Bench
unstarted_bench = record { cells = replicate 9 0; row = replicate 9 (idle_task 0); tasks = 0 }

-- How many cells are lent for n tasks. A start for nine or more is refused for its row.
abbrev pub cell_count : ℕ → ℕ
cell_count n = cond (ltb n 9) (n + 1) 9

-- What is lent to a call: the first of the cells and of the records.
abbrev pub lent : Bench → Store
lent bench = record { cells = take (cell_count bench.tasks) bench.cells; row = take (first_count bench.tasks) bench.row }

-- What is left after a line, and what is answered.
pub record Handled : Type 0 where
  pub bench : Bench
  pub reply : Result Reply Refusal

-- What is left after a step, and what it answered.
pub record Stepped : Type 0 where
  pub bench : Bench
  pub answer : Result Progress Refusal

-- ---- `n k`: an accepted start opens another run; a refused one leaves the present run as it is

-- What a start leaves and answers, by its answer.
abbrev pub opened : Bench → ℕ → Shape → StartOutcome → Result ⊤ Refusal → Handled
opened bench k shape out (Ok tt) = record {
  bench = record { cells = out.cells; row = out.row; tasks = k };
  reply = Ok (reply.Started k shape.states shape.operations);
}
opened bench k shape out (Err c) = record { bench = bench; reply = Err c }

-- The states and operations that it prints are those of the trailer.
abbrev pub opened_by : List ℕ → Bench → ℕ → StartOutcome → Handled
opened_by file bench k out = opened bench k (shape_of file) out out.answer

-- A start on the first of the cells and of the records; the others remain.
abbrev pub start_after : ℕ → List ℕ → StartOutcome → StartOutcome
start_after lent cells out = record { cells = out.cells ++ drop lent cells; row = out.row; answer = out.answer }

-- The cells that are lent are the first of them.
unfoldable pub start_held : (file cells : List ℕ) → List Task → ℕ → StartOutcome
start_held file cells row k = start_after (cell_count k) cells (start_first file (take (cell_count k) cells) row k)

-- `n k` on the bench.
unfoldable pub start_bench : List ℕ → Bench → ℕ → Handled
start_bench file bench k = opened_by file bench k (start_held file bench.cells bench.row k)

-- ---- `b t o`: an accepted begin prints nothing

-- A refused begin prints its number.
abbrev pub begin_reply : Result ⊤ Refusal → Result Reply Refusal
begin_reply (Ok tt) = Ok reply.Silent
begin_reply (Err c) = Err c

-- A begin changes the records alone.
abbrev pub begin_after : Bench → BeginOutcome → Handled
begin_after bench out =
    record { bench = record { cells = bench.cells; row = out.row; tasks = bench.tasks }; reply = begin_reply out.answer }

-- `b t o` on the bench.
unfoldable pub begin_bench : List ℕ → Bench → (t o : ℕ) → Handled
begin_bench file bench t o = begin_after bench (begin_first file bench.row bench.tasks t o)

-- ---- `s t`: a step that answers running prints nothing

-- A step that ends its operation prints the response and whether the state moved; a refused one prints its number.
abbrev pub step_reply : ℕ → Result Progress Refusal → Result Reply Refusal
step_reply t (Ok progress.Running) = Ok reply.Silent
step_reply t (Ok (progress.Ended r v k)) = Ok (reply.Ended t r v)
step_reply t (Err c) = Err c

-- A step on the first of the cells and of the records; the others remain.
abbrev pub held_after : ℕ → List ℕ → ℕ → call.StepOutcome → Stepped
held_after lent cells n out =
    record { bench = record { cells = out.cells ++ drop lent cells; row = out.row; tasks = n }; answer = out.answer }

-- The cells that are lent are the first of them.
unfoldable pub step_held : (file cells : List ℕ) → List Task → (n t : ℕ) → Stepped
step_held file cells row n t = held_after (cell_count n) cells n (step_first file (take (cell_count n) cells) row n t)

-- What a step leaves and prints.
abbrev pub step_after : ℕ → Stepped → Handled
step_after t out = record { bench = out.bench; reply = step_reply t out.answer }

-- `s t` on the bench.
unfoldable pub step_bench : List ℕ → Bench → ℕ → Handled
step_bench file bench t = step_after t (step_held file bench.cells bench.row bench.tasks t)

-- ---- `d t`: steps until one ends the operation or is refused, at most k after the first

-- Whether a step has answered running.
abbrev pub runs_on : Result Reply Refusal → Bool
runs_on (Ok reply.Silent) = true
runs_on (Ok (reply.Started k s m)) = false
runs_on (Ok (reply.Ended t r v)) = false
runs_on (Err c) = false

-- After a step that answered running comes another one.
unfoldable pub finish_from : ℕ → List ℕ → ℕ → Handled → Handled
finish_from zero file t out = out
finish_from (suc k) file t out = cond (runs_on out.reply) (finish_from k file t (step_bench file out.bench t)) out

-- The greatest ceiling of own steps. It is unfolded only where that is asked for, so that nothing counts down from it.
unfoldable pub most_turns : ℕ
most_turns = greatest_ceiling

-- A first step, and as many more as that.
abbrev pub finish_bench : List ℕ → Bench → ℕ → Handled
finish_bench file bench t = finish_from most_turns file t (step_bench file bench t)

-- ---- A command

-- What is left and what is printed.
pub record Printing : Type 0 where
  pub bench : Bench
  pub text : List ℕ

-- The line of a reply is printed.
abbrev pub reply_printed : Handled → Printing
reply_printed out = record { bench = out.bench; text = reply_line out.reply }

-- The line of the run's cells is printed.
abbrev pub cells_printed : Bench → Printing
cells_printed bench = record { bench = bench; text = cells_line (take (cell_count bench.tasks) bench.cells) }

-- A line of no known form is refused with 13.
abbrev pub refuse_line : Bench → Handled
refuse_line bench = record { bench = bench; reply = Err cause.Line }

-- A command by its form.
abbrev pub act_of : List ℕ → Bench → Command → Printing
act_of file bench (command.Start k) = reply_printed (start_bench file bench k)
act_of file bench (command.Begin t o) = reply_printed (begin_bench file bench t o)
act_of file bench (command.Step t) = reply_printed (step_bench file bench t)
act_of file bench (command.Finish t) = reply_printed (finish_bench file bench t)
act_of file bench command.Print = cells_printed bench
act_of file bench command.Unknown = reply_printed (refuse_line bench)

-- Whether a command is `n k`.
abbrev pub is_start : Command → Bool
is_start (command.Start k) = true
is_start (command.Begin t o) = false
is_start (command.Step t) = false
is_start (command.Finish t) = false
is_start command.Print = false
is_start command.Unknown = false

-- Before an accepted start every other command is refused with 13 too.
unfoldable pub serve_command : List ℕ → Bench → Command → Printing
serve_command file bench c = cond (eqb bench.tasks 0 && not (is_start c)) (reply_printed (refuse_line bench)) (act_of file bench c)
