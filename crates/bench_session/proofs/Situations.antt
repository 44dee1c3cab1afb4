-- What the bench holds at each point of its input: its first cells and records are what some list of calls leaves after an
-- accepted start, if there has been one.
use mathlib.Core.Path.{◌≡◌, refl, sym, ap, subst, ◌∙◌}
use mathlib.Core.Bool.{Bool, true, false}
use mathlib.Core.List.{List, [], ◌∷◌, ◌++◌}
use Prim.Native.Nat.{ℕ, zero, suc, ◌≤◌}
use native.Mathlib.Omega.{arith}
use borrow.Author.Tests.{ltb-true}
use lib.Dec.{ltb}
use lib.ListN.{length, length-set}
use lib.Seq.{length_front}
use Rattle.laws.proofs.Choice.{choice}
use Rattle.laws.proofs.Lists.{front_taken}
use Rattle.table.specs.File.{shape_of}
use Rattle.machine.specs.Calls.{Call, Begin, Step}
use Rattle.stepping.specs.Call.{BeginOutcome, begin_of, StepOutcome, step_of, task_at}
use Rattle.stepping.specs.Opening.{Opening}
use Rattle.stepping.specs.Runs.{Store, serve_of, run_of}
use Rattle.stepping.proofs.Between.{store_same}
use Rattle.stepping.proofs.Continued.{run_append}
use Rattle.stepping.proofs.Theorem.{touches_one_cell}
use Rattle.bench_row.specs.First.{first_count, begin_first, step_first}
use Rattle.bench_row.proofs.Firsts.{first_few}
use Rattle.bench_session.specs.declared.run.Bench.{Bench}
use Rattle.bench_session.specs.Run.{Handled, cell_count, lent, begin_bench, step_held, step_bench, runs_on, finish_from}

-- ---- The first cells and records

-- The bench holds nine cells and nine records.
pub record NineHeld (bench : Bench) : Type 0 where
  pub cells : length bench.cells ≡ 9
  pub row : length bench.row ≡ 9

pub few_cells : (n : ℕ) → cell_count n ≤ 9
few_cells n = at (ltb n 9) refl
  where
    at : (b : Bool) → ltb n 9 ≡ b → cell_count n ≤ 9
    at true e = rw e (omega (arith, ltb-true n 9 e))
    at false e = rw e (omega arith)

-- ---- A step and a begin

-- What they leave of what is lent.
abbrev step_out : List ℕ → Bench → ℕ → StepOutcome
step_out file bench t = step_of file (lent bench).cells (lent bench).row t

abbrev begin_out : List ℕ → Bench → (t o : ℕ) → BeginOutcome
begin_out file bench t o = begin_of file (lent bench).row t o

module _ (file : List ℕ) (bench : Bench) (nine : NineHeld bench) where
  cells_room : cell_count bench.tasks ≤ length bench.cells
  cells_room = rw nine.cells (few_cells bench.tasks)

  row_room : first_count bench.tasks ≤ length bench.row
  row_room = rw nine.row (first_few bench.tasks _ refl)

  module _ (t : ℕ) where
    step_cells : length (step_out file bench t).cells ≡ length (lent bench).cells
    unfolding step_of
    step_cells = (touches_one_cell file (lent bench).cells (length (lent bench).row) t (task_at (lent bench).row t)).long

    step_row : length (step_out file bench t).row ≡ length (lent bench).row
    unfolding step_of
    step_row = length-set (lent bench).row t _

    pub nine_step : NineHeld (step_bench file bench t).bench
    unfolding step_bench step_held step_first
    nine_step = record {
      cells = length_front bench.cells (step_out file bench t).cells (cell_count bench.tasks) step_cells ∙ nine.cells;
      row = length_front bench.row (step_out file bench t).row (first_count bench.tasks) step_row ∙ nine.row;
    }

    -- A step on the bench is one on what is lent.
    pub lent_step : (serve_of file (Step t) (lent bench)).store ≡ lent (step_bench file bench t).bench
    unfolding step_bench step_held step_first
    lent_step = sym (store_same (front_taken (cell_count bench.tasks) (step_out file bench t).cells bench.cells cells_room step_cells) (front_taken (first_count bench.tasks) (step_out file bench t).row bench.row row_room step_row))

  module _ (t o : ℕ) where
    begin_row : length (begin_out file bench t o).row ≡ length (lent bench).row
    unfolding begin_of
    begin_row = length-set (lent bench).row t _

    pub nine_begin : NineHeld (begin_bench file bench t o).bench
    unfolding begin_bench begin_first
    nine_begin = record { cells = nine.cells; row = length_front bench.row (begin_out file bench t o).row (first_count bench.tasks) begin_row ∙ nine.row }

    pub lent_begin : (serve_of file (Begin t o) (lent bench)).store ≡ lent (begin_bench file bench t o).bench
    unfolding begin_bench begin_first
    lent_begin = sym (store_same refl (front_taken (first_count bench.tasks) (begin_out file bench t o).row bench.row row_room begin_row))

-- ---- The situation of a bench

-- Before an accepted start there are no tasks; after one the lent cells and records are what the calls since have left.
pub data Situation (file : List ℕ) (n : ℕ) (s : Store) : Type 0 where
  before : n ≡ 0 → Situation file n s
  during : {first : Store} → Opening file n (shape_of file).start first → (xs : List Call) → run_of file xs first ≡ s → Situation file n s

situation_more : {file : List ℕ} {n : ℕ} {s : Store} → Situation file n s → (x : Call) → Situation file n (serve_of file x s).store
situation_more (before e) x = before e
situation_more {file} (during {first} o xs e) x = during o (xs ++ (x ∷ [])) (run_append file xs (x ∷ []) first ∙ ap (λ (z : Store). (serve_of file x z).store) e)

situation_as : {file : List ℕ} {n : ℕ} {s other : Store} → s ≡ other → Situation file n s → Situation file n other
situation_as {file} {n} e = subst (λ (z : Store). Situation file n z) e

pub record Consistent (file : List ℕ) (bench : Bench) : Type 0 where
  pub nine : NineHeld bench
  pub situation : Situation file bench.tasks (lent bench)

-- ---- Every command keeps it

module _ (file : List ℕ) where
  pub consistent_step : (bench : Bench) → Consistent file bench → (t : ℕ) → Consistent file (step_bench file bench t).bench
  unfolding step_bench step_held
  consistent_step bench c t = record {
    nine = nine_step file bench c.nine t;
    situation = situation_as (lent_step file bench c.nine t) (situation_more c.situation (Step t));
  }

  pub consistent_begin : (bench : Bench) → Consistent file bench → (t o : ℕ) → Consistent file (begin_bench file bench t o).bench
  unfolding begin_bench
  consistent_begin bench c t o = record {
    nine = nine_begin file bench c.nine t o;
    situation = situation_as (lent_begin file bench c.nine t o) (situation_more c.situation (Begin t o));
  }

  pub consistent_finish : (k t : ℕ) (out : Handled) → Consistent file out.bench → Consistent file (finish_from k file t out).bench
  unfolding finish_from
  consistent_finish zero t out c = c
  consistent_finish (suc k) t out c = choice (λ (x : Handled). Consistent file x.bench) (runs_on out.reply) _ out (consistent_finish k t (step_bench file out.bench t) (consistent_step out.bench c t)) c
