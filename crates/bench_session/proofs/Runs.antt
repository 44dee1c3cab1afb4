-- The steps of a task until its operation has ended.
use Rattle.std.specs.Prelude.{Result, Err, ⊤}
use mathlib.Core.Path.{◌≡◌, refl, ap, sym, ◌∙◌}
use mathlib.Core.Bool.{true, false}
use mathlib.Core.List.{List, ◌++◌}
use Prim.Native.Nat.{ℕ, zero, suc, ◌-◌, ◌<◌}
use native.Mathlib.Omega.{arith}
use lib.ListN.{take, drop, take-append-drop}
use Rattle.refusal.specs.declared.Refusal.{Refusal}
use Rattle.cells.specs.Ceiling.{greatest_ceiling}
use Rattle.records.specs.declared.record.Task.{Task}
use Rattle.stepping.specs.Call.{StartOutcome}
use Rattle.bench_row.specs.First.{start_first}
use Rattle.bench_row.proofs.Firsts.{refused_start_first}
use Rattle.bench_session.specs.declared.run.Bench.{Bench}
use Rattle.bench_session.specs.Run.{Handled, cell_count, start_held, start_bench, most_turns, runs_on, finish_from, step_bench}

-- The greatest number of turns.
pub most_turns_lem : most_turns ≡ greatest_ceiling
unfolding most_turns
most_turns_lem = refl

-- A step that answered running is followed by another.
pub finish_more : (k : ℕ) (file : List ℕ) (t : ℕ) (out : Handled) → 0 < k → runs_on out.reply ≡ true
    → finish_from k file t out ≡ finish_from (k - 1) file t (step_bench file out.bench t)
unfolding finish_from
finish_more zero file t out h e = absurd (omega arith)
finish_more (suc k) file t out h e = let z : suc k - 1 ≡ k = omega arith in rw (e, z)

-- Another answer is the last.
pub finish_last : (k : ℕ) (file : List ℕ) (t : ℕ) (out : Handled) → runs_on out.reply ≡ false → finish_from k file t out ≡ out
unfolding finish_from
finish_last zero file t out e = refl
finish_last (suc k) file t out e = rw e

pub finish_none : (k : ℕ) (file : List ℕ) (t : ℕ) (out : Handled) → k ≡ 0 → finish_from k file t out ≡ out
unfolding finish_from
finish_none k file t out e = rw e

-- A refused start leaves the cells and the records as they were.
pub refused_keeps : (file : List ℕ) (bench : Bench) (k n m : ℕ) (cells : List ℕ) (row : List Task) (a : Result ⊤ Refusal) (c : Refusal) → n ≡ k → m ≡ cell_count n
    → ◌≡◌ {A = StartOutcome} (record { cells = cells; row = row; answer = a }) (start_first file (take m bench.cells) bench.row n) → a ≡ Err c
    → ◌≡◌ {A = Handled} (record { bench = record { cells = cells ++ drop m bench.cells; row = row; tasks = bench.tasks }; reply = Err c }) (start_bench file bench k)
unfolding start_bench start_held
refused_keeps file bench k n m cells row a c count lent e refused =
    let answered : (start_first file (take m bench.cells) bench.row n).answer ≡ Err c = sym (ap (λ (s : StartOutcome). s.answer) e) ∙ refused in
    let kept = refused_start_first file (take m bench.cells) bench.row n c answered in
    let same : cells ≡ take m bench.cells = ap (λ (s : StartOutcome). s.cells) e ∙ kept.1 in
    let rows : row ≡ bench.row = ap (λ (s : StartOutcome). s.row) e ∙ kept.0 in
    rw (sym count, sym lent, answered, same, rows, take-append-drop m bench.cells) refl
