-- Runs as the bench opens them: what an accepted start leaves, and what the theorem about runs tells of the steps after it.
use Rattle.std.specs.Prelude.{Ok}
use mathlib.Core.Path.{◌≡◌, refl, ap, ◌∙◌}
use mathlib.Core.List.{List, [], ◌∷◌, ◌++◌}
use Prim.Native.Nat.{ℕ, suc, ◌≤◌, ◌<◌}
use native.Mathlib.Omega.{arith}
use borrow.Author.Tests.{eq-eqb}
use lib.ListN.{length}
use Rattle.cells.specs.Ceiling.{greatest_ceiling}
use Rattle.cells.proofs.Ceilings.{ceiling_cubed}
use Rattle.table.specs.File.{Bytes}
use Rattle.machine.specs.Calls.{Call, Step, Running, Event}
use Rattle.machine.specs.History.{Nothing, Pends, pending}
use Rattle.machine.specs.Demand.{StepAccepted}
use Rattle.records.specs.declared.record.Task.{Task}
use Rattle.stepping.specs.Call.{start_of}
use Rattle.stepping.specs.Opening.{Opening}
use Rattle.stepping.specs.Runs.{Store, serve_of, run_of, history_of}
use Rattle.stepping.proofs.Admission.{ceiling_ranges}
use Rattle.stepping.proofs.Continued.{pending_more}
use Rattle.stepping.proofs.Starts.{start_cells, start_row}
use Rattle.laws.proofs.Tabulate.{tabulate_length}
use Rattle.stepping.proofs.Theorem.{start_accepted, start_opens, demands_met}

-- ---- An accepted start

-- It keeps the number of the cells and of the records.
pub record Sizes (file cells : List ℕ) (row : List Task) : Type 0 where
  pub most : length row ≤ 8
  pub cells_kept : length (start_of file cells row).cells ≡ length cells
  pub row_kept : length (start_of file cells row).row ≡ length row

pub start_sizes : (file cells : List ℕ) (row : List Task) → Bytes file → (start_of file cells row).answer ≡ (Ok tt) → Sizes file cells row
start_sizes file cells row bytes e =
    let o = start_opens file cells row bytes e in
    let n = length row in
    let long = ((start_accepted file cells row).0 e).3 in record {
      most = o.few;
      cells_kept = ap length (o.cells ∙ start_cells n _) ∙ ap suc (tabulate_length n _) ∙ omega (arith, long);
      row_kept = ap length (o.row ∙ start_row n) ∙ tabulate_length n _;
    }

-- ---- What is known of the steps of a run

-- While an operation is pending its next step is accepted, and its own steps are below the greatest ceiling.
pub record Timely (file : List ℕ) (s : Store) (xs : List Call) (t k : ℕ) : Type 0 where
  pub accepted : StepAccepted (serve_of file (Step t) (run_of file xs s)).answer
  pub below : k < greatest_ceiling

pub pending_timely : {file : List ℕ} {n q : ℕ} {s : Store} → Opening file n q s → (xs : List Call) (t o k : ℕ) → pending (history_of file xs s) t ≡ Pends o k → Timely file s xs t k
pending_timely {n = n} a xs t o k e =
    let d = demands_met a in
    let low = (ceiling_ranges n _ (ceiling_cubed n a.some a.few)).low in
    record { accepted = d.accepted xs t o k e; below = omega (arith, d.below xs t o k e, low) }

-- A step that answers running is one more own step.
pub pending_longer : {file : List ℕ} {n q : ℕ} {s : Store} → Opening file n q s → (xs : List Call) (t o k : ℕ) → pending (history_of file xs s) t ≡ Pends o k
    → (serve_of file (Step t) (run_of file xs s)).answer ≡ Running → pending (history_of file (xs ++ (Step t ∷ [])) s) t ≡ Pends o (suc k)
pending_longer {file} {s = s} a xs t o k p e =
    ap (λ (es : List Event). pending es t) ((demands_met a).told xs (Step t)) ∙ pending_more t Nothing (history_of file xs s) _ ∙ rw (e, p, eq-eqb t t refl)
