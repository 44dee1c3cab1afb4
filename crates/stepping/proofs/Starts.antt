-- A start: when it is accepted, and that its cells and row are those of the machine's start.
use Rattle.std.specs.Prelude.{Result, Ok, Err}
use mathlib.Core.Path.{◌≡◌, refl, ap, ◌∙◌}
use mathlib.Core.Bool.{Bool, true, false}
use mathlib.Core.List.{List, [], ◌∷◌, ◌++◌}
use Prim.Native.Nat.{ℕ, zero, suc, ◌+◌, ◌≤◌}
use borrow.Author.Tests.{eqb-true, eq-eqb}
use lib.Dec.{eqb}
use lib.ListN.{length}
use Rattle.laws.proofs.Clash.{never}
use Rattle.cells.specs.Ceiling.{ceiling_of}
use Rattle.cells.specs.Image as cells
use Rattle.cells.proofs.Ceilings.{ceiling_cubed}
use Rattle.cells.proofs.Images.{image_words}
use Rattle.table.specs.declared.Shape.{Shape}
use Rattle.table.specs.File.{shape_of}
use Rattle.table.specs.Check.{check_of}
use Rattle.table.proofs.Accepted.{accepted_fitting}
use Rattle.reach.proofs.Search.{start_reached}
use Rattle.machine.specs.Memory.{image}
use Rattle.machine.specs.Run as run
use Rattle.records.specs.declared.record.Task.{Task}
use Rattle.stepping.specs.Call.{with_row, idle_row, start_of, with_cells, filled, admit_start_of}
use Rattle.stepping.specs.Statement.{Startable, StartOpens}
use Rattle.transition.specs.Encoding.{encode_task}
use Rattle.stepping.specs.Encoding.{encode_cells, encode_row}
use Rattle.laws.specs.Tabulate.{tabulate}
use Rattle.stepping.proofs.Admission.{ceiling_ranges}
use Rattle.laws.proofs.Tabulate.{tabulate_replicate}
use Rattle.refusal.specs.declared.Refusal.{Refusal}

-- The cells and the row of the machine's start.
pub start_cells : (n q : ℕ) → cells.image n q ≡ encode_cells n (image q)
start_cells n q = image_words n q ∙ rw (tabulate_replicate n)

pub start_row : (n : ℕ) → idle_row n ≡ encode_row n run.idle_task
unfolding idle_row tabulate
start_row zero = refl
start_row (suc n) = ap (λ (l : List Task). l ++ (encode_task (run.idle_task n) ∷ [])) (start_row n)

-- ---- Start is accepted exactly if the table is, there are 1 to 8 records, and there is one cell more

module _ (file cells : List ℕ) (row : List Task) where
  -- What an accepted start has found.
  record Found : Type 0 where
    shape : Shape
    accepted : check_of file ≡ Ok shape
    some : 1 ≤ length row
    few : length row ≤ 8
    long : length cells ≡ length row + 1

  started : Found → admit_start_of file (length cells) (length row) ≡ Ok (shape_of file).start
  unfolding admit_start_of
  started f =
      rw (f.accepted, ceiling_cubed (length row) f.some f.few, eq-eqb (length cells) (length row + 1) f.long)
      (ap (λ (x : Shape). Ok x.start) (accepted_fitting file f.shape f.accepted).shape_is)

  found : (start_of file cells row).answer ≡ (Ok tt) → Found
  unfolding start_of admit_start_of
  found a = checked (check_of file) refl a
    where
      counted : (shape : Shape) (c : ℕ) → check_of file ≡ Ok shape → ceiling_of (length row) ≡ Ok c → (b : Bool) → eqb (length cells) (length row + 1) ≡ b → (filled cells row (with_cells (length cells) (length row) (with_row (length row) (check_of file)))).answer ≡ (Ok tt) → Found
      counted shape c e d true l s = record { shape = shape; accepted = e; some = (ceiling_ranges (length row) c d).some; few = (ceiling_ranges (length row) c d).few; long = eqb-true (length cells) (length row + 1) l }
      counted shape c e d false l s = let f = rw (e, d, l) at s in never (cc f)

      limited : (shape : Shape) → check_of file ≡ Ok shape → (d : Result ℕ Refusal) → ceiling_of (length row) ≡ d → (filled cells row (with_cells (length cells) (length row) (with_row (length row) (check_of file)))).answer ≡ (Ok tt) → Found
      limited shape e (Ok c) d s = counted shape c e d (eqb (length cells) (length row + 1)) refl s
      limited shape e (Err r) d s = let f = rw (e, d) at s in never (cc f)

      checked : (k : Result Shape Refusal) → check_of file ≡ k → (filled cells row (with_cells (length cells) (length row) (with_row (length row) (check_of file)))).answer ≡ (Ok tt) → Found
      checked (Ok shape) e s = limited shape e (ceiling_of (length row)) refl s
      checked (Err r) e s = let f = rw e at s in never (cc f)

  pub startable : Startable file cells row
  unfolding start_of
  startable = (
    λ a. let f = found a in ((f.shape, f.accepted), f.some, f.few, f.long),
    λ (t, some, few, long). ap (λ (x : Result ℕ Refusal). (filled cells row x).answer) (started (record { shape = t.0; accepted = t.1; some = some; few = few; long = long })),
  )

  -- Of a file of bytes it opens a run in the table's start state.
  pub accepted_start : StartOpens file cells row
  unfolding start_of
  accepted_start bytes a =
      let f = found a in
      let e = started f in
      let fits = accepted_fitting file f.shape f.accepted in
      record {
        shape = f.shape;
        table = record { bytes = bytes; accepted = f.accepted };
        some = f.some;
        few = f.few;
        reached = rw (← fits.shape_is) (start_reached file f.shape);
        cells = rw e refl;
        row = rw e refl;
      }
