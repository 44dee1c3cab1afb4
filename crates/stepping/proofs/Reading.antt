-- Reading and changing operations: what begin leaves, what a reading step answers, and which points are points of rest.
use Rattle.std.specs.Prelude.{Ok}
use mathlib.Core.Path.{◌≡◌, refl, sym, ap, subst, ◌∙◌}
use mathlib.Core.Bool.{Bool, true, false, cond}
use mathlib.Core.List.{List, [], ◌∷◌}
use Prim.Native.Nat.{ℕ, ◌<◌}
use native.Mathlib.Decide.{dec_lt}
use native.Mathlib.Omega.{arith}
use borrow.Author.Tests.{ltb-true, lt-ltb}
use lib.Dec.{eqb, ltb}
use lib.ListN.{length, get_or, get_or-eq_default}
use lib.Seq.{set-get_or}
use Rattle.laws.specs.Below.{all_below, any_below}
use Rattle.laws.proofs.Below.{all_at}
use Rattle.laws.proofs.Choice.{choice}
use Rattle.laws.proofs.Clash.{clash}
use Rattle.cells.specs.Ceiling.{ceiling_of}
use Rattle.cells.specs.Field.{unpack}
use Rattle.cells.specs.Image.{image}
use Rattle.cells.specs.Layout.{head_widths, head_at, state_in_word, head_of}
use Rattle.cells.specs.declared.head.Head.{Head}
use Rattle.table.specs.declared.Shape.{Shape}
use Rattle.table.specs.File.{byte_at, Bytes, ends_in_mark, shape_of}
use Rattle.table.specs.Layout.{file_fits, dimensions_fit, length_fits, layout_of}
use Rattle.table.specs.Entries.{entry_of, entry_in_range, operation_in_range, entries_in_range, moves}
use Rattle.table.specs.Check.{check_of}
use Rattle.reach.specs.Walk.{Reachable}
use Rattle.reach.specs.Order.{meet, meet_next, turn, turns, order_of}
use Rattle.reach.specs.Changing.{reachable, changing}
use Rattle.reach.specs.Statement.{ChangingExactly}
use Rattle.reach.proofs.Search.{start_reached}
use Rattle.reach.proofs.Changing.{accepted_states, accepted_changing}
use Rattle.machine.specs.Calls.{Begin, Begun}
use Rattle.machine.specs.History.{Pending, Nothing, Pends, pending, heard, Quiet}
use Rattle.records.specs.declared.record.Task.{Task}
use Rattle.records.specs.declared.phase.Phase.{Phase}
use Rattle.records.specs.declared.phase.Phase.TheVariants as phase
use Rattle.records.specs.Phase.{phase_of}
use Rattle.records.specs.Record.{idle_in_form, record_in_form, read_record}
use Rattle.records.proofs.Forms.{read_parts}
use Rattle.transition.specs.Transition.{state_in, plan_of, next_of}
use Rattle.transition.proofs.EncodedCells.{state_seen}
use Rattle.stepping.specs.Step.{cell_in_form, perform_of}
use Rattle.stepping.specs.Call.{idle_row, start_of, admit_start_of, admit_of, begin_task, begin_of}
use Rattle.stepping.specs.Runs.{Store, serve_of}
use Rattle.stepping.specs.Opening.{Opening, object_in, shown, start_store}
use Rattle.stepping.specs.Statement.{Demands}
use Rattle.stepping.specs.Reading.{Preserves, BeginLeaves, BeginJudges, ReadingAnswers, Reaches, EndsAtOnce, QuietExactly, RestExactly, RestImage, RestKept, spare_file, SpareRest}
use Rattle.stepping.proofs.Admission.{ceiling}
use Rattle.stepping.proofs.Judged.{step_touches}
use Rattle.stepping.proofs.Entries.{begun_accepted, begun_task_lem}
use Rattle.stepping.proofs.Demands.{machine_run, in_range, run_opened}
use Rattle.stepping.proofs.Outcomes.{head_reachable}
use Rattle.stepping.proofs.Theorem.{endings_known}

-- ---- Begin and a reading step

pub begin_judges : (file : List ℕ) (n i o : ℕ) (t : Task) → BeginJudges file n i o t
begin_judges file n i o t begun = by (changing file (shape_of file) o) refl
  where
    exact : ChangingExactly file (shape_of file) o
    exact = accepted_changing file (shape_of file) (begun_accepted file n i o t begun) o

    phase : (b : Bool) → changing file (shape_of file) o ≡ b → (begin_task file n i o t).task.phase ≡ cond b 2 1
    phase b e = ap (λ (own : Task). own.phase) (begun_task_lem file n i o t begun) ∙ rw e

    by : (b : Bool) → changing file (shape_of file) o ≡ b → BeginLeaves file n i o t
    by true e = record {
      announces = (λ _. exact.changes.0 e, λ _. phase true e);
      reads = (λ z. absurd (omega (arith, z, phase true e)), λ keeps. clash e (exact.reads.1 keeps));
    }
    by false e = record {
      announces = (λ z. absurd (omega (arith, z, phase false e)), λ moved. clash (exact.changes.1 moved) e);
      reads = (λ _. exact.reads.0 e, λ _. phase false e);
    }

-- The state in a head is the number in bits 8 to 15.
state_at : (q r h v : ℕ) → state_in (head_at q r h v) ≡ q
state_at q r h v = choice (λ (x : Head). state_in x ≡ q) (eqb h 0) _ _ refl refl

state_in_word_lem : (w : ℕ) → state_in (head_of w) ≡ state_in_word w
unfolding head_of unpack
state_in_word_lem w = state_at (state_in_word w) (get_or (unpack head_widths w) 2 0) (get_or (unpack head_widths w) 3 0) (get_or (unpack head_widths w) 4 0)

-- The phase with number 1.
reads_only : (t : Task) (f : Phase) → t.phase ≡ 1 → phase_of t.phase ≡ Ok f → f ≡ phase.ReadOnly
unfolding phase_of
reads_only t f one e = let same : Ok phase.ReadOnly ≡ Ok f = rw one at e in cc

pub reading_answers : (file cells : List ℕ) (n i : ℕ) (t : Task) → ReadingAnswers file cells n i t
unfolding plan_of cell_in_form entry_in_range next_of perform_of
reading_answers file cells n i t s (f, read) one formed below =
    let is = reads_only t f one (read_parts (shape_of file) n (ceiling n) t f read).1 in
    step_touches file cells n i t s f read (λ z. omega (arith, z, one))
    ∙ rw (is, formed, state_in_word_lem (get_or cells 0 0), lt-ltb _ _ below, set-get_or cells 0 0)

-- ---- Runs

module _ {file : List ℕ} {n q : ℕ} {s : Store} (o : Opening file n q s) where
  -- The words of the cells are the machine's.
  pub reaches : Reaches o
  reaches xs =
      let h = (machine_run o xs).memory.head in
      rw (run_opened o xs, state_seen file o.shape o.table n o.few h (in_range o xs).formed.memory.head) (head_reachable o xs)

  exactly : (x : ℕ) → ChangingExactly file o.shape x
  exactly = accepted_changing file o.shape o.table.accepted

  pub quiet_exactly : QuietExactly o
  quiet_exactly xs t = (
    λ quiet x k e. (exactly x).reads.0 (subst (Quiet (object_in o)) e quiet),
    reads (pending ((shown o).history xs) t),
  )
    where
      reads : (p : Pending) → ((x k : ℕ) → p ≡ Pends x k → Preserves file o.shape (Reachable file o.shape) x) → Quiet (object_in o) p
      reads Nothing keeps = tt
      reads (Pends x k) keeps = (exactly x).reads.1 (keeps x k refl)

  pub rest_exactly : RestExactly o
  rest_exactly xs = (λ rests t. (quiet_exactly xs t).0 (rests t), λ keeps t. (quiet_exactly xs t).1 (keeps t))

  pub rest_kept : RestKept o
  rest_kept xs keeps = (rest_exactly xs).1 (λ t x k e p r. keeps t x k e p ((accepted_states file o.shape o.table.accepted).below p r))

  -- By the one promise about rest.
  pub rest_image : (d : Demands o) → RestImage o d
  rest_image d xs keeps = d.rest xs ((rest_exactly xs).1 keeps)

  pub ends_at_once : EndsAtOnce o
  ends_at_once xs t x k e keeps = (endings_known o xs t x k e).reading ((exactly x).reads.1 keeps)

-- ---- The table with a spare state

abbrev spare_shape : Shape
spare_shape = record { offset = 0; states = 3; operations = 2; start = 0 }

all_bytes : all_below (length spare_file) (λ i. ltb (byte_at spare_file i) 256) ≡ true
unfolding spare_file all_below
all_bytes = refl

spare_bytes : Bytes spare_file
spare_bytes at = by (dec_lt at (length spare_file))
  where
    by : Dec (at < length spare_file) → byte_at spare_file at < 256
    by (yes h) = ltb-true _ _ (all_at (length spare_file) (λ i. ltb (byte_at spare_file i) 256) all_bytes at h)
    by (no past) = let none : byte_at spare_file at ≡ 0 = get_or-eq_default spare_file 0 (omega (arith, past)) in omega (arith, none)

spare_accepted : check_of spare_file ≡ Ok spare_shape
unfolding spare_file check_of layout_of file_fits dimensions_fit length_fits entries_in_range operation_in_range entry_in_range entry_of ends_in_mark shape_of all_below
spare_accepted = refl

abbrev spare_store : Store
spare_store = start_store spare_file (0 ∷ 0 ∷ []) (idle_row 1)

spare_opening : Opening spare_file 1 0 spare_store
unfolding start_of admit_start_of ceiling_of image idle_row
spare_opening = record {
  shape = spare_shape;
  table = record { bytes = spare_bytes; accepted = spare_accepted };
  some = omega arith;
  few = omega arith;
  reached = start_reached spare_file spare_shape;
  cells = rw spare_accepted;
  row = rw spare_accepted;
}

begun : (serve_of spare_file (Begin 0 0) spare_store).answer ≡ Begun
unfolding spare_file start_of admit_start_of begin_of begin_task admit_of ceiling_of idle_row phase_of idle_in_form record_in_form read_record check_of layout_of file_fits dimensions_fit length_fits entries_in_range operation_in_range entry_in_range entry_of ends_in_mark shape_of all_below
begun = refl

read_by_spare : changing spare_file spare_shape 0 ≡ false
unfolding spare_file changing reachable order_of turns turn meet_next meet moves entry_of any_below
read_by_spare = refl

pends_0 : pending ((shown spare_opening).history (Begin 0 0 ∷ [])) 0 ≡ Pends 0 0
pends_0 = subst (λ a. heard 0 (Begin 0 0) a Nothing ≡ Pends 0 0) (sym begun) refl

pub spare_rest : SpareRest
unfolding spare_opening entry_of spare_file
spare_rest = record {
  opening = spare_opening;
  pends = pends_0;
  rests = λ t. subst (λ a. Quiet (object_in spare_opening) (heard t (Begin 0 0) a Nothing)) (sym begun) (choice (Quiet (object_in spare_opening)) (eqb 0 t) (Pends 0 0) Nothing read_by_spare tt);
  moved = λ all. let same : ◌≡◌ {A = ℕ} 0 2 = all 0 0 0 pends_0 2 (omega arith) in omega arith;
}
