-- What a step that is not refused has passed: every test in its order; and then it is served.
use Rattle.std.specs.Prelude.{Result, Ok, Err}
use mathlib.Core.Path.{◌≡◌, refl, sym, ◌∙◌}
use mathlib.Core.Bool.{Bool, true, false, cond}
use mathlib.Core.List.{List}
use Prim.Native.Nat.{ℕ, ◌+◌}
use lib.Dec.{eqb, ltb}
use lib.ListN.{length, get_or}
use Rattle.refusal.specs.declared.Refusal.{Refusal}
use Rattle.refusal.specs.declared.Refusal.TheVariants as cause
use Rattle.cells.proofs.Ceilings.{ceiling_cubed}
use Rattle.table.specs.declared.Shape.{Shape}
use Rattle.table.specs.File.{shape_of}
use Rattle.table.proofs.Fitting.{Fitting, layout_fitting}
use Rattle.records.specs.declared.record.Task.{Task}
use Rattle.records.specs.declared.phase.Phase.{Phase}
use Rattle.records.specs.Record.{read_record}
use Rattle.transition.specs.declared.access.Access.{Access}
use Rattle.transition.specs.Transition.{plan_of, used_in_range}
use Rattle.stepping.specs.Step.{touched, cell_in_form, TaskOutcome, served}
use Rattle.stepping.specs.Call.{admit_of, refuse_step, touch, step_from, step_in, step_task}
use Rattle.stepping.specs.Access.{access_of}
use Rattle.stepping.specs.Statement.{Unrefused}
use Rattle.stepping.proofs.Admission.{Ranges, admit_parts, admit_ranges, ceiling}
use Rattle.stepping.specs.declared.call.Admission.{Admission}

module _ (file cells : List ℕ) (n i : ℕ) (t : Task) where
  -- The access of a phase of a table with this shape.
  abbrev planned : Shape → Phase → Access
  planned shape f = plan_of file shape i t.priority t f

  pub record Passed : Type 0 where
    pub shape : Shape
    pub ceiling : ℕ
    pub phase : Phase
    pub admits : admit_of file n ≡ (Ok (record { ceiling = ceiling; shape = shape }))
    pub long : eqb (length cells) (n + 1) ≡ true
    pub below : ltb i n ≡ true
    pub read : read_record shape n ceiling t ≡ Ok phase
    pub pending : eqb t.phase 0 ≡ false
    pub formed : cell_in_form shape n (touched (planned shape phase)) (get_or cells (touched (planned shape phase)) 0) ≡ true
    pub used : used_in_range file shape t (get_or cells (touched (planned shape phase)) 0) phase ≡ true

  -- A test that refuses what fails it was passed, and one that refuses what passes it was failed.
  tested : (b : Bool) (x : TaskOutcome) (c : Refusal) → Unrefused (cond b x (refuse_step cells t c)).answer → (b ≡ true) × Unrefused x.answer
  tested true x c u = (refl, u)
  tested false x c u = absurd (u c refl)

  failed : (b : Bool) (x : TaskOutcome) (c : Refusal) → Unrefused (cond b (refuse_step cells t c) x).answer → (b ≡ false) × Unrefused x.answer
  failed true x c u = absurd (u c refl)
  failed false x c u = (refl, u)

  passed_in : (x : Result Admission Refusal) → admit_of file n ≡ x → Unrefused (step_in file cells n i t x).answer → Passed
  passed_in (Err c) e u = absurd (u c refl)
  passed_in (Ok found) e u = by (read_record found.shape n found.ceiling t) refl own.1
    where
      row : (eqb (length cells) (n + 1) ≡ true) × Unrefused (cond (ltb i n) (step_from file found.shape cells n i t (read_record found.shape n found.ceiling t)) (refuse_step cells t cause.Task)).answer
      row = tested (eqb (length cells) (n + 1)) _ cause.Cells u

      own : (ltb i n ≡ true) × Unrefused (step_from file found.shape cells n i t (read_record found.shape n found.ceiling t)).answer
      own = tested (ltb i n) _ cause.Task row.1

      by : (read : Result Phase Refusal) → read_record found.shape n found.ceiling t ≡ read → Unrefused (step_from file found.shape cells n i t read).answer → Passed
      by (Err reason) d v = absurd (v reason refl)
      by (Ok f) d v =
          let word : ℕ = get_or cells (touched (planned found.shape f)) 0 in
          let pends = failed (eqb t.phase 0) (touch file found.shape cells n i t f (planned found.shape f)) cause.Idle v in
          let cell = tested (cell_in_form found.shape n (touched (planned found.shape f)) word) _ cause.Cell pends.1 in
          let entry = tested (used_in_range file found.shape t word f) _ cause.NextState cell.1 in
          record { shape = found.shape; ceiling = found.ceiling; phase = f; admits = e; long = row.0; below = own.0; read = d; pending = pends.0; formed = cell.0; used = entry.0 }

  pub passed : Unrefused (step_task file cells n i t).answer → Passed
  unfolding step_task
  passed = passed_in (admit_of file n) refl

  module _ (p : Passed) where
    abbrev pub access : Access
    access = planned p.shape p.phase

    pub step_served : step_task file cells n i t ≡ served file p.shape cells n i t p.phase access
    unfolding step_task
    step_served = rw (p.admits, p.long, p.below, p.read, p.pending, p.formed, p.used)

    pub step_access : access_of file n i t ≡ access
    unfolding access_of
    step_access = rw (p.admits, p.read)

    pub ranges : Ranges n p.ceiling
    ranges = admit_ranges file n (record { ceiling = p.ceiling; shape = p.shape }) p.admits

    pub fitting : Fitting file p.shape
    fitting = layout_fitting file p.shape (admit_parts file n (record { ceiling = p.ceiling; shape = p.shape }) p.admits).0

    -- The shape is the one that the trailer says, and the ceiling is 1,000·n³.
    pub shape_is : p.shape ≡ shape_of file
    shape_is = fitting.shape_is

    pub ceiling_is : p.ceiling ≡ ceiling n
    ceiling_is = cc (sym (admit_parts file n (record { ceiling = p.ceiling; shape = p.shape }) p.admits).1 ∙ ceiling_cubed n ranges.some ranges.few)
