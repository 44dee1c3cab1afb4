-- A step looks at one cell: its answer, its record and the word that it writes follow from the table, n, the record and what
-- that cell holds, and every other cell stays as it was.
use Rattle.std.specs.Prelude.{Result, Ok, Err}
use mathlib.Core.Path.{◌≡◌, refl}
use mathlib.Core.List.{List}
use Prim.Native.Nat.{ℕ, ◌+◌}
use lib.Dec.{eqb, ltb}
use lib.ListN.{length, get_or, length-set}
use lib.Seq.{get_or-set_other}
use Rattle.laws.proofs.Lists.{set_alike}
use Rattle.laws.proofs.Choice.{choice, choices}
use Rattle.refusal.specs.declared.Refusal.{Refusal}
use Rattle.refusal.specs.declared.Refusal.TheVariants as cause
use Rattle.table.specs.declared.Shape.{Shape}
use Rattle.records.specs.declared.record.Task.{Task}
use Rattle.records.specs.declared.phase.Phase.{Phase}
use Rattle.transition.specs.declared.access.Access.{Access}
use Rattle.records.specs.Record.{read_record}
use Rattle.transition.specs.Transition.{plan_of, used_in_range}
use Rattle.stepping.specs.Step.{touched, left_of, perform_of, cell_in_form}
use Rattle.stepping.specs.Call.{admit_of, refuse_step, touch, step_from, step_in, step_task}
use Rattle.stepping.specs.Access.{access_from, access_in, access_of}
use Rattle.stepping.specs.Statement.{Alike, Elsewhere}
use Rattle.stepping.specs.declared.call.Admission.{Admission}

-- ---- Any two lists of cells that agree on the touched cell

module _ (file cells others : List ℕ) (n i : ℕ) (t : Task) (long : length cells ≡ length others) where
  refusals : (k : ℕ) (c : Refusal) → get_or cells k 0 ≡ get_or others k 0 → Alike k (refuse_step cells t c) (refuse_step others t c)
  refusals k c e = record { answer = refl; task = refl; word = e }

  touches : (shape : Shape) (f : Phase) (a : Access) → get_or cells (touched a) 0 ≡ get_or others (touched a) 0 → Alike (touched a) (touch file shape cells n i t f a) (touch file shape others n i t f a)
  unfolding perform_of
  touches shape f a e =
      let k = touched a in
      rw e
      (choices (Alike _) (cell_in_form shape n k (get_or others k 0))
      (choices (Alike _) (used_in_range file shape t (get_or others k 0) f)
      (record { answer = refl; task = refl; word = set_alike cells others k (left_of (get_or others k 0) a) long e })
      (refusals k cause.NextState e))
      (refusals k cause.Cell e))

  alike_from : (shape : Shape) (read : Result Phase Refusal) → let k = touched (access_from file shape i t read) in get_or cells k 0 ≡ get_or others k 0 → Alike k (step_from file shape cells n i t read) (step_from file shape others n i t read)
  alike_from shape (Err c) e = refusals 0 c e
  alike_from shape (Ok f) e =
      let a = plan_of file shape i t.priority t f in
      choices (Alike _) (eqb t.phase 0) (refusals (touched a) cause.Idle e) (touches shape f a e)

  alike_in : (x : Result Admission Refusal) → let k = touched (access_in file n i t x) in get_or cells k 0 ≡ get_or others k 0 → Alike k (step_in file cells n i t x) (step_in file others n i t x)
  alike_in (Err c) e = refusals 0 c e
  alike_in (Ok found) e =
      let k = touched (access_in file n i t (Ok found)) in
      rw long
      (choices (Alike _) (eqb (length others) (n + 1))
      (choices (Alike _) (ltb i n) (alike_from found.shape (read_record found.shape n found.ceiling t) e) (refusals k cause.Task e))
      (refusals k cause.Cells e))

  -- With another list of cells that agrees on the touched cell, a step gives the same answer, record and written word.
  pub step_local : let k = touched (access_of file n i t) in get_or cells k 0 ≡ get_or others k 0 → Alike k (step_task file cells n i t) (step_task file others n i t)
  unfolding access_of step_task
  step_local e = alike_in (admit_of file n) e

-- ---- The other cells

module _ (file cells : List ℕ) (n i : ℕ) (t : Task) where
  refusal : (k : ℕ) (c : Refusal) → Elsewhere cells k (refuse_step cells t c)
  refusal k c = record { long = refl; rest = λ j h. refl }

  kept_touch : (shape : Shape) (f : Phase) (a : Access) → Elsewhere cells (touched a) (touch file shape cells n i t f a)
  unfolding perform_of
  kept_touch shape f a =
      let k = touched a in
      let word = get_or cells k 0 in
      choice (Elsewhere cells _) (cell_in_form shape n k word) _ _
      (choice (Elsewhere cells _) (used_in_range file shape t word f) _ _
      (record { long = length-set cells k (left_of word a); rest = λ j h. get_or-set_other cells k j (left_of word a) 0 h })
      (refusal k cause.NextState))
      (refusal k cause.Cell)

  kept_from : (shape : Shape) (read : Result Phase Refusal) → Elsewhere cells (touched (access_from file shape i t read)) (step_from file shape cells n i t read)
  kept_from shape (Err c) = refusal 0 c
  kept_from shape (Ok f) =
      let a = plan_of file shape i t.priority t f in
      choice (Elsewhere cells _) (eqb t.phase 0) _ _ (refusal (touched a) cause.Idle) (kept_touch shape f a)

  kept_in : (x : Result Admission Refusal) → Elsewhere cells (touched (access_in file n i t x)) (step_in file cells n i t x)
  kept_in (Err c) = refusal 0 c
  kept_in (Ok found) =
      let k = touched (access_in file n i t (Ok found)) in
      choice (Elsewhere cells _) (eqb (length cells) (n + 1)) _ _
      (choice (Elsewhere cells _) (ltb i n) _ _ (kept_from found.shape (read_record found.shape n found.ceiling t)) (refusal k cause.Task))
      (refusal k cause.Cells)

  -- A step changes no cell but the touched one.
  pub step_elsewhere : Elsewhere cells (touched (access_of file n i t)) (step_task file cells n i t)
  unfolding access_of step_task
  step_elsewhere = kept_in (admit_of file n)
