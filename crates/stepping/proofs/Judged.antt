-- Which records are refused with 11, and which touched cells with 12: exactly those out of form.
use Rattle.std.specs.Prelude.{Result, Ok, Err, ⊤}
use mathlib.Core.Path.{◌≡◌, refl, sym, ap, subst, ◌∙◌}
use mathlib.Core.Bool.{Bool, true, false, cond, not-eq-not}
use mathlib.Core.Logic.{◌↔◌, ◌≢◌}
use mathlib.Core.List.{List}
use Prim.Native.Nat.{ℕ, ◌+◌, ◌<◌}
use native.Mathlib.Omega.{arith}
use borrow.Author.Tests.{lt-ltb, eq-eqb, ne_eqb}
use lib.Dec.{eqb}
use lib.ListN.{length, get_or}
use Rattle.laws.proofs.Choice.{choice}
use Rattle.laws.proofs.Clash.{never}
use Rattle.refusal.specs.declared.Refusal.TheVariants as cause
use Rattle.cells.specs.Form.{head_in_form}
use Rattle.cells.specs.Layout.{holder_in}
use Rattle.cells.proofs.Theorem.{point_by_point}
use Rattle.table.specs.declared.Shape.{Shape}
use Rattle.table.specs.File.{shape_of}
use Rattle.table.specs.Entries.{entries_in_range}
use Rattle.table.proofs.Accepted.{all_tested}
use Rattle.machine.specs.Calls.{Refused}
use Rattle.records.specs.declared.record.Task.{Task}
use Rattle.records.specs.declared.phase.Phase.{Phase}
use Rattle.records.specs.Record.{read_record}
use Rattle.records.proofs.Forms.{read_points, record_refused}
use Rattle.transition.specs.declared.access.Access.{Access}
use Rattle.transition.specs.declared.access.Next.{Next}
use Rattle.transition.specs.declared.access.Next.TheVariants.{Go, Turn, End}
use Rattle.transition.specs.Transition.{plan_of, used_in_range}
use Rattle.stepping.specs.Call.{Begin}
use Rattle.stepping.specs.Step.{touched, cell_in_form, answer_of, TaskOutcome, led_to, served}
use Rattle.stepping.specs.Call.{refuse_step, touch, step_from, step_task, step_said, begun_task, refuse_begin, begin_from, begin_task, begin_said}
use Rattle.stepping.specs.Access.{access_of}
use Rattle.stepping.specs.Statement.{FitsTable, StepTested, BeginAsked, BeginTested, RecordJudged, BeginRecordJudged, TouchedFits, CellJudged, StepRefused, BeginRefused, HolderAbove, SavedHolderAbove, BeginHolderAbove}
use Rattle.stepping.proofs.Admission.{ceiling, admits}
use Rattle.stepping.proofs.Forms.{cell_fits}
use Rattle.stepping.proofs.Refused.{refused_begin, refused_step}
use Rattle.refusal.specs.declared.Refusal.{Refusal}
use Rattle.stepping.specs.declared.answer.Progress.{Progress}
use Rattle.stepping.specs.declared.answer.Progress.TheVariants as progress

-- ---- What the parts of a step say

-- An accepted step says no number.
accepted_says : (t : Task) (x : Next) (k : ℕ) → step_said (answer_of t x) ≡ Refused k → ⊥
accepted_says t (Go f v h a) k e = never cc
accepted_says t Turn k e = never cc
accepted_says t (End r v) k e = never cc

module _ (file : List ℕ) (shape : Shape) (cells : List ℕ) (n i : ℕ) (t : Task) (f : Phase) (a : Access) where
  -- By whether the cell is in form and the entry in range: 12 if the cell isn't, else 4 or nothing.
  touch_says : (formed used : Bool) (k : ℕ) → step_said (cond formed (cond used (served file shape cells n i t f a) (refuse_step cells t cause.NextState)) (refuse_step cells t cause.Cell)).answer ≡ Refused k
      → k ≡ cond formed 4 12
  touch_says true true k e = absurd (accepted_says t (led_to file shape cells i t f a) k e)
  touch_says true false k e = cc
  touch_says false used k e = cc

module _ (file : List ℕ) (shape : Shape) (cells : List ℕ) (n i : ℕ) (t : Task) (f : Phase) where
  -- With a record in form a step says 10, 4, 12 or no number.
  pub known_says : (P : ℕ → Type 0) → P 10 → P 4 → P 12 → (k : ℕ) → step_said (step_from file shape cells n i t (Ok f)).answer ≡ Refused k → P k
  known_says P idle entry cell k = by (eqb t.phase 0)
    where
      a : Access
      a = plan_of file shape i t.priority t f

      formed : Bool
      formed = cell_in_form shape n (touched a) (get_or cells (touched a) 0)

      by : (b : Bool) → step_said (cond b (refuse_step cells t cause.Idle) (touch file shape cells n i t f a)).answer ≡ Refused k → P k
      by true e = let z : 10 ≡ k = cc in subst P z idle
      by false e =
          subst P (sym (touch_says file shape cells n i t f a formed (used_in_range file shape t (get_or cells (touched a) 0) f) k e)) (choice P formed 4 12 entry cell)

-- ---- A step whose tests before 11 are passed

module _ (file cells : List ℕ) (n i : ℕ) (t : Task) (s : StepTested file cells n i) where
  abbrev shape : Shape
  shape = shape_of file

  step_tested : step_task file cells n i t ≡ step_from file shape cells n i t (read_record shape n (ceiling n) t)
  unfolding step_task
  step_tested = rw (admits file n shape s.accepted s.some s.few, eq-eqb (length cells) (n + 1) s.long, lt-ltb i n s.below)

  -- With a record in form it doesn't say 11.
  not_eleven : (f : Phase) → step_said (step_from file shape cells n i t (Ok f)).answer ≡ Refused 11 → ⊥
  not_eleven f e = known_says file shape cells n i t f (λ k. k ≢ 11) (λ z. omega arith) (λ z. omega arith) (λ z. omega arith) 11 e refl

  record_said : (step_said (step_task file cells n i t).answer ≡ Refused 11) ↔ (FitsTable file n t → ⊥)
  record_said = (
    λ e (f, read). not_eleven f (rw (step_tested, read) at e),
    λ bad. rw (step_tested, (record_refused shape n (ceiling n) t).0 bad),
  )

  -- With a pending record in form the touched cell decides between 12 and the rest.
  module _ (f : Phase) (read : read_record shape n (ceiling n) t ≡ Ok f) (pending : t.phase ≢ 0) where
    abbrev planned : Access
    planned = plan_of file shape i t.priority t f

    abbrev word : ℕ
    word = get_or cells (touched planned) 0

    step_access : access_of file n i t ≡ planned
    unfolding access_of
    step_access = rw (admits file n shape s.accepted s.some s.few, read)

    pub step_touches : step_task file cells n i t ≡ touch file shape cells n i t f planned
    step_touches = rw (step_tested, read, ne_eqb t.phase 0 pending)

    fits_planned : TouchedFits file cells n i t ↔ (cell_in_form shape n (touched planned) word ≡ true)
    fits_planned = rw step_access ((cell_fits shape n (touched planned) word).1, (cell_fits shape n (touched planned) word).0)

    cell_said : (step_said (step_task file cells n i t).answer ≡ Refused 12) ↔ (TouchedFits file cells n i t → ⊥)
    cell_said = (λ e fits. served (fits_planned.0 fits) (rw step_touches at e), λ bad. refused ((not-eq-not {b = false}).0 (λ e. bad (fits_planned.1 e))))
      where
        served : cell_in_form shape n (touched planned) word ≡ true → step_said (touch file shape cells n i t f planned).answer ≡ Refused 12 → ⊥
        served formed e =
            let z = touch_says file shape cells n i t f planned (cell_in_form shape n (touched planned) word) (used_in_range file shape t word f) 12 e in
            let y : ◌≡◌ {A = ℕ} 12 4 = rw formed at z in
            omega arith

        refused : cell_in_form shape n (touched planned) word ≡ false → step_said (step_task file cells n i t).answer ≡ Refused 12
        refused fails = rw (step_touches, fails)

pub record_judged : (file cells : List ℕ) (n i : ℕ) (t : Task) → RecordJudged file cells n i t
record_judged = record_said

pub cell_judged : (file cells : List ℕ) (n i : ℕ) (t : Task) → CellJudged file cells n i t
cell_judged file cells n i t s (f, read) pending = cell_said file cells n i t s f read pending

-- ---- A begin whose tests before 4 are passed, and before 11

-- All entries are tested, and then the record.
pub asked_tests : (file : List ℕ) (n i o : ℕ) (t : Task) → BeginAsked file n i o
    → begin_task file n i o t ≡ cond (entries_in_range file (shape_of file)) (begin_from file (shape_of file) o t (read_record (shape_of file) n (ceiling n) t)) (refuse_begin t cause.NextState)
unfolding begin_task
asked_tests file n i o t a = rw (admits file n (shape_of file) a.accepted a.some a.few, lt-ltb i n a.below, lt-ltb o (shape_of file).operations a.known)

pub begin_tested : (file : List ℕ) (n i o : ℕ) (t : Task) → BeginTested file n i o → begin_task file n i o t ≡ begin_from file (shape_of file) o t (read_record (shape_of file) n (ceiling n) t)
begin_tested file n i o t s = asked_tests file n i o t s.asked ∙ rw (all_tested file (shape_of file) s.ranged)

pub begin_record_judged : (file : List ℕ) (n i o : ℕ) (t : Task) → BeginRecordJudged file n i o t
begin_record_judged file n i o t s = (λ e (f, read). by (eqb t.phase 0) (rw (tested, read) at e), λ bad. rw (tested, (record_refused (shape_of file) n (ceiling n) t).0 bad))
  where
    tested : begin_task file n i o t ≡ begin_from file (shape_of file) o t (read_record (shape_of file) n (ceiling n) t)
    tested = begin_tested file n i o t s

    by : (b : Bool) → begin_said (cond b (record { task = begun_task file (shape_of file) o t; answer = (Ok tt) }) (refuse_begin t cause.Pending)).answer ≡ Refused 11 → ⊥
    by true e = never cc
    by false e = let z : ◌≡◌ {A = ℕ} 9 11 = cc in omega arith

-- ---- A number that is said changes nothing

step_left : (file cells : List ℕ) (n i : ℕ) (t : Task) (k : ℕ) → step_said (step_task file cells n i t).answer ≡ Refused k → StepRefused k file cells n i t
step_left file cells n i t k said = by (step_task file cells n i t).answer refl
  where
    by : (a : Result Progress Refusal) → (step_task file cells n i t).answer ≡ a → StepRefused k file cells n i t
    by (Ok progress.Running) e = let f = rw e at said in never (cc f)
    by (Ok (progress.Ended r v c)) e = let f = rw e at said in never (cc f)
    by (Err c) e =
        let same = refused_step file cells n i t c e in
        record { said = said; cells_left = ap (λ (out : TaskOutcome). out.cells) same; task_left = ap (λ (out : TaskOutcome). out.task) same }

begin_left : (file : List ℕ) (n i o : ℕ) (t : Task) (k : ℕ) → begin_said (begin_task file n i o t).answer ≡ Refused k → BeginRefused k file n i o t
begin_left file n i o t k said = by (begin_task file n i o t).answer refl
  where
    by : (a : Result ⊤ Refusal) → (begin_task file n i o t).answer ≡ a → BeginRefused k file n i o t
    by (Ok tt) e = let f = rw e at said in never (cc f)
    by (Err c) e = record { said = said; task_left = ap (λ (out : Begin). out.task) (refused_begin t file n i o c e) }

-- ---- A holder above n

-- It makes a head out of form, in a cell and in a record that has saved it.
above : (s n w : ℕ) → n < holder_in w → head_in_form s n w ≡ true → ⊥
above s n w h e = omega (arith, h, ((point_by_point s n w).0 e).holder)

saved_above : (file : List ℕ) (n : ℕ) (t : Task) → t.phase ≢ 0 → n < holder_in t.head → FitsTable file n t → ⊥
saved_above file n t pending h (f, read) = above (shape_of file).states n t.head h (read_points (shape_of file) n (ceiling n) t pending f read).head

pub holder_above : (file cells : List ℕ) (n i : ℕ) (t : Task) → HolderAbove file cells n i t
holder_above file cells n i t s fits pending touches h =
    step_left file cells n i t 12
    ((cell_judged file cells n i t s fits pending).1
    (λ formed. above (shape_of file).states n (get_or cells 0 0) h (subst (λ k. head_in_form (shape_of file).states n (get_or cells k 0) ≡ true) touches (formed.head touches))))

pub saved_holder_above : (file cells : List ℕ) (n i : ℕ) (t : Task) → SavedHolderAbove file cells n i t
saved_holder_above file cells n i t s pending h = step_left file cells n i t 11 ((record_judged file cells n i t s).1 (saved_above file n t pending h))

pub begin_holder_above : (file : List ℕ) (n i o : ℕ) (t : Task) → BeginHolderAbove file n i o t
begin_holder_above file n i o t s pending h = begin_left file n i o t 11 ((begin_record_judged file n i o t s).1 (saved_above file n t pending h))
