-- What a step that is not refused keeps in form, on any cells.
use mathlib.Core.Path.{◌≡◌, ap, sym, subst, ◌∙◌}
use mathlib.Core.Bool.{Bool, true}
use mathlib.Core.Logic.{◌↔◌}
use mathlib.Core.List.{List}
use Prim.Native.Nat.{ℕ, ◌+◌, ◌-◌, ◌%◌, ◌<◌}
use native.Mathlib.Nat.{mod-lt}
use native.Mathlib.Omega.{arith}
use borrow.Author.Tests.{ltb-true, eqb-true, eqb-false, eq-eqb, ne_eqb}
use lib.Dec.{eqb}
use lib.ListN.{length, get_or}
use lib.Seq.{get_or-set_same}
use Rattle.laws.proofs.Choice.{choice, choice_by}
use Rattle.cells.specs.Form.{head_in_form}
use Rattle.cells.specs.Statement.{CellFits}
use Rattle.table.specs.declared.Shape.{Shape}
use Rattle.table.specs.File.{Bytes, shape_of}
use Rattle.records.specs.declared.record.Task.{Task}
use Rattle.records.specs.Record.{RecordFits}
use Rattle.records.specs.Statement.{PendingPoints}
use Rattle.records.proofs.Forms.{read_parts, read_points, read_works}
use Rattle.records.proofs.Phases.{WorksBelow, number_read}
use Rattle.records.proofs.Saved.{saved_read, idle_read}
use Rattle.transition.specs.declared.access.Access.{Access}
use Rattle.transition.specs.declared.access.Access.TheVariants.{Read, Write, Swap}
use Rattle.transition.specs.declared.access.Next.{Next}
use Rattle.transition.specs.declared.access.Next.TheVariants.{Go, Turn, End}
use Rattle.transition.proofs.NextForms.{FoundFormed, NextFormed, next_formed}
use Rattle.transition.proofs.WrittenForms.{WrittenFormed, written_formed}
use Rattle.stepping.specs.Step.{touched, found_of, left_of, perform_of, cell_in_form, advance_of, TaskOutcome, led_to}
use Rattle.stepping.specs.Call.{step_task}
use Rattle.stepping.specs.Statement.{HeadsInForm, KeepsForm, LeavesInForm}
use Rattle.stepping.proofs.Passed.{Passed, passed, access, step_served, step_access, ranges, fitting, shape_is, ceiling_is}
use Rattle.stepping.proofs.Ready.{touched_below}

-- The test of a cell, and what it says.
module _ (shape : Shape) (n cell word : ℕ) where
  pub cell_fits : (cell_in_form shape n cell word ≡ true) ↔ CellFits shape.states shape.operations n cell word
  unfolding cell_in_form
  cell_fits = (
    λ e. record {
      head = λ z. rw (eq-eqb cell 0 z) at e;
      announcement = λ j z. rw (ne_eqb cell 0 (λ y. omega (arith, z))) at e;
    },
    λ f. choice_by (λ (b : Bool). b ≡ true) (eqb cell 0) (λ z. f.head (eqb-true cell 0 z)) (λ z. f.announcement (cell - 1) (omega (arith, eqb-false cell 0 z))),
  )

-- What a touched cell in form gives back is in form.
found_formed : (shape : Shape) (n word : ℕ) (a : Access) → cell_in_form shape n (touched a) word ≡ true → FoundFormed shape n a (found_of word a)
found_formed shape n word (Read cell) e = (cell_fits shape n cell word).0 e
found_formed shape n word (Write cell w) e = tt
found_formed shape n word (Swap cell x w) e = tt

-- The word that an access leaves is the old one or the one that it writes.
left_formed : (shape : Shape) (n old : ℕ) (a : Access) → CellFits shape.states shape.operations n (touched a) old → WrittenFormed shape n a → CellFits shape.states shape.operations n (touched a) (left_of old a)
left_formed shape n old (Read cell) before written = before
left_formed shape n old (Write cell w) before written = written
left_formed shape n old (Swap cell x w) before written = choice (CellFits shape.states shape.operations n cell) (eqb old x) w old written before

-- The record after a step is in form, if what the step leads to is and the count is below the ceiling.
next_kept : (shape : Shape) (n c : ℕ) (t : Task) → PendingPoints shape n c t → (x : Next) → NextFormed shape n x → (advance_of n t x).steps < c → RecordFits shape n c (advance_of n t x)
next_kept shape n c t own (Go f v h a) saved timely = (f, saved_read shape n saved t.operation t.priority (t.steps + 1) c own.operation own.priority timely)
next_kept shape n c t own Turn saved timely =
    (_, saved_read shape n saved t.operation ((t.priority + 1) % n) (t.steps + 1) c own.operation (mod-lt (t.priority + 1) (omega (arith, own.priority))) timely)
next_kept shape n c t own (End r v) saved timely = (_, idle_read shape n c t.priority own.priority)

module _ (file cells : List ℕ) (n i : ℕ) (t : Task) where
  module _ (p : Passed file cells n i t) where
    -- The record that it was lent is in the pending form.
    own_points : PendingPoints p.shape n p.ceiling t
    own_points = read_points p.shape n p.ceiling t (eqb-false t.phase 0 p.pending) p.phase p.read

    own_works : WorksBelow n p.phase
    own_works = read_works p.shape n p.ceiling t (eqb-false t.phase 0 p.pending) p.phase p.read

    next_passed : NextFormed p.shape n (led_to file p.shape cells i t p.phase (access file cells n i t p))
    next_passed =
        let a = access file cells n i t p in
        let number = number_read t.phase p.phase (read_parts p.shape n p.ceiling t p.phase p.read).1 in
        next_formed file p.shape n p.ceiling i t (ranges file cells n i t p).few (ltb-true i n p.below) own_points p.phase number
        (ap (λ (k : ℕ). eqb k 0) number ∙ p.pending)
        own_works
        (found_of (get_or cells (touched a) 0) a)
        (found_formed p.shape n (get_or cells (touched a) 0) a p.formed)

    kept : (step_task file cells n i t).task.steps < p.ceiling → RecordFits p.shape n p.ceiling (step_task file cells n i t).task
    kept timely =
        let served = ap (λ (out : TaskOutcome). out.task) (step_served file cells n i t p) in
        subst (RecordFits p.shape n p.ceiling) (sym served)
        (next_kept p.shape n p.ceiling t own_points (led_to file p.shape cells i t p.phase (access file cells n i t p)) next_passed (subst (λ (own : Task). own.steps < p.ceiling) served timely))

    -- The word that it leaves in the touched cell is in form.
    left : Bytes file → let k = touched (access file cells n i t p) in CellFits p.shape.states p.shape.operations n k (get_or (step_task file cells n i t).cells k 0)
    unfolding perform_of
    left bytes =
        let a = access file cells n i t p in
        let k : ℕ = touched a in
        let old : ℕ = get_or cells k 0 in
        let below = ltb-true i n p.below in
        let inside : k < length cells = omega (arith, eqb-true (length cells) (n + 1) p.long, touched_below file p.shape n i t below own_points.priority p.phase own_works) in
        let word : get_or (step_task file cells n i t).cells k 0 ≡ left_of old a = ap (λ (out : TaskOutcome). get_or out.cells k 0) (step_served file cells n i t p) ∙ get_or-set_same cells k (left_of old a) 0 inside in
        subst (CellFits p.shape.states p.shape.operations n k) (sym word)
        (left_formed p.shape n old a ((cell_fits p.shape n k old).0 p.formed)
        (written_formed file p.shape bytes (fitting file cells n i t p) n p.ceiling i t (ranges file cells n i t p).few below own_points p.phase own_works old p.used))

  -- It leaves its task's record in form.
  pub keeps_form : KeepsForm file cells n i t
  keeps_form u timely =
      let p = passed file cells n i t u in
      let high = ceiling_is file cells n i t p in
      let fits = kept p (subst (λ (c : ℕ). (step_task file cells n i t).task.steps < c) (sym high) timely) in
      subst (λ (c : ℕ). RecordFits (shape_of file) n c (step_task file cells n i t).task) high
      (subst (λ (shape : Shape). RecordFits shape n p.ceiling (step_task file cells n i t).task) (shape_is file cells n i t p) fits)

  -- The heads that it took apart were in form.
  pub heads_in_form : HeadsInForm file cells n i t
  heads_in_form u =
      let p = passed file cells n i t u in
      let cell = touched (access file cells n i t p) in
      let states : p.shape.states ≡ (shape_of file).states = ap (λ (shape : Shape). shape.states) (shape_is file cells n i t p) in
      let fits = (cell_fits p.shape n cell (get_or cells cell 0)).0 p.formed in (
        subst (λ s. head_in_form s n t.head ≡ true) states (own_points p).head,
        λ e. let z : cell ≡ 0 = ap touched (sym (step_access file cells n i t p)) ∙ e in
            subst (λ s. head_in_form s n (get_or cells 0 0) ≡ true) states (subst (λ k. head_in_form p.shape.states n (get_or cells k 0) ≡ true) z (fits.head z)),
      )

  -- What it leaves in the touched cell is in form.
  pub leaves_in_form : LeavesInForm file cells n i t
  leaves_in_form bytes u =
      let p = passed file cells n i t u in
      let after = (step_task file cells n i t).cells in
      subst (λ (a : Access). CellFits (shape_of file).states (shape_of file).operations n (touched a) (get_or after (touched a) 0)) (sym (step_access file cells n i t p))
      (subst (λ (shape : Shape). let k = touched (access file cells n i t p) in CellFits shape.states shape.operations n k (get_or after k 0)) (shape_is file cells n i t p) (left p bytes))
