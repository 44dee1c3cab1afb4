-- A step from its parts: what its tests, its access and what follows give together.
use Rattle.std.specs.Prelude.{Ok}
use mathlib.Core.Path.{◌≡◌, refl, sym}
use mathlib.Core.Bool.{Bool, true, false, cond}
use mathlib.Core.List.{List}
use Prim.Native.Nat.{ℕ}
use borrow.Author.Tests.{eq-eqb, ne_eqb}
use lib.ListN.{get_or}
use Rattle.refusal.specs.declared.Refusal.TheVariants as cause
use Rattle.table.specs.declared.Shape.{Shape}
use Rattle.records.specs.declared.record.Task.{Task}
use Rattle.records.specs.declared.phase.Phase.{Phase}
use Rattle.records.specs.Phase.{phase_of}
use Rattle.records.specs.Record.{idle_in_form, pending_in_form, record_in_form, read_record}
use Rattle.transition.specs.declared.access.Access.{Access}
use Rattle.transition.specs.declared.access.Found.{Found}
use Rattle.transition.specs.declared.access.Next.{Next}
use Rattle.stepping.specs.declared.answer.Step.{Step}
use Rattle.transition.specs.Transition.{plan_of, used_in_range, next_of}
use Rattle.stepping.specs.Step.{touched, found_of, perform_of, cell_in_form, advance_of, answer_of}
use Rattle.stepping.specs.Call.{refuse_step, step_left, step_from}

module _ (file : List ℕ) (shape : Shape) (cells : List ℕ) (n i : ℕ) (t : Task) (f : Phase) where
  -- A record of a known phase, by its form.
  module _ (c : ℕ) (known : phase_of t.phase ≡ Ok f) where
    pub idle_refused : t.phase ≡ 0 → refuse_step cells t (cond (idle_in_form n t) cause.Idle cause.Record) ≡ step_from file shape cells n i t (read_record shape n c t)
    unfolding read_record record_in_form
    idle_refused z = at (idle_in_form n t) refl
      where
        at : (b : Bool) → idle_in_form n t ≡ b → refuse_step cells t (cond (idle_in_form n t) cause.Idle cause.Record) ≡ step_from file shape cells n i t (read_record shape n c t)
        at true e = simp (known, e, eq-eqb t.phase 0 z)
        at false e = simp (known, e, eq-eqb t.phase 0 z)

    module _ (pending : t.phase ≡ 0 → ⊥) where
      pub form_refused : pending_in_form shape n c t ≡ false → refuse_step cells t cause.Record ≡ step_from file shape cells n i t (read_record shape n c t)
      unfolding read_record record_in_form
      form_refused e = simp (known, e, ne_eqb t.phase 0 pending)

      pub in_form_lem : pending_in_form shape n c t ≡ true → read_record shape n c t ≡ Ok f
      unfolding read_record record_in_form
      in_form_lem e = simp (known, e, ne_eqb t.phase 0 pending)

  -- The access a of a pending record, on cell k.
  module _ (a : Access) (k : ℕ) (pending : t.phase ≡ 0 → ⊥) (planned : a ≡ plan_of file shape i t.priority t f) (place : k ≡ touched a) where
    pub cell_refused : cell_in_form shape n k (get_or cells k 0) ≡ false → refuse_step cells t cause.Cell ≡ step_from file shape cells n i t (Ok f)
    cell_refused e = simp (ne_eqb t.phase 0 pending, sym planned, sym place, e)

    module _ (formed : cell_in_form shape n k (get_or cells k 0) ≡ true) where
      pub entry_refused : used_in_range file shape t (get_or cells k 0) f ≡ false → refuse_step cells t cause.NextState ≡ step_from file shape cells n i t (Ok f)
      entry_refused e = simp (ne_eqb t.phase 0 pending, sym planned, sym place, formed, e)

      pub accepted : used_in_range file shape t (get_or cells k 0) f ≡ true → (g : Found) (x : Next) (after : List ℕ) (r : Step)
          → (g ≡ found_of (get_or cells (touched a) 0) a) × (after ≡ perform_of cells a)
          → x ≡ next_of file shape i t.priority t f g
          → (r.task ≡ advance_of n t x) × (Ok r.progress ≡ answer_of t x)
          → step_left after t (Ok r) ≡ step_from file shape cells n i t (Ok f)
      accepted e g x after r found led gave =
          simp (ne_eqb t.phase 0 pending, sym planned, sym place, formed, e)
          (simp (gave.0, gave.1, led, found.0, found.1, sym place))
