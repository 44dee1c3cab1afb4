-- A step of one task: the access itself, the test of the touched cell, and the record and the answer that follow.
use Rattle.std.specs.Prelude.{Bool, cond, List, ℕ, ◌+◌, ◌%◌, eqb, get_or, set, Result, Ok}
use Rattle.cells.specs.Form.{head_in_form, announcement_in_form}
use Rattle.table.specs.declared.Shape.{Shape}
use Rattle.records.specs.declared.record.Task.{Task}
use Rattle.records.specs.declared.phase.Phase.{Phase}
use Rattle.records.specs.declared.phase.Phase.TheVariants.{Poll}
use Rattle.records.specs.Phase.{phase_number}
use Rattle.records.specs.Record.{idle_task}
use Rattle.transition.specs.declared.access.Access.{Access}
use Rattle.transition.specs.declared.access.Access.TheVariants.{Read, Write, Swap}
use Rattle.transition.specs.declared.access.Found.{Found}
use Rattle.transition.specs.declared.access.Found.TheVariants.{Word, Stored, Swapped, Unswapped}
use Rattle.transition.specs.declared.access.Next.{Next}
use Rattle.transition.specs.declared.access.Next.TheVariants.{Go, Turn, End}
use Rattle.transition.specs.Transition.{next_of}
use Rattle.refusal.specs.declared.Refusal.{Refusal}
use Rattle.stepping.specs.declared.answer.Progress.{Progress}
use Rattle.stepping.specs.declared.answer.Progress.TheVariants as progress

-- ---- The access

-- The cell that an access touches.
abbrev pub touched : Access → ℕ
touched (Read c) = c
touched (Write c w) = c
touched (Swap c x w) = c

-- What an access to a cell that holds a word gives back.
abbrev pub found_of : ℕ → Access → Found
found_of old (Read c) = Word old
found_of old (Write c w) = Stored
found_of old (Swap c x w) = cond (eqb old x) Swapped Unswapped

-- The word that an access leaves in its cell.
abbrev pub left_of : ℕ → Access → ℕ
left_of old (Read c) = old
left_of old (Write c w) = w
left_of old (Swap c x w) = cond (eqb old x) w old

-- The cells after an access: all but the touched one are as they were.
unfoldable pub perform_of : List ℕ → Access → List ℕ
perform_of cells a = set cells (touched a) (left_of (get_or cells (touched a) 0) a)

-- The word of the touched cell is in form: as the head in cell 0, as an announcement in any other.
unfoldable pub cell_in_form : Shape → (n cell word : ℕ) → Bool
cell_in_form shape n cell word =
    cond (eqb cell 0) (head_in_form shape.states n word) (announcement_in_form shape.operations n word)

-- ---- What follows

-- The record after a step; one that ended is idle.
abbrev pub advance_of : ℕ → Task → Next → Task
advance_of n t (Go f v h a) = record { head = h; announcement = a; payload = v; steps = t.steps + 1; operation = t.operation; priority = t.priority; phase = phase_number f }
advance_of n t Turn = record { head = 0; announcement = 0; payload = 0; steps = t.steps + 1; operation = t.operation; priority = (t.priority + 1) % n; phase = phase_number Poll }
advance_of n t (End r v) = idle_task t.priority

-- What an accepted step answers; the count takes in this step.
abbrev pub answer_of : Task → Next → Result Progress Refusal
answer_of t (Go f v h a) = (Ok progress.Running)
answer_of t Turn = (Ok progress.Running)
answer_of t (End r v) = (Ok (progress.Ended r v (t.steps + 1)))

-- The cells, the record and the answer of one task's step.
pub record TaskOutcome : Type 0 where
  pub cells : List ℕ
  pub task : Task
  pub answer : Result Progress Refusal

-- What a step leads to, by what its access gives back.
abbrev pub led_to : List ℕ → Shape → List ℕ → ℕ → Task → Phase → Access → Next
led_to file shape cells i t f a = next_of file shape i t.priority t f (found_of (get_or cells (touched a) 0) a)

-- An accepted step makes its access; record and answer follow from the old record and what came back.
abbrev pub served : List ℕ → Shape → List ℕ → (n i : ℕ) → Task → Phase → Access → TaskOutcome
served file shape cells n i t f a =
    let x = led_to file shape cells i t f a in
    record { cells = perform_of cells a; task = advance_of n t x; answer = answer_of t x }
