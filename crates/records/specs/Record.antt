-- The forms of a task's record, with a table's shape, n tasks and their ceiling. docs/RECORDS.md says the same in words.
use Rattle.std.specs.Prelude.{◌≡◌, Bool, true, cond, ◌&&◌, ◌||◌, ℕ, ◌%◌, eqb, leb, ltb, Result, Ok, Err}
use Rattle.refusal.specs.declared.Refusal.TheVariants as cause
use Rattle.cells.specs.Form.{head_in_form, announcement_in_form}
use Rattle.table.specs.declared.Shape.{Shape}
use Rattle.records.specs.declared.record.Task.{Task}
use Rattle.records.specs.declared.phase.Phase.{Phase}
use Rattle.records.specs.Phase.{phase_of}
use Rattle.refusal.specs.declared.Refusal.{Refusal}

-- An idle task keeps its priority alone.
abbrev pub idle_task : ℕ → Task
idle_task p = record { head = 0; announcement = 0; payload = 0; steps = 0; operation = 0; priority = p; phase = 0 }

-- The idle form: a priority below n, and 0 in every other field.
unfoldable pub idle_in_form : ℕ → Task → Bool
idle_in_form n t =
    ltb t.priority n && eqb t.head 0 && eqb t.announcement 0 && eqb t.payload 0 && eqb t.steps 0 && eqb t.operation 0

-- The task that a phase works for is below n: from 16 on the phases are ranges of eight, a number for each task.
unfoldable pub names_task : ℕ → ℕ → Bool
names_task n phase = ltb phase 16 || ltb (phase % 8) n

-- In the phases Apply and ReloadApply the payload is an operation below m.
unfoldable pub saved_payload_in_form : ℕ → Task → Bool
saved_payload_in_form m t = cond (leb 16 t.phase && leb t.phase 31) (ltb t.payload m) true

-- The numbers of a pending record: the named task, the operation, the priority and the steps in range, and the payload.
unfoldable pub numbers_in_form : Shape → (n ceiling : ℕ) → Task → Bool
numbers_in_form shape n ceiling t =
    names_task n t.phase && ltb t.operation shape.operations && ltb t.priority n && ltb t.steps ceiling
    && saved_payload_in_form shape.operations t

-- The saved words are in form, as a head and as an announcement.
unfoldable pub words_in_form : Shape → ℕ → Task → Bool
words_in_form shape n t = head_in_form shape.states n t.head && announcement_in_form shape.operations n t.announcement

-- The pending form: its numbers in range, and the saved words in form.
unfoldable pub pending_in_form : Shape → (n ceiling : ℕ) → Task → Bool
pending_in_form shape n ceiling t = numbers_in_form shape n ceiling t && words_in_form shape n t

-- A record is in the idle form in phase 0, and in the pending form in every other phase.
unfoldable pub record_in_form : Shape → (n ceiling : ℕ) → Task → Bool
record_in_form shape n ceiling t = cond (eqb t.phase 0) (idle_in_form n t) (pending_in_form shape n ceiling t)

-- The phase of a record, if its number is that of a phase and the record is in form; else the record is refused with 11.
abbrev pub read_in_form : Bool → Result Phase Refusal → Result Phase Refusal
read_in_form fits (Ok phase) = cond fits (Ok phase) (Err cause.Record)
read_in_form fits (Err reason) = Err reason

unfoldable pub read_record : Shape → (n ceiling : ℕ) → Task → Result Phase Refusal
read_record shape n ceiling t = read_in_form (record_in_form shape n ceiling t) (phase_of t.phase)

-- A record in the forms of docs/RECORDS.md: its number is a phase, and its fields have that phase's form. It isn't refused with 11.
abbrev pub RecordFits : Shape → (n ceiling : ℕ) → Task → Type 0
RecordFits shape n ceiling t = (f : Phase) × (read_record shape n ceiling t ≡ Ok f)
