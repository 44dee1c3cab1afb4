-- The access of a step, from the table, n, the task and its record, before a cell is looked at, and what it gives back. A call that makes
-- none counts as a read of the head.
use Rattle.std.specs.Prelude.{List, ℕ, get_or, Result, Ok, Err}
use Rattle.table.specs.declared.Shape.{Shape}
use Rattle.records.specs.declared.record.Task.{Task}
use Rattle.transition.specs.declared.access.Access.{Access}
use Rattle.transition.specs.declared.access.Access.TheVariants.{Read}
use Rattle.transition.specs.declared.access.Found.{Found}
use Rattle.records.specs.Record.{read_record}
use Rattle.transition.specs.Transition.{plan_of}
use Rattle.stepping.specs.Step.{touched, found_of}
use Rattle.stepping.specs.Call.{admit_of}
use Rattle.refusal.specs.declared.Refusal.{Refusal}
use Rattle.records.specs.declared.phase.Phase.{Phase}
use Rattle.stepping.specs.declared.call.Admission.{Admission}

abbrev pub access_from : List ℕ → Shape → ℕ → Task → Result Phase Refusal → Access
access_from file shape i t (Err c) = Read 0
access_from file shape i t (Ok f) = plan_of file shape i t.priority t f

abbrev pub access_in : List ℕ → (n i : ℕ) → Task → Result Admission Refusal → Access
access_in file n i t (Err c) = Read 0
access_in file n i t (Ok found) = access_from file found.shape i t (read_record found.shape n found.ceiling t)

unfoldable pub access_of : List ℕ → (n i : ℕ) → Task → Access
access_of file n i t = access_in file n i t (admit_of file n)

-- What the access gives back from these cells: the word for a read, yes or no for a swap, nothing for a write.
abbrev pub given_back : List ℕ → Access → Found
given_back cells a = found_of (get_or cells (touched a) 0) a
