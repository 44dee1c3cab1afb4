-- What is proved of start, begin and step, as types over the definitions of the calls. `proofs/Theorem.antt` has a proof of each.
use Rattle.std.specs.Prelude.{◌≡◌, Bool, true, false, ◌↔◌, ◌≢◌, List, ℕ, ◌+◌, ◌*◌, ◌<◌, ◌≤◌, length, get_or, take, Result, Ok, Err}
use Rattle.laws.specs.Places.{At}
use Rattle.refusal.specs.declared.Refusal.{Refusal}
use Rattle.refusal.specs.Number.{number_of, refused_by, refused}
use Rattle.cells.specs.Form.{head_in_form, cells_in_form}
use Rattle.cells.specs.Image.{image}
use Rattle.cells.specs.Layout.{state_in_word, holder_in, head_of, announcement_of}
use Rattle.cells.specs.Statement.{CellFits}
use Rattle.cells.specs.declared.head.Head.TheVariants as head
use Rattle.cells.specs.declared.announcement.Announcement.TheVariants as content
use Rattle.table.specs.declared.Shape.{Shape}
use Rattle.table.specs.File.{Bytes, shape_of}
use Rattle.table.specs.Layout.{layout_of}
use Rattle.table.specs.Check.{check_of}
use Rattle.table.specs.Entries.{entry_of, moves}
use Rattle.table.specs.Statement.{AllInRange, OutOfRange}
use Rattle.reach.specs.Changing.{changing}
use Rattle.machine.specs.Outcome.{Outcome}
use Rattle.machine.specs.Calls.{Call, Step, Ended, Refused, Event}
use Rattle.machine.specs.Book.{Operation, Book}
use Rattle.machine.specs.History.{Pends, pending, Changes, Rest, Begins, Ends, Open, reached}
use Rattle.machine.specs.Demand.{Shown, Demand}
use Rattle.machine.specs.Ending.{Emptyings}
use Rattle.records.specs.declared.record.Task.{Task}
use Rattle.records.specs.Record.{RecordFits}
use Rattle.transition.specs.declared.access.Access.TheVariants.{Read, Write}
use Rattle.transition.specs.Object.{object_of}
use Rattle.stepping.specs.Step.{touched, perform_of, TaskOutcome}
use Rattle.stepping.specs.Call.{start_said, begin_said, step_said, start_of, begin_task, step_task, task_at, begin_of, step_of}
use Rattle.stepping.specs.Access.{access_of, given_back}
use Rattle.stepping.specs.Runs.{Store, run_of}
use Rattle.stepping.specs.Opening.{Opening, object_in, shown, start_store}
use Rattle.stepping.specs.Print.{EmptyAt, Print, Shows}
use Rattle.stepping.specs.Lent.{Memory, Places, store_at, LentCall, LentStart, RunOpened, serve_lent, Around, SameRun}
use Rattle.stepping.specs.declared.answer.Progress.{Progress}

-- ---- The access rule, for all arguments

-- A step that is not refused.
abbrev pub Unrefused : Result Progress Refusal → Type 0
Unrefused a = (reason : Refusal) → a ≡ Err reason → ⊥

-- A step that is not refused leaves exactly the cells that its access makes of the old ones.
abbrev pub MakesAccess : (file cells : List ℕ) (n i : ℕ) → Task → Type 0
MakesAccess file cells n i t =
    Unrefused (step_task file cells n i t).answer → (step_task file cells n i t).cells ≡ perform_of cells (access_of file n i t)

-- Two steps of one table, n, task and record that are not refused and whose accesses give back the same have one answer and
-- leave one record, whatever else the cells hold.
abbrev pub FollowsResult : (file cells others : List ℕ) (n i : ℕ) → Task → Type 0
FollowsResult file cells others n i t =
    Unrefused (step_task file cells n i t).answer → Unrefused (step_task file others n i t).answer
    → given_back cells (access_of file n i t) ≡ given_back others (access_of file n i t)
    → ((step_task file cells n i t).answer ≡ (step_task file others n i t).answer) × ((step_task file cells n i t).task ≡ (step_task file others n i t).task)

-- Two outcomes with one answer and one record, which leave one word in cell k.
pub record Alike (k : ℕ) (one other : TaskOutcome) : Type 0 where
  pub answer : one.answer ≡ other.answer
  pub task : one.task ≡ other.task
  pub word : get_or one.cells k 0 ≡ get_or other.cells k 0

-- An outcome that leaves as many cells as there were, all but cell k as they were.
pub record Elsewhere (cells : List ℕ) (k : ℕ) (out : TaskOutcome) : Type 0 where
  pub long : length out.cells ≡ length cells
  pub rest : (j : ℕ) → j ≢ k → get_or out.cells j 0 ≡ get_or cells j 0

-- Record, answer and written word of a step follow from the table, n, the task, its record and what the touched cell holds alone.
abbrev pub Local : (file cells others : List ℕ) (n i : ℕ) → Task → Type 0
Local file cells others n i t =
    length cells ≡ length others → get_or cells (touched (access_of file n i t)) 0 ≡ get_or others (touched (access_of file n i t)) 0
    → Alike (touched (access_of file n i t)) (step_task file cells n i t) (step_task file others n i t)

-- A step touches one cell: every other one is as it was.
abbrev pub OneCell : (file cells : List ℕ) (n i : ℕ) → Task → Type 0
OneCell file cells n i t = Elsewhere cells (touched (access_of file n i t)) (step_task file cells n i t)

-- ---- A row, and a record that is lent alone

-- The row after a call for task i: its record is the one given, and every other is as it was.
pub record PutBack (row : List Task) (i : ℕ) (own : Task) (after : List Task) : Type 0 where
  pub long : length after ≡ length row
  pub named : i < length row → task_at after i ≡ own
  pub others : (j : ℕ) → j ≢ i → task_at after j ≡ task_at row j

-- A call on a row is the call for its task's record alone, with n the row's number of records: one answer, for a step the same cells,
-- and the record put back. No other record is looked at.
abbrev pub BeginByRecord : List ℕ → List Task → (i o : ℕ) → Type 0
BeginByRecord file row i o =
    let out = begin_task file (length row) i o (task_at row i) in
    ((begin_of file row i o).answer ≡ out.answer) × PutBack row i out.task (begin_of file row i o).row

abbrev pub StepByRecord : (file cells : List ℕ) → List Task → ℕ → Type 0
StepByRecord file cells row i =
    let out = step_task file cells (length row) i (task_at row i) in
    ((step_of file cells row i).answer ≡ out.answer) × ((step_of file cells row i).cells ≡ out.cells) × PutBack row i out.task (step_of file cells row i).row

-- ---- A refused call changes nothing

abbrev pub StartUnchanged : (file cells : List ℕ) → List Task → Type 0
StartUnchanged file cells row =
    (c : Refusal) → (start_of file cells row).answer ≡ Err c → ((start_of file cells row).cells ≡ cells) × ((start_of file cells row).row ≡ row)

abbrev pub BeginUnchanged : List ℕ → List Task → (i o : ℕ) → Type 0
BeginUnchanged file row i o = (c : Refusal) → (begin_of file row i o).answer ≡ Err c → (begin_of file row i o).row ≡ row

abbrev pub StepUnchanged : (file cells : List ℕ) → List Task → ℕ → Type 0
StepUnchanged file cells row i =
    (c : Refusal) → (step_of file cells row i).answer ≡ Err c → ((step_of file cells row i).cells ≡ cells) × ((step_of file cells row i).row ≡ row)

abbrev pub BeginRecordUnchanged : List ℕ → (n i o : ℕ) → Task → Type 0
BeginRecordUnchanged file n i o t = (c : Refusal) → (begin_task file n i o t).answer ≡ Err c → (begin_task file n i o t).task ≡ t

abbrev pub StepRecordUnchanged : (file cells : List ℕ) (n i : ℕ) → Task → Type 0
StepRecordUnchanged file cells n i t =
    (c : Refusal) → (step_task file cells n i t).answer ≡ Err c → ((step_task file cells n i t).cells ≡ cells) × ((step_task file cells n i t).task ≡ t)

-- ---- The table and the number of tasks, for all arguments

-- A table that its test refuses is answered by the number of the cause: by start for 1 to 4, by begin and step for 1 to 3.
abbrev pub StartTableRefused : (file cells : List ℕ) → List Task → Type 0
StartTableRefused file cells row = (c : Refusal) → check_of file ≡ Err c → start_said (start_of file cells row).answer ≡ refused c

abbrev pub BeginTableRefused : List ℕ → (n i o : ℕ) → Task → Type 0
BeginTableRefused file n i o t = (c : Refusal) → layout_of file ≡ Err c → begin_said (begin_task file n i o t).answer ≡ Refused (number_of c)

abbrev pub StepTableRefused : (file cells : List ℕ) (n i : ℕ) → Task → Type 0
StepTableRefused file cells n i t = (c : Refusal) → layout_of file ≡ Err c → step_said (step_task file cells n i t).answer ≡ Refused (number_of c)

-- A table has passed its test, and there are 0 or more than 8 tasks.
abbrev pub RowRefused : Result Shape Refusal → ℕ → Type 0
RowRefused tested n = ((shape : Shape) × (tested ≡ Ok shape)) × (1 ≤ n → n ≤ 8 → ⊥)

-- 5 is answered exactly then, whatever else is lent: by start after the tests for 1 to 4, by begin and step after those for 1 to 3.
abbrev pub StartRowJudged : (file cells : List ℕ) → List Task → Type 0
StartRowJudged file cells row = (start_said (start_of file cells row).answer ≡ refused_by 5) ↔ RowRefused (check_of file) (length row)

abbrev pub BeginRowJudged : List ℕ → (n i o : ℕ) → Task → Type 0
BeginRowJudged file n i o t = (begin_said (begin_task file n i o t).answer ≡ Refused 5) ↔ RowRefused (layout_of file) n

abbrev pub StepRowJudged : (file cells : List ℕ) (n i : ℕ) → Task → Type 0
StepRowJudged file cells n i t = (step_said (step_task file cells n i t).answer ≡ Refused 5) ↔ RowRefused (layout_of file) n

-- ---- The entries that begin tests, for all arguments

-- The tests of a begin before 4 are passed: 1, 2, 3, 5, 7 and 8.
pub record BeginAsked (file : List ℕ) (n i o : ℕ) : Type 0 where
  pub accepted : layout_of file ≡ Ok (shape_of file)
  pub some : 1 ≤ n
  pub few : n ≤ 8
  pub below : i < n
  pub known : o < (shape_of file).operations

-- Begin answers 4 exactly if they are passed and some entry of the table, of any operation, leads to no state of the table, whatever
-- the record holds.
abbrev pub BeginEntriesJudged : List ℕ → (n i o : ℕ) → Task → Type 0
BeginEntriesJudged file n i o t =
    (begin_said (begin_task file n i o t).answer ≡ Refused 4) ↔ (BeginAsked file n i o × OutOfRange file (shape_of file))

-- ---- Cells and records in form and out of form, for all arguments

-- A record in form for n tasks of the table in a file.
abbrev pub FitsTable : List ℕ → ℕ → Task → Type 0
FitsTable file n t = RecordFits (shape_of file) n (1000 * (n * n * n)) t

-- The tests of a step before 11 are passed: 1, 2, 3, 5, 6 and 7.
pub record StepTested (file cells : List ℕ) (n i : ℕ) : Type 0 where
  pub accepted : layout_of file ≡ Ok (shape_of file)
  pub some : 1 ≤ n
  pub few : n ≤ 8
  pub long : length cells ≡ n + 1
  pub below : i < n

-- The tests of a begin before 11 are passed: those before 4, and 4 on all entries.
pub record BeginTested (file : List ℕ) (n i o : ℕ) : Type 0 where
  pub asked : BeginAsked file n i o
  pub ranged : AllInRange file (shape_of file)

-- Then 11 is answered exactly if the record is out of form, whatever the cells hold.
abbrev pub RecordJudged : (file cells : List ℕ) (n i : ℕ) → Task → Type 0
RecordJudged file cells n i t =
    StepTested file cells n i → (step_said (step_task file cells n i t).answer ≡ Refused 11) ↔ (FitsTable file n t → ⊥)

abbrev pub BeginRecordJudged : List ℕ → (n i o : ℕ) → Task → Type 0
BeginRecordJudged file n i o t =
    BeginTested file n i o → (begin_said (begin_task file n i o t).answer ≡ Refused 11) ↔ (FitsTable file n t → ⊥)

-- The cell that a step touches is in form for n tasks, in these cells.
abbrev pub TouchedFits : (file cells : List ℕ) (n i : ℕ) → Task → Type 0
TouchedFits file cells n i t =
    let k = touched (access_of file n i t) in CellFits (shape_of file).states (shape_of file).operations n k (get_or cells k 0)

-- With a pending record in form, 12 is answered exactly if the touched cell is out of form.
abbrev pub CellJudged : (file cells : List ℕ) (n i : ℕ) → Task → Type 0
CellJudged file cells n i t =
    StepTested file cells n i → FitsTable file n t → t.phase ≢ 0
    → (step_said (step_task file cells n i t).answer ≡ Refused 12) ↔ (TouchedFits file cells n i t → ⊥)

-- A step that says a number, and leaves cells and record as they were; a begin that does.
pub record StepRefused (k : ℕ) (file cells : List ℕ) (n i : ℕ) (t : Task) : Type 0 where
  pub said : step_said (step_task file cells n i t).answer ≡ Refused k
  pub cells_left : (step_task file cells n i t).cells ≡ cells
  pub task_left : (step_task file cells n i t).task ≡ t

pub record BeginRefused (k : ℕ) (file : List ℕ) (n i o : ℕ) (t : Task) : Type 0 where
  pub said : begin_said (begin_task file n i o t).answer ≡ Refused k
  pub task_left : (begin_task file n i o t).task ≡ t

-- So a holder above n is refused with 12 in cell 0 if the step touches it, and with 11 in the saved head of a pending record.
abbrev pub HolderAbove : (file cells : List ℕ) (n i : ℕ) → Task → Type 0
HolderAbove file cells n i t =
    StepTested file cells n i → FitsTable file n t → t.phase ≢ 0
    → touched (access_of file n i t) ≡ 0 → n < holder_in (get_or cells 0 0) → StepRefused 12 file cells n i t

abbrev pub SavedHolderAbove : (file cells : List ℕ) (n i : ℕ) → Task → Type 0
SavedHolderAbove file cells n i t =
    StepTested file cells n i → t.phase ≢ 0 → n < holder_in t.head → StepRefused 11 file cells n i t

abbrev pub BeginHolderAbove : List ℕ → (n i o : ℕ) → Task → Type 0
BeginHolderAbove file n i o t = BeginTested file n i o → t.phase ≢ 0 → n < holder_in t.head → BeginRefused 11 file n i o t

-- If a step is not refused, the saved head was in form, and so was cell 0 if the step touched it.
abbrev pub HeadsInForm : (file cells : List ℕ) (n i : ℕ) → Task → Type 0
HeadsInForm file cells n i t =
    Unrefused (step_task file cells n i t).answer
    → (head_in_form (shape_of file).states n t.head ≡ true)
    × (touched (access_of file n i t) ≡ 0 → head_in_form (shape_of file).states n (get_or cells 0 0) ≡ true)

-- A step that is not refused leaves a record in form, whatever the cells hold, as long as its count is below the ceiling.
abbrev pub KeepsForm : (file cells : List ℕ) (n i : ℕ) → Task → Type 0
KeepsForm file cells n i t =
    Unrefused (step_task file cells n i t).answer
    → (step_task file cells n i t).task.steps < 1000 * (n * n * n) → FitsTable file n (step_task file cells n i t).task

-- With a file of bytes it leaves the cell that it touched in form.
abbrev pub LeavesInForm : (file cells : List ℕ) (n i : ℕ) → Task → Type 0
LeavesInForm file cells n i t =
    Bytes file → Unrefused (step_task file cells n i t).answer → TouchedFits file (step_task file cells n i t).cells n i t

-- ---- Start

-- Start is accepted exactly if the table is, there are 1 to 8 records, and there is one cell more.
abbrev pub Startable : (file cells : List ℕ) → List Task → Type 0
Startable file cells row =
    ((start_of file cells row).answer ≡ (Ok tt))
    ↔ (((shape : Shape) × (check_of file ≡ Ok shape)) × (1 ≤ length row) × (length row ≤ 8) × (length cells ≡ length row + 1))

-- An accepted start of a file of bytes opens a run in the table's start state.
abbrev pub StartOpens : (file cells : List ℕ) → List Task → Type 0
StartOpens file cells row =
    Bytes file → (start_of file cells row).answer ≡ (Ok tt) → Opening file (length row) (shape_of file).start (start_store file cells row)

-- ---- Demands 2 and 3 as one statement: the plain book, linearizability, the image at rest, prints at work, a bound of own steps

abbrev pub DemandsWithin : ℕ → {file : List ℕ} {n q : ℕ} {s : Store} → Opening file n q s → Type 0
DemandsWithin bound {n = n} {q = q} o = Demand (object_in o) n q bound (image n) (Print (object_in o) n q) (shown o)

-- With the ceiling of docs/RUNS.md, 1,000·n³.
abbrev pub Demands : {file : List ℕ} {n q : ℕ} {s : Store} → Opening file n q s → Type 0
Demands {n = n} o = DemandsWithin (1000 * (n * n * n)) o

-- With the sharper bound that is offered to planners, n²(16n + 47) + 98n + 32.
abbrev pub SharperDemands : {file : List ℕ} {n q : ℕ} {s : Store} → Opening file n q s → Type 0
SharperDemands {n = n} o = DemandsWithin (n * n * (16 * n + 47) + 98 * n + 32) o

-- At two points of rest, of one run or of two with equally many tasks, the cells are equal exactly if the states are.
abbrev pub Independent : {file file' : List ℕ} {n q q' : ℕ} {s s' : Store} (o : Opening file n q s) (o' : Opening file' n q' s') → Demands o → Demands o' → Type 0
Independent o o' d d' =
    (xs xs' : List Call) → Rest (object_in o) ((shown o).history xs) → Rest (object_in o') ((shown o').history xs')
    → ((shown o).cells xs ≡ (shown o').cells xs') ↔ ((d.book xs).state ≡ (d'.book xs').state)

-- ---- What an operation answers, and what the cells carry of it

-- The operation x stands in an order that begins in state q, and response and moved are those of the entry that it used: the one of
-- the state that replay of the operations before it reaches, and of x's operation.
pub record EntryUsed (file : List ℕ) (shape : Shape) (q : ℕ) (order : List Operation) (x : Operation) (response : ℕ) (moved : Bool) : Type 0 where
  pub place : ℕ
  pub stands : At order place x
  pub response_used : response ≡ (entry_of file shape (reached (object_of file shape) q (take place order)) x.operation).response
  pub moved_used : moved ≡ moves file shape (reached (object_of file shape) q (take place order)) x.operation

-- An operation that ended answered response and moved of the entry that it used.
abbrev pub Answered : {file : List ℕ} {n q : ℕ} {s : Store} (o : Opening file n q s) → Demands o → Type 0
Answered {file} {q = q} o d =
    (xs : List Call) (x : Operation) (p r : ℕ) (moved : Bool) → Begins ((shown o).history xs) x
    → Ends ((shown o).history xs) x p (record { response = r; moved = moved }) → EntryUsed file o.shape q (d.book xs).order x r moved

-- The cells carry response and moved for task j: cell 0 with j as its holder, or cell j + 1 with kind 2.
pub data CarriedFor (cells : List ℕ) (j r : ℕ) (moved : Bool) : Type 0 where
  in_head : {p : ℕ} → head_of (get_or cells 0 0) ≡ head.Held p j r moved → CarriedFor cells j r moved
  in_announcement : announcement_of (get_or cells (j + 1) 0) ≡ content.Response r moved → CarriedFor cells j r moved

-- Over what a run shows and the book kept along it: what the cells carry for a task, at any point, is response and moved of the entry
-- that its open operation used; so that operation stands in the order.
abbrev pub CarriedAlong : (file : List ℕ) (shape : Shape) (q : ℕ) → Shown (List ℕ) → (List Call → Book) → Type 0
CarriedAlong file shape q run book =
    (xs : List Call) (j r : ℕ) (moved : Bool) → CarriedFor (run.cells xs) j r moved
    → (x : Operation) × (x.task ≡ j) × Open (run.history xs) x × EntryUsed file shape q (book xs).order x r moved

abbrev pub Carried : {file : List ℕ} {n q : ℕ} {s : Store} (o : Opening file n q s) → Demands o → Type 0
Carried {file} {q = q} o d = CarriedAlong file o.shape q (shown o) d.book

-- ---- Every point of a run

-- What may be read in a print, after the opening and after each call, a refused one too: with the order of the book of the demands.
abbrev pub Prints : {file : List ℕ} {n q : ℕ} {s : Store} (o : Opening file n q s) → Demands o → Type 0
Prints {n = n} {q = q} o d = (xs : List Call) → Print (object_in o) n q ((shown o).cells xs) ((shown o).history xs) (d.book xs).order

-- It follows that a task which the cells show, by its announcement, a mark or the holder, has a changing operation pending.
abbrev pub ShownChanges : {file : List ℕ} {n q : ℕ} {s : Store} → Opening file n q s → Type 0
ShownChanges o = (xs : List Call) (t : ℕ) → Shows ((shown o).cells xs) t → Changes (object_in o) (pending ((shown o).history xs) t)

-- A task whose operation has made a step is shown by its announcement.
abbrev pub StaysAnnounced : {file : List ℕ} {n q : ℕ} {s : Store} → Opening file n q s → Type 0
StaysAnnounced o = (xs : List Call) (t x k : ℕ) → pending ((shown o).history xs) t ≡ Pends x (k + 1) → EmptyAt ((shown o).cells xs) t → ⊥

-- The book's state is the one that its order has reached; so the head shows it.
abbrev pub StateReached : {file : List ℕ} {n q : ℕ} {s : Store} (o : Opening file n q s) → Demands o → Type 0
StateReached {q = q} o d =
    (xs : List Call) → ((d.book xs).state ≡ reached (object_in o) q (d.book xs).order) × (state_in_word (get_or ((shown o).cells xs) 0 0) ≡ (d.book xs).state)

-- The task's record after a list of calls.
abbrev pub record_after : {file : List ℕ} {n q : ℕ} {s : Store} → Opening file n q s → List Call → ℕ → Task
record_after {file} {s = s} o xs t = task_at (run_of file xs s).row t

-- There are n + 1 cells, all in form, and n records, all in form.
pub record PointInForm {file : List ℕ} {n q : ℕ} {s : Store} (o : Opening file n q s) (xs : List Call) : Type 0 where
  pub cells_long : length ((shown o).cells xs) ≡ n + 1
  pub cells : cells_in_form o.shape.states o.shape.operations n ((shown o).cells xs) ≡ true
  pub row_long : length (run_of file xs s).row ≡ n
  pub row : (i : ℕ) → i < n → FitsTable file n (record_after o xs i)

-- At every point: after the opening, and after each call, a refused one too.
abbrev pub InFormThroughout : {file : List ℕ} {n q : ℕ} {s : Store} → Opening file n q s → Type 0
InFormThroughout o = (xs : List Call) → PointInForm o xs

-- In a run begin and step are refused with 7, 8, 9 and 10 alone: 4, 11 and 12 never occur.
abbrev pub Refusals : {file : List ℕ} {n q : ℕ} {s : Store} → Opening file n q s → Type 0
Refusals o = (xs : List Call) (x : Call) (k : ℕ) → (shown o).answer xs x ≡ Refused k → (7 ≤ k) × (k ≤ 10)

-- ---- How an operation ends

-- The last step of an operation x that task t has pending after the calls xs.
pub record LastStep {file : List ℕ} {n q : ℕ} {s : Store} (o : Opening file n q s) (xs : List Call) (t x : ℕ) : Type 0 where
  -- A reading operation ends in its first step, that step is a read of the head, and it says that the state has not moved.
  pub reading : changing file o.shape x ≡ false
      → (access_of file n t (record_after o xs t) ≡ Read 0)
      × ((r : ℕ) × ((shown o).answer xs (Step t) ≡ Ended (record { response = r; moved = false }) 1))
  -- A changing one ends with a write of 0 to its announcement.
  pub ending : changing file o.shape x ≡ true → (r : Outcome) (k : ℕ) → (shown o).answer xs (Step t) ≡ Ended r k
      → access_of file n t (record_after o xs t) ≡ Write (t + 1) 0

abbrev pub Endings : {file : List ℕ} {n q : ℕ} {s : Store} → Opening file n q s → Type 0
Endings o = (xs : List Call) (t x k : ℕ) → pending ((shown o).history xs) t ≡ Pends x k → LastStep o xs t x

-- The step that empties the announcement of a task is the one that ends its changing operation, and no other call empties it.
abbrev pub Emptied : {file : List ℕ} {n q : ℕ} {s : Store} → Opening file n q s → Type 0
Emptied {n = n} o = Emptyings (object_in o) n EmptyAt (shown o)

-- ---- Other calls between those of a run

-- Whatever stands between, if it is refused or on other memory, the calls of the run are a run.
abbrev pub Between : Places → Type 0
Between p = (m m' : Memory) (xs : List LentCall) (es : List Event) → Around p m xs es m' → SameRun p m es m'

-- An accepted start, on whatever memory, leaves at its places what start leaves, and so opens the next run there.
abbrev pub OpensNext : Places → Type 0
OpensNext p =
    (m : Memory) → let file = m.table p.table in let cells = m.cells p.cells in let row = m.row p.row in
    (serve_lent (LentStart p) m).answer ≡ RunOpened
    → ((start_of file cells row).answer ≡ (Ok tt)) × (store_at p (serve_lent (LentStart p) m).memory ≡ start_store file cells row)
