-- The theorems about start, begin and step: a proof of each statement of specs/Statement.antt.
use mathlib.Core.Path.{◌≡◌, ap, sym, ◌∙◌}
use mathlib.Core.List.{List}
use Prim.Native.Nat.{ℕ, ◌+◌, ◌*◌}
use native.Mathlib.Omega.{arith}
use Rattle.cells.specs.Field.{pack}
use Rattle.cells.specs.Image.{image}
use Rattle.cells.specs.Layout.{announcement_word}
use Rattle.cells.proofs.Images.{image_injective}
use Rattle.machine.specs.Run.{history, start}
use Rattle.table.specs.Entries.{entry_of}
use Rattle.machine.specs.Calls.{Step, Ended}
use Rattle.machine.specs.Keeping.{book_of}
use Rattle.machine.specs.History.{Pends, pending}
use Rattle.machine.proofs.Points.OwnSteps.{next_step}
use Rattle.machine.proofs.Whole.Books.{state_replayed}
use Rattle.machine.proofs.Whole.WaitFree.{bound_ceiling}
use Rattle.records.specs.declared.record.Task.{Task}
use Rattle.transition.specs.Encoding.{encode_access}
use Rattle.stepping.specs.Call.{Begin}
use Rattle.stepping.specs.Step.{TaskOutcome}
use Rattle.stepping.specs.Call.{StartOutcome, start_of, admit_start_of, begin_task, step_task, admit_of}
use Rattle.stepping.specs.Runs.{Store}
use Rattle.stepping.specs.Opening.{Opening, object_in}
use Rattle.stepping.specs.Lent.{Places}
use Rattle.stepping.specs.Statement.{MakesAccess, FollowsResult, Local, OneCell, BeginByRecord, StepByRecord, StartUnchanged, BeginUnchanged, StepUnchanged, BeginRecordUnchanged, StepRecordUnchanged, StartTableRefused, BeginTableRefused, StepTableRefused, StartRowJudged, BeginRowJudged, StepRowJudged, BeginEntriesJudged, RecordJudged, BeginRecordJudged, CellJudged, HolderAbove, SavedHolderAbove, BeginHolderAbove, HeadsInForm, KeepsForm, LeavesInForm, Startable, StartOpens, Demands, SharperDemands, Independent, Answered, Carried, Prints, ShownChanges, StaysAnnounced, StateReached, InFormThroughout, Refusals, Endings, Emptied, Between, OpensNext}
use Rattle.stepping.proofs.Between.{between, opens_next}
use Rattle.stepping.proofs.Demands.{opens, points_in_form, announced_opened, history_opened, answer_opened, access_opened, refused_opened, emptied}
use Rattle.stepping.proofs.Outcomes.{answered, met, unmoved}
use Rattle.stepping.proofs.Prints.{shown_changes}
use Rattle.stepping.proofs.Forms.{heads_in_form, keeps_form, leaves_in_form}
use Rattle.stepping.proofs.Judged.{record_judged, begin_record_judged, cell_judged, holder_above, saved_holder_above, begin_holder_above}
use Rattle.stepping.proofs.Rows.{start_row_judged, begin_row_judged, step_row_judged}
use Rattle.stepping.proofs.Entries.{begin_entries_judged}
use Rattle.stepping.proofs.Local.{step_local, step_elsewhere}
use Rattle.stepping.proofs.AccessRule.{makes_access, follows_result}
use Rattle.stepping.proofs.ByRecord.{begin_by_record, step_by_record}
use Rattle.stepping.proofs.Refused.{refused_start, refused_begin, refused_step, refused_begin_row, refused_step_row}
use Rattle.stepping.proofs.Starts.{startable, accepted_start}

-- ---- The access rule

-- A step makes the access that was planned, and follows from what it gave back.
pub access_made : (file cells : List ℕ) (n i : ℕ) (t : Task) → MakesAccess file cells n i t
access_made = makes_access

pub result_followed : (file cells others : List ℕ) (n i : ℕ) (t : Task) → FollowsResult file cells others n i t
result_followed = follows_result

-- A step looks at one cell, and touches no other.
pub looks_at_one_cell : (file cells others : List ℕ) (n i : ℕ) (t : Task) → Local file cells others n i t
looks_at_one_cell file cells others n i t long e = step_local file cells others n i t long e

pub touches_one_cell : (file cells : List ℕ) (n i : ℕ) (t : Task) → OneCell file cells n i t
touches_one_cell file cells n i t = step_elsewhere file cells n i t

-- ---- A row, and refusals

pub begins_by_record : (file : List ℕ) (row : List Task) (i o : ℕ) → BeginByRecord file row i o
begins_by_record = begin_by_record

pub steps_by_record : (file cells : List ℕ) (row : List Task) (i : ℕ) → StepByRecord file cells row i
steps_by_record = step_by_record

pub start_unchanged : (file cells : List ℕ) (row : List Task) → StartUnchanged file cells row
start_unchanged file cells row c e =
    let same = refused_start cells row file c e in
    (ap (λ (out : StartOutcome). out.cells) same, ap (λ (out : StartOutcome). out.row) same)

pub begin_unchanged : (file : List ℕ) (row : List Task) (i o : ℕ) → BeginUnchanged file row i o
begin_unchanged = refused_begin_row

pub step_unchanged : (file cells : List ℕ) (row : List Task) (i : ℕ) → StepUnchanged file cells row i
step_unchanged file cells row i c e = let (same_row, same_cells) = refused_step_row file row i cells c e in (same_cells, same_row)

pub begin_record_unchanged : (file : List ℕ) (n i o : ℕ) (t : Task) → BeginRecordUnchanged file n i o t
begin_record_unchanged file n i o t c e = ap (λ (out : Begin). out.task) (refused_begin t file n i o c e)

pub step_record_unchanged : (file cells : List ℕ) (n i : ℕ) (t : Task) → StepRecordUnchanged file cells n i t
step_record_unchanged file cells n i t c e =
    let same = refused_step file cells n i t c e in
    (ap (λ (out : TaskOutcome). out.cells) same, ap (λ (out : TaskOutcome). out.task) same)

-- ---- The table and the number of tasks

-- A refused table is answered by its number; after an accepted one 5 comes exactly for 0 or more than 8 tasks.
pub start_table_refused : (file cells : List ℕ) (row : List Task) → StartTableRefused file cells row
unfolding start_of admit_start_of
start_table_refused file cells row c e = rw e

pub begin_table_refused : (file : List ℕ) (n i o : ℕ) (t : Task) → BeginTableRefused file n i o t
unfolding begin_task admit_of
begin_table_refused file n i o t c e = rw e

pub step_table_refused : (file cells : List ℕ) (n i : ℕ) (t : Task) → StepTableRefused file cells n i t
unfolding step_task admit_of
step_table_refused file cells n i t c e = rw e

pub start_row_known : (file cells : List ℕ) (row : List Task) → StartRowJudged file cells row
start_row_known = start_row_judged

pub begin_row_known : (file : List ℕ) (n i o : ℕ) (t : Task) → BeginRowJudged file n i o t
begin_row_known = begin_row_judged

pub step_row_known : (file cells : List ℕ) (n i : ℕ) (t : Task) → StepRowJudged file cells n i t
step_row_known = step_row_judged

-- 4 comes from begin exactly for a table with some entry out of range, after the tests of file, row and numbers.
pub begin_entries_known : (file : List ℕ) (n i o : ℕ) (t : Task) → BeginEntriesJudged file n i o t
begin_entries_known = begin_entries_judged

-- ---- Cells and records in form and out of form

-- 11 and 12 come exactly for records and touched cells out of form; so they do for a holder above n.
pub record_known : (file cells : List ℕ) (n i : ℕ) (t : Task) → RecordJudged file cells n i t
record_known = record_judged

pub begin_record_known : (file : List ℕ) (n i o : ℕ) (t : Task) → BeginRecordJudged file n i o t
begin_record_known = begin_record_judged

pub cell_known : (file cells : List ℕ) (n i : ℕ) (t : Task) → CellJudged file cells n i t
cell_known = cell_judged

pub holder_refused : (file cells : List ℕ) (n i : ℕ) (t : Task) → HolderAbove file cells n i t
holder_refused = holder_above

pub saved_holder_refused : (file cells : List ℕ) (n i : ℕ) (t : Task) → SavedHolderAbove file cells n i t
saved_holder_refused = saved_holder_above

pub begin_holder_refused : (file : List ℕ) (n i o : ℕ) (t : Task) → BeginHolderAbove file n i o t
begin_holder_refused = begin_holder_above

-- A step that is not refused has found its heads in form, and leaves record and touched cell in form.
pub heads_formed : (file cells : List ℕ) (n i : ℕ) (t : Task) → HeadsInForm file cells n i t
heads_formed = heads_in_form

pub form_kept : (file cells : List ℕ) (n i : ℕ) (t : Task) → KeepsForm file cells n i t
form_kept = keeps_form

pub cell_left_formed : (file cells : List ℕ) (n i : ℕ) (t : Task) → LeavesInForm file cells n i t
cell_left_formed = leaves_in_form

-- ---- Start

pub start_accepted : (file cells : List ℕ) (row : List Task) → Startable file cells row
start_accepted = startable

pub start_opens : (file cells : List ℕ) (row : List Task) → StartOpens file cells row
start_opens = accepted_start

-- ---- Runs

module _ {file : List ℕ} {n q : ℕ} {s : Store} (o : Opening file n q s) where
  pub demands_met : Demands o
  demands_met = (met o (1000 * (n * n * n)) (bound_ceiling n o.some)).0

  pub sharper_demands_met : SharperDemands o
  sharper_demands_met = (met o (n * n * (16 * n + 47) + 98 * n + 32) (omega arith)).0

  pub answered_known : (d : Demands o) → Answered o d
  answered_known = answered o

  pub carried_known : Carried o demands_met
  unfolding demands_met
  carried_known = (met o (1000 * (n * n * n)) (bound_ceiling n o.some)).1

  -- What may be read in a print, at every point, with the order of that book.
  pub prints : Prints o demands_met
  prints = demands_met.prints

  pub changes_shown : ShownChanges o
  changes_shown xs t z = shown_changes (object_in o) n q _ _ _ (prints xs) t z

  pub announced_still : StaysAnnounced o
  announced_still = announced_opened o

  pub state_reached : (d : Demands o) → StateReached o d
  state_reached d xs = let replayed = state_replayed d xs in (replayed, (d.prints xs).state ∙ sym replayed)

  pub in_form_throughout : InFormThroughout o
  in_form_throughout = points_in_form o

  pub refusals_known : Refusals o
  refusals_known xs x k e = refused_opened o xs x k e

  pub emptied_known : Emptied o
  emptied_known = emptied o

  pub endings_known : Endings o
  unfolding announcement_word pack
  endings_known xs t x k e =
      let b = object_in o in
      let p : pending (history b n xs (start q)) t ≡ Pends x k = ap (λ es. pending es t) (sym (history_opened o xs)) ∙ e in
      let z = next_step b n q (opens o) xs t x k p in
      let same = answer_opened o xs (Step t) in
      let access = access_opened o xs t x k p in
      record {
        reading = λ reads. (
          access ∙ ap encode_access (z.reading reads).0,
          (_, same ∙ (z.reading reads).1 ∙ ap (λ v. Ended (record { response = (entry_of file o.shape (book_of b n q xs).state x).response; moved = v }) 1) (unmoved o xs x reads)),
        );
        ending = λ changes r c answered. access ∙ ap encode_access (z.ending changes r c (sym same ∙ answered));
      }

-- ---- Other calls between those of a run

-- Refused calls, and calls on other memory, leave the run as it is; an accepted start opens the next.
pub runs_apart : (p : Places) → Between p
runs_apart = between

pub start_opens_next : (p : Places) → OpensNext p
start_opens_next = opens_next

-- Equal cells at rest tell equal states, and the other way round.
pub independent : {file file' : List ℕ} {n q q' : ℕ} {s s' : Store} (o : Opening file n q s) (o' : Opening file' n q' s') (d : Demands o) (d' : Demands o') → Independent o o' d d'
independent {n = n} o o' d d' xs xs' r r' =
    (λ e. image_injective n _ _ (sym (d.rest xs r) ∙ e ∙ d'.rest xs' r'), λ e. d.rest xs r ∙ ap (image n) e ∙ sym (d'.rest xs' r'))
