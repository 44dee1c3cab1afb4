-- Begin and step on encoded cells and records do what the machine's begin and step do on the configuration.
use Rattle.std.specs.Prelude.{Ok}
use mathlib.Core.Path.{◌≡◌, refl, ap, sym, subst, ◌∙◌}
use mathlib.Core.Bool.{Bool, true, false, cond}
use mathlib.Core.List.{List, [], ◌∷◌}
use Prim.Native.Nat.{ℕ, ◌+◌, ◌<◌, ◌≤◌}
use borrow.Author.Tests.{ltb-true, lt-ltb, eq-eqb}
use lib.Dec.{ltb}
use lib.ListN.{length, set}
use lib.Seq.{set-get_or}
use Rattle.refusal.specs.declared.Refusal.{Refusal}
use Rattle.refusal.specs.declared.Refusal.TheVariants as cause
use Rattle.refusal.specs.Number.{number_of}
use Rattle.cells.specs.Layout.{marks_width}
use Rattle.table.specs.declared.Shape.{Shape}
use Rattle.table.specs.Entries.{entries_in_range}
use Rattle.table.proofs.Accepted.{accepted_parts}
use Rattle.reach.specs.Changing.{changing}
use Rattle.machine.specs.Object.{Object}
use Rattle.machine.specs.Memory.{Memory}
use Rattle.machine.specs.Machine as machine
use Rattle.machine.specs.Machine.{plan, result, perform, advance}
use Rattle.machine.specs.Kind.{kind, off}
use Rattle.machine.specs.Run.{Config, first_phase, unserved, outcome_of_step, stepped, step, begun, begin, serve, run, history}
use Rattle.machine.specs.Calls.{Call, Begin, Step, Event}
use Rattle.machine.specs.Form.{Formed}
use Rattle.records.specs.declared.record.Task.{Task}
use Rattle.records.specs.declared.phase.Phase.TheVariants as phase
use Rattle.transition.specs.declared.access.Next.{Next}
use Rattle.stepping.specs.Call as call
use Rattle.records.specs.Phase.{phase_number}
use Rattle.records.specs.Record.{idle_task, read_record, RecordFits}
use Rattle.transition.specs.Transition.{next_of}
use Rattle.transition.specs.Object.{ObjectTable, object_of}
use Rattle.transition.specs.Encoding.{kept, encode_task, encode_access, encode_result}
use Rattle.transition.proofs.Plans.{plan_simulates}
use Rattle.transition.proofs.Nexts.{next_simulates}
use Rattle.stepping.specs.Step.{advance_of, answer_of, TaskOutcome}
use Rattle.stepping.specs.Call.{admit_of, refuse_step, step_from, step_task, step_of, begun_task, refuse_begin, begin_from, begin_task, begin_of, task_at, step_said, begin_said}
use Rattle.stepping.specs.Encoding.{encode_cells, encode_row, encode_config, encode_served}
use Rattle.stepping.specs.Runs.{serve_of, run_of, history_of}
use Rattle.laws.proofs.Tabulate.{tabulate_length, tabulate_at, tabulate_set}
use Rattle.records.proofs.Saved.{idle_read}
use Rattle.stepping.proofs.Admission.{ceiling, admits}
use Rattle.stepping.proofs.Records.{pending_read, pending_number, idle_kept, task_fits}
use Rattle.stepping.proofs.Accesses.{cells_length, touched_in_form, result_simulates, perform_simulates}
use Rattle.stepping.proofs.Planned.{plan_formed, entry_in_range_lem}
use Rattle.stepping.proofs.Advances.{advance_simulates, answer_simulates}
use Rattle.stepping.specs.Access.{access_of as word_access}

-- A configuration whose cells and records are in range, with the steps of every pending operation below the ceiling.
pub record InRange (b : Object) (n : ℕ) (c : Config) : Type 0 where
  pub formed : Formed b n c
  pub timely : (i : ℕ) → i < n → off (kind (c.task i).phase) ≡ false → (c.task i).steps < ceiling n

-- The record of a task that has begun, by whether its operation is changing.
begun_encoded : (o p : ℕ) (change : Bool) → ◌≡◌ {A = Task} (record { head = 0; announcement = 0; payload = 0; steps = 0; operation = o; priority = p; phase = cond change (phase_number phase.Announce) (phase_number phase.ReadOnly) }) (encode_task (record { phase = first_phase change; operation = o; priority = p; steps = 0 }))
begun_encoded o p true = refl
begun_encoded o p false = refl

module _ (file : List ℕ) (shape : Shape) (table : ObjectTable file shape) (n : ℕ) (some : 1 ≤ n) (most : n ≤ marks_width) where
  abbrev object : Object
  object = object_of file shape

  -- The tests that all calls share are passed.
  admitted : admit_of file n ≡ (Ok (record { ceiling = (ceiling n); shape = shape }))
  admitted = admits file n shape (accepted_parts file shape table.accepted).0 some most

  -- One task's part of a step: task i is below n, or refused.
  step_task_lem : (m : Memory) (i : ℕ) (t : Task) → step_task file (encode_cells n m) n i t ≡ cond (ltb i n) (step_from file shape (encode_cells n m) n i t (read_record shape n (ceiling n) t)) (refuse_step (encode_cells n m) t cause.Task)
  unfolding step_task
  step_task_lem m i t = rw (admitted, eq-eqb (length (encode_cells n m)) (n + 1) (cells_length n m))

  module _ (c : Config) (range : InRange object n c) (i : ℕ) where
    -- The row has n records, and the record of task i is its encoding.
    row_length : length (encode_row n c.task) ≡ n
    row_length = tabulate_length n (λ k. encode_task (c.task k))

    task_at_lem : i < n → task_at (encode_row n c.task) i ≡ encode_task (c.task i)
    task_at_lem below = tabulate_at n (λ k. encode_task (c.task k)) (idle_task 0) i below

    -- It is in form.
    pub record_fits : i < n → RecordFits shape n (ceiling n) (task_at (encode_row n c.task) i)
    record_fits below = subst (RecordFits shape n (ceiling n)) (sym (task_at_lem below)) (task_fits file shape table n most (ceiling n) (c.task i) (range.formed.task i below) (range.timely i below))

    -- A step of the row is the step of its task; a refused one leaves the row.
    step_store : (out : TaskOutcome) → step_task file (encode_cells n c.memory) n i (task_at (encode_row n c.task) i) ≡ out → serve_of file (Step i) (encode_config n c) ≡ record { store = record { cells = out.cells; row = set (encode_row n c.task) i out.task }; answer = step_said out.answer }
    unfolding step_of
    step_store out e = rw (row_length, e)

    step_refused : (reason : Refusal) → step_task file (encode_cells n c.memory) n i (task_at (encode_row n c.task) i) ≡ refuse_step (encode_cells n c.memory) (task_at (encode_row n c.task) i) reason → serve_of file (Step i) (encode_config n c) ≡ encode_served n (unserved c (number_of reason))
    step_refused reason e = step_store (refuse_step (encode_cells n c.memory) (task_at (encode_row n c.task) i) reason) e ∙ rw (set-get_or (encode_row n c.task) i (idle_task 0))

    -- By the task's number, and by whether it is idle.
    step_unknown : ltb i n ≡ false → serve_of file (Step i) (encode_config n c) ≡ encode_served n (unserved c 7)
    step_unknown e = step_refused cause.Task (step_task_lem c.memory i (task_at (encode_row n c.task) i) ∙ rw e)

    step_idle : i < n → off (kind (c.task i).phase) ≡ true → serve_of file (Step i) (encode_config n c) ≡ encode_served n (unserved c 10)
    step_idle below e =
        let t = range.formed.task i below in
        step_refused cause.Idle
        (rw (task_at_lem below, idle_kept file shape table n most (c.task i) t e, step_task_lem c.memory i (idle_task (c.task i).priority), lt-ltb i n below, idle_read shape n (ceiling n) (c.task i).priority t.priority))

    -- The access, and what follows for the record, of a pending operation's step.
    abbrev access_of : machine.Access
    access_of = plan object i (c.task i).priority (c.task i).operation (c.task i).phase

    pub access_simulates : i < n → off (kind (c.task i).phase) ≡ false → word_access file n i (task_at (encode_row n c.task) i) ≡ encode_access access_of
    unfolding word_access
    access_simulates below e =
        let t = range.formed.task i below in
        rw (task_at_lem below, admitted, pending_read file shape table n most (ceiling n) (c.task i) t e (range.timely i below e))
        (plan_simulates file shape table n most i (c.task i).priority (c.task i).operation (c.task i).steps below (c.task i).phase t.phase)

    abbrev next_in : Next
    next_in = next_of file shape i (c.task i).priority (encode_task (c.task i)) (kept (c.task i).phase).phase (encode_result (result access_of c.memory))

    step_served : i < n → off (kind (c.task i).phase) ≡ false → step_task file (encode_cells n c.memory) n i (encode_task (c.task i)) ≡ record { cells = encode_cells n (perform access_of c.memory); task = advance_of n (encode_task (c.task i)) next_in; answer = answer_of (encode_task (c.task i)) next_in }
    step_served below e =
        let t = range.formed.task i below in
        let m = range.formed.memory in
        let p = (c.task i).priority in
        let x = (c.task i).operation in
        let s = (c.task i).steps in
        let f = (c.task i).phase in
        let a = plan_formed file shape table n most i p x s below f e t.priority t.phase in
        rw (step_task_lem c.memory i (encode_task (c.task i)), lt-ltb i n below, pending_read file shape table n most (ceiling n) (c.task i) t e (range.timely i below e), pending_number file shape table n most (c.task i) t e, plan_simulates file shape table n most i p x s below f t.phase, touched_in_form file shape table n most c.memory m access_of a, entry_in_range_lem file shape table n most i p x s below c.memory m f t.phase t.operation, result_simulates file shape table n most c.memory m access_of a, perform_simulates file shape table n most c.memory m access_of a)

    step_pending : i < n → off (kind (c.task i).phase) ≡ false → serve_of file (Step i) (encode_config n c) ≡ encode_served n (stepped object n i c)
    step_pending below e =
        let t = range.formed.task i below in
        let next = next_simulates file shape table n most c.memory range.formed.memory i (c.task i).priority (c.task i).operation (c.task i).steps below (c.task i).phase t.phase in
        step_store (record { cells = encode_cells n (perform access_of c.memory); task = advance_of n (encode_task (c.task i)) next_in; answer = answer_of (encode_task (c.task i)) next_in }) (rw (task_at_lem below) (step_served below e))
        ∙ rw (advance_simulates n (c.task i) next, answer_simulates n (c.task i) next, tabulate_set encode_task n c.task i (advance n (c.task i) (outcome_of_step object i c)) below)

    -- A step of task i, whatever its number.
    pub step_simulates : serve_of file (Step i) (encode_config n c) ≡ encode_served n (step object n i c)
    unfolding step
    step_simulates = by (ltb i n) refl (off (kind (c.task i).phase)) refl
      where
        by : (b : Bool) → ltb i n ≡ b → (d : Bool) → off (kind (c.task i).phase) ≡ d → serve_of file (Step i) (encode_config n c) ≡ encode_served n (step object n i c)
        by false e d g = rw e (step_unknown e)
        by true e true g = rw (e, g) (step_idle (ltb-true i n e) g)
        by true e false g = rw (e, g) (step_pending (ltb-true i n e) g)

    -- The same for a call of begin with operation o.
    module _ (o : ℕ) where
      begin_task_lem : (t : Task) → begin_task file n i o t ≡ cond (ltb i n) (cond (ltb o shape.operations) (cond (entries_in_range file shape) (begin_from file shape o t (read_record shape n (ceiling n) t)) (refuse_begin t cause.NextState)) (refuse_begin t cause.Operation)) (refuse_begin t cause.Task)
      unfolding begin_task
      begin_task_lem t = rw admitted

      begin_store : (out : call.Begin) → begin_task file n i o (task_at (encode_row n c.task) i) ≡ out → serve_of file (Begin i o) (encode_config n c) ≡ record { store = record { cells = encode_cells n c.memory; row = set (encode_row n c.task) i out.task }; answer = begin_said out.answer }
      unfolding begin_of
      begin_store out e = rw (row_length, e)

      begin_refused : (reason : Refusal) → begin_task file n i o (task_at (encode_row n c.task) i) ≡ refuse_begin (task_at (encode_row n c.task) i) reason → serve_of file (Begin i o) (encode_config n c) ≡ encode_served n (unserved c (number_of reason))
      begin_refused reason e = begin_store (refuse_begin (task_at (encode_row n c.task) i) reason) e ∙ rw (set-get_or (encode_row n c.task) i (idle_task 0))

      begin_unknown : ltb i n ≡ false → serve_of file (Begin i o) (encode_config n c) ≡ encode_served n (unserved c 7)
      begin_unknown e = begin_refused cause.Task (begin_task_lem (task_at (encode_row n c.task) i) ∙ rw e)

      begin_operation : i < n → ltb o shape.operations ≡ false → serve_of file (Begin i o) (encode_config n c) ≡ encode_served n (unserved c 8)
      begin_operation below e = begin_refused cause.Operation (begin_task_lem (task_at (encode_row n c.task) i) ∙ rw (lt-ltb i n below, e))

      module _ (below : i < n) (known : o < shape.operations) where
        begin_known : (t : Task) → begin_task file n i o t ≡ begin_from file shape o t (read_record shape n (ceiling n) t)
        begin_known t = begin_task_lem t ∙ rw (lt-ltb i n below, lt-ltb o shape.operations known, (accepted_parts file shape table.accepted).1)

        begin_pending : off (kind (c.task i).phase) ≡ false → serve_of file (Begin i o) (encode_config n c) ≡ encode_served n (unserved c 9)
        begin_pending e =
            let t = range.formed.task i below in
            begin_refused cause.Pending
            (rw (task_at_lem below, begin_known (encode_task (c.task i)), pending_read file shape table n most (ceiling n) (c.task i) t e (range.timely i below e), pending_number file shape table n most (c.task i) t e))

        begin_idle : off (kind (c.task i).phase) ≡ true → serve_of file (Begin i o) (encode_config n c) ≡ encode_served n (begun object i o c)
        begin_idle e =
            let t = range.formed.task i below in
            let p = (c.task i).priority in
            begin_store (record { task = begun_task file shape o (idle_task p); answer = (Ok tt) })
            (rw (task_at_lem below, idle_kept file shape table n most (c.task i) t e, begin_known (idle_task p), idle_read shape n (ceiling n) p t.priority))
            ∙ rw (begun_encoded o p (changing file shape o), tabulate_set encode_task n c.task i (record { phase = first_phase (changing file shape o); operation = o; priority = p; steps = 0 }) below)

      -- A call of begin, whatever its numbers.
      pub begin_simulates : serve_of file (Begin i o) (encode_config n c) ≡ encode_served n (begin object n i o c)
      unfolding begin
      begin_simulates = by (ltb i n) refl (ltb o shape.operations) refl (off (kind (c.task i).phase)) refl
        where
          by : (b : Bool) → ltb i n ≡ b → (k : Bool) → ltb o shape.operations ≡ k → (d : Bool) → off (kind (c.task i).phase) ≡ d → serve_of file (Begin i o) (encode_config n c) ≡ encode_served n (begin object n i o c)
          by false e k f d g = rw e (begin_unknown e)
          by true e false f d g = rw (e, f) (begin_operation (ltb-true i n e) f)
          by true e true f true g = rw (e, f, g) (begin_idle (ltb-true i n e) (ltb-true o shape.operations f) g)
          by true e true f false g = rw (e, f, g) (begin_pending (ltb-true i n e) (ltb-true o shape.operations f) g)

  -- ---- Lists of calls

  pub serve_simulates : (x : Call) (c : Config) → InRange object n c → serve_of file x (encode_config n c) ≡ encode_served n (serve object n x c)
  serve_simulates (Begin i o) c r = begin_simulates c r i o
  serve_simulates (Step i) c r = step_simulates c r i

  -- From a configuration that no list of calls leads out of range.
  pub run_simulates : (xs : List Call) (c : Config) → ((ys : List Call) → InRange object n (run object n ys c)) → run_of file xs (encode_config n c) ≡ encode_config n (run object n xs c)
  run_simulates [] c r = refl
  run_simulates (x ∷ xs) c r = rw (serve_simulates x c (r [])) (run_simulates xs (serve object n x c).config (λ ys. r (x ∷ ys)))

  pub history_simulates : (xs : List Call) (c : Config) → ((ys : List Call) → InRange object n (run object n ys c)) → history_of file xs (encode_config n c) ≡ history object n xs c
  history_simulates [] c r = refl
  history_simulates (x ∷ xs) c r = rw (serve_simulates x c (r [])) (ap (λ (es : List Event). record { call = x; answer = (serve object n x c).answer } ∷ es) (history_simulates xs (serve object n x c).config (λ ys. r (x ∷ ys))))
