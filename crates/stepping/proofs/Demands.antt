-- A run of the calls: after an opening, cells, row and answers are the machine's, whatever the calls, and so demands 2 and 3
-- are met.
use mathlib.Core.Path.{◌≡◌, ap, sym, subst, ◌∙◌}
use mathlib.Core.Logic.{◌↔◌}
use mathlib.Core.List.{List, [], ◌∷◌, ◌++◌}
use Prim.Native.Nat.{ℕ, suc, ◌<◌, ◌≤◌}
use native.Mathlib.Numerals.{add-one}
use native.Mathlib.Omega.{arith}
use Rattle.laws.proofs.Tabulate.{tabulate_length}
use Rattle.laws.proofs.Clash.{clash, never}
use Rattle.cells.specs.Image as words
use Rattle.table.specs.declared.Shape.{Shape}
use Rattle.table.proofs.Accepted.{accepted_fitting}
use Rattle.machine.specs.Object.{Object}
use Rattle.machine.specs.Lawful.{Opens}
use Rattle.machine.specs.Memory.{Empty, image}
use Rattle.machine.specs.Machine.{Next, Go, Turn, End}
use Rattle.machine.specs.Kind.{off}
use Rattle.machine.specs.Run.{Config, Served, answer_of, start, serve, run, history, machine_shows}
use Rattle.machine.specs.Calls.{Call, Refused}
use Rattle.machine.specs.History.{Pends, pending}
use Rattle.machine.specs.Demand.{Shown, Demand}
use Rattle.machine.specs.Ending.{EndsChanging}
use Rattle.machine.specs.Invariant.{content}
use Rattle.machine.specs.Points.{MidWork, next_access}
use Rattle.machine.proofs.Steps.Calls.{Serving, begins, begin_task, begin_operation, begin_pending, moves, step_task, step_idle, serving}
use Rattle.machine.proofs.Points.Emptied.{emptyings}
use Rattle.machine.proofs.Invariant.Ranges.{formed_run}
use Rattle.machine.proofs.Points.MidWork.{stays_announced}
use Rattle.machine.proofs.Points.OwnSteps.{own_record}
use Rattle.machine.proofs.Points.Pending.{pending_is}
use Rattle.machine.proofs.Whole.WaitFree.{bound_ceiling, pending_steps}
use Rattle.records.specs.Record.{RecordFits}
use Rattle.transition.specs.Encoding.{encode_task, encode_access}
use Rattle.transition.proofs.Lawful.{good_reached, object_lawful}
use Rattle.stepping.specs.Call.{task_at}
use Rattle.stepping.specs.Access.{access_of}
use Rattle.stepping.specs.Runs.{Store, CallOutcome, serve_of, run_of, history_of}
use Rattle.stepping.specs.Opening.{Opening, object_in, shown}
use Rattle.stepping.specs.Print.{EmptyAt, Print}
use Rattle.stepping.specs.Statement.{FitsTable, record_after, StaysAnnounced, InFormThroughout, Emptied}
use Rattle.stepping.specs.Encoding.{encode_cells, encode_row, encode_config}
use Rattle.stepping.proofs.Admission.{ceiling}
use Rattle.stepping.proofs.Accesses.{cells_length, encoded_empty, encoded_in_form}
use Rattle.stepping.proofs.Prints.{encoded_print}
use Rattle.stepping.proofs.Simulation.{InRange, record_fits, serve_simulates, run_simulates, history_simulates, access_simulates}
use Rattle.stepping.proofs.Starts.{start_cells, start_row}

-- Every list of calls leads from a good start state to a configuration in range.
reached : (b : Object) (n q : ℕ) → 1 ≤ n → Opens b q → (xs : List Call) → InRange b n (run b n xs (start q))
reached b n q some good xs = record {
  formed = formed_run b n xs good;
  timely = λ i below e. omega (arith, pending_steps b n q good xs i below (λ z. clash (ap off z) e), bound_ceiling n some);
}

-- The machine refuses with 7 to 10 alone.
step_answers : (k : ℕ) (y : Next) (number : ℕ) → answer_of k y ≡ Refused number → ⊥
step_answers k (Go f) number e = never cc
step_answers k (Turn f) number e = never cc
step_answers k (End v) number e = never cc

within : {j k : ℕ} → Refused j ≡ Refused k → 7 ≤ j → j ≤ 10 → (7 ≤ k) × (k ≤ 10)
within {j} {k} e low high = let same : j ≡ k = cc in (omega arith, omega arith)

refuses : {b : Object} {n : ℕ} {c : Config} {x : Call} {z : Served} → Serving b n c x z → (k : ℕ) → z.answer ≡ Refused k → (7 ≤ k) × (k ≤ 10)
refuses (begins h k d) number e = never cc
refuses (begin_task h) number e = within e (omega arith) (omega arith)
refuses (begin_operation h k) number e = within e (omega arith) (omega arith)
refuses (begin_pending h k d) number e = within e (omega arith) (omega arith)
refuses {c = c} (moves {i = i} {y = y} h d v) number e = absurd (step_answers (c.task i).steps y number e)
refuses (step_task h) number e = within e (omega arith) (omega arith)
refuses (step_idle h d) number e = within e (omega arith) (omega arith)

-- After an opening.
module _ {file : List ℕ} {n q : ℕ} {s : Store} (o : Opening file n q s) where
  abbrev pub machine_run : List Call → Config
  machine_run xs = run (object_in o) n xs (start q)

  pub opens : Opens (object_in o) q
  opens = record { lawful = object_lawful o.table; good = (good_reached o.table q).1 o.reached }

  pub in_range : (xs : List Call) → InRange (object_in o) n (run (object_in o) n xs (start q))
  in_range = reached (object_in o) n q o.some opens

  first_store : s ≡ encode_config n (start q)
  first_store k = record { cells = (o.cells ∙ start_cells n q) k; row = (o.row ∙ start_row n) k }

  -- The cells and the row after any list of calls, the calls with their answers, and the next answer are the machine's.
  module _ (xs : List Call) where
    pub run_opened : run_of file xs s ≡ encode_config n (run (object_in o) n xs (start q))
    run_opened = rw first_store (run_simulates file o.shape o.table n o.some o.few xs (start q) in_range)

    pub history_opened : history_of file xs s ≡ history (object_in o) n xs (start q)
    history_opened = rw first_store (history_simulates file o.shape o.table n o.some o.few xs (start q) in_range)

    pub answer_opened : (x : Call) → (serve_of file x (run_of file xs s)).answer ≡ (serve (object_in o) n x (run (object_in o) n xs (start q))).answer
    answer_opened x = rw run_opened (ap (λ (out : CallOutcome). out.answer) (serve_simulates file o.shape o.table n o.some o.few x (machine_run xs) (in_range xs)))

    -- The access of a pending task's next step is the machine's.
    pub access_opened : (t x k : ℕ) → pending (history (object_in o) n xs (start q)) t ≡ Pends x k
        → access_of file n t (record_after o xs t) ≡ encode_access (next_access (object_in o) t (run (object_in o) n xs (start q)))
    access_opened t x k e =
        let r = own_record (object_in o) n (machine_run xs) (in_range xs).formed t x k (sym (pending_is (object_in o) n xs q t) ∙ e) in
        rw run_opened (access_simulates file o.shape o.table n o.some o.few (machine_run xs) (in_range xs) t r.below r.works)

    -- A begin or a step of a run is refused with 7 to 10 alone: 4, 11 and 12 never occur.
    pub refused_opened : (x : Call) (k : ℕ) → (serve_of file x (run_of file xs s)).answer ≡ Refused k → (7 ≤ k) × (k ≤ 10)
    refused_opened x k e = refuses (serving (object_in o) n (machine_run xs) x) k (sym (answer_opened x) ∙ e)

    -- The announcements in the cells are those of the machine.
    announcement_opened : (t : ℕ) → t < n → EmptyAt (run_of file xs s).cells t ↔ (content (machine_run xs).memory t ≡ Empty)
    announcement_opened t below = rw run_opened (encoded_empty file o.shape o.table n o.few (machine_run xs).memory (in_range xs).formed.memory t below)

  -- A task whose operation has made a step is announced.
  pub announced_opened : StaysAnnounced o
  announced_opened xs t x k e empty =
      let p : pending (history (object_in o) n xs (start q)) t ≡ Pends x (suc k) = ap (λ es. pending es t) (sym (history_opened xs)) ∙ e ∙ ap (Pends x) (add-one k) in
      let r = own_record (object_in o) n (machine_run xs) (in_range xs).formed t x (suc k) (sym (pending_is (object_in o) n xs q t) ∙ p) in
      stays_announced (object_in o) n q opens xs t x k p ((announcement_opened xs t r.below).0 empty)

  -- What the machine shows, with its cells as words.
  abbrev pub encoded_shows : Shown (List ℕ)
  encoded_shows = record {
    answer = λ xs x. (serve (object_in o) n x (machine_run xs)).answer;
    history = λ xs. history (object_in o) n xs (start q);
    cells = λ xs. encode_cells n (machine_run xs).memory;
  }

  pub shown_same : shown o ≡ encoded_shows
  shown_same k = record {
    answer = λ xs x. answer_opened xs x k;
    history = λ xs. history_opened xs k;
    cells = λ xs. (run_opened xs k).cells;
  }

  -- Demands 2 and 3, with any bound that the proved one doesn't pass.
  unfoldable pub encoded_demands : (c : ℕ) → Demand (object_in o) n q c image (MidWork (object_in o) q) (machine_shows (object_in o) n q)
      → Demand (object_in o) n q c (words.image n) (Print (object_in o) n q) encoded_shows
  encoded_demands c d = record {
    begins = d.begins;
    told = d.told;
    book = d.book;
    first = d.first;
    legal = d.legal;
    grows = d.grows;
    linearizes = d.linearizes;
    rest = λ xs r. ap (encode_cells n) (d.rest xs r) ∙ sym (start_cells n (d.book xs).state);
    prints = λ xs. encoded_print file o.shape o.table n o.few (machine_run xs).memory (in_range xs).formed.memory q _ _ (d.prints xs);
    accepted = d.accepted;
    below = d.below;
    count = d.count;
  }

  -- The step that empties an announcement ends its operation, and no other does.
  pub emptied : Emptied o
  emptied xs x t below =
      let (only, every) = emptyings (object_in o) n q opens xs x t below in
      let (empty, none) = announcement_opened xs t below in
      let (empty_after, none_after) = announcement_opened (xs ++ (x ∷ [])) t below in (
        λ (f, g). moved (only ((λ z. f (none z)), empty_after g)),
        λ e. let (f, g) = every (back e) in ((λ z. f (empty z)), none_after g),
      )
    where
      -- What the calls show of an ending step is what the machine shows.
      moved : EndsChanging (object_in o) (machine_shows (object_in o) n q) xs x t → EndsChanging (object_in o) (shown o) xs x t
      moved e = record {
        operation = e.operation;
        steps = e.steps;
        outcome = e.outcome;
        count = e.count;
        step = e.step;
        pends = ap (λ es. pending es t) (history_opened xs) ∙ e.pends;
        changes = e.changes;
        ended = answer_opened xs x ∙ e.ended;
      }

      back : EndsChanging (object_in o) (shown o) xs x t → EndsChanging (object_in o) (machine_shows (object_in o) n q) xs x t
      back e = record {
        operation = e.operation;
        steps = e.steps;
        outcome = e.outcome;
        count = e.count;
        step = e.step;
        pends = ap (λ es. pending es t) (sym (history_opened xs)) ∙ e.pends;
        changes = e.changes;
        ended = sym (answer_opened xs x) ∙ e.ended;
      }

  -- At every point cells and records are in form.
  pub points_in_form : InFormThroughout o
  points_in_form xs = record {
    cells_long = rw (run_opened xs) (cells_length n (machine_run xs).memory);
    cells = rw (run_opened xs) (encoded_in_form file o.shape o.table n o.few (machine_run xs).memory (in_range xs).formed.memory);
    row_long = rw (run_opened xs) (tabulate_length n (λ i. encode_task ((machine_run xs).task i)));
    row = λ i below. subst (λ (z : Store). FitsTable file n (task_at z.row i)) (sym (run_opened xs)) (fits xs i below);
  }
    where
      fits : (xs : List Call) (i : ℕ) → i < n → FitsTable file n (task_at (encode_row n (machine_run xs).task) i)
      fits xs i below =
          subst (λ (shape : Shape). RecordFits shape n (ceiling n) (task_at (encode_row n (machine_run xs).task) i)) (accepted_fitting file o.shape o.table.accepted).shape_is
          (record_fits file o.shape o.table n o.some o.few (machine_run xs) (in_range xs) i below)
