-- Theorem C: what the window of a task tells, after all events that leave it to its console.
use Rattle.std.specs.Prelude.{Result, Ok, Err, ⊤}
use mathlib.Core.Path.{◌≡◌, refl, sym, ap, subst, ◌∙◌}
use mathlib.Core.Logic.{◌≢◌, ◌⊎◌, inl, inr}
use mathlib.Core.Bool.{Bool, true, false, ◌||◌, or-true}
use mathlib.Core.List.{List, [], ◌∷◌, ◌++◌, append-nil}
use Prim.Native.Nat.{ℕ, ◌+◌, ◌*◌, ◌<◌, ◌≤◌}
use native.Mathlib.Omega.{arith}
use native.Mathlib.Decide.{ℕ_discrete}
use borrow.Author.Tests.{eq-eqb, ne_eqb}
use lib.ListN.{length, length-set}
use lib.Seq.{get_or-set_other}
use Rattle.laws.proofs.Lists.{from_the_end}
use Rattle.refusal.specs.declared.Refusal.{Refusal}
use Rattle.refusal.specs.declared.Refusal.TheVariants as cause
use Rattle.refusal.specs.Number.{number_of}
use Rattle.machine.specs.Outcome.{Outcome, no_outcome}
use Rattle.machine.specs.Calls.{Call, Begin, Step, Begun, Running, Ended, Event}
use Rattle.machine.specs.History.{Nothing, heard, pending}
use Rattle.records.specs.declared.record.Task.{Task}
use Rattle.stepping.specs.Call.{begin_said, step_said}
use Rattle.stepping.specs.Runs.{Store, serve_of, history_of}
use Rattle.stepping.specs.Opening.{Opening, shown}
use Rattle.stepping.proofs.Continued.{pending_more}
use Rattle.stepping.proofs.Theorem.{demands_met, in_form_throughout}
use Rattle.window.specs.declared.Status.{Status}
use Rattle.window.specs.Window.{byte_at, on, status_of, status_at, interrupt_at}
use Rattle.window.specs.Serve.{asked_of, WindowOutcome, window_of}
use Rattle.window.specs.Events.{WindowEvent, Written, Served, Direct, WindowStore, opened, happen, after, call_by, call_at, calls_of}
use Rattle.window.specs.Console.{Blank, task_of, Leaves, AllLeave, is_pending, ended_by, last_ended, Note, Ending, Acknowledging, Other, Refusing, ending_of, noted, note_of, notes_of, number_by, last_refused}
use Rattle.window.specs.Statement.{HasWindow, Shows, Tells}
use Rattle.window.proofs.Cases.{Case, unfit, past, nothing, unknown, acknowledged, unacknowledged, begun, begin_refused, running, ended, step_refused, cases}
use Rattle.window.proofs.Left.{inside, others_stay}
use Rattle.window.proofs.Shown.{shows_taken, shows_begun, shows_refused, shows_ended, shows_acknowledged}
use Rattle.window.proofs.Judged.{begin_made, step_made, none_made}
use Rattle.window.proofs.Runs.{same_run, calls_grow, after_append}
use Rattle.window.proofs.Answers.{response_fits}
use Rattle.window.proofs.Notes.{ended_more, refused_more, notes_more, done_by, marked_by, bit_from, bit_more, done_since, marked_since}
use Rattle.window.proofs.Settled.{heard_other, ended_other, longer_pending, one_call, noted_served, or_read}

module _ {file : List ℕ} {n q : ℕ} {s : Store} (o : Opening file n q s) (windows : List ℕ) (t : ℕ) where
  -- What is lent, the calls and the history, after the events.
  abbrev pub lent : List WindowEvent → WindowStore
  lent es = after file es (opened s windows)

  abbrev pub calls : List WindowEvent → List Call
  calls es = calls_of file es (opened s windows)

  abbrev pub told : List WindowEvent → List Event
  told es = (shown o).history (calls es)

  abbrev notes : List WindowEvent → List Note
  notes es = notes_of file t es (opened s windows)

  -- ---- One event more

  module _ (es : List WindowEvent) (e : WindowEvent) where
    lent_next : lent (es ++ (e ∷ [])) ≡ happen file e (lent es)
    lent_next = after_append file es (e ∷ []) (opened s windows)

    calls_next : calls (es ++ (e ∷ [])) ≡ calls es ++ call_at e (lent es)
    calls_next = calls_grow file es (e ∷ []) (opened s windows) ∙ ap (λ xs. calls es ++ xs) (append-nil (call_at e (lent es)))

    -- Without a direct call nothing more is told.
    told_none : call_at e (lent es) ≡ [] → told (es ++ (e ∷ [])) ≡ told es
    told_none h = ap (shown o).history (calls_next ∙ ap (λ xs. calls es ++ xs) h ∙ append-nil (calls es))

    told_call : (x : Call) → call_at e (lent es) ≡ x ∷ [] → told (es ++ (e ∷ [])) ≡ told es ++ (record { call = x; answer = (shown o).answer (calls es) x } ∷ [])
    told_call x h = ap (shown o).history (calls_next ∙ ap (λ xs. calls es ++ xs) h) ∙ (demands_met o).told (calls es) x

    pending_call : (x : Call) → call_at e (lent es) ≡ x ∷ [] → pending (told (es ++ (e ∷ []))) t ≡ heard t x ((shown o).answer (calls es) x) (pending (told es) t)
    pending_call x h = ap (λ hs. pending hs t) (told_call x h) ∙ pending_more t Nothing (told es) (record { call = x; answer = (shown o).answer (calls es) x })

    ended_call : (x : Call) → call_at e (lent es) ≡ x ∷ [] → last_ended t no_outcome (told (es ++ (e ∷ []))) ≡ ended_by t x ((shown o).answer (calls es) x) (last_ended t no_outcome (told es))
    ended_call x h = ap (last_ended t no_outcome) (told_call x h) ∙ ended_more t no_outcome (told es) (record { call = x; answer = (shown o).answer (calls es) x })

  -- The store is that of the run, and a direct call's answer is the one that the run shows.
  pub answer_shown : (es : List WindowEvent) (x : Call) → (serve_of file x (lent es).store).answer ≡ (shown o).answer (calls es) x
  answer_shown es x = ap (λ (z : Store). (serve_of file x z).answer) (same_run file es (opened s windows))

  pub row_long : (es : List WindowEvent) → length (lent es).store.row ≡ n
  row_long es = ap (λ (z : Store). length z.row) (same_run file es (opened s windows)) ∙ (in_form_throughout o (calls es)).row_long

  -- ---- What the window tells, as equations

  pub record Holds (es : List WindowEvent) : Type 0 where
    pub long : length (lent es).windows ≡ 8 * n
    pub busy : (status_at (lent es).windows t).busy ≡ is_pending (pending (told es) t)
    pub response : byte_at (lent es).windows t 3 ≡ (last_ended t no_outcome (told es)).response
    pub moved : (status_at (lent es).windows t).moved ≡ (last_ended t no_outcome (told es)).moved
    pub done : (status_at (lent es).windows t).done ≡ bit_from done_by false (notes es)
    pub refused : (status_at (lent es).windows t).refused ≡ bit_from marked_by false (notes es)
    pub interrupt : interrupt_at (lent es).windows t ≡ ((status_at (lent es).windows t).done || (status_at (lent es).windows t).refused)
    pub refusal : byte_at (lent es).windows t 4 ≡ last_refused 0 (notes es)

  module _ (es : List WindowEvent) (e : WindowEvent) (old : Holds es) where
    abbrev w : List ℕ
    w = (lent es).windows

    -- By what is noted, pending and ended after the event, and what the window shows.
    next : (note : Note) → note_of file t e (lent es) ≡ note → (v : Outcome) → last_ended t no_outcome (told (es ++ (e ∷ []))) ≡ v → length (happen file e (lent es)).windows ≡ 8 * n
        → Shows (happen file e (lent es)).windows t (is_pending (pending (told (es ++ (e ∷ []))) t)) (done_by note (status_at (lent es).windows t).done) (marked_by note (status_at (lent es).windows t).refused) v.moved
        (done_by note (status_at (lent es).windows t).done || marked_by note (status_at (lent es).windows t).refused) v.response (number_by note (byte_at (lent es).windows t 4))
        → Holds (es ++ (e ∷ []))
    next note en v ev long shows =
        let left = ap (λ (l : WindowStore). l.windows) (lent_next es e) in
        let more = notes_more file t es e (opened s windows) ∙ ap (λ x. notes es ++ (x ∷ [])) en in
        let status = ap (λ (z : List ℕ). status_at z t) left in
        let done_is = ap (λ (z : Status). z.done) status ∙ shows.done_bit in
        let refused_is = ap (λ (z : Status). z.refused) status ∙ shows.refused_bit in
        record {
          long = ap length left ∙ long;
          busy = ap (λ (z : Status). z.busy) status ∙ shows.busy_bit;
          response = ap (λ z. byte_at z t 3) left ∙ shows.response_byte ∙ ap (λ (z : Outcome). z.response) (sym ev);
          moved = ap (λ (z : Status). z.moved) status ∙ shows.moved_bit ∙ ap (λ (z : Outcome). z.moved) (sym ev);
          done = done_is ∙ ap (done_by note) old.done ∙ sym (bit_more done_by false (notes es) note) ∙ ap (bit_from done_by false) (sym more);
          refused = refused_is ∙ ap (marked_by note) old.refused ∙ sym (bit_more marked_by false (notes es) note) ∙ ap (bit_from marked_by false) (sym more);
          interrupt = ap (λ z. interrupt_at z t) left ∙ shows.interrupt_bit ∙ ap (λ b. b || marked_by note (status_at (lent es).windows t).refused) (sym done_is) ∙ ap (λ b. (status_at (lent (es ++ (e ∷ []))).windows t).done || b) (sym refused_is);
          refusal = ap (λ z. byte_at z t 4) left ∙ shows.refusal_byte ∙ ap (number_by note) old.refusal ∙ sym (refused_more 0 (notes es) note) ∙ ap (last_refused 0) (sym more);
        }

    -- An event that is noted as none, leaves bytes 2 to 5, and tells nothing of the task.
    quiet : note_of file t e (lent es) ≡ Other → is_pending (pending (told (es ++ (e ∷ []))) t) ≡ is_pending (pending (told es) t) → last_ended t no_outcome (told (es ++ (e ∷ []))) ≡ last_ended t no_outcome (told es)
        → length (happen file e (lent es)).windows ≡ length (lent es).windows → ((k : ℕ) → 2 ≤ k → k ≤ 5 → byte_at (happen file e (lent es)).windows t k ≡ byte_at (lent es).windows t k) → Holds (es ++ (e ∷ []))
    quiet en ep ev long same =
        let status = ap status_of (same 2 (omega arith) (omega arith)) in
        next Other en (last_ended t no_outcome (told es)) ev (long ∙ old.long) (record {
          busy_bit = ap (λ (z : Status). z.busy) status ∙ old.busy ∙ sym ep;
          done_bit = ap (λ (z : Status). z.done) status;
          refused_bit = ap (λ (z : Status). z.refused) status;
          moved_bit = ap (λ (z : Status). z.moved) status ∙ old.moved;
          interrupt_bit = ap on (same 5 (omega arith) (omega arith)) ∙ old.interrupt;
          response_byte = same 3 (omega arith) (omega arith) ∙ old.response;
          refusal_byte = same 4 (omega arith) (omega arith);
        })

    -- A call of another task tells nothing of this one, and neither does no call.
    tells_none : call_at e (lent es) ≡ [] → (is_pending (pending (told (es ++ (e ∷ []))) t) ≡ is_pending (pending (told es) t)) × (last_ended t no_outcome (told (es ++ (e ∷ []))) ≡ last_ended t no_outcome (told es))
    tells_none h = (ap (λ hs. is_pending (pending hs t)) (told_none es e h), ap (last_ended t no_outcome) (told_none es e h))

    tells_other : (x : Call) → call_at e (lent es) ≡ x ∷ [] → task_of x ≢ t
        → (is_pending (pending (told (es ++ (e ∷ []))) t) ≡ is_pending (pending (told es) t)) × (last_ended t no_outcome (told (es ++ (e ∷ []))) ≡ last_ended t no_outcome (told es))
    tells_other x h d =
        (ap is_pending (pending_call es e x h ∙ heard_other t x ((shown o).answer (calls es) x) (pending (told es) t) d), ended_call es e x h ∙ ended_other t x ((shown o).answer (calls es) x) (last_ended t no_outcome (told es)) d)

  -- ---- The events

  -- A byte is written elsewhere, or in bytes 0, 1 and 6.
  written_holds : (es : List WindowEvent) (place byte : ℕ) → Leaves t (Written place byte) → Holds es → Holds (es ++ (Written place byte ∷ []))
  written_holds es place byte leaves old =
      let (ep, ev) = tells_none es (Written place byte) old refl in
      quiet es (Written place byte) old refl ep ev (length-set (lent es).windows place byte)
      (λ k l m. get_or-set_other (lent es).windows place (8 * t + k) byte 0 (λ z. leaves k l (omega (arith, m)) (λ six. omega (arith, six, m)) (sym z)))

  -- A direct call of another task.
  direct_holds : (es : List WindowEvent) (x : Call) → task_of x ≢ t → Holds es → Holds (es ++ (Direct x ∷ []))
  direct_holds es x d old = let (ep, ev) = tells_other es (Direct x) old x refl d in quiet es (Direct x) old refl ep ev refl (λ k l m. refl)

  -- A window call of another task.
  served_other : (es : List WindowEvent) (i : ℕ) → i ≢ t → Holds es → Holds (es ++ (Served i ∷ []))
  served_other es i d old =
      let l = lent es in
      let stay = others_stay file l.store.cells l.store.row l.windows i in
      let (ep, ev) = by (one_call i (asked_of l.windows (length l.store.row) i)) in
      quiet es (Served i) old (simp (ne_eqb i t d)) ep ev stay.long (λ k low high. stay.rest (8 * t + k) (λ j f g z. d (omega (arith, low, high, f, g, z))))
    where
      by : (call_by i (asked_of (lent es).windows (length (lent es).store.row) i) ≡ []) ⊎ ((x : Call) × (call_by i (asked_of (lent es).windows (length (lent es).store.row) i) ≡ x ∷ []) × (task_of x ≡ i))
          → (is_pending (pending (told (es ++ (Served i ∷ []))) t) ≡ is_pending (pending (told es) t)) × (last_ended t no_outcome (told (es ++ (Served i ∷ []))) ≡ last_ended t no_outcome (told es))
      by (inl h) = tells_none es (Served i) old h
      by (inr (x, h, same)) = tells_other es (Served i) old x h (λ z. d (sym same ∙ z))

  -- ---- A window call of the task itself

  module _ (es : List WindowEvent) (below : t < n) (old : Holds es) where
    abbrev cs : List ℕ
    cs = (lent es).store.cells

    abbrev ys : List Task
    ys = (lent es).store.row

    abbrev ws : List ℕ
    ws = (lent es).windows

    -- It is noted by the answers.
    note_is : (made : List Call) (a : Result ⊤ Refusal) → call_at (Served t) (lent es) ≡ made → (window_of file (lent es).store.cells (lent es).store.row (lent es).windows t).answer ≡ a
        → note_of file t (Served t) (lent es) ≡ noted (byte_at (lent es).windows t 1) a (history_of file made (lent es).store)
    note_is made a em ea = simp (eq-eqb t t refl) (ap (λ xs. noted (byte_at ws t 1) (window_of file cs ys ws t).answer (history_of file xs (lent es).store)) em ∙ ap (λ z. noted (byte_at ws t 1) z (history_of file made (lent es).store)) ea)

    long_next : length (happen file (Served t) (lent es)).windows ≡ 8 * n
    long_next = (others_stay file cs ys ws t).long ∙ old.long

    -- A refused command: it has made no call, or one that tells no more.
    marks : (c : Refusal) → HasWindow (lent es).windows (length (lent es).store.row) t → (out : WindowOutcome) → window_of file (lent es).store.cells (lent es).store.row (lent es).windows t ≡ out → out.answer ≡ Err c
        → Shows out.windows t (status_at (lent es).windows t).busy (status_at (lent es).windows t).done true (status_at (lent es).windows t).moved true (byte_at (lent es).windows t 3) (number_of c)
        → is_pending (pending (told (es ++ (Served t ∷ []))) t) ≡ is_pending (pending (told es) t) → last_ended t no_outcome (told (es ++ (Served t ∷ []))) ≡ last_ended t no_outcome (told es) → Holds (es ++ (Served t ∷ []))
    marks c has out eo ea shows ep ev =
        next es (Served t) old (Refusing (number_of c)) (note_is _ (Err c) refl (ap (λ (z : WindowOutcome). z.answer) eo ∙ ea)) (last_ended t no_outcome (told es)) ev long_next
        (subst (λ (z : WindowOutcome). Shows z.windows t (is_pending (pending (told (es ++ (Served t ∷ []))) t)) (status_at ws t).done true (last_ended t no_outcome (told es)).moved ((status_at ws t).done || true) (last_ended t no_outcome (told es)).response (number_of c)) (sym eo)
        (record {
          busy_bit = shows.busy_bit ∙ old.busy ∙ sym ep;
          done_bit = shows.done_bit;
          refused_bit = shows.refused_bit;
          moved_bit = shows.moved_bit ∙ old.moved;
          interrupt_bit = shows.interrupt_bit ∙ sym (or-true (status_at ws t).done);
          response_byte = shows.response_byte ∙ old.response;
          refusal_byte = shows.refusal_byte;
        }))

    -- A call that makes no direct call.
    none : byte_at (lent es).windows t 1 ≢ 2 → (byte_at (lent es).windows t 1 ≡ 1 → (status_at (lent es).windows t).done ≡ true) → call_at (Served t) (lent es) ≡ []
    none two one = (none_made ws (length ys) t).1 (λ _. (two, one))

    pub begin_call : HasWindow (lent es).windows (length (lent es).store.row) t → byte_at (lent es).windows t 1 ≡ 1 → (status_at (lent es).windows t).done ≡ false → call_at (Served t) (lent es) ≡ Begin t (byte_at (lent es).windows t 0) ∷ []
    begin_call has one d = (begin_made ws (length ys) t (byte_at ws t 0)).1 (has, one, d, refl)

    pub step_call : HasWindow (lent es).windows (length (lent es).store.row) t → byte_at (lent es).windows t 1 ≡ 2 → call_at (Served t) (lent es) ≡ Step t ∷ []
    step_call has two = (step_made ws (length ys) t).1 (has, two)

    -- What a window shows whose moved bit, response and interrupt are as they were, or as the history has them.
    as_before : {left : List ℕ} {busy busy' d r i : Bool} {k : ℕ} → Shows left t busy d r (status_at (lent es).windows t).moved i (byte_at (lent es).windows t 3) k → busy ≡ busy'
        → Shows left t busy' d r (last_ended t no_outcome (told es)).moved i (last_ended t no_outcome (told es)).response k
    as_before shows e = record {
      busy_bit = shows.busy_bit ∙ e;
      done_bit = shows.done_bit;
      refused_bit = shows.refused_bit;
      moved_bit = shows.moved_bit ∙ old.moved;
      interrupt_bit = shows.interrupt_bit;
      response_byte = shows.response_byte ∙ old.response;
      refusal_byte = shows.refusal_byte;
    }

    with_interrupt : {left : List ℕ} {b d r m : Bool} {j k : ℕ} → Shows left t b d r m (interrupt_at (lent es).windows t) j k
        → Shows left t b d r m ((status_at (lent es).windows t).done || (status_at (lent es).windows t).refused) j k
    with_interrupt shows = record {
      busy_bit = shows.busy_bit;
      done_bit = shows.done_bit;
      refused_bit = shows.refused_bit;
      moved_bit = shows.moved_bit;
      interrupt_bit = shows.interrupt_bit ∙ old.interrupt;
      response_byte = shows.response_byte;
      refusal_byte = shows.refusal_byte;
    }

    -- What is pending and ended after a begin and a step of the task.
    begun_now : {x : ℕ} → call_at (Served t) (lent es) ≡ Begin t x ∷ [] → (shown o).answer (calls es) (Begin t x) ≡ Begun → is_pending (pending (told (es ++ (Served t ∷ []))) t) ≡ true
    begun_now {x} call answer = ap is_pending (pending_call es (Served t) (Begin t x) call ∙ ap (λ y. heard t (Begin t x) y (pending (told es) t)) answer) ∙ simp (eq-eqb t t refl)

    running_now : call_at (Served t) (lent es) ≡ Step t ∷ [] → (shown o).answer (calls es) (Step t) ≡ Running → is_pending (pending (told (es ++ (Served t ∷ []))) t) ≡ is_pending (pending (told es) t)
    running_now call answer = ap is_pending (pending_call es (Served t) (Step t) call ∙ ap (λ y. heard t (Step t) y (pending (told es) t)) answer) ∙ simp (eq-eqb t t refl) (longer_pending (pending (told es) t))

    ended_now : call_at (Served t) (lent es) ≡ Step t ∷ [] → (v : Outcome) (k : ℕ) → (shown o).answer (calls es) (Step t) ≡ Ended v k
        → (is_pending (pending (told (es ++ (Served t ∷ []))) t) ≡ false) × (last_ended t no_outcome (told (es ++ (Served t ∷ []))) ≡ v)
    ended_now call v k answer = (
      ap is_pending (pending_call es (Served t) (Step t) call ∙ ap (λ y. heard t (Step t) y (pending (told es) t)) answer) ∙ simp (eq-eqb t t refl),
      ended_call es (Served t) (Step t) call ∙ ap (λ y. ended_by t (Step t) y (last_ended t no_outcome (told es))) answer ∙ simp (eq-eqb t t refl),
    )

    own_holds : {out : WindowOutcome} → Case file (lent es).store.cells (lent es).store.row (lent es).windows t out → window_of file (lent es).store.cells (lent es).store.row (lent es).windows t ≡ out → Holds (es ++ (Served t ∷ []))
    own_holds (unfit h) eo = absurd (h (old.long ∙ ap (λ k. 8 * k) (sym (row_long es))))
    own_holds (past l h) eo = absurd (omega (arith, below, h, row_long es))
    own_holds (nothing h z) eo =
        let call = none (λ e. omega (arith, z, e)) (λ e. absurd (omega (arith, z, e))) in
        let (ep, ev) = tells_none es (Served t) old call in
        let left = ap (λ (x : WindowOutcome). x.windows) eo in
        quiet es (Served t) old (note_is [] (Ok tt) call (ap (λ (x : WindowOutcome). x.answer) eo) ∙ noted_served (byte_at ws t 1) [] (λ e. omega (arith, z, e))) ep ev (ap length left) (λ k l m. ap (λ x. byte_at x t k) left)
    own_holds (unknown h z) eo =
        let (ep, ev) = tells_none es (Served t) old (none (λ e. omega (arith, z, e)) (λ e. absurd (omega (arith, z, e)))) in
        marks cause.Window h _ eo refl (shows_refused ws t (inside ws (length ys) t h) cause.Window) ep ev
    own_holds (acknowledged h z) eo =
        let call = none (λ e. omega (arith, z, e)) (λ e. absurd (omega (arith, z, e))) in
        let (ep, ev) = tells_none es (Served t) old call in
        let shows = shows_acknowledged ws t (inside ws (length ys) t h) in
        next es (Served t) old Acknowledging (note_is [] (Ok tt) call (ap (λ (x : WindowOutcome). x.answer) eo) ∙ simp (eq-eqb (byte_at ws t 1) 3 z)) (last_ended t no_outcome (told es)) ev long_next
        (subst (λ (x : WindowOutcome). Shows x.windows t (is_pending (pending (told (es ++ (Served t ∷ []))) t)) false false (last_ended t no_outcome (told es)).moved false (last_ended t no_outcome (told es)).response (byte_at ws t 4)) (sym eo)
        (as_before shows (old.busy ∙ sym ep)))
    own_holds (unacknowledged h z d) eo =
        let (ep, ev) = tells_none es (Served t) old (none (λ e. omega (arith, z, e)) (λ _. d)) in
        marks cause.Unacknowledged h _ eo refl (shows_refused ws t (inside ws (length ys) t h) cause.Unacknowledged) ep ev
    own_holds (begun h z d a) eo =
        let x = Begin t (byte_at ws t 0) in
        let call = begin_call h z d in
        let shows = shows_begun ws t (inside ws (length ys) t h) in
        let now = begun_now call (sym (answer_shown es x) ∙ ap begin_said a) in
        next es (Served t) old Other (note_is (x ∷ []) (Ok tt) call (ap (λ (y : WindowOutcome). y.answer) eo) ∙ noted_served (byte_at ws t 1) (history_of file (x ∷ []) (lent es).store) (λ e. omega (arith, z, e)) ∙ ap (λ y. ending_of (begin_said y)) a)
        (last_ended t no_outcome (told es)) (ended_call es (Served t) x call) long_next
        (subst (λ (y : WindowOutcome). Shows y.windows t (is_pending (pending (told (es ++ (Served t ∷ []))) t)) (status_at ws t).done (status_at ws t).refused (last_ended t no_outcome (told es)).moved ((status_at ws t).done || (status_at ws t).refused) (last_ended t no_outcome (told es)).response (byte_at ws t 4)) (sym eo)
        (with_interrupt (as_before shows (sym now))))
    own_holds (begin_refused h z d c a) eo =
        let x = Begin t (byte_at ws t 0) in
        let call = begin_call h z d in
        let answer = sym (answer_shown es x) ∙ ap begin_said a in
        let ep = ap is_pending (pending_call es (Served t) x call ∙ ap (λ y. heard t x y (pending (told es) t)) answer) in
        marks c h _ eo refl (shows_refused ws t (inside ws (length ys) t h) c) ep (ended_call es (Served t) x call)
    own_holds (running h z a) eo =
        let call = step_call h z in
        let answer = sym (answer_shown es (Step t)) ∙ ap step_said a in
        let shows = shows_taken ws t (inside ws (length ys) t h) in
        let now = running_now call answer in
        next es (Served t) old Other (note_is (Step t ∷ []) (Ok tt) call (ap (λ (y : WindowOutcome). y.answer) eo) ∙ noted_served (byte_at ws t 1) (history_of file (Step t ∷ []) (lent es).store) (λ e. omega (arith, z, e)) ∙ ap (λ y. ending_of (step_said y)) a)
        (last_ended t no_outcome (told es)) (ended_call es (Served t) (Step t) call ∙ ap (λ y. ended_by t (Step t) y (last_ended t no_outcome (told es))) answer) long_next
        (subst (λ (y : WindowOutcome). Shows y.windows t (is_pending (pending (told (es ++ (Served t ∷ []))) t)) (status_at ws t).done (status_at ws t).refused (last_ended t no_outcome (told es)).moved ((status_at ws t).done || (status_at ws t).refused) (last_ended t no_outcome (told es)).response (byte_at ws t 4)) (sym eo)
        (with_interrupt (as_before shows (old.busy ∙ sym now))))
    own_holds (ended h z r v k a) eo =
        let call = step_call h z in
        let out : Outcome = record { response = r; moved = v } in
        let answer : (shown o).answer (calls es) (Step t) ≡ Ended out k = sym (answer_shown es (Step t)) ∙ ap step_said a in
        let shows = shows_ended ws t (inside ws (length ys) t h) r v in
        let fits = response_fits o (calls es) t out k answer in
        let (now, last) = ended_now call out k answer in
        next es (Served t) old Ending (note_is (Step t ∷ []) (Ok tt) call (ap (λ (y : WindowOutcome). y.answer) eo) ∙ noted_served (byte_at ws t 1) (history_of file (Step t ∷ []) (lent es).store) (λ e. omega (arith, z, e)) ∙ ap (λ y. ending_of (step_said y)) a) out last long_next
        (subst (λ (y : WindowOutcome). Shows y.windows t (is_pending (pending (told (es ++ (Served t ∷ []))) t)) true (status_at ws t).refused v true r (byte_at ws t 4)) (sym eo)
        (record {
          busy_bit = shows.busy_bit ∙ sym now;
          done_bit = shows.done_bit;
          refused_bit = shows.refused_bit;
          moved_bit = shows.moved_bit;
          interrupt_bit = shows.interrupt_bit;
          response_byte = shows.response_byte ∙ omega (arith, fits);
          refusal_byte = shows.refusal_byte;
        }))
    own_holds (step_refused h z c a) eo =
        let call = step_call h z in
        let answer = sym (answer_shown es (Step t)) ∙ ap step_said a in
        let ep = ap is_pending (pending_call es (Served t) (Step t) call ∙ ap (λ y. heard t (Step t) y (pending (told es) t)) answer) in
        let ev = ended_call es (Served t) (Step t) call ∙ ap (λ y. ended_by t (Step t) y (last_ended t no_outcome (told es))) answer in
        marks c h _ eo refl (shows_refused ws t (inside ws (length ys) t h) c) ep ev

  -- Every event keeps it.
  holds_next : t < n → (es : List WindowEvent) (e : WindowEvent) → Leaves t e → Holds es → Holds (es ++ (e ∷ []))
  holds_next below es (Written place byte) leaves old = written_holds es place byte leaves old
  holds_next below es (Direct x) leaves old = direct_holds es x leaves old
  holds_next below es (Served i) leaves old = by (ℕ_discrete i t)
    where
      by : Dec (i ≡ t) → Holds (es ++ (Served i ∷ []))
      by (yes e) = subst (λ j. Holds (es ++ (Served j ∷ []))) (sym e) (own_holds es below old (cases file (lent es).store.cells (lent es).store.row (lent es).windows t) refl)
      by (no d) = served_other es i d old

  -- A window that is all 0 holds at the start.
  first_holds : Blank n t windows → Holds []
  first_holds blank =
      let zero = blank.zeros in
      record {
        long = blank.long;
        busy = ap (λ z. (status_of z).busy) (zero 2 (omega arith)) ∙ ap (λ hs. is_pending (pending hs t)) (sym (demands_met o).begins);
        response = zero 3 (omega arith) ∙ ap (λ hs. (last_ended t no_outcome hs).response) (sym (demands_met o).begins);
        moved = ap (λ z. (status_of z).moved) (zero 2 (omega arith)) ∙ ap (λ hs. (last_ended t no_outcome hs).moved) (sym (demands_met o).begins);
        done = ap (λ z. (status_of z).done) (zero 2 (omega arith));
        refused = ap (λ z. (status_of z).refused) (zero 2 (omega arith));
        interrupt = ap on (zero 5 (omega arith)) ∙ sym (ap (λ z. (status_of z).done || (status_of z).refused) (zero 2 (omega arith)));
        refusal = zero 4 (omega arith);
      }

  pub holds : Blank n t windows → (es : List WindowEvent) → AllLeave t es → Holds es
  holds blank es = from_the_end (λ es. AllLeave t es → Holds es) (λ _. first_holds blank) (λ es e before all. let (rest, last) = all_but_last es e all in holds_next blank.below es e last (before rest)) es
    where
      all_but_last : (es : List WindowEvent) (e : WindowEvent) → AllLeave t (es ++ (e ∷ [])) → AllLeave t es × Leaves t e
      all_but_last [] e (x, _) = (tt, x)
      all_but_last (f ∷ es) e (x, all) = let (rest, last) = all_but_last es e all in ((x, rest), last)

  -- Theorem C.
  pub tells : (es : List WindowEvent) → Holds es → Tells o windows t es
  tells es h = record {
    busy = h.busy;
    response = h.response;
    moved = h.moved;
    done = let (f, g) = done_since (notes es) in ((λ e. f (sym h.done ∙ e)), λ z. h.done ∙ g z);
    refused = let (f, g) = marked_since (notes es) in ((λ e. f (sym h.refused ∙ e)), λ z. h.refused ∙ g z);
    interrupt = let (f, g) = or_read (status_at (lent es).windows t).done (status_at (lent es).windows t).refused in ((λ e. f (sym h.interrupt ∙ e)), λ z. h.interrupt ∙ g z);
    refusal = h.refusal;
  }
