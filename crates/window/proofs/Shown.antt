-- What the window shows after a call: the named bits and bytes, by the command and the answers.
use Rattle.std.specs.Prelude.{⊤, Result, Ok, Err}
use mathlib.Core.Path.{◌≡◌, refl, sym, ap, ◌∙◌}
use mathlib.Core.Bool.{Bool, true, false}
use mathlib.Core.List.{List}
use mathlib.Core.Logic.{◌≢◌, inl, inr}
use Prim.Native.Nat.{ℕ, ◌+◌, ◌*◌, ◌%◌, ◌<◌, ◌≤◌}
use native.Mathlib.Omega.{arith}
use lib.ListN.{length}
use Rattle.laws.proofs.Clash.{never}
use Rattle.refusal.specs.declared.Refusal.{Refusal}
use Rattle.refusal.specs.declared.Refusal.TheVariants as cause
use Rattle.refusal.specs.Number.{number_of}
use Rattle.records.specs.declared.record.Task.{Task}
use Rattle.stepping.specs.Call.{step_of}
use Rattle.window.specs.declared.Status.{Status}
use Rattle.window.specs.Window.{byte_at, on, status_of, status_at, interrupt_at}
use Rattle.window.specs.Written.{refused_status, begun_status, ended_status, acknowledged_status, taken, refused_in, begun_in, ended_in, acknowledged_in}
use Rattle.window.specs.Serve.{WindowOutcome}
use Rattle.window.specs.Statement.{HasWindow, SettledAlone, Shows, RefusedWindow, RefusedLeaves, ServedWindow, ServedLeaves}
use Rattle.window.proofs.Bytes.{status_read, interrupt_read, Bytes, bytes_at, with_bytes, bytes_read, taken_bytes, begun_bytes, refused_bytes, ended_bytes, acknowledged_bytes, taken_bytes_lem, begun_bytes_lem, refused_bytes_lem, acknowledged_bytes_lem, ended_bytes_lem}
use Rattle.window.proofs.Cases.{Case, still, unfit, past, nothing, unknown, acknowledged, unacknowledged, begun, begin_refused, running, ended, step_refused, cases}
use Rattle.window.proofs.Left.{inside}
use Rattle.stepping.specs.declared.answer.Progress.{Progress}
use Rattle.stepping.specs.declared.answer.Progress.TheVariants as progress

-- A step has one answer.
running_ended : {a : (Result Progress Refusal)} {r k : ℕ} {v : Bool} → a ≡ (Ok progress.Running) → a ≡ (Ok (progress.Ended r v k)) → ⊥
running_ended e f = never cc

refused_running : {a : (Result Progress Refusal)} {c : Refusal} → a ≡ Err c → a ≡ (Ok progress.Running) → ⊥
refused_running e f = never cc

refused_ended : {a : (Result Progress Refusal)} {c : Refusal} {r k : ℕ} {v : Bool} → a ≡ Err c → a ≡ (Ok (progress.Ended r v k)) → ⊥
refused_ended e f = never cc

module _ (windows : List ℕ) (t : ℕ) (within : 8 * t + 7 < length windows) where
  -- Five bytes as they are written.
  written : (left : List ℕ) (b : Bytes) → left ≡ with_bytes windows t b → (s : Status) → status_of b.status ≡ s → (i : Bool) → on b.interrupt ≡ i
      → Shows left t s.busy s.done s.refused s.moved i b.response b.refusal
  written left b e s es i ei =
      let read = ap (λ (w : List ℕ). bytes_at w t) e ∙ bytes_read windows t b within in
      let status = ap (λ (z : Bytes). status_of z.status) read ∙ es in
      record {
        busy_bit = ap (λ (z : Status). z.busy) status;
        done_bit = ap (λ (z : Status). z.done) status;
        refused_bit = ap (λ (z : Status). z.refused) status;
        moved_bit = ap (λ (z : Status). z.moved) status;
        interrupt_bit = ap (λ (z : Bytes). on z.interrupt) read ∙ ei;
        response_byte = ap (λ (z : Bytes). z.response) read;
        refusal_byte = ap (λ (z : Bytes). z.refusal) read;
      }

  abbrev s₀ : Status
  s₀ = status_at windows t

  pub shows_taken : Shows (taken windows t) t (status_at windows t).busy (status_at windows t).done (status_at windows t).refused (status_at windows t).moved (interrupt_at windows t) (byte_at windows t 3) (byte_at windows t 4)
  shows_taken = written (taken windows t) (taken_bytes (bytes_at windows t)) (taken_bytes_lem windows t) s₀ refl (interrupt_at windows t) refl

  pub shows_begun : Shows (begun_in windows t) t true (status_at windows t).done (status_at windows t).refused (status_at windows t).moved (interrupt_at windows t) (byte_at windows t 3) (byte_at windows t 4)
  shows_begun = written (begun_in windows t) (begun_bytes (bytes_at windows t)) (begun_bytes_lem windows t) (begun_status s₀) (status_read (begun_status s₀)) (interrupt_at windows t) refl

  pub shows_refused : (c : Refusal) → Shows (refused_in windows t c) t (status_at windows t).busy (status_at windows t).done true (status_at windows t).moved true (byte_at windows t 3) (number_of c)
  shows_refused c = written (refused_in windows t c) (refused_bytes c (bytes_at windows t)) (refused_bytes_lem windows t c) (refused_status s₀) (status_read (refused_status s₀)) true (interrupt_read true (byte_at windows t 5)).0

  pub shows_ended : (r : ℕ) (v : Bool) → Shows (ended_in windows t r v) t false true (status_at windows t).refused v true (r % 256) (byte_at windows t 4)
  shows_ended r v = written (ended_in windows t r v) (ended_bytes r v (bytes_at windows t)) (ended_bytes_lem windows t r v) (ended_status v s₀) (status_read (ended_status v s₀)) true (interrupt_read true (byte_at windows t 5)).0

  pub shows_acknowledged : Shows (acknowledged_in windows t) t (status_at windows t).busy false false (status_at windows t).moved false (byte_at windows t 3) (byte_at windows t 4)
  shows_acknowledged = written (acknowledged_in windows t) (acknowledged_bytes (bytes_at windows t)) (acknowledged_bytes_lem windows t) (acknowledged_status s₀) (status_read (acknowledged_status s₀)) false (interrupt_read false (byte_at windows t 5)).0

module _ (file cells : List ℕ) (row : List Task) (windows : List ℕ) (t : ℕ) where
  -- Without a window, and for a command.
  refuses_none : (b c : Refusal) → (HasWindow windows (length row) t → ⊥) → RefusedWindow file cells row windows t c (still file cells row windows t windows (Err b))
  refuses_none b c none = record { cells_left = refl; row_left = refl; no_window = λ _. refl; marked = λ has. absurd (none has) }

  refuses_command : (b c : Refusal) → HasWindow windows (length row) t → ◌≡◌ {A = Result ⊤ Refusal} (Err b) (Err c) → RefusedWindow file cells row windows t c (still file cells row windows t (refused_in windows t b) (Err b))
  refuses_command b c has e =
      let same : b ≡ c = cc in
      record { cells_left = refl; row_left = refl; no_window = λ none. absurd (none has); marked = λ _. rw (← same) (shows_refused windows t (inside windows (length row) t has) b) }

  refuses : {out : WindowOutcome} → Case file cells row windows t out → (c : Refusal) → out.answer ≡ Err c → RefusedWindow file cells row windows t c out
  refuses (unfit h) c e = refuses_none cause.Window c (λ has. h has.0)
  refuses (past l h) c e = refuses_none cause.Task c (λ has. omega (arith, has.1, h))
  refuses (nothing h z) c e = never cc
  refuses (unknown h z) c e = refuses_command cause.Window c h e
  refuses (acknowledged h z) c e = never cc
  refuses (unacknowledged h z d) c e = refuses_command cause.Unacknowledged c h e
  refuses (begun h z d a) c e = never cc
  refuses (begin_refused h z d b a) c e = refuses_command b c h e
  refuses (running h z a) c e = never cc
  refuses (ended h z r v k a) c e = never cc
  refuses (step_refused h z b a) c e = refuses_command b c h e

  pub refused_leaves : RefusedLeaves file cells row windows t
  refused_leaves = refuses (cases file cells row windows t)

  -- Nothing and acknowledge are settled by the windows alone.
  alone : HasWindow windows (length row) t → byte_at windows t 1 ≢ 1 → byte_at windows t 1 ≢ 2 → byte_at windows t 1 ≤ 3 → {out : WindowOutcome} → Case file cells row windows t out
      → (out.answer ≡ (Ok tt)) × (out.cells ≡ cells) × (out.row ≡ row)
  alone has one two few (unfit h) = absurd (h has.0)
  alone has one two few (past l h) = absurd (omega (arith, has.1, h))
  alone has one two few (nothing h z) = (refl, refl, refl)
  alone has one two few (unknown h z) = absurd (omega (arith, few, z))
  alone has one two few (acknowledged h z) = (refl, refl, refl)
  alone has one two few (unacknowledged h z d) = absurd (one z)
  alone has one two few (begun h z d a) = absurd (one z)
  alone has one two few (begin_refused h z d b a) = absurd (one z)
  alone has one two few (running h z a) = absurd (two z)
  alone has one two few (ended h z r v k a) = absurd (two z)
  alone has one two few (step_refused h z b a) = absurd (two z)

  pub settled_alone : SettledAlone file cells row windows t
  settled_alone has (inl e) = alone has (λ z. omega (arith, e, z)) (λ z. omega (arith, e, z)) (omega (arith, e)) (cases file cells row windows t)
  settled_alone has (inr e) = alone has (λ z. omega (arith, e, z)) (λ z. omega (arith, e, z)) (omega (arith, e)) (cases file cells row windows t)

  -- No part asks about a command other than the one that stands there.
  serves_other : (k : ℕ) → byte_at windows t 1 ≡ k → k ≢ 0 → k ≢ 1 → k ≢ 2 → k ≢ 3 → (out : WindowOutcome) → ServedWindow file cells row windows t out
  serves_other k e zero one two three out = record {
    nothing_left = λ z. absurd (zero (sym e ∙ z));
    acknowledge_shows = λ z. absurd (three (sym e ∙ z));
    begin_shows = λ z _. absurd (one (sym e ∙ z));
    running_shows = λ z _. absurd (two (sym e ∙ z));
    ended_shows = λ r k v z _. absurd (two (sym e ∙ z));
  }

  serves_begin : byte_at windows t 1 ≡ 1 → (out : WindowOutcome)
      → (out.answer ≡ (Ok tt) → Shows out.windows t true (status_at windows t).done (status_at windows t).refused (status_at windows t).moved (interrupt_at windows t) (byte_at windows t 3) (byte_at windows t 4)) → ServedWindow file cells row windows t out
  serves_begin e out f = record {
    nothing_left = λ z. absurd (omega (arith, e, z));
    acknowledge_shows = λ z. absurd (omega (arith, e, z));
    begin_shows = λ _. f;
    running_shows = λ z _. absurd (omega (arith, e, z));
    ended_shows = λ r k v z _. absurd (omega (arith, e, z));
  }

  serves_step : byte_at windows t 1 ≡ 2 → (out : WindowOutcome)
      → ((step_of file cells row t).answer ≡ (Ok progress.Running) → Shows out.windows t (status_at windows t).busy (status_at windows t).done (status_at windows t).refused (status_at windows t).moved (interrupt_at windows t) (byte_at windows t 3) (byte_at windows t 4))
      → ((r k : ℕ) (v : Bool) → (step_of file cells row t).answer ≡ (Ok (progress.Ended r v k)) → Shows out.windows t false true (status_at windows t).refused v true (r % 256) (byte_at windows t 4)) → ServedWindow file cells row windows t out
  serves_step e out f g = record {
    nothing_left = λ z. absurd (omega (arith, e, z));
    acknowledge_shows = λ z. absurd (omega (arith, e, z));
    begin_shows = λ z _. absurd (omega (arith, e, z));
    running_shows = λ _. f;
    ended_shows = λ r k v _. g r k v;
  }

  serves : HasWindow windows (length row) t → {out : WindowOutcome} → Case file cells row windows t out → ServedWindow file cells row windows t out
  serves has (unfit h) = absurd (h has.0)
  serves has (past l h) = absurd (omega (arith, has.1, h))
  serves has (nothing h z) = record {
    nothing_left = λ _. refl;
    acknowledge_shows = λ e. absurd (omega (arith, z, e));
    begin_shows = λ e _. absurd (omega (arith, z, e));
    running_shows = λ e _. absurd (omega (arith, z, e));
    ended_shows = λ r k v e _. absurd (omega (arith, z, e));
  }
  serves has (unknown h z) = serves_other (byte_at windows t 1) refl (λ e. omega (arith, z, e)) (λ e. omega (arith, z, e)) (λ e. omega (arith, z, e)) (λ e. omega (arith, z, e)) _
  serves has (acknowledged h z) = record {
    nothing_left = λ e. absurd (omega (arith, z, e));
    acknowledge_shows = λ _. shows_acknowledged windows t (inside windows (length row) t h);
    begin_shows = λ e _. absurd (omega (arith, z, e));
    running_shows = λ e _. absurd (omega (arith, z, e));
    ended_shows = λ r k v e _. absurd (omega (arith, z, e));
  }
  serves has (unacknowledged h z d) = serves_begin z _ (λ e. never cc)
  serves has (begun h z d a) = serves_begin z _ (λ _. shows_begun windows t (inside windows (length row) t h))
  serves has (begin_refused h z d b a) = serves_begin z _ (λ e. never cc)
  serves has (running h z a) = serves_step z _ (λ _. shows_taken windows t (inside windows (length row) t h)) (λ r k v e. absurd (running_ended a e))
  serves has (ended h z r v k a) = serves_step z _ (λ e. absurd (running_ended e a)) (λ r' k' v' e. same r' k' v' e)
    where
      same : (r' k' : ℕ) (v' : Bool) → (step_of file cells row t).answer ≡ (Ok (progress.Ended r' v' k')) → Shows (ended_in windows t r v) t false true (status_at windows t).refused v' true (r' % 256) (byte_at windows t 4)
      same r' k' v' e =
          let same_r : r ≡ r' = cc in
          let same_v : v ≡ v' = cc in
          rw (← same_r, ← same_v) (shows_ended windows t (inside windows (length row) t h) r v)
  serves has (step_refused h z b a) = serves_step z _ (λ e. absurd (refused_running a e)) (λ r k v e. absurd (refused_ended a e))

  pub served_leaves : ServedLeaves file cells row windows t
  served_leaves has = serves has (cases file cells row windows t)
