-- Theorem B: a console reads from its window what the direct call answers.
use mathlib.Core.Path.{◌≡◌, refl, sym, ap, subst, ◌∙◌}
use mathlib.Core.Bool.{Bool, true, false}
use mathlib.Core.List.{List, [], ◌∷◌}
use Prim.Native.Nat.{ℕ, ◌*◌, ◌<◌}
use native.Mathlib.Omega.{arith}
use lib.ListN.{length}
use Rattle.laws.proofs.Clash.{never}
use Rattle.refusal.specs.Number.{number_of}
use Rattle.machine.specs.Outcome.{Outcome}
use Rattle.machine.specs.Calls.{Call, Begin, Step, Answer, Begun, Running, Ended, Refused}
use Rattle.stepping.specs.Call.{begin_said, step_said}
use Rattle.stepping.specs.Runs.{Store}
use Rattle.stepping.specs.Opening.{Opening, shown}
use Rattle.window.specs.Window.{byte_at, status_at}
use Rattle.window.specs.Written.{taken, refused_in, begun_in, ended_in}
use Rattle.window.specs.Serve.{WindowOutcome, window_of}
use Rattle.window.specs.Events.{WindowEvent, Served, WindowStore, call_at}
use Rattle.window.specs.Console.{ReadBegun, ReadRunning, ReadEnded, ReadRefused, read_begin, read_step, reading_of, without_count}
use Rattle.window.proofs.Cases.{Case, unfit, past, nothing, unknown, acknowledged, unacknowledged, begun, begin_refused, running, ended, step_refused, cases}
use Rattle.window.proofs.Left.{inside}
use Rattle.window.proofs.Shown.{shows_taken, shows_begun, shows_refused, shows_ended}
use Rattle.window.proofs.Answers.{begun_idle, accepted_pending, refused_idle, response_fits}
use Rattle.window.proofs.Judged.{none_made}
use Rattle.window.proofs.Console.{lent, calls, answer_shown, row_long, Holds, begin_call, step_call}

-- ---- Readings by the busy bit before and after

module _ (t : ℕ) (before later : List ℕ) where
  read_begun : (status_at before t).busy ≡ false → (status_at later t).busy ≡ true → read_begin t before later ≡ ReadBegun
  read_begun b a = rw (b, a) refl

  read_begin_refused : (k : ℕ) → (status_at later t).busy ≡ (status_at before t).busy → byte_at later t 4 ≡ k → read_begin t before later ≡ ReadRefused k
  read_begin_refused k same e = by (status_at before t).busy refl
    where
      by : (b : Bool) → (status_at before t).busy ≡ b → read_begin t before later ≡ ReadRefused k
      by true z = rw (z, e) refl
      by false z = let now = same ∙ z in rw (z, now, e) refl

  read_running : (status_at before t).busy ≡ true → (status_at later t).busy ≡ true → read_step t before later ≡ ReadRunning
  read_running b a = rw (b, a) refl

  read_ended : (r : ℕ) (v : Bool) → (status_at before t).busy ≡ true → (status_at later t).busy ≡ false → byte_at later t 3 ≡ r → (status_at later t).moved ≡ v → read_step t before later ≡ ReadEnded r v
  read_ended r v b a er ev = rw (b, a) (ap (λ k. ReadEnded k (status_at later t).moved) er ∙ ap (ReadEnded r) ev)

  read_step_refused : (k : ℕ) → (status_at before t).busy ≡ false → byte_at later t 4 ≡ k → read_step t before later ≡ ReadRefused k
  read_step_refused k b e = rw (b, e) refl

-- A step that runs or ends is not refused.
running_accepted : {a : Answer} {k : ℕ} → a ≡ Running → a ≡ Refused k → ⊥
running_accepted e f = never cc

ended_accepted : {a : Answer} {r : Outcome} {j k : ℕ} → a ≡ Ended r j → a ≡ Refused k → ⊥
ended_accepted e f = never cc

-- ---- At every point

module _ {file : List ℕ} {n q : ℕ} {s : Store} (o : Opening file n q s) (windows : List ℕ) (t : ℕ) (es : List WindowEvent) (below : t < n) (holds : Holds o windows t es) where
  abbrev l : WindowStore
  l = lent o windows t es

  abbrev xs : List Call
  xs = calls o windows t es

  -- The reading of a call that is made, against its answer.
  abbrev Reads : Call → List ℕ → Type 0
  Reads x left = reading_of x (lent o windows t es).windows left ≡ without_count ((shown o).answer (calls o windows t es) x)

  -- Nothing is asked where no call is made.
  no_reading : (x : Call) (left : List ℕ) → call_at (Served t) (lent o windows t es) ≡ [] → call_at (Served t) (lent o windows t es) ≡ x ∷ [] → Reads x left
  no_reading x left none e = never cc

  -- The call that is made is known.
  the_reading : {x y : Call} (left : List ℕ) → call_at (Served t) (lent o windows t es) ≡ y ∷ [] → call_at (Served t) (lent o windows t es) ≡ x ∷ [] → Reads y left → Reads x left
  the_reading {x} {y} left made e r = let same : y ≡ x = cc in subst (λ z. Reads z left) same r

  begin_read : (answer : Answer) → (shown o).answer (calls o windows t es) (Begin t (byte_at (lent o windows t es).windows t 0)) ≡ answer → (left : List ℕ) → read_begin t (lent o windows t es).windows left ≡ without_count answer
      → Reads (Begin t (byte_at (lent o windows t es).windows t 0)) left
  begin_read answer e left r = r ∙ ap without_count (sym e)

  step_read : (answer : Answer) → (shown o).answer (calls o windows t es) (Step t) ≡ answer → (left : List ℕ) → read_step t (lent o windows t es).windows left ≡ without_count answer → Reads (Step t) left
  step_read answer e left r = r ∙ ap without_count (sym e)

  reading : {out : WindowOutcome} → Case file (lent o windows t es).store.cells (lent o windows t es).store.row (lent o windows t es).windows t out → (x : Call)
      → call_at (Served t) (lent o windows t es) ≡ x ∷ [] → Reads x out.windows
  reading (unfit h) x e = absurd (h (holds.long ∙ ap (λ k. 8 * k) (sym (row_long o windows t es))))
  reading (past z h) x e = absurd (omega (arith, below, h, row_long o windows t es))
  reading (nothing h z) x e = no_reading x _ ((none_made l.windows (length l.store.row) t).1 (λ _. ((λ y. omega (arith, z, y)), (λ y. absurd (omega (arith, z, y)))))) e
  reading (unknown h z) x e = no_reading x _ ((none_made l.windows (length l.store.row) t).1 (λ _. ((λ y. omega (arith, z, y)), (λ y. absurd (omega (arith, z, y)))))) e
  reading (acknowledged h z) x e = no_reading x _ ((none_made l.windows (length l.store.row) t).1 (λ _. ((λ y. omega (arith, z, y)), (λ y. absurd (omega (arith, z, y)))))) e
  reading (unacknowledged h z d) x e = no_reading x _ ((none_made l.windows (length l.store.row) t).1 (λ _. ((λ y. omega (arith, z, y)), (λ _. d)))) e
  reading (begun h z d a) x e =
      let y = Begin t (byte_at l.windows t 0) in
      let answer = sym (answer_shown o windows t es y) ∙ ap begin_said a in
      the_reading (begun_in l.windows t) (begin_call o windows t es below holds h z d) e
      (begin_read Begun answer (begun_in l.windows t) (read_begun t l.windows (begun_in l.windows t) (holds.busy ∙ begun_idle o xs t (byte_at l.windows t 0) answer) (shows_begun l.windows t (inside l.windows (length l.store.row) t h)).busy_bit))
  reading (begin_refused h z d c a) x e =
      let y = Begin t (byte_at l.windows t 0) in
      let shows = shows_refused l.windows t (inside l.windows (length l.store.row) t h) c in
      the_reading (refused_in l.windows t c) (begin_call o windows t es below holds h z d) e
      (begin_read (Refused (number_of c)) (sym (answer_shown o windows t es y) ∙ ap begin_said a) (refused_in l.windows t c) (read_begin_refused t l.windows (refused_in l.windows t c) (number_of c) shows.busy_bit shows.refusal_byte))
  reading (running h z a) x e =
      let answer = sym (answer_shown o windows t es (Step t)) ∙ ap step_said a in
      let busy = holds.busy ∙ accepted_pending o xs t (λ k y. running_accepted answer y) in
      the_reading (taken l.windows t) (step_call o windows t es below holds h z) e
      (step_read Running answer (taken l.windows t) (read_running t l.windows (taken l.windows t) busy ((shows_taken l.windows t (inside l.windows (length l.store.row) t h)).busy_bit ∙ busy)))
  reading (ended h z r v k a) x e =
      let out : Outcome = record { response = r; moved = v } in
      let answer : (shown o).answer xs (Step t) ≡ Ended out k = sym (answer_shown o windows t es (Step t)) ∙ ap step_said a in
      let shows = shows_ended l.windows t (inside l.windows (length l.store.row) t h) r v in
      let busy = holds.busy ∙ accepted_pending o xs t (λ k y. ended_accepted answer y) in
      let fits = response_fits o xs t out k answer in
      the_reading (ended_in l.windows t r v) (step_call o windows t es below holds h z) e
      (step_read (Ended out k) answer (ended_in l.windows t r v) (read_ended t l.windows (ended_in l.windows t r v) r v busy shows.busy_bit (shows.response_byte ∙ omega (arith, fits)) shows.moved_bit))
  reading (step_refused h z c a) x e =
      let answer = sym (answer_shown o windows t es (Step t)) ∙ ap step_said a in
      let shows = shows_refused l.windows t (inside l.windows (length l.store.row) t h) c in
      the_reading (refused_in l.windows t c) (step_call o windows t es below holds h z) e
      (step_read (Refused (number_of c)) answer (refused_in l.windows t c) (read_step_refused t l.windows (refused_in l.windows t c) (number_of c) (holds.busy ∙ refused_idle o xs t (number_of c) answer) shows.refusal_byte))

  pub reads_direct : (x : Call) → call_at (Served t) (lent o windows t es) ≡ x ∷ []
      → reading_of x (lent o windows t es).windows (window_of file (lent o windows t es).store.cells (lent o windows t es).store.row (lent o windows t es).windows t).windows ≡ without_count ((shown o).answer (calls o windows t es) x)
  reads_direct x e = reading (cases file l.store.cells l.store.row l.windows t) x e
