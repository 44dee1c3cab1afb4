-- Runs with windows are runs: every event leaves the cells and the row that the direct call in its place leaves.
use Rattle.std.specs.Prelude.{Result, Ok, Err, ⊤}
use mathlib.Core.Path.{◌≡◌, refl, sym, ap, ◌∙◌}
use mathlib.Core.List.{List, [], ◌∷◌, ◌++◌, append_assoc}
use Prim.Native.Nat.{ℕ}
use lib.ListN.{length}
use Rattle.laws.proofs.Clash.{never}
use Rattle.machine.specs.Calls.{Begin, Step}
use Rattle.stepping.specs.Call.{begin_said, step_said, begin_of, step_of}
use Rattle.stepping.specs.Runs.{Store, serve_of, run_of}
use Rattle.stepping.specs.Opening.{Opening}
use Rattle.stepping.specs.Statement.{Demands}
use Rattle.stepping.proofs.Continued.{run_append}
use Rattle.window.specs.Serve.{window_said, Asked, Settled, Begins, Steps, asked_of, begun_answer, stepped_answer, made, window_of}
use Rattle.window.specs.Events.{WindowEvent, Written, Served, Direct, WindowStore, happen, after, call_by, call_at, calls_of}
use Rattle.window.specs.Statement.{SameAsDirect, ComeTo, CallsGrow, said_of, AnswersDirect, AlongWindows}
use Rattle.refusal.specs.declared.Refusal.{Refusal}
use Rattle.stepping.specs.declared.answer.Progress.{Progress}
use Rattle.stepping.specs.declared.answer.Progress.TheVariants as progress

-- One event.
happens : (file : List ℕ) (e : WindowEvent) (l : WindowStore) → (happen file e l).store ≡ run_of file (call_at e l) l.store
unfolding window_of
happens file (Written place byte) l = refl
happens file (Served t) l = by (asked_of l.windows (length l.store.row) t)
  where
    by : (a : Asked) → let out = made file l.store.cells l.store.row l.windows t a in ◌≡◌ {A = Store} (record { cells = out.cells; row = out.row }) (run_of file (call_by t a) l.store)
    by (Settled answer left) = refl
    by (Begins o) = refl
    by Steps = refl
happens file (Direct x) l = refl

pub events_come : (l : WindowStore) → ComeTo l
events_come l = ((λ place byte. refl), λ x. refl)

-- Theorem A.
pub same_run : (file : List ℕ) (es : List WindowEvent) (l : WindowStore) → SameAsDirect file es l
same_run file [] l = refl
same_run file (e ∷ es) l =
    same_run file es (happen file e l) ∙ ap (run_of file (calls_of file es (happen file e l))) (happens file e l) ∙ sym (run_append file (call_at e l) (calls_of file es (happen file e l)) l.store)

pub calls_grow : (file : List ℕ) (es fs : List WindowEvent) (l : WindowStore) → CallsGrow file es fs l
calls_grow file [] fs l = refl
calls_grow file (e ∷ es) fs l =
    ap (λ xs. call_at e l ++ xs) (calls_grow file es fs (happen file e l)) ∙ sym (append_assoc (call_at e l) (calls_of file es (happen file e l)) (calls_of file fs (after file es (happen file e l))))

-- More events.
pub after_append : (file : List ℕ) (es fs : List WindowEvent) (l : WindowStore) → after file (es ++ fs) l ≡ after file fs (after file es l)
after_append file [] fs l = refl
after_append file (e ∷ es) fs l = after_append file es fs (happen file e l)

-- The window call's answer is that of the direct call.
begun_said : (a : Result ⊤ Refusal) → window_said (begun_answer a) ≡ said_of (begin_said a)
begun_said (Ok tt) = refl
begun_said (Err c) = refl

stepped_said : (a : Result Progress Refusal) → window_said (stepped_answer a) ≡ said_of (step_said a)
stepped_said (Ok progress.Running) = refl
stepped_said (Ok (progress.Ended r v k)) = refl
stepped_said (Err c) = refl

pub answers_direct : (file : List ℕ) (l : WindowStore) → AnswersDirect file l
unfolding window_of
answers_direct file l t x e = by (asked_of l.windows (length l.store.row) t) e
  where
    by : (a : Asked) → call_by t a ≡ x ∷ [] → window_said (made file l.store.cells l.store.row l.windows t a).answer ≡ said_of (serve_of file x l.store).answer
    by (Settled answer left) e = never cc
    by (Begins o) e = let same : Begin t o ≡ x = cc in rw (← same) (begun_said (begin_of file l.store.row t o).answer)
    by Steps e = let same : Step t ≡ x = cc in rw (← same) (stepped_said (step_of file l.store.cells l.store.row t).answer)

-- Demands 2 and 3 of runs with windows.
pub along_windows : {file : List ℕ} {n q : ℕ} {s : Store} (o : Opening file n q s) (d : Demands o) (windows : List ℕ) (es : List WindowEvent) → AlongWindows o d windows es
along_windows {file} {n} {q} {s} o d windows es =
    let l : WindowStore = record { store = s; windows = windows } in
    let run = same_run file es l in
    let same = ap (λ (z : Store). z.cells) run in
    record {
      answers = λ x. ap (λ (z : Store). (serve_of file x z).answer) run;
      cells = same;
      rest = λ r. same ∙ d.rest (calls_of file es l) r;
      prints = rw same (d.prints (calls_of file es l));
    }
