-- A window call looks at the record of its task alone, and a command is served once.
use Rattle.std.specs.Prelude.{Result, ⊤}
use mathlib.Core.Path.{◌≡◌, refl, sym, ap, ◌∙◌}
use mathlib.Core.List.{List, []}
use Prim.Native.Nat.{ℕ}
use native.Mathlib.Omega.{arith}
use lib.ListN.{length}
use Rattle.records.specs.declared.record.Task.{Task}
use Rattle.stepping.specs.Call.{Begin}
use Rattle.stepping.specs.Step.{TaskOutcome}
use Rattle.stepping.specs.Call.{begin_task, step_task, task_at}
use Rattle.stepping.proofs.Theorem.{begins_by_record, steps_by_record}
use Rattle.window.specs.Written.{after_begin, after_step}
use Rattle.window.specs.Serve.{Asked, Settled, Begins, Steps, commanded, asked_in, asked_of, begun_answer, stepped_answer, made, window_of}
use Rattle.window.specs.Events.{Served, WindowStore, happen, call_by}
use Rattle.window.specs.Statement.{HasWindow, ByRecord, RecordAlone, ServedOnce}
use Rattle.window.proofs.Commands as found
use Rattle.window.proofs.Commands.{Placed, placed}
use Rattle.window.proofs.Left.{others_stay, taken_once}
use Rattle.refusal.specs.declared.Refusal.{Refusal}

module _ (file cells : List ℕ) (row others : List Task) (windows : List ℕ) (t : ℕ) (long : length row ≡ length others) (same : task_at row t ≡ task_at others t) where
  -- The begin and the step of one record.
  begin_same : (o : ℕ) → begin_task file (length row) t o (task_at row t) ≡ begin_task file (length others) t o (task_at others t)
  begin_same o = ap (λ n. begin_task file n t o (task_at row t)) long ∙ ap (begin_task file (length others) t o) same

  step_same : step_task file cells (length row) t (task_at row t) ≡ step_task file cells (length others) t (task_at others t)
  step_same = ap (λ n. step_task file cells n t (task_at row t)) long ∙ ap (step_task file cells (length others) t) same

  made_same : (a : Asked) → ByRecord file cells row windows t (made file cells row windows t a) (made file cells others windows t a)
  made_same (Settled answer left) = record { answer = refl; cells_same = refl; windows_same = refl; own = λ _. same; long = refl; rest = λ j _. refl }
  made_same (Begins o) =
      let (a, put) = begins_by_record file row t o in
      let (a', put') = begins_by_record file others t o in
      let answers = a ∙ ap (λ (x : Begin). x.answer) (begin_same o) ∙ sym a' in
      record {
        answer = ap begun_answer answers;
        cells_same = refl;
        windows_same = ap (after_begin windows t) answers;
        own = λ below. put.named below ∙ ap (λ (x : Begin). x.task) (begin_same o) ∙ sym (put'.named (omega (arith, below, long)));
        long = put.long;
        rest = put.others;
      }
  made_same Steps =
      let (a, c, put) = steps_by_record file cells row t in
      let (a', c', put') = steps_by_record file cells others t in
      let answers = a ∙ ap (λ (x : TaskOutcome). x.answer) step_same ∙ sym a' in
      record {
        answer = ap stepped_answer answers;
        cells_same = c ∙ ap (λ (x : TaskOutcome). x.cells) step_same ∙ sym c';
        windows_same = ap (after_step windows t) answers;
        own = λ below. put.named below ∙ ap (λ (x : TaskOutcome). x.task) step_same ∙ sym (put'.named (omega (arith, below, long)));
        long = put.long;
        rest = put.others;
      }

pub record_alone : (file cells : List ℕ) (row : List Task) (windows : List ℕ) (t : ℕ) → RecordAlone file cells row windows t
unfolding window_of
record_alone file cells row windows t others long same = rw (← long) (made_same file cells row others windows t long same (asked_of windows (length row) t))

-- After a window call another one finds no command, or has no window.
pub served_once : (file : List ℕ) (l : WindowStore) → ServedOnce file l
unfolding asked_of
served_once file l t = by (placed w' n' t)
  where
    n' : ℕ
    n' = length (happen file (Served t) l).store.row

    w' : List ℕ
    w' = (happen file (Served t) l).windows

    same_long : n' ≡ length l.store.row
    same_long = (record_alone file l.store.cells l.store.row l.windows t l.store.row refl refl).long

    by : {p : (Result ⊤ Refusal)} → Placed w' n' t p → call_by t (asked_in w' t p) ≡ []
    by (found.inside fits below) =
        let left = (others_stay file l.store.cells l.store.row l.windows t).long in
        let has : HasWindow l.windows (length l.store.row) t = (omega (arith, left, fits, same_long), omega (arith, below, same_long)) in
        ap (λ k. call_by t (commanded w' t k)) (taken_once file l.store.cells l.store.row l.windows t has)
    by (found.past fits above) = refl
    by (found.unfit h) = refl
