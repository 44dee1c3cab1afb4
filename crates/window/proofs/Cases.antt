-- A window call by its outcome: one case for each, with the facts that were found.
use Rattle.std.specs.Prelude.{Result, Ok, Err, ⊤}
use mathlib.Core.Path.{◌≡◌, refl, sym, subst}
use mathlib.Core.Bool.{Bool, true, false}
use mathlib.Core.List.{List}
use mathlib.Core.Logic.{◌≢◌}
use Prim.Native.Nat.{ℕ, ◌*◌, ◌<◌, ◌≤◌}
use lib.ListN.{length}
use Rattle.refusal.specs.declared.Refusal.{Refusal}
use Rattle.refusal.specs.declared.Refusal.TheVariants as cause
use Rattle.records.specs.declared.record.Task.{Task}
use Rattle.stepping.specs.Call.{begin_of, step_of}
use Rattle.stepping.proofs.Theorem.{begin_unchanged, step_unchanged}
use Rattle.window.specs.Window.{byte_at, status_at}
use Rattle.window.specs.Written.{taken, refused_in, begun_in, ended_in, acknowledged_in, after_begin, after_step}
use Rattle.window.specs.Serve.{Asked, asked_in, asked_of, WindowOutcome, begun_answer, stepped_answer, made, window_of}
use Rattle.window.specs.Statement.{HasWindow}
use Rattle.window.proofs.Commands as found
use Rattle.window.proofs.Commands.{Placed, placed, Command, command}
use Rattle.stepping.specs.declared.answer.Progress.{Progress}
use Rattle.stepping.specs.declared.answer.Progress.TheVariants as progress

module _ (file cells : List ℕ) (row : List Task) (windows : List ℕ) (t : ℕ) where
  -- A call that leaves cells and row.
  abbrev pub still : List ℕ → Result ⊤ Refusal → WindowOutcome
  still left answer = record { cells = cells; row = row; windows = left; answer = answer }

  abbrev stepped : List ℕ → WindowOutcome
  stepped left = record { cells = (step_of file cells row t).cells; row = (step_of file cells row t).row; windows = left; answer = (Ok tt) }

  pub data Case : WindowOutcome → Type 0 where
    unfit : length windows ≢ 8 * length row → Case (still windows (Err cause.Window))
    past : length windows ≡ 8 * length row → length row ≤ t → Case (still windows (Err cause.Task))
    nothing : HasWindow windows (length row) t → byte_at windows t 1 ≡ 0 → Case (still windows (Ok tt))
    unknown : HasWindow windows (length row) t → 3 < byte_at windows t 1 → Case (still (refused_in windows t cause.Window) (Err cause.Window))
    acknowledged : HasWindow windows (length row) t → byte_at windows t 1 ≡ 3 → Case (still (acknowledged_in windows t) (Ok tt))
    unacknowledged : HasWindow windows (length row) t → byte_at windows t 1 ≡ 1 → (status_at windows t).done ≡ true
        → Case (still (refused_in windows t cause.Unacknowledged) (Err cause.Unacknowledged))
    begun : HasWindow windows (length row) t → byte_at windows t 1 ≡ 1 → (status_at windows t).done ≡ false → (begin_of file row t (byte_at windows t 0)).answer ≡ (Ok tt)
        → Case (record { cells = cells; row = (begin_of file row t (byte_at windows t 0)).row; windows = begun_in windows t; answer = (Ok tt) })
    begin_refused : HasWindow windows (length row) t → byte_at windows t 1 ≡ 1 → (status_at windows t).done ≡ false → (c : Refusal) → (begin_of file row t (byte_at windows t 0)).answer ≡ Err c
        → Case (still (refused_in windows t c) (Err c))
    running : HasWindow windows (length row) t → byte_at windows t 1 ≡ 2 → (step_of file cells row t).answer ≡ (Ok progress.Running) → Case (stepped (taken windows t))
    ended : HasWindow windows (length row) t → byte_at windows t 1 ≡ 2 → (r : ℕ) (v : Bool) (k : ℕ) → (step_of file cells row t).answer ≡ (Ok (progress.Ended r v k)) → Case (stepped (ended_in windows t r v))
    step_refused : HasWindow windows (length row) t → byte_at windows t 1 ≡ 2 → (c : Refusal) → (step_of file cells row t).answer ≡ Err c → Case (still (refused_in windows t c) (Err c))

  begin_case : HasWindow windows (length row) t → byte_at windows t 1 ≡ 1 → (status_at windows t).done ≡ false → (a : Result ⊤ Refusal) → (begin_of file row t (byte_at windows t 0)).answer ≡ a
      → Case (record { cells = cells; row = (begin_of file row t (byte_at windows t 0)).row; windows = after_begin windows t a; answer = begun_answer a })
  begin_case h one d (Ok tt) e = begun h one d e
  begin_case h one d (Err c) e =
      subst (λ (y : List Task). Case (record { cells = cells; row = y; windows = refused_in windows t c; answer = Err c })) (sym (begin_unchanged file row t (byte_at windows t 0) c e)) (begin_refused h one d c e)

  step_case : HasWindow windows (length row) t → byte_at windows t 1 ≡ 2 → (a : Result Progress Refusal) → (step_of file cells row t).answer ≡ a
      → Case (record { cells = (step_of file cells row t).cells; row = (step_of file cells row t).row; windows = after_step windows t a; answer = stepped_answer a })
  step_case h two (Ok progress.Running) e = running h two e
  step_case h two (Ok (progress.Ended r v k)) e = ended h two r v k e
  step_case h two (Err c) e =
      let (same_cells, same_row) = step_unchanged file cells row t c e in
      subst (λ (z : List ℕ). Case (record { cells = z; row = (step_of file cells row t).row; windows = refused_in windows t c; answer = Err c })) (sym same_cells)
      (subst (λ (y : List Task). Case (record { cells = cells; row = y; windows = refused_in windows t c; answer = Err c })) (sym same_row) (step_refused h two c e))

  pub cases : Case (window_of file cells row windows t)
  unfolding window_of asked_of
  cases = place (placed windows (length row) t)
    where
      ordered : HasWindow windows (length row) t → {a : Asked} → Command windows t (byte_at windows t 1) a → Case (made file cells row windows t a)
      ordered h (found.nothing e) = nothing h e
      ordered h (found.begins e d) = begin_case h e d (begin_of file row t (byte_at windows t 0)).answer refl
      ordered h (found.unacknowledged e d) = unacknowledged h e d
      ordered h (found.steps e) = step_case h e (step_of file cells row t).answer refl
      ordered h (found.acknowledges e) = acknowledged h e
      ordered h (found.unknown l) = unknown h l

      place : {p : (Result ⊤ Refusal)} → Placed windows (length row) t p → Case (made file cells row windows t (asked_in windows t p))
      place (found.inside e h) = ordered (e, h) (command windows t (byte_at windows t 1))
      place (found.past e h) = past e h
      place (found.unfit h) = unfit h
