-- A window call by its tests: what is left where a task has no window, and what each command leaves in the eight bytes that are lent.
use Rattle.std.specs.Prelude.{Result, Ok, Err, ⊤}
use mathlib.Core.Path.{◌≡◌, refl, sym, ap, ◌∙◌}
use mathlib.Core.Bool.{Bool, true, false, cond}
use mathlib.Core.List.{List, ◌++◌}
use Prim.Native.Nat.{ℕ, ◌<◌}
use native.Mathlib.Omega.{arith}
use borrow.Author.Tests.{ne_eqb, lt-ltb}
use lib.ListN.{length}
use Rattle.refusal.specs.declared.Refusal.{Refusal}
use Rattle.refusal.specs.declared.Refusal.TheVariants as cause
use Rattle.records.specs.declared.record.Task.{Task}
use Rattle.stepping.specs.Call.{begin_of, step_of}
use Rattle.window.specs.Window.{byte_at, status_of, status_at, place_of}
use Rattle.window.specs.Written.{refused_in, acknowledged_in, after_begin, after_step}
use Rattle.window.specs.Serve.{Asked, Begins, asked_in, asked_of, refused_command, commanded, WindowOutcome, begun_answer, stepped_answer, made, window_of}
use Rattle.window.proofs.Lent.{Lent, read, lent_refused, lent_acknowledged, lent_begin, lent_step}

module _ (file cells : List ℕ) (row : List Task) (windows : List ℕ) (t : ℕ) where
  -- What is left and answered is the outcome of the call.
  abbrev Leaves : List ℕ → List Task → List ℕ → Result ⊤ Refusal → Type 0
  Leaves cells' row' windows' answer = ◌≡◌ {A = WindowOutcome} (record { cells = cells'; row = row'; windows = windows'; answer = answer }) (window_of file cells row windows t)

  -- A task without a window.
  pub turned_away : {c : Refusal} → Err c ≡ place_of windows (length row) t → Leaves cells row windows (Err c)
  unfolding window_of asked_of
  turned_away found = ap (λ p. made file cells row windows t (asked_in windows t p)) found

  -- A task with a window, by its command.
  module _ (found : (Ok tt) ≡ place_of windows (length row) t) {before own others : List ℕ} (h : Lent windows t before own others) where
    served_as : (k : ℕ) {a : Asked} → byte_at own 0 1 ≡ k → commanded windows t k ≡ a → made file cells row windows t a ≡ window_of file cells row windows t
    unfolding window_of asked_of
    served_as k e asked =
        ap (made file cells row windows t) (sym asked ∙ ap (commanded windows t) (sym e ∙ read h 1 (omega arith)))
        ∙ ap (λ p. made file cells row windows t (asked_in windows t p)) found

    pub served_nothing : byte_at own 0 1 ≡ 0 → Leaves cells row (before ++ (own ++ others)) (Ok tt)
    served_nothing e = rw h.parts (served_as 0 e refl)

    pub served_acknowledged : byte_at own 0 1 ≡ 3 → Leaves cells row (before ++ (acknowledged_in own 0 ++ others)) (Ok tt)
    served_acknowledged e = rw (lent_acknowledged h).parts (served_as 3 e refl)

    -- Whether done stands decides over a begin.
    by_done : {d : Bool} → (status_at own 0).done ≡ d → commanded windows t 1 ≡ cond d (refused_command windows t cause.Unacknowledged) (Begins (byte_at windows t 0))
    by_done e = ap (λ d. cond d (refused_command windows t cause.Unacknowledged) (Begins (byte_at windows t 0))) (ap (λ b. (status_of b).done) (sym (read h 2 (omega arith))) ∙ e)

    pub served_unacknowledged : byte_at own 0 1 ≡ 1 → (status_at own 0).done ≡ true → Leaves cells row (before ++ (refused_in own 0 cause.Unacknowledged ++ others)) (Err cause.Unacknowledged)
    served_unacknowledged e d = rw (lent_refused h cause.Unacknowledged).parts (served_as 1 e (by_done d))

    pub served_begin : byte_at own 0 1 ≡ 1 → (status_at own 0).done ≡ false → let out = begin_of file row t (byte_at own 0 0) in Leaves cells out.row (before ++ (after_begin own 0 out.answer ++ others)) (begun_answer out.answer)
    served_begin e d =
        rw ((lent_begin h (begin_of file row t (byte_at own 0 0)).answer).parts, read h 0 (omega arith)) (served_as 1 e (by_done d))

    -- A begin command, by whether done stands.
    pub served_begin_command : byte_at own 0 1 ≡ 1 → let done = (status_at own 0).done in let out = begin_of file row t (byte_at own 0 0) in let answer = cond done (Err cause.Unacknowledged) out.answer in
        Leaves cells (cond done row out.row) (before ++ (after_begin own 0 answer ++ others)) (begun_answer answer)
    served_begin_command e = by (status_at own 0).done refl
      where
        by : (d : Bool) → (status_at own 0).done ≡ d → let out = begin_of file row t (byte_at own 0 0) in let answer = cond d (Err cause.Unacknowledged) out.answer in
            Leaves cells (cond d row out.row) (before ++ (after_begin own 0 answer ++ others)) (begun_answer answer)
        by true stands = served_unacknowledged e stands
        by false stands = served_begin e stands

    pub served_step : byte_at own 0 1 ≡ 2 → let out = step_of file cells row t in Leaves out.cells out.row (before ++ (after_step own 0 out.answer ++ others)) (stepped_answer out.answer)
    served_step e = rw (lent_step h (step_of file cells row t).answer).parts (served_as 2 e refl)

    unknown : {k : ℕ} → 3 < k → commanded windows t k ≡ refused_command windows t cause.Window
    unknown {k} few = simp (ne_eqb k 0 (λ e. omega (arith, e, few)), lt-ltb 3 k few)

    pub served_unknown : 3 < byte_at own 0 1 → Leaves cells row (before ++ (refused_in own 0 cause.Window ++ others)) (Err cause.Window)
    served_unknown few = rw (lent_refused h cause.Window).parts (served_as (byte_at own 0 1) refl (unknown few))
