-- When a window call is refused with 18, 7 and 17, which direct call it makes, and when a line is up: exactly as the statements say.
use Rattle.std.specs.Prelude.{Result, Ok, Err, ⊤}
use mathlib.Core.Path.{◌≡◌, refl, sym, ap, ◌∙◌}
use mathlib.Core.Logic.{◌↔◌, ◌≢◌, ◌⊎◌, inl, inr}
use mathlib.Core.Bool.{Bool, true, false, cond}
use mathlib.Core.List.{List, [], ◌∷◌}
use Prim.Native.Nat.{ℕ, ◌*◌, ◌<◌, ◌≤◌}
use native.Mathlib.Omega.{arith}
use lib.ListN.{length}
use Rattle.laws.proofs.Clash.{never, clash}
use Rattle.refusal.specs.declared.Refusal.{Refusal}
use Rattle.refusal.specs.declared.Refusal.TheVariants as cause
use Rattle.refusal.specs.Number.{number_of, Said, refused_by}
use Rattle.refusal.proofs.Numbers.{numbers_apart, values_same}
use Rattle.machine.specs.Calls.{Begin, Step}
use Rattle.records.specs.declared.record.Task.{Task}
use Rattle.stepping.specs.Call.{begin_said, step_said, task_at, begin_of, step_of}
use Rattle.window.specs.Window.{byte_at, status_at, interrupt_at, mask_at}
use Rattle.window.specs.Serve.{window_said, Asked, asked_in, asked_of, WindowOutcome, made, window_of}
use Rattle.window.specs.Line.{line_in, line_of}
use Rattle.window.specs.Events.{call_by}
use Rattle.window.specs.Statement.{HasWindow, BeginsBy, StepsBy, NoneBy, LineSays, LineJudged, Judged}
use Rattle.window.proofs.Commands as found
use Rattle.window.proofs.Commands.{Placed, placed, place_unfit, place_past, Command, command}
use Rattle.window.proofs.Causes.{Own, begin_own, step_own}
use Rattle.window.proofs.Cases.{Case, unfit, past, nothing, unknown, acknowledged, unacknowledged, begun, begin_refused, running, ended, step_refused, cases}
use Rattle.window.specs.declared.LineLevel.TheVariants as line

-- ---- The numbers

-- A begin and a step of a task that has a window are refused with numbers of the library's own.
begin_number : (file : List ℕ) (row : List Task) (t o : ℕ) (c : Refusal) → t < length row → (begin_of file row t o).answer ≡ Err c → Own (number_of c)
unfolding begin_of
begin_number file row t o c below e = begin_own file (length row) t o (task_at row t) below (number_of c) (ap begin_said e)

step_number : (file cells : List ℕ) (row : List Task) (t : ℕ) (c : Refusal) → t < length row → (step_of file cells row t).answer ≡ Err c → Own (number_of c)
unfolding step_of
step_number file cells row t c below e = step_own file cells (length row) t (task_at row t) below (number_of c) (ap step_said e)

number_is : {s : Said} {k : ℕ} → s ≡ refused_by k → s.number ≡ k
number_is e = ap (λ (s : Said). s.number) e

module _ (file cells : List ℕ) (row : List Task) (windows : List ℕ) (t : ℕ) where
  abbrev Unfit : Type 0
  Unfit = (length windows ≢ 8 * length row) ⊎ (HasWindow windows (length row) t × (3 < byte_at windows t 1))

  abbrev Past : Type 0
  Past = (length windows ≡ 8 * length row) × (length row ≤ t)

  abbrev Unacknowledged : Type 0
  Unacknowledged = HasWindow windows (length row) t × (byte_at windows t 1 ≡ 1) × ((status_at windows t).done ≡ true)

  -- What 18, 7 and 17 mean.
  record Means (out : WindowOutcome) : Type 0 where
    eighteen : (window_said out.answer).number ≡ 18 → Unfit
    seven : (window_said out.answer).number ≡ 7 → Past
    seventeen : (window_said out.answer).number ≡ 17 → Unacknowledged

  -- Another number means none of these.
  other : (out : WindowOutcome) (k : ℕ) → (window_said out.answer).number ≡ k → k < 13 → k ≢ 7 → Means out
  other out k e few seven = record { eighteen = λ z. absurd (omega (arith, e, z, few)); seven = λ z. absurd (seven (sym e ∙ z)); seventeen = λ z. absurd (omega (arith, e, z, few)) }

  means : {out : WindowOutcome} → Case file cells row windows t out → Means out
  means (unfit h) = record { eighteen = λ _. inl h; seven = λ z. absurd (omega (arith, z)); seventeen = λ z. absurd (omega (arith, z)) }
  means (past e h) = record { eighteen = λ z. absurd (omega (arith, z)); seven = λ _. (e, h); seventeen = λ z. absurd (omega (arith, z)) }
  means (nothing h e) = other _ 0 refl (omega arith) (λ z. omega (arith, z))
  means (unknown h e) = record { eighteen = λ _. inr (h, e); seven = λ z. absurd (omega (arith, z)); seventeen = λ z. absurd (omega (arith, z)) }
  means (acknowledged h e) = other _ 0 refl (omega arith) (λ z. omega (arith, z))
  means (unacknowledged h e d) = record { eighteen = λ z. absurd (omega (arith, z)); seven = λ z. absurd (omega (arith, z)); seventeen = λ _. (h, e, d) }
  means (begun h e d a) = other _ 0 refl (omega arith) (λ z. omega (arith, z))
  means (begin_refused h e d c a) = let own = begin_number file row t (byte_at windows t 0) c h.1 a in other _ (number_of c) refl own.0 own.1
  means (running h e a) = other _ 0 refl (omega arith) (λ z. omega (arith, z))
  means (ended h e r v k a) = other _ 0 refl (omega arith) (λ z. omega (arith, z))
  means (step_refused h e c a) = let own = step_number file cells row t c h.1 a in other _ (number_of c) refl own.0 own.1

  -- And they are told: by the place, and by the command.
  told_unfit : length windows ≢ 8 * length row → window_said (window_of file cells row windows t).answer ≡ refused_by 18
  unfolding window_of asked_of
  told_unfit h = ap (λ p. window_said (made file cells row windows t (asked_in windows t p)).answer) (sym (place_unfit windows (length row) t h))

  told_past : Past → window_said (window_of file cells row windows t).answer ≡ refused_by 7
  unfolding window_of asked_of
  told_past (e, h) = ap (λ p. window_said (made file cells row windows t (asked_in windows t p)).answer) (sym (place_past windows (length row) t e h))

  told_command : {out : WindowOutcome} → Case file cells row windows t out → HasWindow windows (length row) t → (k : ℕ) → byte_at windows t 1 ≡ k
      → (3 < k → window_said out.answer ≡ refused_by 18) × (k ≡ 1 → (status_at windows t).done ≡ true → window_said out.answer ≡ refused_by 17)
  told_command (unfit h) has k e = absurd (h has.0)
  told_command (past l h) has k e = absurd (omega (arith, has.1, h))
  told_command (nothing h z) has k e = ((λ g. absurd (omega (arith, z, e, g))), λ g. absurd (omega (arith, z, e, g)))
  told_command (unknown h z) has k e = ((λ g. refl), λ g. absurd (omega (arith, z, e, g)))
  told_command (acknowledged h z) has k e = ((λ g. absurd (omega (arith, z, e, g))), λ g. absurd (omega (arith, z, e, g)))
  told_command (unacknowledged h z d) has k e = ((λ g. absurd (omega (arith, z, e, g))), λ _ _. refl)
  told_command (begun h z d a) has k e = ((λ g. absurd (omega (arith, z, e, g))), λ _ y. clash y d)
  told_command (begin_refused h z d c a) has k e = ((λ g. absurd (omega (arith, z, e, g))), λ _ y. clash y d)
  told_command (running h z a) has k e = ((λ g. absurd (omega (arith, z, e, g))), λ g. absurd (omega (arith, z, e, g)))
  told_command (ended h z r v j a) has k e = ((λ g. absurd (omega (arith, z, e, g))), λ g. absurd (omega (arith, z, e, g)))
  told_command (step_refused h z c a) has k e = ((λ g. absurd (omega (arith, z, e, g))), λ g. absurd (omega (arith, z, e, g)))

  pub judged : Judged file cells row windows t
  judged =
      let it = cases file cells row windows t in
      record {
        unfit_or_unknown = ((λ e. (means it).eighteen (number_is e)), back);
        past = ((λ e. (means it).seven (number_is e)), told_past);
        unacknowledged = ((λ e. (means it).seventeen (number_is e)), λ (has, one, done). (told_command it has 1 one).1 refl done);
      }
    where
      back : Unfit → window_said (window_of file cells row windows t).answer ≡ refused_by 18
      back (inl h) = told_unfit h
      back (inr (has, high)) = (told_command (cases file cells row windows t) has (byte_at windows t 1) refl).0 high

-- ---- The direct call

module _ (windows : List ℕ) (n t : ℕ) where
  begins_by : {a : Asked} → Command windows t (byte_at windows t 1) a → (o : ℕ)
      → (call_by t a ≡ Begin t o ∷ []) ↔ ((byte_at windows t 1 ≡ 1) × ((status_at windows t).done ≡ false) × (o ≡ byte_at windows t 0))
  begins_by (found.nothing e) o = ((λ z. never cc), λ z. absurd (omega (arith, e, z.0)))
  begins_by (found.begins e d) o = ((λ z. (e, d, cc)), λ (_, _, z). ap (λ k. Begin t k ∷ []) (sym z))
  begins_by (found.unacknowledged e d) o = ((λ z. never cc), λ (_, z, _). clash d z)
  begins_by (found.steps e) o = ((λ z. never cc), λ z. absurd (omega (arith, e, z.0)))
  begins_by (found.acknowledges e) o = ((λ z. never cc), λ z. absurd (omega (arith, e, z.0)))
  begins_by (found.unknown e) o = ((λ z. never cc), λ z. absurd (omega (arith, e, z.0)))

  steps_by : {a : Asked} → Command windows t (byte_at windows t 1) a → (call_by t a ≡ Step t ∷ []) ↔ (byte_at windows t 1 ≡ 2)
  steps_by (found.nothing e) = ((λ z. never cc), λ z. absurd (omega (arith, e, z)))
  steps_by (found.begins e d) = ((λ z. never cc), λ z. absurd (omega (arith, e, z)))
  steps_by (found.unacknowledged e d) = ((λ z. never cc), λ z. absurd (omega (arith, e, z)))
  steps_by (found.steps e) = ((λ _. e), λ _. refl)
  steps_by (found.acknowledges e) = ((λ z. never cc), λ z. absurd (omega (arith, e, z)))
  steps_by (found.unknown e) = ((λ z. never cc), λ z. absurd (omega (arith, e, z)))

  none_by : {a : Asked} → Command windows t (byte_at windows t 1) a → (call_by t a ≡ []) ↔ ((byte_at windows t 1 ≢ 2) × (byte_at windows t 1 ≡ 1 → (status_at windows t).done ≡ true))
  none_by (found.nothing e) = ((λ _. ((λ z. omega (arith, e, z)), λ z. absurd (omega (arith, e, z)))), λ _. refl)
  none_by (found.begins e d) = ((λ z. never cc), λ (_, one). clash (one e) d)
  none_by (found.unacknowledged e d) = ((λ _. ((λ z. omega (arith, e, z)), λ _. d)), λ _. refl)
  none_by (found.steps e) = ((λ z. never cc), λ (two, _). absurd (two e))
  none_by (found.acknowledges e) = ((λ _. ((λ z. omega (arith, e, z)), λ z. absurd (omega (arith, e, z)))), λ _. refl)
  none_by (found.unknown e) = ((λ _. ((λ z. omega (arith, e, z)), λ z. absurd (omega (arith, e, z)))), λ _. refl)

  pub begin_made : BeginsBy windows n t
  unfolding asked_of
  begin_made o = by (placed windows n t)
    where
      by : {p : (Result ⊤ Refusal)} → Placed windows n t p → (call_by t (asked_in windows t p) ≡ Begin t o ∷ []) ↔ (HasWindow windows n t × (byte_at windows t 1 ≡ 1) × ((status_at windows t).done ≡ false) × (o ≡ byte_at windows t 0))
      by (found.inside long below) = let (f, g) = begins_by (command windows t (byte_at windows t 1)) o in ((λ z. let (one, done, same) = f z in ((long, below), one, done, same)), λ (_, one, done, same). g (one, done, same))
      by (found.past long above) = ((λ z. never cc), λ z. absurd (omega (arith, z.0.1, above)))
      by (found.unfit h) = ((λ z. never cc), λ z. absurd (h z.0.0))

  pub step_made : StepsBy windows n t
  unfolding asked_of
  step_made = by (placed windows n t)
    where
      by : {p : (Result ⊤ Refusal)} → Placed windows n t p → (call_by t (asked_in windows t p) ≡ Step t ∷ []) ↔ (HasWindow windows n t × (byte_at windows t 1 ≡ 2))
      by (found.inside long below) = let (f, g) = steps_by (command windows t (byte_at windows t 1)) in ((λ z. ((long, below), f z)), λ (_, z). g z)
      by (found.past long above) = ((λ z. never cc), λ ((_, below), _). absurd (omega (arith, below, above)))
      by (found.unfit h) = ((λ z. never cc), λ ((long, _), _). absurd (h long))

  pub none_made : NoneBy windows n t
  unfolding asked_of
  none_made = by (placed windows n t)
    where
      by : {p : (Result ⊤ Refusal)} → Placed windows n t p → (call_by t (asked_in windows t p) ≡ []) ↔ (HasWindow windows n t → (byte_at windows t 1 ≢ 2) × (byte_at windows t 1 ≡ 1 → (status_at windows t).done ≡ true))
      by (found.inside long below) = let (f, g) = none_by (command windows t (byte_at windows t 1)) in ((λ z _. f z), λ h. g (h (long, below)))
      by (found.past long above) = ((λ _ has. absurd (omega (arith, has.1, above))), λ _. refl)
      by (found.unfit h) = ((λ _ has. absurd (h has.0)), λ _. refl)

  -- ---- The line

  -- A task that has no window.
  line_refused : (c : Refusal) → number_of c ≢ 0 → ((number_of c ≡ 18) ↔ (length windows ≢ 8 * n)) → ((number_of c ≡ 7) ↔ ((length windows ≡ 8 * n) × (n ≤ t))) → (HasWindow windows n t → ⊥)
      → LineSays windows n t (Err c)
  line_refused c some (u, u') (p, p') none = record {
    unfit = ((λ e. u (number_is e)), λ h. ap refused_by (u' h));
    past = ((λ e. p (number_is e)), λ h. ap refused_by (p' h));
    up = ((λ e. absurd (some (ap (λ (s : Said). s.number) e))), λ z. absurd (none z.0));
    down = ((λ e. absurd (some (ap (λ (s : Said). s.number) e))), λ (has, _). absurd (none has));
  }

  -- A task that has one, by its two bits.
  line_down : HasWindow windows n t → ((interrupt_at windows t ≡ true) × (mask_at windows t ≡ false) → ⊥) → (interrupt_at windows t ≡ true → mask_at windows t ≡ true) → LineSays windows n t (Ok line.Down)
  line_down has not_up down = record {
    unfit = ((λ e. absurd (numbers_apart e (λ z. omega (arith, z)))), λ h. absurd (h has.0));
    past = ((λ e. absurd (numbers_apart e (λ z. omega (arith, z)))), λ (_, above). absurd (omega (arith, has.1, above)));
    up = ((λ e. absurd (omega (arith, values_same e))), λ (_, i, m). absurd (not_up (i, m)));
    down = ((λ _. (has, down)), λ _. refl);
  }

  line_inside : HasWindow windows n t → (i m : Bool) → interrupt_at windows t ≡ i → mask_at windows t ≡ m → LineSays windows n t (cond (cond m false i) (Ok line.Up) (Ok line.Down))
  line_inside has true false i m = record {
    unfit = ((λ e. absurd (numbers_apart e (λ z. omega (arith, z)))), λ h. absurd (h has.0));
    past = ((λ e. absurd (numbers_apart e (λ z. omega (arith, z)))), λ (_, above). absurd (omega (arith, has.1, above)));
    up = ((λ _. (has, i, m)), λ _. refl);
    down = ((λ e. absurd (omega (arith, values_same e))), λ (_, h). clash (h i) m);
  }
  line_inside has true true i m = line_down has (λ (z, g). clash m g) (λ _. m)
  line_inside has false false i m = line_down has (λ (z, g). clash z i) (λ z. clash z i)
  line_inside has false true i m = line_down has (λ (z, g). clash z i) (λ _. m)

  pub line_judged : LineJudged windows n t
  unfolding line_of
  line_judged = by (placed windows n t)
    where
      by : {p : (Result ⊤ Refusal)} → Placed windows n t p → LineSays windows n t (line_in windows t p)
      by (found.inside long below) = line_inside (long, below) (interrupt_at windows t) (mask_at windows t) refl refl
      by (found.past long above) =
          line_refused cause.Task (λ z. omega (arith, z)) ((λ z. absurd (omega (arith, z))), λ h. absurd (h long)) ((λ _. (long, above)), λ _. refl) (λ (_, below). omega (arith, below, above))
      by (found.unfit h) =
          line_refused cause.Window (λ z. omega (arith, z)) ((λ _. h), λ _. refl) ((λ z. absurd (omega (arith, z))), λ (long, _). absurd (h long)) (λ (long, _). h long)
