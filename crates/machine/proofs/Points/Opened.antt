-- A task with a pending operation has an open one: its begin call stands in the history, and no *ended* of the task since.
use mathlib.Core.Path.{◌≡◌, refl, sym, ap, ◌∙◌}
use mathlib.Core.Bool.{Bool, true, false, cond}
use mathlib.Core.List.{List, [], ◌∷◌, ◌++◌, append-nil, append_assoc}
use Prim.Native.Nat.{ℕ, suc, ◌<◌}
use native.Mathlib.Decide.{ℕ_discrete}
use native.Mathlib.Omega.{arith}
use borrow.Author.Tests.{eqb-true, eqb-false}
use lib.Dec.{eqb}
use lib.ListN.{length, length-append}
use Rattle.laws.specs.Places.{At}
use Rattle.laws.proofs.Clash.{never}
use Rattle.laws.proofs.Places.{at_same, at_next, at_bound}
use Rattle.machine.specs.Outcome.{Outcome}
use Rattle.machine.specs.Calls.{Call, Begin, Step, Answer, Begun, Running, Ended, Refused, Event}
use Rattle.machine.specs.Book.{Operation}
use Rattle.machine.specs.History.{Pending, Nothing, Pends, longer, heard, pending_from, pending, Open}
use Rattle.machine.proofs.Book.Agreement.{OpenBefore}

-- The operation that task t has pending, if any, is open before place p.
abbrev Opened : List Event → (p t : ℕ) → Pending → Type 0
Opened es p t Nothing = Unit {0}
Opened es p t (Pends o s) = (x : Operation) × (x.task ≡ t) × OpenBefore es p x

-- An event that is no *ended* of task t.
abbrev Other : ℕ → Event → Type 0
Other t e = (r : Outcome) (s : ℕ) → e ≡ record { call = Step t; answer = Ended r s } → ⊥

module _ (es : List Event) (t : ℕ) where
  -- Such an event leaves the operation open.
  stays : (p : ℕ) {e : Event} → At es p e → Other t e → (w : Pending) → Opened es p t w → Opened es (suc p) t w
  stays p v other Nothing u = tt
  stays p v other (Pends o k) (x, own, was) = (x, own, record { begins = was.begins; before = omega (arith, was.before); unended = unended })
    where
      unended : (i : ℕ) (r : Outcome) (s : ℕ) → x.place < i → i < suc p → At es i (record { call = Step x.task; answer = Ended r s }) → ⊥
      unended i r s l h a = by (ℕ_discrete i p)
        where
          by : Dec (i ≡ p) → ⊥
          by (yes z) = other r s (at_same v (rw (z, own) at a))
          by (no z) = was.unended i r s l (omega arith) a

  counted : (p : ℕ) (w : Pending) → Opened es p t w → Opened es p t (longer w)
  counted p Nothing u = u
  counted p (Pends o s) u = u

  -- Every event, by its call and its answer.
  hears : (p : ℕ) (c : Call) (a : Answer) → At es p (record { call = c; answer = a }) → (w : Pending) → Opened es p t w → Opened es (suc p) t (heard t c a w)
  hears p (Begin i o) Begun v w u = by (eqb i t) refl
    where
      by : (d : Bool) → eqb i t ≡ d → Opened es (suc p) t (cond d (Pends o 0) w)
      by true e = (record { place = p; task = i; operation = o }, eqb-true i t e, record { begins = v; before = omega arith; unended = λ k r s l h a. omega (arith, l, h) })
      by false e = stays p v (λ r s z. let calls = ap (λ x. x.call) z in never cc) w u
  hears p (Begin i o) Running v w u = stays p v (λ r s z. let calls = ap (λ x. x.call) z in never cc) w u
  hears p (Begin i o) (Ended x k) v w u = stays p v (λ r s z. let calls = ap (λ x. x.call) z in never cc) w u
  hears p (Begin i o) (Refused x) v w u = stays p v (λ r s z. let calls = ap (λ x. x.call) z in never cc) w u
  hears p (Step i) Begun v w u = stays p v (λ r s z. let answers = ap (λ x. x.answer) z in never cc) w u
  hears p (Step i) Running v w u = by (eqb i t)
    where
      runs : Opened es (suc p) t w
      runs = stays p v (λ r s z. let answers = ap (λ x. x.answer) z in never cc) w u

      by : (d : Bool) → Opened es (suc p) t (cond d (longer w) w)
      by true = counted (suc p) w runs
      by false = runs
  hears p (Step i) (Ended x k) v w u = by (eqb i t) refl
    where
      by : (d : Bool) → eqb i t ≡ d → Opened es (suc p) t (cond d Nothing w)
      by true e = tt
      by false e = stays p v (λ r s z. let calls : Step i ≡ Step t = ap (λ x. x.call) z in let same : i ≡ t = cc in eqb-false i t e same) w u
  hears p (Step i) (Refused x) v w u = stays p v (λ r s z. let answers = ap (λ x. x.answer) z in never cc) w u

  -- What is left of a history.
  along : (first fs : List Event) (p : ℕ) (w : Pending) → es ≡ first ++ fs → p ≡ length first → Opened es p t w → Opened es (length es) t (pending_from t w fs)
  along first [] p w e l u = rw (ap length e ∙ ap length (append-nil first) ∙ sym l) u
  along first (v ∷ fs) p w e l u =
      along (first ++ (v ∷ [])) fs (suc p) (heard t v.call v.answer w) (e ∙ sym (append_assoc first (v ∷ []) fs)) (omega (arith, l, length-append first (v ∷ [])))
      (hears p v.call v.answer (rw (e, l) (at_next first v fs)) w u)

  -- At the end of a history.
  pub pending_open : (o s : ℕ) → pending es t ≡ Pends o s → (x : Operation) × (x.task ≡ t) × OpenBefore es (length es) x
  pending_open o s e = rw e at (along [] es 0 Nothing refl refl tt)

-- An operation that is open before the end of a history is open.
pub open_whole : (es : List Event) (x : Operation) → OpenBefore es (length es) x → Open es x
open_whole es x u = record { begins = u.begins; unended = λ p r s l a. u.unended p r s l (at_bound a) a }
