-- The step that empties an announcement is the one that ends a changing operation, at every point of a run and both ways.
use mathlib.Core.Path.{◌≡◌, refl, sym, ◌∙◌, ap, subst}
use mathlib.Core.Bool.{true, false}
use mathlib.Core.List.{[], ◌∷◌, ◌++◌}
use Prim.Native.Nat.{ℕ, suc}
use native.Mathlib.Decide.{ℕ_discrete}
use Rattle.laws.proofs.Clash.{clash}
use Rattle.laws.proofs.Update.{update_other}
use Rattle.machine.specs.Outcome.{Outcome}
use Rattle.machine.specs.Object.{Object}
use Rattle.machine.specs.Lawful.{Opens}
use Rattle.machine.specs.Memory.{Content, Empty, Memory}
use Rattle.machine.specs.Machine.{Phase, Task, Next, Go, Turn, End, phase_of, ends, advance}
use Rattle.machine.specs.Kind.{Kind, Off, Reading, Opening, Looping, Exiting, Retracting, kind}
use Rattle.machine.specs.Run.{Config, Served, start, answer_of, serve, run, machine_shows}
use Rattle.machine.specs.Calls.{Call, Step, Ended}
use Rattle.machine.specs.History.{Pends}
use Rattle.machine.specs.Invariant.{content, OwnContent, Safe}
use Rattle.machine.specs.Form.{OperationFormed, Formed}
use Rattle.machine.specs.Ending.{EndsChanging, Emptyings}
use Rattle.machine.proofs.Steps.Effect.{Effect, effect}
use Rattle.machine.proofs.Steps.Calls.{Serving, begins, begin_task, begin_operation, begin_pending, moves, step_task, step_idle, serving}
use Rattle.machine.proofs.Invariant.Guarantee.{own_safe}
use Rattle.machine.proofs.Invariant.Safety.{safe_moved}
use Rattle.machine.proofs.Book.Progress.{announced, Progress, idles, reads, announces, applies, continues, retracts, progress}
use Rattle.machine.proofs.Points.Pending.{pending_of, pending_is}
use Rattle.machine.proofs.Points.NoTrace.{announces_changing}
use Rattle.machine.proofs.Points.OwnSteps.{announced_content, running_step, answer_ends, own_step, own_record}
use Rattle.machine.proofs.Book.Keeping.{run_append, sound}

-- An announcement that isn't empty stands announced.
stands : (d : Kind) (a : Content) (o : ℕ) → OwnContent a o d → (a ≡ Empty → ⊥) → announced d ≡ true
stands Off a o w f = absurd (f w)
stands Reading a o w f = absurd (f w)
stands Opening a o w f = absurd (f w)
stands Looping a o w f = refl
stands (Exiting v) a o w f = refl
stands (Retracting v) a o w f = refl

-- An answer that doesn't run on is *ended*.
ends_answered : (k : ℕ) (y : Next) → (ends y ≡ false → ⊥) → (r : Outcome) × (s : ℕ) × (answer_of k y ≡ Ended r s)
ends_answered k (Go f) h = absurd (h refl)
ends_answered k (Turn f) h = absurd (h refl)
ends_answered k (End v) h = (v, suc k, refl)

-- A changing operation that ends stood announced, and leaves an idle task.
retracting : {b : Object} {m : Memory} {i x : ℕ} (s : ℕ) {f : Phase} {e : Effect} {y : Next} → Progress b m i x f e y → OperationFormed b (kind f) x s → b.changing x ≡ true → ends y ≡ true
    → (announced (kind f) ≡ true) × (kind (phase_of y) ≡ Off)
retracting s idles w r z = clash z refl
retracting s reads w r z = clash r w.1
retracting s announces w r z = clash z refl
retracting s (applies e) w r z = clash z refl
retracting s (continues _ _ _) w r z = clash z refl
retracting s retracts w r z = (refl, refl)

module _ (b : Object) (n : ℕ) (c : Config) (safe : Safe c) (formed : Formed b n c) (t : ℕ) where
  -- Only an ending step of the task itself empties its announcement.
  emptied : {x : Call} {z : Served} → Serving b n c x z → (content c.memory t ≡ Empty → ⊥) → content z.config.memory t ≡ Empty
      → (x ≡ Step t) × ((r : Outcome) × (s : ℕ) × (z.answer ≡ Ended r s))
  emptied (begins h k e) f g = absurd (f g)
  emptied (begin_task h) f g = absurd (f g)
  emptied (begin_operation h k) f g = absurd (f g)
  emptied (begin_pending h k d) f g = absurd (f g)
  emptied (step_task h) f g = absurd (f g)
  emptied (step_idle h e) f g = absurd (f g)
  emptied (moves {i = i} {e = e} {y = y} h d v) f g = go (ℕ_discrete i t)
    where
      x : Task
      x = c.task i

      go : Dec (i ≡ t) → (Step i ≡ Step t) × ((r : Outcome) × (s : ℕ) × (answer_of x.steps y ≡ Ended r s))
      go (yes same) = (
        ap Step same,
        ends_answered x.steps y
            (λ runs. running_step b c.memory i x.priority x.operation x.steps (progress b c.memory i x.priority x.operation v) d runs
            (own_safe b c.memory i x.priority x.operation safe.holder v (safe.each i)).own
            (subst (λ j. content (effect i e c.memory) j ≡ Empty) (sym same) g)),
      )
      go (no apart) =
          let after = rw (update_other c.task i (advance n x y) t apart) at ((safe_moved b n i safe v).each t).own in
          absurd (announced_content (kind (c.task t).phase) (content (effect i e c.memory) t) (c.task t).operation (stands (kind (c.task t).phase) (content c.memory t) (c.task t).operation (safe.each t).own f) after g)

  -- And every such step of a changing operation does.
  empties : {z : Served} → Serving b n c (Step t) z → (o s : ℕ) (r : Outcome) (k : ℕ) → pending_of (c.task t) ≡ Pends o s → b.changing o ≡ true → z.answer ≡ Ended r k
      → (content c.memory t ≡ Empty → ⊥) × (content z.config.memory t ≡ Empty)
  empties {z} v o s r k e changes ended =
      let own = own_record b n c formed t o s e in
      let u = own_step v own.below own.works in
      let x = c.task t in
      let over = (answer_ends x.steps u.next r k (sym u.answer ∙ ended)).0 in
      let w = progress b c.memory t x.priority x.operation u.branch in
      let (before, idle) = retracting x.steps w (formed.task t own.below).operation (ap (λ y. b.changing y) own.operation ∙ changes) over in
      let after = (own_safe b c.memory t x.priority x.operation safe.holder u.branch (safe.each t)).own in (
        announced_content (kind x.phase) (content c.memory t) x.operation before (safe.each t).own,
        ap (λ (m : Memory). content m t) u.cells ∙ subst (OwnContent (content (effect t u.change c.memory) t) x.operation) idle after,
      )

-- At every point of a run and for every call.
pub emptyings : (b : Object) (n q : ℕ) → Opens b q → Emptyings b n (λ m t. content m t ≡ Empty) (machine_shows b n q)
emptyings b n q good xs x t below = (only, every)
  where
    c : Config
    c = run b n xs (start q)

    served : run b n (xs ++ (x ∷ [])) (start q) ≡ (serve b n x c).config
    served = run_append b n xs (x ∷ []) (start q)

    only : (content c.memory t ≡ Empty → ⊥) × (content (run b n (xs ++ (x ∷ [])) (start q)).memory t ≡ Empty) → EndsChanging b (machine_shows b n q) xs x t
    only (f, g) =
        let s = sound b n q good xs in
        let (step, (r, k, ended)) = emptied b n c s.safe s.formed t (serving b n c x) f (rw served at g) in
        let (pends, changes) = announces_changing b n c s.safe s.formed t f in
        record { operation = _; steps = _; outcome = r; count = k; step = step; pends = pending_is b n xs q t ∙ pends; changes = changes; ended = ended }

    every : EndsChanging b (machine_shows b n q) xs x t → (content c.memory t ≡ Empty → ⊥) × (content (run b n (xs ++ (x ∷ [])) (start q)).memory t ≡ Empty)
    every e =
        let s = sound b n q good xs in
        rw (served, e.step)
        (empties b n c s.safe s.formed t (serving b n c (Step t)) e.operation e.steps e.outcome e.count (sym (pending_is b n xs q t) ∙ e.pends) e.changes (rw e.step at e.ended))
