-- The own steps of a pending operation: each is accepted; a reading operation ends in its first one, a read of the head; a changing
-- one ends in the one that empties its announcement; and the count answered is that of the accepted steps since begin.
use mathlib.Core.Path.{◌≡◌, refl, sym, ◌∙◌, ap}
use mathlib.Core.Bool.{Bool, true, false, cond}
use mathlib.Core.List.{List}
use Prim.Native.Nat.{ℕ, suc, ◌<◌}
use native.Mathlib.Decide.{dec_lt}
use Rattle.laws.proofs.Clash.{clash, never}
use Rattle.machine.specs.Outcome.{Outcome}
use Rattle.machine.specs.Object.{Object}
use Rattle.machine.specs.Lawful.{Opens}
use Rattle.machine.specs.Memory.{Content, Empty, Memory, state_of, unmarked}
use Rattle.machine.specs.Machine.{Phase, ReadHead, WriteAnnouncement, plan, Task, Next, Go, Turn, End, phase_of, ends}
use Rattle.machine.specs.Kind.{Kind, Off, Reading, Opening, Looping, Exiting, Retracting, kind, off}
use Rattle.machine.specs.Run.{Config, Served, start, answer_of, serve, run, history}
use Rattle.machine.specs.Calls.{Call, Step, Running, Ended}
use Rattle.machine.specs.Book.{Book}
use Rattle.machine.specs.History.{Nothing, Pends, pending}
use Rattle.machine.specs.Demand.{StepAccepted}
use Rattle.machine.specs.Invariant.{head_value, content, OwnContent}
use Rattle.machine.specs.Form.{OperationFormed, Formed}
use Rattle.machine.proofs.Steps.Effect.{Effect, effect}
use Rattle.machine.proofs.Steps.Successor.{Steps}
use Rattle.machine.proofs.Steps.Calls.{Serving, moves, step_task, step_idle, serving}
use Rattle.machine.proofs.Invariant.Guarantee.{own_safe}
use Rattle.machine.proofs.Book.Progress.{announced, Progress, idles, reads, announces, applies, continues, retracts, progress}
use Rattle.machine.proofs.Points.Pending.{pending_of, pending_is}
use Rattle.machine.proofs.Book.Keeping.{Sound, sound}
use Rattle.machine.specs.Keeping.{book_of}
use Rattle.machine.specs.Points.{NextStep, next_access}

-- An announced operation is changing, and its announcement is not empty.
announced_changing : (b : Object) (d : Kind) (o s : ℕ) → announced d ≡ true → OperationFormed b d o s → b.changing o ≡ true
announced_changing b Off o s e y = clash e refl
announced_changing b Reading o s e y = clash e refl
announced_changing b Opening o s e y = y.1
announced_changing b Looping o s e y = y.1
announced_changing b (Exiting v) o s e y = y.1
announced_changing b (Retracting v) o s e y = y.1

pub announced_content : (d : Kind) (a : Content) (o : ℕ) → announced d ≡ true → OwnContent a o d → a ≡ Empty → ⊥
announced_content Off a o e y g = clash e refl
announced_content Reading a o e y g = clash e refl
announced_content Opening a o e y g = clash e refl
announced_content Looping a o e y g = rw g at y
announced_content (Exiting v) a o e y g = never cc
announced_content (Retracting v) a o e y g = never cc

module _ (b : Object) (m : Memory) (i p x s : ℕ) where
  -- A reading operation ends in its first step, which reads the head.
  reading_step : {f : Phase} {e : Effect} {y : Next} → Progress b m i x f e y → off (kind f) ≡ false → OperationFormed b (kind f) x s → b.changing x ≡ false
      → (y ≡ End (b.outcome (state_of (head_value m)) x)) × (plan b i p x f ≡ ReadHead) × (s ≡ 0)
  unfolding plan
  reading_step idles d w r = clash refl d
  reading_step reads d w r = (refl, refl, w.2)
  reading_step announces d w r = clash w.1 r
  reading_step (applies e) d w r = clash w.1 r
  reading_step (continues {f = f} o _ _) d w r = clash (announced_changing b (kind f) x s o.0 w) r
  reading_step retracts d w r = clash w.1 r

  -- A changing operation ends only in the step that empties its announcement.
  ending_step : {f : Phase} {e : Effect} {y : Next} → Progress b m i x f e y → OperationFormed b (kind f) x s → b.changing x ≡ true → ends y ≡ true
      → plan b i p x f ≡ WriteAnnouncement i (unmarked Empty)
  unfolding plan
  ending_step idles w r z = clash z refl
  ending_step reads w r z = clash r w.1
  ending_step announces w r z = clash z refl
  ending_step (applies e) w r z = clash z refl
  ending_step (continues _ _ _) w r z = clash z refl
  ending_step retracts w r z = refl

  -- A changing operation that goes on stands announced.
  pub running_step : {f : Phase} {e : Effect} {y : Next} → Progress b m i x f e y → off (kind f) ≡ false → ends y ≡ false → {a : Content} → OwnContent a x (kind (phase_of y)) → a ≡ Empty → ⊥
  running_step idles d z w g = clash refl d
  running_step reads d z w g = clash refl z
  running_step announces d z w g = rw g at w
  running_step (applies e) d z w g = rw g at w
  running_step (continues {f' = f'} o _ _) d z w g = announced_content (kind f') _ x o.1 w g
  running_step retracts d z w g = clash refl z

-- ---- Answers

answer_accepted : (k : ℕ) (y : Next) → StepAccepted (answer_of k y)
answer_accepted k (Go f) = tt
answer_accepted k (Turn f) = tt
answer_accepted k (End v) = tt

pub answer_ends : (k : ℕ) (y : Next) (r : Outcome) (j : ℕ) → answer_of k y ≡ Ended r j → (ends y ≡ true) × (j ≡ suc k)
answer_ends k (Go f) r j e = (cc, cc)
answer_ends k (Turn f) r j e = (cc, cc)
answer_ends k (End v) r j e = (refl, cc)

answer_runs : (k : ℕ) (y : Next) → answer_of k y ≡ Running → ends y ≡ false
answer_runs k (Go f) e = refl
answer_runs k (Turn f) e = refl
answer_runs k (End v) e = cc

-- ---- The next step of task t, at every point

-- A step of task t that is accepted.
pub record OwnStep (b : Object) (c : Config) (t : ℕ) (s : Served) : Type 0 where
  pub change : Effect
  pub next : Next
  pub branch : Steps b t c change next
  pub answer : s.answer ≡ answer_of (c.task t).steps next
  pub cells : s.config.memory ≡ effect t change c.memory

pub own_step : {b : Object} {n : ℕ} {c : Config} {t : ℕ} {s : Served} → Serving b n c (Step t) s → t < n → off (kind (c.task t).phase) ≡ false → OwnStep b c t s
own_step (moves {e = e} {y = y} _ _ v) h d = record { change = e; next = y; branch = v; answer = refl; cells = refl }
own_step (step_task z) h d = absurd (z h)
own_step (step_idle _ z) h d = clash (ap (λ f. off (kind f)) z) d

-- The record of a task with a pending operation.
pub record OwnRecord (n : ℕ) (c : Config) (t o s : ℕ) : Type 0 where
  pub below : t < n
  pub works : off (kind (c.task t).phase) ≡ false
  pub operation : (c.task t).operation ≡ o
  pub steps : (c.task t).steps ≡ s

pends_record : (d : Bool) (o s o' s' : ℕ) → cond d Nothing (Pends o s) ≡ Pends o' s' → (d ≡ false) × (o ≡ o') × (s ≡ s')
pends_record true o s o' s' e = (cc, cc, cc)
pends_record false o s o' s' e = (refl, cc, cc)

pub own_record : (b : Object) (n : ℕ) (c : Config) → Formed b n c → (t o s : ℕ) → pending_of (c.task t) ≡ Pends o s → OwnRecord n c t o s
own_record b n c f t o s e = record { below = go (dec_lt t n); works = z.0; operation = z.1; steps = z.2 }
  where
    z : (off (kind (c.task t).phase) ≡ false) × ((c.task t).operation ≡ o) × ((c.task t).steps ≡ s)
    z = pends_record _ _ _ o s e

    go : Dec (t < n) → t < n
    go (yes h) = h
    go (no h) = clash (ap (λ x. off (kind x.phase)) (f.untouched t h)) z.0

next_own_step : {b : Object} {n : ℕ} {c : Config} {k : Book} → Sound b n c k → {t o s : ℕ} → OwnRecord n c t o s → {z : Served} → OwnStep b c t z
    → NextStep b t o s k.state (next_access b t c) z.answer z.config.memory
next_own_step {b} {n} {c} {k} sound {t} {o} {s} r {z} u = record {
  accepted = rw u.answer (answer_accepted _ u.next);
  count = λ v j e. (answer_ends _ u.next v j (sym u.answer ∙ e)).1 ∙ ap suc r.steps;
  reading = λ d. let (e, f, l) = reading_step b c.memory t x.priority x.operation x.steps w r.works formed (same d) in
      (f, u.answer ∙ ap (answer_of x.steps) e ∙ rw (← sound.related.state, r.operation, l) refl);
  ending = λ d v j e. ending_step b c.memory t x.priority x.operation x.steps w formed (same d) (answer_ends _ u.next v j (sym u.answer ∙ e)).0;
  running = λ e g. running_step b c.memory t x.priority x.operation x.steps w r.works (answer_runs _ u.next (sym u.answer ∙ e)) announced (sym (ap (λ (m : Memory). content m t) u.cells) ∙ g);
}
  where
    x : Task
    x = c.task t

    w : Progress b c.memory t x.operation x.phase u.change u.next
    w = progress b c.memory t x.priority x.operation u.branch

    formed : OperationFormed b (kind x.phase) x.operation x.steps
    formed = (sound.formed.task t r.below).operation

    announced : OwnContent (content (effect t u.change c.memory) t) x.operation (kind (phase_of u.next))
    announced = (own_safe b c.memory t x.priority x.operation sound.safe.holder u.branch (sound.safe.each t)).own

    same : {d : Bool} → b.changing o ≡ d → b.changing x.operation ≡ d
    same e = ap (λ y. b.changing y) r.operation ∙ e

-- At every point of a run.
pub next_step : (b : Object) (n q : ℕ) → Opens b q → (xs : List Call) (t o s : ℕ) → pending (history b n xs (start q)) t ≡ Pends o s
    → NextStep b t o s (book_of b n q xs).state (next_access b t (run b n xs (start q))) (serve b n (Step t) (run b n xs (start q))).answer (serve b n (Step t) (run b n xs (start q))).config.memory
next_step b n q g xs t o s e = next_own_step z r (own_step (serving b n _ (Step t)) r.below r.works)
  where
    z : Sound b n (run b n xs (start q)) (book_of b n q xs)
    z = sound b n q g xs

    r : OwnRecord n (run b n xs (start q)) t o s
    r = own_record b n _ z.formed t o s (sym (pending_is b n xs q t) ∙ e)
