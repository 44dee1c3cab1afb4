-- The ranges hold at the start in a good state and after every list of calls.
use mathlib.Core.Path.{◌≡◌, refl}
use mathlib.Core.Bool.{Bool, true, false, cond}
use mathlib.Core.List.{List, [], ◌∷◌}
use Prim.Native.Nat.{ℕ, suc, ◌%◌, ◌<◌}
use native.Mathlib.Omega.{arith}
use native.Mathlib.Nat.{mod-lt, one-le-pow}
use Rattle.laws.specs.Update.{update}
use Rattle.laws.proofs.Clash.{clash}
use Rattle.laws.proofs.Update.{update_all}
use Rattle.cells.proofs.MarkLaws.{add_below, remove_below}
use Rattle.machine.specs.Object.{Object}
use Rattle.machine.specs.Lawful.{Lawful, Opens}
use Rattle.machine.specs.Memory.{HeadValue, Free, Held, Content, Empty, Cell, Memory, state_of, unmarked}
use Rattle.machine.specs.Machine.{Phase, Task, linked, released, Next, Go, Turn, End, phase_of, ends, turns, advance}
use Rattle.machine.specs.Kind.{kind, off}
use Rattle.machine.specs.Run.{Config, Served, start, idle_task, first_phase, serve, run}
use Rattle.machine.specs.Calls.{Call}
use Rattle.machine.specs.Invariant.{TaskSafe, Safe}
use Rattle.machine.specs.Form.{HeadValueFormed, ContentFormed, CellFormed, HeadFormed, AnnouncementFormed, MemoryFormed, PhaseFormed, OperationFormed, TaskFormed, Formed}
use Rattle.machine.proofs.Steps.Effect.{Effect, Unchanged, Linked, Released, Cleared, Retracted, Applied, LinkedAt, ReleasedAt, HandedOver, Announced, effect, with_head, with_announcement}
use Rattle.machine.proofs.Steps.Branch.{Branch, stay_idle, read_only, announce, poll_response, poll_waits, load_head, link_free, link_held, link_fails, priority_waits, priority_rests, own_waits, own_response, own_empty, apply, apply_fails, reload_apply, reload_apply_lost, load_helped, link_helped, link_rested, link_helped_fails, validate, validate_fails, hand_over, hand_over_fails, reload_hand_over, reload_hand_over_lost, release, release_fails, reload_release, reload_release_lost, clear, clear_fails, reload_clear, reload_clear_lost, exit_clear, exit_release, exit_link, exit_retract, link_exit, link_exit_fails, clear_exit, clear_exit_fails, release_exit, release_exit_fails, retract}
use Rattle.machine.proofs.Steps.Successor.{moved, Steps}
use Rattle.machine.proofs.Steps.Calls.{Serving, begins, begin_task, begin_operation, begin_pending, moves, step_task, step_idle, serving}
use Rattle.machine.proofs.Invariant.Safety.{safe_start, safe_serve}

-- ---- Cells

module _ {A : Type 0} {n : ℕ} {ValueFormed : A → Type 0} where
  unmarked_formed : {v : A} → ValueFormed v → CellFormed n ValueFormed (unmarked v)
  unmarked_formed y = record { value = y; marks = one-le-pow n 2 (omega arith) }

  module _ {i : ℕ} (below : i < n) {c : Cell A} (formed : CellFormed n ValueFormed c) where
    linked_formed : CellFormed n ValueFormed (linked i c)
    linked_formed = record { value = formed.value; marks = add_below i n c.marks below formed.marks }

    released_formed : CellFormed n ValueFormed (released i c)
    released_formed = record { value = formed.value; marks = remove_below i n c.marks below formed.marks }

-- What is found in a cell in form is in form.
module _ {A : Type 0} {n : ℕ} (ValueFormed : A → Type 0) where
  found_formed : {c : Cell A} {v : A} → c.value ≡ v → CellFormed n ValueFormed c → ValueFormed v
  found_formed e y = rw e at y.value

module _ (b : Object) (n : ℕ) where
  pub state_good : (v : HeadValue) → HeadValueFormed b n v → b.good (state_of v) ≡ true
  state_good (Free q) y = y
  state_good (Held q j r) y = y.0

  -- ---- Effects

  abbrev EffectFormed : Effect → Type 0
  EffectFormed Unchanged = Unit {0}
  EffectFormed Linked = Unit {0}
  EffectFormed Released = Unit {0}
  EffectFormed Cleared = Unit {0}
  EffectFormed Retracted = Unit {0}
  EffectFormed (Applied q j r) = HeadValueFormed b n (Held q j r)
  EffectFormed (LinkedAt j) = j < n
  EffectFormed (ReleasedAt j) = j < n
  EffectFormed (HandedOver j r) = (j < n) × (r.response < b.outcomes)
  EffectFormed (Announced o) = o < b.operations

  head_formed : {m : Memory} → MemoryFormed b n m → {h : Cell HeadValue} → HeadFormed b n h → MemoryFormed b n (with_head m h)
  head_formed s y = record { head = y; announcement = s.announcement; untouched = s.untouched }

  announcement_formed : {m : Memory} → MemoryFormed b n m → (j : ℕ) {a : Cell Content} → j < n → AnnouncementFormed b n a → MemoryFormed b n (with_announcement m j a)
  announcement_formed {m} s j {a} h y = record {
    head = s.head;
    announcement = update_all m.announcement j a (λ _ (c : Cell Content). AnnouncementFormed b n c) y (λ k _. s.announcement k);
    untouched = update_all m.announcement j a (λ k (c : Cell Content). (k < n → ⊥) → c ≡ unmarked Empty) (λ d. absurd (d h)) (λ k _. s.untouched k);
  }

  effect_formed : {i : ℕ} → i < n → {m : Memory} → MemoryFormed b n m → (e : Effect) → EffectFormed e → MemoryFormed b n (effect i e m)
  effect_formed h s Unchanged u = s
  effect_formed h s Linked u = head_formed s (linked_formed h s.head)
  effect_formed h s Released u = head_formed s (released_formed h s.head)
  effect_formed h {m} s Cleared u = head_formed s (unmarked_formed (state_good m.head.value s.head.value))
  effect_formed {i} h s Retracted u = announcement_formed s i h (unmarked_formed tt)
  effect_formed h s (Applied q j r) u = head_formed s (unmarked_formed u)
  effect_formed h s (LinkedAt j) u = announcement_formed s j u (linked_formed h (s.announcement j))
  effect_formed h s (ReleasedAt j) u = announcement_formed s j u (released_formed h (s.announcement j))
  effect_formed h s (HandedOver j r) u = announcement_formed s j u.0 (unmarked_formed u.1)
  effect_formed {i} h s (Announced o) u = announcement_formed s i h (unmarked_formed u)

  -- ---- A step of task i

  -- What a step makes: its effect, the next phase, and the operation with its steps.
  abbrev NextFormed : (o s : ℕ) → Effect → Next → Type 0
  NextFormed o s e y = EffectFormed e × PhaseFormed b n (phase_of y) × OperationFormed b (kind (phase_of y)) (cond (ends y) 0 o) (cond (ends y) 0 (suc s))

  module _ (lawful : Lawful b) {m : Memory} (s : MemoryFormed b n m) {i p x : ℕ} (below : i < n) (first : p < n) where
    next_formed : (k : ℕ) {f : Phase} {e : Effect} {y : Next} → Branch b m i p x f e y → off (kind f) ≡ false → TaskSafe m i x f → PhaseFormed b n f → OperationFormed b (kind f) x k → NextFormed x k e y
    next_formed k stay_idle d t f w = clash refl d
    next_formed k read_only d t f w = (tt, tt, (refl, refl))
    next_formed k announce d t f w = (w.0, tt, (w.0, w.1))
    next_formed k (poll_response e) d t f w = (tt, found_formed (ContentFormed b) e (s.announcement i), w)
    next_formed k (poll_waits _) d t f w = (tt, tt, w)
    next_formed k load_head d t f w = (tt, s.head, w)
    next_formed k (link_free e g) d t f w = (tt, linked_formed below f, w)
    next_formed k (link_held e g) d t f w = (tt, (linked_formed below f, (found_formed (HeadValueFormed b n) g f).1), w)
    next_formed k (link_fails _) d t f w = (tt, tt, w)
    next_formed k (priority_waits e) d t f w = (tt, (f, first, found_formed (ContentFormed b) e (s.announcement p)), w)
    next_formed k (priority_rests _) d t f w = (tt, f, w)
    next_formed k (own_waits e) d t f w = (tt, (f, below, found_formed (ContentFormed b) e (s.announcement i)), w)
    next_formed k (own_response e) d t f w = (tt, found_formed (ContentFormed b) e (s.announcement i), w)
    next_formed k (own_empty e) d t f w = (tt, tt, w)
    next_formed k (apply {h = h} {o = o} e) d t f w =
        let g = state_good h.value f.0.value in
        ((lawful.closed _ o g f.2, f.1, lawful.bounded _ o g f.2), tt, w)
    next_formed k (apply_fails _) d t f w = (tt, f, w)
    next_formed k (reload_apply e) d t f w = (tt, (s.head, f.1, f.2), w)
    next_formed k (reload_apply_lost _) d t f w = (tt, tt, w)
    next_formed k load_helped d t f w = (tt, (f.0, f.1, s.announcement _), w)
    next_formed k (link_helped e g) d t f w = (f.1, (f.0, f.1, linked_formed below f.2), w)
    next_formed k (link_rested e g) d t f w = (f.1, (f.0, f.1, linked_formed below f.2), w)
    next_formed k (link_helped_fails _) d t f w = (tt, tt, w)
    next_formed k (validate e) d t f w = (tt, f, w)
    next_formed k (validate_fails e) d t f w = (tt, f, w)
    next_formed k (hand_over e) d t f w =
        let g = t.saved.1.helping.head.form in
        ((f.1, rw g (found_formed (HeadValueFormed b n) g f.0).2), (f.0, f.1), w)
    next_formed k (hand_over_fails _) d t f w = (tt, f, w)
    next_formed k (reload_hand_over e) d t f w = (tt, (f.0, f.1, s.announcement _), w)
    next_formed k (reload_hand_over_lost e) d t f w = (tt, (f.0, f.1), w)
    next_formed k (release e) d t f w = (f.1, (f.0, f.1), w)
    next_formed k (release_fails _) d t f w = (tt, f, w)
    next_formed k (reload_release e) d t f w = (tt, (f.0, f.1, s.announcement _), w)
    next_formed k (reload_release_lost e) d t f w = (tt, (f.0, f.1), w)
    next_formed k (clear e) d t f w = (tt, tt, w)
    next_formed k (clear_fails _) d t f w = (tt, f, w)
    next_formed k (reload_clear e) d t f w = (tt, (s.head, f.1), w)
    next_formed k (reload_clear_lost _) d t f w = (tt, tt, w)
    next_formed k (exit_clear c e) d t f w = (tt, (s.head, f), w)
    next_formed k (exit_release c u) d t f w = (tt, (s.head, f), w)
    next_formed k (exit_link c e) d t f w = (tt, (s.head, f), w)
    next_formed k (exit_retract c u) d t f w = (tt, f, w)
    next_formed k (link_exit e) d t f w = (tt, (linked_formed below f.0, f.1), w)
    next_formed k (link_exit_fails _) d t f w = (tt, f.1, w)
    next_formed k (clear_exit e) d t f w = (tt, f.1, w)
    next_formed k (clear_exit_fails _) d t f w = (tt, f.1, w)
    next_formed k (release_exit e) d t f w = (tt, f.1, w)
    next_formed k (release_exit_fails _) d t f w = (tt, f.1, w)
    next_formed k retract d t f w = (tt, tt, (refl, refl))

  -- ---- Calls

  -- A task's record and the cells changed.
  task_formed : {c : Config} → Formed b n c → {m : Memory} → MemoryFormed b n m → (i : ℕ) (t : Task) → i < n → TaskFormed b n t → Formed b n (record { memory = m; task = update c.task i t })
  task_formed {c} z s i t h y = record {
    lawful = z.lawful;
    memory = s;
    task = update_all c.task i t (λ j (r : Task). j < n → TaskFormed b n r) (λ _. y) (λ j _. z.task j);
    untouched = update_all c.task i t (λ j (r : Task). (j < n → ⊥) → r ≡ idle_task j) (λ u. absurd (u h)) (λ j _. z.untouched j);
  }

  turned_below : {p : ℕ} (y : Next) → p < n → cond (turns y) (suc p % n) p < n
  turned_below (Go f) h = h
  turned_below (Turn f) h = mod-lt _ (omega arith)
  turned_below (End v) h = h

  pub formed_moved : (i : ℕ) {c : Config} {e : Effect} {y : Next} → i < n → off (kind (c.task i).phase) ≡ false → Safe c → Formed b n c → Steps b i c e y → Formed b n (moved n i c e y)
  formed_moved i {c} {e} {y} h d s z v =
      let t = z.task i h in
      let x = next_formed z.lawful z.memory h t.priority (c.task i).steps v d (s.each i) t.phase t.operation in
      task_formed z (effect_formed h z.memory e x.0) i (advance n (c.task i) y) h (record { phase = x.1; priority = turned_below y t.priority; operation = x.2 })

  begun_formed : {o p : ℕ} → o < b.operations → p < n → (t : Bool) → b.changing o ≡ t → TaskFormed b n (record { phase = first_phase t; operation = o; priority = p; steps = 0 })
  begun_formed h k true e = record { phase = tt; priority = k; operation = (h, e, refl) }
  begun_formed h k false e = record { phase = tt; priority = k; operation = (h, e, refl) }

  pub formed_serving : {x : Call} {c : Config} {r : Served} → Safe c → Formed b n c → Serving b n c x r → Formed b n r.config
  formed_serving s z (begins {i = i} {o = o} h k e) = task_formed z z.memory i _ h (begun_formed k (z.task i h).priority (b.changing o) refl)
  formed_serving s z (begin_task h) = z
  formed_serving s z (begin_operation h k) = z
  formed_serving s z (begin_pending h k e) = z
  formed_serving s z (moves {i = i} h d v) = formed_moved i h d s z v
  formed_serving s z (step_task h) = z
  formed_serving s z (step_idle h e) = z

  pub formed_serve : (x : Call) (c : Config) → Safe c → Formed b n c → Formed b n (serve b n x c).config
  formed_serve x c s z = formed_serving s z (serving b n c x)

  pub formed_start : {q : ℕ} → Opens b q → Formed b n (start q)
  formed_start e = record {
    lawful = e.lawful;
    memory = record { head = unmarked_formed e.good; announcement = λ j. unmarked_formed tt; untouched = λ j _. refl };
    task = λ i h. record { phase = tt; priority = h; operation = (refl, refl) };
    untouched = λ i _. refl;
  }

  -- From a safe configuration in form every list of calls leads to one in form.
  pub formed_from : (xs : List Call) (c : Config) → Safe c → Formed b n c → Formed b n (run b n xs c)
  formed_from [] c s z = z
  formed_from (x ∷ xs) c s z = formed_from xs (serve b n x c).config (safe_serve b n x c s) (formed_serve x c s z)

  pub formed_run : (xs : List Call) {q : ℕ} → Opens b q → Formed b n (run b n xs (start q))
  formed_run xs {q} e = formed_from xs (start q) (safe_start q) (formed_start e)
