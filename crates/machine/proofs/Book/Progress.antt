-- The branches of a step as the book sees them: how the operation of the stepping task goes on, and who is entered before.
use mathlib.Core.Path.{◌≡◌, refl}
use mathlib.Core.Bool.{Bool, true, false}
use Prim.Native.Nat.{ℕ}
use Rattle.laws.proofs.Clash.{clash}
use Rattle.laws.proofs.Decision.{decided_yes, decided_no}
use Rattle.machine.specs.Outcome.{Outcome}
use Rattle.machine.specs.Object.{Object}
use Rattle.machine.specs.Memory.{HeadValue, Content, Resp, Cell, Memory, state_of, head_dec}
use Rattle.machine.specs.Machine.{Phase, Idle, ReadOnly, Announce, Poll, Apply, Retract, Next, Go, Turn, End, phase_of, ends}
use Rattle.machine.specs.Kind.{Kind, Off, Reading, Opening, Looping, Exiting, Retracting, kind, off}
use Rattle.machine.specs.Invariant.{head_value, content}
use Rattle.machine.specs.Book.{Book}
use Rattle.machine.specs.Keeping.{enter, enter_by}
use Rattle.machine.proofs.Steps.Effect.{Effect, Unchanged, Retracted, Applied, Announced}
use Rattle.machine.proofs.Steps.Branch.{Branch, stay_idle, read_only, announce, poll_response, poll_waits, load_head, link_free, link_held, link_fails, priority_waits, priority_rests, own_waits, own_response, own_empty, apply, apply_fails, reload_apply, reload_apply_lost, load_helped, link_helped, link_rested, link_helped_fails, validate, validate_fails, hand_over, hand_over_fails, reload_hand_over, reload_hand_over_lost, release, release_fails, reload_release, reload_release_lost, clear, clear_fails, reload_clear, reload_clear_lost, exit_clear, exit_release, exit_link, exit_retract, link_exit, link_exit_fails, clear_exit, clear_exit_fails, release_exit, release_exit_fails, retract}
use Rattle.machine.proofs.Book.Related.{Answered, by_content, standing, Aside}

-- Whether the operation stands announced, by the kind of the phase.
abbrev pub announced : Kind → Bool
announced Off = false
announced Reading = false
announced Opening = false
announced Looping = true
announced (Exiting v) = true
announced (Retracting v) = true

-- From one kind of phase to the next with the content a of the own announcement: the operation stays announced, and its
-- standing is the same over every head.
abbrev pub Onward : Content → ℕ → Kind → Kind → Type 0
Onward a i d d' = (announced d ≡ true) × (announced d' ≡ true) × ((h : HeadValue) → standing d' a h i ≡ standing d a h i)

-- For the task i with operation x: a reader ends at once; an announcement opens a changing operation and its retraction
-- ends it; in between somebody's operation is applied, or nobody is entered.
pub data Progress (b : Object) (m : Memory) (i x : ℕ) : Phase → Effect → Next → Type 0 where
  idles : Progress b m i x Idle Unchanged (Go Idle)
  reads : Progress b m i x ReadOnly Unchanged (End (b.outcome (state_of (head_value m)) x))
  announces : Progress b m i x Announce (Announced x) (Go Poll)
  applies : {h : Cell HeadValue} {j o : ℕ} → m.head ≡ h → Progress b m i x (Apply h j o) (Applied (b.next (state_of h.value) o) j (b.outcome (state_of h.value) o)) (Turn Poll)
  continues : {f f' : Phase} {e : Effect} → Onward (content m i) i (kind f) (kind f') → ((s t : ℕ) → Aside s t e) → ((k : Book) → enter_by b m i f k ≡ k) → Progress b m i x f e (Go f')
  retracts : {v : Outcome} → Progress b m i x (Retract v) Retracted (End v)

announced_pends : (d : Kind) → announced d ≡ true → off d ≡ false
announced_pends Off e = clash e refl
announced_pends Reading e = refl
announced_pends Opening e = refl
announced_pends Looping e = refl
announced_pends (Exiting v) e = refl
announced_pends (Retracting v) e = refl

-- A task that goes on stays pending.
pub progress_pends : {b : Object} {m : Memory} {i x : ℕ} {f : Phase} {e : Effect} {y : Next} → Progress b m i x f e y → off (kind f) ≡ false → off (kind (phase_of y)) ≡ ends y
progress_pends idles p = p
progress_pends reads p = refl
progress_pends announces p = refl
progress_pends (applies e) p = refl
progress_pends (continues {f' = f'} o s n) p = announced_pends (kind f') o.1
progress_pends retracts p = refl

-- A task that has its response is answered over every head.
responded : {a : Content} {v : Outcome} → a ≡ Resp v → (h : HeadValue) (t : ℕ) → Answered v ≡ by_content a h t
responded e h t = rw e refl

module _ (b : Object) (m : Memory) (i : ℕ) where
  -- A reader is entered before its only step; before a swap that applies an operation, its task; before one that fails, nobody.
  pub enters_reader : (k : Book) → enter_by b m i ReadOnly k ≡ enter b i k
  enters_reader k = refl

  pub enters_applied : (h : Cell HeadValue) (j o : ℕ) (k : Book) → m.head ≡ h → enter_by b m i (Apply h j o) k ≡ enter b j k
  enters_applied h j o k e = rw (decided_yes (head_dec m.head h) e)

  enters_none : (h : Cell HeadValue) (j o : ℕ) → (m.head ≡ h → ⊥) → (k : Book) → enter_by b m i (Apply h j o) k ≡ k
  enters_none h j o n k = rw (decided_no (head_dec m.head h) n)

  module _ (p x : ℕ) where
    pub progress : {f : Phase} {e : Effect} {y : Next} → Branch b m i p x f e y → Progress b m i x f e y
    progress stay_idle = idles
    progress read_only = reads
    progress announce = announces
    progress (poll_response e) = continues (refl, refl, λ h. responded e h i) (λ _ _. tt) (λ _. refl)
    progress (poll_waits _) = continues (refl, refl, λ _. refl) (λ _ _. tt) (λ _. refl)
    progress load_head = continues (refl, refl, λ _. refl) (λ _ _. tt) (λ _. refl)
    progress (link_free _ _) = continues (refl, refl, λ _. refl) (λ _ _. tt) (λ _. refl)
    progress (link_held _ _) = continues (refl, refl, λ _. refl) (λ _ _. tt) (λ _. refl)
    progress (link_fails _) = continues (refl, refl, λ _. refl) (λ _ _. tt) (λ _. refl)
    progress (priority_waits _) = continues (refl, refl, λ _. refl) (λ _ _. tt) (λ _. refl)
    progress (priority_rests _) = continues (refl, refl, λ _. refl) (λ _ _. tt) (λ _. refl)
    progress (own_waits _) = continues (refl, refl, λ _. refl) (λ _ _. tt) (λ _. refl)
    progress (own_response e) = continues (refl, refl, λ h. responded e h i) (λ _ _. tt) (λ _. refl)
    progress (own_empty _) = continues (refl, refl, λ _. refl) (λ _ _. tt) (λ _. refl)
    progress (apply e) = applies e
    progress (apply_fails {h} {j} {o} n) = continues (refl, refl, λ _. refl) (λ _ _. tt) (enters_none h j o n)
    progress (reload_apply _) = continues (refl, refl, λ _. refl) (λ _ _. tt) (λ _. refl)
    progress (reload_apply_lost _) = continues (refl, refl, λ _. refl) (λ _ _. tt) (λ _. refl)
    progress load_helped = continues (refl, refl, λ _. refl) (λ _ _. tt) (λ _. refl)
    progress (link_helped _ _) = continues (refl, refl, λ _. refl) (λ _ _. tt) (λ _. refl)
    progress (link_rested _ _) = continues (refl, refl, λ _. refl) (λ _ _. tt) (λ _. refl)
    progress (link_helped_fails _) = continues (refl, refl, λ _. refl) (λ _ _. tt) (λ _. refl)
    progress (validate _) = continues (refl, refl, λ _. refl) (λ _ _. tt) (λ _. refl)
    progress (validate_fails _) = continues (refl, refl, λ _. refl) (λ _ _. tt) (λ _. refl)
    progress (hand_over _) = continues (refl, refl, λ _. refl) (λ _ _. tt) (λ _. refl)
    progress (hand_over_fails _) = continues (refl, refl, λ _. refl) (λ _ _. tt) (λ _. refl)
    progress (reload_hand_over _) = continues (refl, refl, λ _. refl) (λ _ _. tt) (λ _. refl)
    progress (reload_hand_over_lost _) = continues (refl, refl, λ _. refl) (λ _ _. tt) (λ _. refl)
    progress (release _) = continues (refl, refl, λ _. refl) (λ _ _. tt) (λ _. refl)
    progress (release_fails _) = continues (refl, refl, λ _. refl) (λ _ _. tt) (λ _. refl)
    progress (reload_release _) = continues (refl, refl, λ _. refl) (λ _ _. tt) (λ _. refl)
    progress (reload_release_lost _) = continues (refl, refl, λ _. refl) (λ _ _. tt) (λ _. refl)
    progress (clear _) = continues (refl, refl, λ _. refl) (λ _ _. tt) (λ _. refl)
    progress (clear_fails _) = continues (refl, refl, λ _. refl) (λ _ _. tt) (λ _. refl)
    progress (reload_clear _) = continues (refl, refl, λ _. refl) (λ _ _. tt) (λ _. refl)
    progress (reload_clear_lost _) = continues (refl, refl, λ _. refl) (λ _ _. tt) (λ _. refl)
    progress (exit_clear _ _) = continues (refl, refl, λ _. refl) (λ _ _. tt) (λ _. refl)
    progress (exit_release _ _) = continues (refl, refl, λ _. refl) (λ _ _. tt) (λ _. refl)
    progress (exit_link _ _) = continues (refl, refl, λ _. refl) (λ _ _. tt) (λ _. refl)
    progress (exit_retract _ _) = continues (refl, refl, λ _. refl) (λ _ _. tt) (λ _. refl)
    progress (link_exit _) = continues (refl, refl, λ _. refl) (λ _ _. tt) (λ _. refl)
    progress (link_exit_fails _) = continues (refl, refl, λ _. refl) (λ _ _. tt) (λ _. refl)
    progress (clear_exit _) = continues (refl, refl, λ _. refl) (λ _ _. tt) (λ _. refl)
    progress (clear_exit_fails _) = continues (refl, refl, λ _. refl) (λ _ _. tt) (λ _. refl)
    progress (release_exit _) = continues (refl, refl, λ _. refl) (λ _ _. tt) (λ _. refl)
    progress (release_exit_fails _) = continues (refl, refl, λ _. refl) (λ _ _. tt) (λ _. refl)
    progress retract = retracts
