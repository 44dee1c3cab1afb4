-- A step as its own task sees it: the place in the loop, and once there is a response all that may still hold the task up.
use mathlib.Core.Path.{◌≡◌, refl, ◌∙◌, ap}
use mathlib.Core.Bool.{Bool, true, false, ◌&&◌, ◌||◌, not, cond}
use Prim.Native.Nat.{ℕ, ◌+◌, ◌*◌, ◌≤◌}
use native.Mathlib.Decide.{ℕ_discrete}
use native.Mathlib.Omega.{arith}
use Rattle.laws.specs.Bit.{bit}
use Rattle.laws.specs.Decision.{decided}
use Rattle.laws.proofs.Update.{update_same}
use Rattle.laws.proofs.Decision.{decided_yes}
use Rattle.laws.proofs.Choice.{pick_le}
use Rattle.cells.proofs.MarkLaws.{has_add}
use Rattle.machine.specs.Outcome.{Outcome}
use Rattle.machine.specs.Object.{Object}
use Rattle.machine.specs.Memory.{HeadValue, Held, Content, Cell, Memory, head_dec, announcement_dec}
use Rattle.machine.specs.Machine.{Phase, Next, phase_of, linked}
use Rattle.machine.specs.Kind.{Kind, Off, Reading, Opening, Looping, Exiting, Retracting, kind}
use Rattle.machine.specs.Invariant.{is_in_head, head_value, content, IsResp, HeldBy, TaskSafe}
use Rattle.machine.specs.Potential.{Row, row, HeadWord, AnnouncementWord, stale, holds, place_of, at_head, lasts}
use Rattle.machine.proofs.Steps.Effect.{Effect, Unchanged, Retracted, LinkedAt, Announced, effect}
use Rattle.machine.proofs.Steps.Branch.{Branch, stay_idle, read_only, announce, poll_response, poll_waits, load_head, link_free, link_held, link_fails, priority_waits, priority_rests, own_waits, own_response, own_empty, apply, apply_fails, reload_apply, reload_apply_lost, load_helped, link_helped, link_rested, link_helped_fails, validate, validate_fails, hand_over, hand_over_fails, reload_hand_over, reload_hand_over_lost, release, release_fails, reload_release, reload_release_lost, clear, clear_fails, reload_clear, reload_clear_lost, exit_clear, exit_release, exit_link, exit_retract, link_exit, link_exit_fails, clear_exit, clear_exit_fails, release_exit, release_exit_fails, retract}
use Rattle.machine.proofs.Invariant.Guarantee.{value_found, not_empty}
use Rattle.machine.proofs.Potential.Readings.{found_word, lost_word}
use Rattle.machine.proofs.Potential.EffectTable.{effect_row}
use Rattle.machine.proofs.Potential.EffectOnOthers.{stale_most}

-- The operation is announced, and not yet retracted.
abbrev pub Busy : Kind → Type 0
Busy Off = ⊥
Busy Reading = ⊥
Busy Opening = ⊥
Busy Looping = Unit {0}
Busy (Exiting v) = Unit {0}
Busy (Retracting v) = Unit {0}

-- A step in the loop: its task goes on unless it changes the stage, and in any case once it has its response; its own
-- announcement is rewritten only by a stage change. h and g are the parts of the head and of the announcements before
-- the step, h' and g' after it.
abbrev pub Falls : (n i : ℕ) (m m' : Memory) (h h' : ℕ) (g g' : ℕ → ℕ) (f f' : Phase) → Effect → Type 0
Falls n i m m' h h' g g' f f' e = record {
  before : Busy (kind f);
  after : Busy (kind f');
  place : place_of m' i (row f') + 1 ≤ place_of m i (row f) + (effect_row e).stage;
  last : IsResp (content m i) → lasts n h' g' m' (row f') + 1 ≤ lasts n h g m (row f);
  writes : bit ((effect_row e).writes i i) ≤ (effect_row e).stage;
}

-- Where a step stands in its operation: F holds of every step but the first and the last.
pub data OwnSeen (r : Row) (F : Type 0) : Kind → Effect → Kind → Type 0 where
  rests : OwnSeen r F Off Unchanged Off
  reads : OwnSeen r F Reading Unchanged Off
  opens : {o : ℕ} → OwnSeen r F Opening (Announced o) Looping
  works : {k k' : Kind} {e : Effect} → F → OwnSeen r F k e k'
  ends : {v : Outcome} → 1 ≤ r.position true → OwnSeen r F (Retracting v) Retracted Off

-- The holder's part of the head is due.
pub held_own : (m : Memory) {i q : ℕ} {r : Outcome} → head_value m ≡ Held q i r → at_head m i ≡ true
held_own m {i} e = go (is_in_head m i)
  where
    go : (x : Bool) → (x || holds i (head_value m)) ≡ true
    go true = refl
    go false = rw e (decided_yes (ℕ_discrete i i) refl)

module _ (b : Object) (m : Memory) (i k o n : ℕ) (h h' : ℕ) (g g' : ℕ → ℕ) (head_most : h' ≤ 39 * n) (marks_most : (j : ℕ) → g' j ≤ 20 * n) where
  abbrev pub OwnSees : Phase → Effect → Next → Type 0
  OwnSees f e y = OwnSeen (row f) (Falls n i m (effect i e m) h h' g g' f (phase_of y) e) (kind f) e (kind (phase_of y))

  here : stale m (HeadWord m.head) ≡ 0
  here = ap (λ k. 3 * k) (found_word (head_dec m.head m.head) refl)

  there : (j : ℕ) → stale m (AnnouncementWord j (m.announcement j)) ≡ 0
  there j = ap (λ k. 5 * k) (found_word (announcement_dec (m.announcement j) (m.announcement j)) refl)

  linked_there : (j : ℕ) (a : Cell Content) → m.announcement j ≡ a → stale (effect i (LinkedAt j) m) (AnnouncementWord j (linked i a)) ≡ 0
  linked_there j a e = ap (λ k. 5 * k) (found_word (announcement_dec _ (linked i a)) (update_same m.announcement j (linked i (m.announcement j)) ∙ ap (linked i) e))

  -- A task that links the head to leave it holds it already.
  kept_exit : {x : Cell HeadValue} → h' ≤ h + cond (true && not (at_head m i)) (39 * n) 0 → m.head ≡ x → HeldBy i x → h' ≤ h
  kept_exit l e (q, r, f) = let y : h' ≤ h + 0 = rw (held_own m (value_found e ∙ f)) at l in omega arith

  pub own_seen : {f : Phase} {e : Effect} {y : Next} → Branch b m i k o f e y → TaskSafe m i o f
      → h' ≤ h + cond ((effect_row e).links && not (at_head m i)) (39 * n) 0
      → (e ≡ Unchanged → (j : ℕ) → g' j ≤ g j) → OwnSees f e y
  own_seen stay_idle s l u = rests
  own_seen read_only s l u = reads
  own_seen announce s l u = opens
  own_seen (poll_response e) s l u = works (omega arith)
  own_seen (poll_waits e) s l u = works (record { before = tt; after = tt; place = omega arith; last = λ r. absurd (e r); writes = omega arith })
  own_seen load_head s l u = works (omega (arith, here))
  own_seen (link_free {h = x} e f) s l u = works (rw (has_add i m.head.marks) (omega (arith, found_word (head_dec (linked i m.head) (linked i x)) (ap (linked i) e))))
  own_seen (link_held e f) s l u = works (rw (has_add i m.head.marks) (omega arith))
  own_seen (link_fails {h = x} e) s l u = works (omega (arith, lost_word (head_dec m.head x) e))
  own_seen (priority_waits e) s l u = works (omega arith)
  own_seen (priority_rests e) s l u = works (omega arith)
  own_seen (own_waits e) s l u = works (omega arith)
  own_seen (own_response {h = x} e) s l u = works (omega arith)
  own_seen (own_empty e) s l u = absurd (not_empty o s.own e)
  own_seen (apply e) s l u = works (omega arith)
  own_seen (apply_fails {h = x} e) s l u = works (omega (arith, lost_word (head_dec m.head x) e))
  own_seen (reload_apply e) s l u = works (omega (arith, here))
  own_seen (reload_apply_lost e) s l u = works (rw e (omega arith))
  own_seen (load_helped {j = j}) s l u = works (omega (arith, there j))
  own_seen (link_helped {j = j} {a = a} e f) s l u = works (omega (arith, marks_most j, linked_there j a e))
  own_seen (link_rested {j = j} {a = a} e f) s l u = works (omega (arith, marks_most j, linked_there j a e))
  own_seen (link_helped_fails {j = j} {a = a} e) s l u = works (omega (arith, lost_word (announcement_dec (m.announcement j) a) e))
  own_seen (validate {j = j} e) s l u = works (omega (arith, u refl j))
  own_seen (validate_fails {j = j} e) s l u = works (omega (arith, u refl j))
  own_seen (hand_over {h = x} {j = j} e) s l u = works (omega (arith, stale_most m (HeadWord x), pick_le (decided (ℕ_discrete j i)) 1))
  own_seen (hand_over_fails {j = j} {a = a} e) s l u = works (omega (arith, u refl j, lost_word (announcement_dec (m.announcement j) a) e))
  own_seen (reload_hand_over {j = j} e) s l u = works (omega (arith, u refl j, there j))
  own_seen (reload_hand_over_lost {h = x} e) s l u = works (omega (arith, stale_most m (HeadWord x)))
  own_seen (release {h = x} e) s l u = works (omega (arith, stale_most m (HeadWord x)))
  own_seen (release_fails {j = j} {a = a} e) s l u = works (omega (arith, u refl j, lost_word (announcement_dec (m.announcement j) a) e))
  own_seen (reload_release {j = j} e) s l u = works (omega (arith, u refl j, there j))
  own_seen (reload_release_lost {h = x} e) s l u = works (omega (arith, stale_most m (HeadWord x)))
  own_seen (clear e) s l u = works (omega arith)
  own_seen (clear_fails {h = x} e) s l u = works (omega (arith, lost_word (head_dec m.head x) e))
  own_seen (reload_clear e) s l u = works (omega (arith, here))
  own_seen (reload_clear_lost e) s l u = works (rw e (omega arith))
  own_seen (exit_clear e f) s l u = works (omega (arith, here))
  own_seen (exit_release e f) s l u = works (omega (arith, here))
  own_seen (exit_link e f) s l u = works (omega (arith, here))
  own_seen (exit_retract e f) s l u = works (omega arith)
  own_seen (link_exit {h = x} e) s l u = works (omega (arith, kept_exit l e s.saved.1, found_word (head_dec (linked i m.head) (linked i x)) (ap (linked i) e)))
  own_seen (link_exit_fails {h = x} e) s l u = works (omega (arith, lost_word (head_dec m.head x) e))
  own_seen (clear_exit e) s l u = works (omega arith)
  own_seen (clear_exit_fails {h = x} e) s l u = works (omega (arith, lost_word (head_dec m.head x) e))
  own_seen (release_exit e) s l u = works (omega arith)
  own_seen (release_exit_fails {h = x} e) s l u = works (omega (arith, lost_word (head_dec m.head x) e))
  own_seen retract s l u = ends (omega arith)
