-- A step as the other tasks see it: what it does to the rank and the distance of its task, and to the changes that it has left.
use mathlib.Core.Path.{◌≡◌, refl, ◌∙◌, ap}
use mathlib.Core.Bool.{Bool, true, false, ◌&&◌, not, cond, not-eq-not}
use mathlib.Core.Logic.{◌≢◌}
use Prim.Native.Nat.{ℕ, ◌+◌, ◌*◌, ◌≤◌}
use native.Mathlib.Decide.{ℕ_discrete}
use native.Mathlib.Omega.{arith}
use Rattle.laws.specs.Bit.{bit}
use Rattle.laws.specs.Decision.{decided}
use Rattle.laws.proofs.Update.{update_same, update_other}
use Rattle.cells.specs.Marks.{has, add, remove}
use Rattle.cells.proofs.MarkLaws.{has_add, has_remove}
use Rattle.machine.specs.Object.{Object}
use Rattle.machine.specs.Memory.{Content, Empty, Op, Resp, Cell, Memory, unmarked, outcome_of}
use Rattle.machine.specs.Machine.{Phase, Poll, ClearHead, Next, phase_of, turns, released}
use Rattle.machine.specs.Invariant.{is_in_head, is_in_announcement, head_value, content, TaskSafe}
use Rattle.machine.specs.Potential.{Row, row, Elsewhere, Applying, Finishing, answered, waiting, held, holds, dist, changes_due, changes_left}
use Rattle.machine.proofs.Steps.Effect.{Effect, LinkedAt, ReleasedAt, Announced, effect, with_announcement, Allowed}
use Rattle.machine.proofs.Steps.Branch.{Branch, stay_idle, read_only, announce, poll_response, poll_waits, load_head, link_free, link_held, link_fails, priority_waits, priority_rests, own_waits, own_response, own_empty, apply, apply_fails, reload_apply, reload_apply_lost, load_helped, link_helped, link_rested, link_helped_fails, validate, validate_fails, hand_over, hand_over_fails, reload_hand_over, reload_hand_over_lost, release, release_fails, reload_release, reload_release_lost, clear, clear_fails, reload_clear, reload_clear_lost, exit_clear, exit_release, exit_link, exit_retract, link_exit, link_exit_fails, clear_exit, clear_exit_fails, release_exit, release_exit_fails, retract}
use Rattle.machine.proofs.Invariant.Guarantee.{value_found, mark_found, not_empty}
use Rattle.machine.proofs.Potential.Readings.{answered_not}
use Rattle.machine.proofs.Potential.EffectTable.{effect_row}
use Rattle.machine.proofs.Potential.EffectOnOthers.{remarked}
use Rattle.machine.proofs.Potential.RowBounds.{Extra, extras, row_bounds}
use Rattle.machine.proofs.Potential.Distance.{leaves, turns_to_own, takes_priority, passes}
use Rattle.machine.proofs.Potential.ChangesLeft.{due_most, link_changes, mark_changes, miss_changes, unmark_changes, lost_changes, written_changes, cleared_changes, applied_changes}

-- A step of task i with priority k from the cells m to m' and from row r to row r'. The rank pays the cost of the effect,
-- unless the stage changes; no priority moves on without a stage change; the distance to a waiting task p doesn't rise;
-- and the task has fewer changes left at the announcement of task t by what it does there.
abbrev pub Seen : (m m' : Memory) (i k n p t : ℕ) → Row → Row → Effect → Next → Type 0
Seen m m' i k n p t r r' e y = record {
  rank : r'.rank (held (head_value m')) (is_in_head m' i) (answered (content m' i)) + (effect_row e).cost (is_in_head m i) ≤ r.rank (held (head_value m)) (is_in_head m i) (answered (content m i)) + 9 * (effect_row e).stage;
  turn : bit (turns y) ≤ (effect_row e).stage;
  distance : dist n p k r'.work ≤ dist n p k r.work + cond (waiting (content m p)) 0 n;
  changes : changes_left m' i t r'.work + bit ((effect_row e).marks i t) ≤ changes_left m i t r.work + 4 * bit ((effect_row e).writes i t);
}

module _ (b : Object) (m : Memory) (i k o n p t : ℕ) (ex : Extra (held (head_value m)) (is_in_head m i) (answered (content m i))) where
  abbrev kept_due : ℕ → ℕ
  kept_due j = cond (decided (ℕ_discrete j t) && (holds t (head_value m) && is_in_head m i)) 0 (changes_due m t)

  announced : content (effect i (Announced o) m) i ≡ Op o
  announced = value_found (update_same m.announcement i (unmarked (Op o)))

  -- The changes that the task has left at t before and after it marks, or unmarks, the announcement of j.
  abbrev mark_after : Effect → Bool
  mark_after e = is_in_announcement (effect i e m) i t

  away : (j v : ℕ) → j ≢ t → is_in_announcement (with_announcement m j (record { value = content m j; marks = v })) i t ≡ is_in_announcement m i t
  away j v d = ap (λ (s : Cell Content). has i s.marks) (update_other m.announcement j (record { value = content m j; marks = v }) t d)

  marks_at : (j : ℕ) → bit (mark_after (LinkedAt j)) + kept_due j + bit (decided (ℕ_discrete j t)) ≤ cond (decided (ℕ_discrete j t)) 2 (bit (is_in_announcement m i t)) + kept_due j
  marks_at j = mark_changes (ℕ_discrete j t) (is_in_announcement m i t) (mark_after (LinkedAt j)) (kept_due j) (away j (add i (m.announcement j).marks))

  unmarks_at : (j : ℕ) → is_in_announcement m i j ≡ true → bit (mark_after (ReleasedAt j)) + kept_due j + bit (decided (ℕ_discrete j t)) ≤ bit (is_in_announcement m i t) + kept_due j
  unmarks_at j y = unmark_changes (ℕ_discrete j t) (is_in_announcement m i t) (mark_after (ReleasedAt j)) (kept_due j) (λ z. rw z at y) (λ z. rw (← z) gone) (away j (remove i (m.announcement j).marks))
    where
      gone : is_in_announcement (effect i (ReleasedAt j) m) i j ≡ false
      gone = ap (λ (s : Cell Content). has i s.marks) (update_same m.announcement j (released i (m.announcement j))) ∙ has_remove i (m.announcement j).marks

  abbrev pub Sees : Phase → Effect → Next → Type 0
  Sees f e y = Seen m (effect i e m) i k n p t (row f) (row (phase_of y)) e y

  pub seen : {f : Phase} {e : Effect} {y : Next} → Branch b m i k o f e y → TaskSafe m i o f → Allowed b m i e → Sees f e y
  seen stay_idle s a = omega arith
  seen read_only s a = omega arith
  seen announce s a = rw announced (omega (arith, written_changes m i (unmarked (Op o)) i t Elsewhere))
  seen (poll_response e) s a = omega arith
  seen (poll_waits e) s a = rw (answered_not (content m i) e) (omega arith)
  seen load_head s a = omega arith
  seen (link_free e f) s a = rw (has_add i m.head.marks) (omega arith)
  seen (link_held {j = j} e f) s a = rw (has_add i m.head.marks, value_found e ∙ f) (omega (arith, extras true (is_in_head m i) (answered (content m i)), link_changes (ℕ_discrete j t) (is_in_announcement m i t) (waiting (content m t))))
  seen (link_fails e) s a = omega arith
  seen (priority_waits e) s a = omega (arith, takes_priority n p k)
  seen (priority_rests e) s a = omega (arith, passes n p k m e)
  seen (own_waits e) s a = omega (arith, turns_to_own n p k (not (decided (ℕ_discrete i p))))
  seen (own_response e) s a = omega (arith, leaves n p k true)
  seen (own_empty e) s a = absurd (not_empty o s.own e)
  seen (apply {j = j} e) s a = omega (arith, (row_bounds Poll true (has i 0) (answered (content m i))).rank, leaves n p k (not (decided (ℕ_discrete j p))), applied_changes b m i i t (Applying j) Elsewhere refl _ j _ a)
  seen (apply_fails e) s a = omega arith
  seen (reload_apply e) s a = omega arith
  seen (reload_apply_lost {j = j} e) s a = rw e (omega (arith, leaves n p k (not (decided (ℕ_discrete j p)))))
  seen load_helped s a = omega arith
  seen (link_helped {j = j} e f) s a = rw (remarked m i j (add i (m.announcement j).marks) i, remarked m i j (add i (m.announcement j).marks) t) (omega (arith, marks_at j))
  seen (link_rested {j = j} e f) s a = rw (remarked m i j (add i (m.announcement j).marks) i, remarked m i j (add i (m.announcement j).marks) t) (omega (arith, marks_at j))
  seen (link_helped_fails {j = j} e) s a = rw ((not-eq-not {a = is_in_announcement m i t} {b = false}).0 (s.saved.0 t)) (omega (arith, miss_changes (ℕ_discrete j t) (holds t (head_value m) && is_in_head m i) (changes_due m t) (due_most m t)))
  seen (validate e) s a = omega arith
  seen (validate_fails e) s a = omega arith
  seen (hand_over {h = h} {j = j} e) s a = omega (arith, (row_bounds (ClearHead h j) (held (head_value m)) (is_in_head m i) (answered (content (with_announcement m j (unmarked (Resp (outcome_of h.value)))) i))).rank, written_changes m j (unmarked (Resp (outcome_of h.value))) i t (Finishing j))
  seen (hand_over_fails e) s a = omega arith
  seen (reload_hand_over e) s a = omega arith
  seen (reload_hand_over_lost e) s a = omega arith
  seen (release {j = j} e) s a = rw (remarked m i j (remove i (m.announcement j).marks) i, remarked m i j (remove i (m.announcement j).marks) t) (omega (arith, unmarks_at j (mark_found i e s.saved.1.noted.mine)))
  seen (release_fails e) s a = omega arith
  seen (reload_release e) s a = omega arith
  seen (reload_release_lost e) s a = omega arith
  seen (clear {j = j} e) s a = omega (arith, (row_bounds Poll false (has i 0) (answered (content m i))).rank, cleared_changes b m i i t (Finishing j) Elsewhere refl a)
  seen (clear_fails e) s a = omega arith
  seen (reload_clear e) s a = omega arith
  seen (reload_clear_lost {j = j} e) s a = rw e (omega (arith, lost_changes (decided (ℕ_discrete j t)) (holds t (head_value m)) (changes_due m t)))
  seen (exit_clear e f) s a = omega arith
  seen (exit_release e f) s a = omega arith
  seen (exit_link e f) s a = omega arith
  seen (exit_retract e f) s a = rw (s.own, e) (omega arith)
  seen (link_exit e) s a = rw (has_add i m.head.marks) (omega arith)
  seen (link_exit_fails e) s a = omega arith
  seen (clear_exit e) s a = omega (arith, cleared_changes b m i i t Elsewhere Elsewhere refl a)
  seen (clear_exit_fails e) s a = omega arith
  seen (release_exit e) s a = rw s.own (omega arith)
  seen (release_exit_fails e) s a = omega arith
  seen retract s a = omega (arith, written_changes m i (unmarked Empty) i t Elsewhere)
