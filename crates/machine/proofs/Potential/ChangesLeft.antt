-- How often a task can still change the announcement of task t: what becomes of this number when the cells change.
use mathlib.Core.Path.{◌≡◌, refl, ap}
use mathlib.Core.Bool.{Bool, true, false, ◌&&◌, ◌||◌, cond}
use mathlib.Core.Logic.{◌≢◌}
use Prim.Native.Nat.{ℕ, ◌+◌, ◌*◌, ◌≤◌}
use native.Mathlib.Decide.{ℕ_discrete}
use native.Mathlib.Omega.{arith}
use Rattle.laws.specs.Bit.{bit}
use Rattle.laws.specs.Decision.{decided}
use Rattle.laws.proofs.Update.{update_other}
use Rattle.laws.proofs.Choice.{pick_le, skip_le}
use Rattle.cells.specs.Marks.{has}
use Rattle.machine.specs.Outcome.{Outcome}
use Rattle.machine.specs.Object.{Object}
use Rattle.machine.specs.Memory.{Content, Cell, Memory}
use Rattle.machine.specs.Invariant.{is_in_head, is_in_announcement, head_value, content}
use Rattle.machine.specs.Potential.{Work, waiting, holds, approaches, works_for, changes_due, changes_left}
use Rattle.machine.proofs.Steps.Effect.{Effect, Cleared, Applied, effect, with_announcement, Allowed}
use Rattle.machine.proofs.Invariant.Guarantee.{value_found}
use Rattle.machine.proofs.Potential.Readings.{waiting_not, resp_not_op}
use Rattle.machine.proofs.Potential.EffectOnOthers.{OrdinaryOrStage, ordinary, clears, applies, hands_over}

first_le : (x y : Bool) → cond x 2 (bit y) ≤ 2
first_le true y = omega arith
first_le false y = omega (arith, pick_le y 1)

pub due_most : (m : Memory) (t : ℕ) → changes_due m t ≤ 2
due_most m t = pick_le (waiting (content m t) || holds t (head_value m)) 2

pub changes_most : (m : Memory) (x t : ℕ) (w : Work) → changes_left m x t w ≤ 4
changes_most m x t w = omega (arith, first_le (approaches t w) (is_in_announcement m x t), skip_le (works_for t w && (holds t (head_value m) && is_in_head m x)) (changes_due m t), due_most m t)

-- ---- By the task itself; d decides whether its target is t

-- It links the head of its target, and approaches.
pub link_changes : {P : Type 0} (d : Dec P) (a w : Bool) → cond (decided d) 2 (bit a) + cond (decided d && (decided d && true)) 0 (cond (w || decided d) 2 0) ≤ bit a + cond (w || decided d) 2 0
link_changes (yes e) a true = omega arith
link_changes (yes e) a false = omega arith
link_changes (no n) a w = omega arith

-- It marks the announcement of its target; a, a': its mark there, before and after.
pub mark_changes : {P : Type 0} (d : Dec P) (a a' : Bool) (s : ℕ) → ((P → ⊥) → a' ≡ a) → bit a' + s + bit (decided d) ≤ cond (decided d) 2 (bit a) + s
mark_changes (yes e) a a' s f = omega (arith, pick_le a' 1)
mark_changes (no n) a a' s f = rw (f n) (omega arith)

-- It doesn't succeed, and leaves.
pub miss_changes : {P : Type 0} (d : Dec P) (x : Bool) (s : ℕ) → s ≤ 2 → s ≤ cond (decided d) 2 0 + cond (decided d && x) 0 s
miss_changes (yes e) x s h = omega arith
miss_changes (no n) x s h = omega arith

-- It takes its mark away.
pub unmark_changes : {P : Type 0} (d : Dec P) (a a' : Bool) (s : ℕ) → (P → a ≡ true) → (P → a' ≡ false) → ((P → ⊥) → a' ≡ a) → bit a' + s + bit (decided d) ≤ bit a + s
unmark_changes (yes e) a a' s f g k = rw (f e, g e) (omega arith)
unmark_changes (no n) a a' s f g k = rw (k n) (omega arith)

-- It has lost its mark in the head, and leaves.
pub lost_changes : (x y : Bool) (s : ℕ) → s ≤ cond (x && (y && false)) 0 s
lost_changes true true s = omega arith
lost_changes true false s = omega arith
lost_changes false y s = omega arith

-- ---- By anybody

-- Another announcement is written.
pub written_changes : (m : Memory) (j : ℕ) (a : Cell Content) (x t : ℕ) (w : Work) → changes_left (with_announcement m j a) x t w ≤ changes_left m x t w + 4 * bit (decided (ℕ_discrete j t))
written_changes m j a x t w = go (ℕ_discrete j t)
  where
    go : (d : Dec (j ≡ t)) → changes_left (with_announcement m j a) x t w ≤ changes_left m x t w + 4 * bit (decided d)
    go (yes e) = omega (arith, changes_most (with_announcement m j a) x t w)
    go (no d) =
        let same = update_other m.announcement j a t d in
        let c : content (with_announcement m j a) t ≡ content m t = value_found same in
        let h : is_in_announcement (with_announcement m j a) x t ≡ is_in_announcement m x t = ap (λ (s : Cell Content). has x s.marks) same in
        rw (c, h) (omega arith)

-- The head has no holder any more, or a new one; d decides whether this is t.
clear_due : {P : Type 0} (d : Dec P) (works h w : Bool) → (P → w ≡ false) → cond (w || false) 2 0 ≤ cond (works && (decided d && h)) 0 (cond (w || decided d) 2 0)
clear_due (yes e) works h w f = rw (f e) (omega arith)
clear_due (no n) true h w f = omega arith
clear_due (no n) false h w f = omega arith

apply_due : {P : Type 0} (d : Dec P) (works w : Bool) → (P → w ≡ true) → cond (w || decided d) 2 0 ≤ cond (works && false) 0 (cond (w || false) 2 0)
apply_due (yes e) true w f = rw (f e) (omega arith)
apply_due (yes e) false w f = rw (f e) (omega arith)
apply_due (no n) true w f = omega arith
apply_due (no n) false w f = omega arith

module _ (b : Object) (m : Memory) (i x t : ℕ) (w w' : Work) (same : approaches t w' ≡ approaches t w) where
  pub cleared_changes : Allowed b m i Cleared → changes_left (effect i Cleared m) x t w' ≤ changes_left m x t w
  cleared_changes (q, j, r, h, y) =
      rw (same, h) (omega (
        arith,
        skip_le (works_for t w' && false) (cond (waiting (content m t) || false) 2 0),
        clear_due (ℕ_discrete j t) (works_for t w) (is_in_head m x) (waiting (content m t)) (λ e. waiting_not (content m t) (resp_not_op (content m t) (rw e at y))),
      ))

  pub applied_changes : (q j : ℕ) (r : Outcome) → Allowed b m i (Applied q j r) → changes_left (effect i (Applied q j r) m) x t w' ≤ changes_left m x t w
  applied_changes q j r (c, o, h, y, _, _) =
      rw (same, h) (omega (
        arith,
        skip_le (works_for t w' && (decided (ℕ_discrete j t) && has x 0)) (cond (waiting (content m t) || decided (ℕ_discrete j t)) 2 0),
        apply_due (ℕ_discrete j t) (works_for t w) (waiting (content m t)) (λ e. rw (← e, y) refl),
      ))

-- A task x other than the one that steps has no more changes left, unless the announcement is rewritten.
pub other_changes : (b : Object) (m : Memory) (i x t : ℕ) (w : Work) {e : Effect} → OrdinaryOrStage b m i e → x ≢ i → content (effect i e m) t ≡ content m t → is_in_announcement (effect i e m) x t ≡ is_in_announcement m x t → changes_left (effect i e m) x t w ≤ changes_left m x t w
other_changes b m i x t w (ordinary y) d c a = rw (y.value, y.marks x d, c, a) (omega arith)
other_changes b m i x t w (clears y) d c a = cleared_changes b m i x t w w refl y
other_changes b m i x t w (applies {q = q} {j = j} {r = r} y) d c a = applied_changes b m i x t w w refl q j r y
other_changes b m i x t w (hands_over y) d c a = rw (c, a) (omega arith)
