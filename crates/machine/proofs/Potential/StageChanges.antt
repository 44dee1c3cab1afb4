-- What the three stage changes do to the ranks, and to the part of the head in the potential of a task with its response,
-- whoever steps.
use mathlib.Core.Path.{◌≡◌, refl, sym}
use mathlib.Core.Bool.{Bool, true, false, not, cond}
use mathlib.Core.Logic.{◌≢◌}
use Prim.Native.Nat.{ℕ, ◌+◌, ◌*◌, ◌≤◌, ◌<◌}
use native.Mathlib.Decide.{ℕ_discrete}
use native.Mathlib.Omega.{arith}
use Rattle.laws.specs.Sum.{but}
use Rattle.laws.proofs.Update.{update_all, update_same}
use Rattle.laws.proofs.Sums.{but_rise, but_rises, but_at_most}
use Rattle.laws.proofs.Decision.{decided_no}
use Rattle.cells.specs.Marks.{has}
use Rattle.cells.proofs.MarkLaws.{has_none}
use Rattle.machine.specs.Outcome.{Outcome}
use Rattle.machine.specs.Object.{Object}
use Rattle.machine.specs.Memory.{HeadValue, Held, Content, Resp, Memory, unmarked}
use Rattle.machine.specs.Machine.{Phase, Poll, Task, Next, phase_of, turns, advance}
use Rattle.machine.specs.Kind.{kind}
use Rattle.machine.specs.Run.{Config}
use Rattle.machine.specs.Invariant.{is_in_head, head_value, content, IsResp, OwnContent}
use Rattle.machine.specs.Potential.{row, answered, held, unanswered, rank_of, ranks, dist, head_load}
use Rattle.machine.proofs.Steps.Effect.{Cleared, Applied, HandedOver, Announced, effect, with_head, Allowed}
use Rattle.machine.proofs.Steps.Branch.{Branch, announce, apply, hand_over, clear, clear_exit}
use Rattle.machine.proofs.Steps.Successor.{moved, Steps}
use Rattle.machine.proofs.Invariant.Guarantee.{value_found}
use Rattle.machine.proofs.Potential.Readings.{resp_not_op}
use Rattle.machine.proofs.Potential.RowBounds.{extras, row_bounds}
use Rattle.machine.proofs.Potential.EffectOnOthers.{elsewhere}
use Rattle.machine.proofs.Potential.Distance.{applies_other}
use Rattle.machine.proofs.Potential.Waiting.{with}
use Rattle.machine.proofs.Potential.Answered.{HeadDue, over, goes_on}

-- ---- Their branches

module _ {b : Object} {m : Memory} {i k o : ℕ} where
  pub clear_keeps_turn : {f : Phase} {y : Next} → Branch b m i k o f Cleared y → turns y ≡ false
  clear_keeps_turn (clear e) = refl
  clear_keeps_turn (clear_exit e) = refl

  pub hand_over_keeps_turn : {f : Phase} {y : Next} {j : ℕ} {r : Outcome} → Branch b m i k o f (HandedOver j r) y → turns y ≡ false
  hand_over_keeps_turn (hand_over e) = refl

  hand_over_keeps_rank : {f : Phase} {y : Next} {j : ℕ} {r : Outcome} → Branch b m i k o f (HandedOver j r) y → (row (phase_of y)).rank ≡ (row f).rank
  hand_over_keeps_rank (hand_over e) = refl

  -- A task that applies or clears loses its mark in the head.
  pub apply_rank : {f : Phase} {y : Next} {q j : ℕ} {r : Outcome} → Branch b m i k o f (Applied q j r) y → (row (phase_of y)).rank true false (answered (content m i)) ≤ (row f).rank false (is_in_head m i) (answered (content m i)) + 13
  apply_rank (apply e) = omega (arith, extras true false (answered (content m i)), extras false (is_in_head m i) (answered (content m i)))

  pub clear_rank : {f : Phase} {y : Next} → Branch b m i k o f Cleared y → OwnContent (content m i) o (kind f) → (row (phase_of y)).rank false false (answered (content m i)) ≤ (row f).rank true (is_in_head m i) (answered (content m i)) + 3
  clear_rank (clear e) s = omega (arith, extras false false (answered (content m i)), extras true (is_in_head m i) (answered (content m i)))
  clear_rank (clear_exit e) s = rw s (omega (arith, extras true (is_in_head m i) true))

  -- No stage change: a task that announces polls.
  pub announces_polls : {f : Phase} {y : Next} {x : ℕ} → Branch b m i k o f (Announced x) y → phase_of y ≡ Poll
  announces_polls announce = refl

-- The task that applies another one than p comes nearer to p.
pub apply_turns : {b : Object} {m : Memory} {i o : ℕ} (n p : ℕ) (t : Task) {f : Phase} {y : Next} {q j : ℕ} {r : Outcome} → Branch b m i t.priority o f (Applied q j r) y → p < n → t.priority < n → j ≢ p
    → dist n p (advance n t y).priority (row (phase_of y)).work + 1 ≤ dist n p t.priority (row f).work
apply_turns n p t (apply {j = j} e) l h d = omega (arith, applies_other n p t.priority j l h d)

-- ---- The ranks

-- A new head without marks raises every rank by at most 3 if it was held, and by at most 13 if it was free.
pub ranks_unmarked : (n i : ℕ) (c : Config) (p : ℕ) (v : HeadValue) (t' : Task) (w : Bool) → p < n → held (head_value c.memory) ≡ w → held v ≡ not w
    → (row t'.phase).rank (not w) false (answered (content c.memory i)) ≤ (row (c.task i).phase).rank w (is_in_head c.memory i) (answered (content c.memory i)) + cond w 3 13
    → ranks n (with i c (with_head c.memory (unmarked v)) t') p + cond w 3 13 ≤ ranks n c p + n * cond w 3 13
ranks_unmarked n i c p v t' w h e f y =
    but_rises n p (rank_of c) (rank_of (with i c (with_head c.memory (unmarked v)) t')) (cond w 3 13) h
    (update_all c.task i t' (λ x (s : Task). (row s.phase).rank (held v) (has x 0) (answered (content c.memory x)) ≤ rank_of c x + cond w 3 13)
    (rw (has_none i, rank_of, e, f) y)
    (λ x _. rw (has_none x, rank_of, e, f) (row_bounds (c.task x).phase w (is_in_head c.memory x) (answered (content c.memory x))).unmarked))

-- ---- The part of the head

module _ (b : Object) (n i : ℕ) (c : Config) (p : ℕ) where
  pub clear_head : (y : Next) → HeadDue n c (moved n i c Cleared y) p
  clear_head y = over (rw (has_none p) refl)

  pub apply_head : {q j : ℕ} {r : Outcome} (y : Next) → IsResp (content c.memory p) → Allowed b c.memory i (Applied q j r) → HeadDue n c (moved n i c (Applied q j r) y) p
  apply_head {j = j} y f (_, x, _, w, _, _) =
      over (rw (has_none p) (decided_no (ℕ_discrete j p) (λ z. resp_not_op (content c.memory p) f (rw (← z, w) tt))))

  module _ {j : ℕ} {r : Outcome} {y : Next} (v : Steps b i c (HandedOver j r) y) (a : Allowed b c.memory i (HandedOver j r)) where
    abbrev m' : Memory
    m' = effect i (HandedOver j r) c.memory

    abbrev c' : Config
    c' = moved n i c (HandedOver j r) y

    answers : content m' j ≡ Resp r
    answers = value_found (update_same c.memory.announcement j _)

    -- Only the rank of j rises.
    pub rank_rises : ranks n c' p ≤ ranks n c p + but p (λ _. 26) j
    rank_rises =
        but_rise n p (rank_of c) (rank_of c') j 26
        (λ x d. omega (arith, ranked x (elsewhere c.memory i j x _ (λ z. d (sym z)))))
        (omega (arith, ranked j answers, (row_bounds (c.task j).phase (held (head_value c.memory)) (is_in_head c.memory j) (answered (content c.memory j))).served))
      where
        ranked : (x : ℕ) {a : Content} → content m' x ≡ a → rank_of c' x ≡ (row (c.task x).phase).rank (held (head_value c.memory)) (is_in_head c.memory x) (answered a)
        ranked x e t = update_all c.task i (advance n (c.task i) y) (λ x (s : Task). (row s.phase).rank ≡ (row (c.task x).phase).rank) (hand_over_keeps_rank v) (λ _ _. refl) x t (held (head_value c.memory)) (is_in_head c.memory x) (answered (e t))

    pub hand_over_load : head_load n c' p ≤ ranks n c p + 3 + but p (λ _. 26) j
    hand_over_load =
        let h : head_value c.memory ≡ Held a.0 j r = a.2 in
        let after : unanswered m' (head_value c.memory) ≡ false = rw (h, answers) refl in
        rw after (omega (arith, rank_rises))

    pub hand_over_head : HeadDue n c c' p
    hand_over_head =
        let h : head_value c.memory ≡ Held a.0 j r = a.2 in
        let before : unanswered c.memory (head_value c.memory) ≡ true = rw (h, a.3) refl in
        goes_on 0 refl (rw before (omega (arith, hand_over_load, but_at_most p j 26))) (λ h. omega arith)
