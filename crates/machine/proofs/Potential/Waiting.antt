-- The potential of an operation that waits for its response, when the cells and the record of one task i change.
use mathlib.Core.Path.{◌≡◌, refl, sym}
use mathlib.Core.Bool.{Bool, ◌&&◌, not, cond}
use mathlib.Core.Logic.{◌≢◌, ite, if_neg}
use Prim.Native.Nat.{ℕ, ◌+◌, ◌*◌, ◌≤◌, ◌<◌}
use native.Mathlib.Decide.{ℕ_discrete}
use native.Mathlib.Nat.{mul-le-mul_right}
use native.Mathlib.Omega.{arith}
use Rattle.laws.specs.Update.{update}
use Rattle.laws.specs.Sum.{but}
use Rattle.laws.proofs.Update.{update_same, update_other}
use Rattle.laws.proofs.Sums.{sum_most, sum_change, but_change, but_most}
use Rattle.laws.proofs.Choice.{pick_le}
use Rattle.cells.specs.Marks.{has}
use Rattle.machine.specs.Outcome.{Outcome}
use Rattle.machine.specs.Object.{Object}
use Rattle.machine.specs.Memory.{HeadValue, Free, Held, Content, Op, Resp, Cell, Memory, unmarked}
use Rattle.machine.specs.Machine.{Poll, Task, cleared}
use Rattle.machine.specs.Run.{Config}
use Rattle.machine.specs.Invariant.{is_in_head, head_value, content}
use Rattle.machine.specs.Potential.{Row, row, answered, waiting, held, rank_of, ranks, dist, dist_of, dists, apply_weight, hand_over_weight, clear_weight, cycle_weight, stage_weights, place_of, waiting_potential, bound}
use Rattle.machine.proofs.Steps.Effect.{Effect, Cleared, Applied, HandedOver, effect, with_head, Allowed}
use Rattle.machine.proofs.Invariant.Guarantee.{value_found}
use Rattle.machine.proofs.Potential.Readings.{resp_not_op}
use Rattle.machine.proofs.Potential.EffectTable.{EffectRow, effect_row}
use Rattle.machine.proofs.Potential.EffectOnOthers.{stale_most, head_words, Ordinary, OrdinaryOrStage, ordinary, clears, applies, hands_over}
use Rattle.machine.proofs.Potential.RowBounds.{row_bounds}
use Rattle.machine.proofs.Potential.Distance.{dist_most, dist_below}

-- The configuration with the cells m' and the record t' of task i.
abbrev pub with : (i : ℕ) → Config → Memory → Task → Config
with i c m' t' = record { memory = m'; task = update c.task i t' }

pub ranks_most : (n : ℕ) (c : Config) (p : ℕ) → p < n → ranks n c p + 39 ≤ n * 39
ranks_most n c p h = but_most n p 39 (rank_of c) h (λ x. (row_bounds (c.task x).phase (held (head_value c.memory)) (is_in_head c.memory x) (answered (content c.memory x))).rank)

rank_same : {s s' : Task} {v v' : HeadValue} {h h' : Bool} {a a' : Content} → s' ≡ s → v' ≡ v → h' ≡ h → a' ≡ a → (row s'.phase).rank (held v') h' (answered a') ≡ (row s.phase).rank (held v) h (answered a)
rank_same e v f g t = (row (e t).phase).rank (held (v t)) (f t) (answered (g t))

-- The rank of task i pays the cost of a change with the row s.
abbrev pub Pays : (i : ℕ) → Config → Memory → Task → EffectRow → Type 0
Pays i c m' t' s = (row t'.phase).rank (held (head_value m')) (is_in_head m' i) (answered (content m' i)) + s.cost (is_in_head c.memory i) ≤ rank_of c i

-- What another task p has of it.
abbrev pub share : (i : ℕ) → Config → EffectRow → (p : ℕ) → ℕ
share i c s p = but p (λ _. s.cost (is_in_head c.memory i)) i

module _ (n i : ℕ) (lt : i < n) (c : Config) (m' : Memory) (t' : Task) where
  -- The ranks of the others stay.
  pub ranks_fall : {s : EffectRow} → Ordinary c.memory m' i s → Pays i c m' t' s → (p : ℕ) → ranks n (with i c m' t') p + share i c s p ≤ ranks n c p
  ranks_fall {s} o h p =
      but_change n p (rank_of c) (rank_of (with i c m' t')) i (s.cost (is_in_head c.memory i)) lt
      (λ x d. omega (arith, rank_same (update_other c.task i t' x (λ z. d (sym z))) o.value (o.marks x d) (o.contents x d)))
      (rw (rank_of, update_same c.task i t') h)

  -- Task i comes nearer to p by a.
  pub dists_fall : (p a : ℕ) → dist n p t'.priority (row t'.phase).work + a ≤ dist_of n p c i → dists n p (with i c m' t') + a ≤ dists n p c
  dists_fall p a h =
      omega (
        arith,
        sum_change n (dist_of n p c) (dist_of n p (with i c m' t')) i a 0 lt
            (λ x d. rw (update_other c.task i t' x (λ z. d (sym z))) (omega arith))
            (rw (update_same c.task i t') (omega arith)),
      )

-- ---- The weights of the stage changes

-- They go by the value of the head and by the content of its holder's announcement.
pub stages_stay : (n p d d' : ℕ) (m m' : Memory) (h : HeadValue) {h' : HeadValue} → h' ≡ h → d' ≤ d → ((q j : ℕ) (r : Outcome) → h ≡ Held q j r → content m' j ≡ content m j) → stage_weights n p d' m' h' ≤ stage_weights n p d m h
stages_stay n p d d' m m' (Free q) e l f = rw e (omega (arith, mul-le-mul_right (cycle_weight n) l))
stages_stay n p d d' m m' (Held q j r) e l f = rw (e, f q j r refl) (go (ℕ_discrete j p) (cond (waiting (content m j)) hand_over_weight 0))
  where
    go : (k : Dec (j ≡ p)) (w : ℕ) → ite k 0 (d' * cycle_weight n + apply_weight n + clear_weight n + w) ≤ ite k 0 (d * cycle_weight n + apply_weight n + clear_weight n + w)
    go (yes e) w = omega arith
    go (no _) w = omega (arith, mul-le-mul_right (cycle_weight n) l)

pub stages_most : (n p d : ℕ) (m : Memory) (h : HeadValue) → stage_weights n p d m h ≤ (d + 1) * cycle_weight n
stages_most n p d m (Free q) = omega arith
stages_most n p d m (Held q j r) = go (ℕ_discrete j p) (waiting (content m j))
  where
    go : (k : Dec (j ≡ p)) (w : Bool) → ite k 0 (d * cycle_weight n + apply_weight n + clear_weight n + cond w hand_over_weight 0) ≤ (d + 1) * cycle_weight n
    go (yes e) w = omega arith
    go (no _) w = omega (arith, pick_le w hand_over_weight)

-- A stage change, while p waits with o.
module _ (b : Object) (n : ℕ) (m : Memory) (i p o d d' : ℕ) (f : content m p ≡ Op o) where
  held_by : (m : Memory) (d q j : ℕ) (r : Outcome) → j ≢ p → stage_weights n p d m (Held q j r) ≡ d * cycle_weight n + apply_weight n + clear_weight n + cond (waiting (content m j)) hand_over_weight 0
  held_by m d q j r z = if_neg (ℕ_discrete j p) z 0 _

  pub stages_clear : Allowed b m i Cleared → d' ≤ d → stage_weights n p d' (effect i Cleared m) (head_value (effect i Cleared m)) + clear_weight n ≤ stage_weights n p d m (head_value m)
  stages_clear (q, j, r, h, y) l =
      rw (h, held_by m d q j r (λ z. resp_not_op (content m p) (rw z at y) (rw f tt))) (omega (arith, mul-le-mul_right (cycle_weight n) l))

  pub stages_apply : (q j : ℕ) (r : Outcome) → Allowed b m i (Applied q j r) → (j ≢ p → d' + 1 ≤ d)
      → stage_weights n p d' (effect i (Applied q j r) m) (head_value (effect i (Applied q j r) m)) + apply_weight n ≤ stage_weights n p d m (head_value m)
  stages_apply q j r (c, x, h, y, _, _) l = rw h (go (ℕ_discrete j p))
    where
      go : (k : Dec (j ≡ p)) → ite k 0 (d' * cycle_weight n + apply_weight n + clear_weight n + cond (waiting (content m j)) hand_over_weight 0) + apply_weight n ≤ d * cycle_weight n + apply_weight n
      go (yes e) = omega arith
      go (no z) = omega (arith, pick_le (waiting (content m j)) hand_over_weight, mul-le-mul_right (cycle_weight n) (l z))

  pub stages_hand_over : (j : ℕ) (r : Outcome) → Allowed b m i (HandedOver j r) → j ≢ p → d' ≤ d → stage_weights n p d' (effect i (HandedOver j r) m) (head_value m) + hand_over_weight ≤ stage_weights n p d m (head_value m)
  stages_hand_over j r (q, x, h, y) z l =
      let a : content (effect i (HandedOver j r) m) j ≡ Resp r = value_found (update_same m.announcement j _) in
      rw (h, held_by m d q j r z, held_by (effect i (HandedOver j r) m) d' q j r z, y, a) (omega (arith, mul-le-mul_right (cycle_weight n) l))

-- ---- The sum of all

module _ (n i : ℕ) (lt : i < n) (c : Config) (m' : Memory) (t' : Task) (p : ℕ) where
  -- An ordinary change, whoever p is; k is what its place gains.
  pub waiting_stays : {s : EffectRow} (k : ℕ) → Ordinary c.memory m' i s → Pays i c m' t' s → dists n p (with i c m' t') ≤ dists n p c
      → place_of m' p (row ((with i c m' t').task p).phase) + k ≤ place_of c.memory p (row (c.task p).phase) + share i c s p
      → waiting_potential n (with i c m' t') p + k ≤ waiting_potential n c p
  waiting_stays {s} k o r d l =
      omega (arith, stages_stay n p _ _ c.memory m' (head_value c.memory) o.value d o.holder, ranks_fall n i lt c m' t' o r p)

-- The place of another task p: an ordinary change makes at most its compared word stale, and a stage change has its cost.
pub place_other : {b : Object} (i : ℕ) (c : Config) (t' : Task) (p : ℕ) {e : Effect} → OrdinaryOrStage b c.memory i e → i ≢ p
    → place_of (effect i e c.memory) p (row (update c.task i t' p).phase) + 0 ≤ place_of c.memory p (row (c.task p).phase) + share i c (effect_row e) p + (effect_row e).stage
place_other {b} i c t' p s d = rw (update_other c.task i t' p d) (go s)
  where
    r : Row
    r = row (c.task p).phase

    renewed : (x : Cell HeadValue) → place_of (with_head c.memory x) p r ≤ place_of c.memory p r + 16
    renewed x = omega (arith, head_words c.memory x r.compared, pick_le (r.linked && not (has p x.marks)) 1)

    go : {e : Effect} → OrdinaryOrStage b c.memory i e → place_of (effect i e c.memory) p r + 0 ≤ place_of c.memory p r + share i c (effect_row e) p + (effect_row e).stage
    go {e} (ordinary o) =
        rw (o.marks p (λ z. d (sym z)), if_neg (ℕ_discrete i p) d 0 ((effect_row e).cost (is_in_head c.memory i))) (omega (arith, o.words r.compared))
    go (clears _) = omega (arith, renewed (cleared c.memory.head))
    go (applies {q = q} {j = j} {r = v} _) = omega (arith, renewed (unmarked (Held q j v)))
    go {e} (hands_over _) = omega (arith, stale_most (effect i e c.memory) r.compared)

-- The most that it may be, when the operation has been announced.
pub waiting_most : (n : ℕ) (c : Config) (p : ℕ) → p < n → (c.task p).phase ≡ Poll → waiting_potential n c p + 1 ≤ bound n
waiting_most n c p h e =
    let near : dists n p c + 1 ≤ n * n = omega (
      arith,
      sum_change n (λ _. n) (dist_of n p c) p 1 0 h (λ x _. dist_most n p (c.task x).priority (row (c.task x).phase).work h) (rw e (omega (arith, dist_below n p (c.task p).priority h))),
      sum_most n n (λ _. n) (λ _. omega arith),
    ) in
    rw e (omega (arith, stages_most n p (dists n p c) c.memory (head_value c.memory), mul-le-mul_right (cycle_weight n) near, ranks_most n c p h))
