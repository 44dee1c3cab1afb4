-- A step lowers the potential of its own operation, and raises that of no other.
use mathlib.Core.Path.{◌≡◌, refl, sym, ◌∙◌, ap}
use mathlib.Core.Bool.{Bool, true, false, ◌&&◌, ◌||◌, not, cond}
use mathlib.Core.Logic.{◌≢◌, if_pos}
use Prim.Native.Nat.{ℕ, ◌+◌, ◌*◌, ◌≤◌, ◌<◌}
use native.Mathlib.Decide.{ℕ_discrete}
use native.Mathlib.Omega.{arith}
use Rattle.laws.specs.Bit.{bit}
use Rattle.laws.proofs.Clash.{clash, never}
use Rattle.laws.proofs.Update.{update_same, update_other}
use Rattle.laws.proofs.Sums.{but_at_most}
use Rattle.laws.proofs.Choice.{pick_le}
use Rattle.machine.specs.Outcome.{Outcome}
use Rattle.machine.specs.Object.{Object}
use Rattle.machine.specs.Memory.{Free, Held, Content, Empty, Op, Resp, Memory, state_of}
use Rattle.machine.specs.Machine.{Task, Next, phase_of, turns, advance}
use Rattle.machine.specs.Kind.{Kind, Off, Reading, Opening, Looping, Exiting, Retracting, kind}
use Rattle.machine.specs.Run.{Config}
use Rattle.machine.specs.Invariant.{is_in_head, head_value, content, IsResp, OwnContent, Safe}
use Rattle.machine.specs.Potential.{row, answered, held, holds, dists, place_of, waiting_potential, at_head, head_load, head_part, mark_part, lasts, answered_potential, announced_potential, potential_by, potential}
use Rattle.machine.proofs.Steps.Effect.{Effect, Applied, HandedOver, Announced, effect, Allowed}
use Rattle.machine.proofs.Steps.Successor.{moved, Steps}
use Rattle.machine.proofs.Invariant.Rely.{relies}
use Rattle.machine.proofs.Invariant.Guarantee.{allowed, value_found, is_response, not_empty}
use Rattle.machine.proofs.Potential.EffectTable.{effect_row}
use Rattle.machine.proofs.Potential.EffectOnOthers.{Ordinary, OrdinaryOrStage, ordinary, clears, applies, hands_over, ordinary_or_stage, elsewhere, AnnouncementChange, rewritten, kept, announcement_change}
use Rattle.machine.proofs.Potential.RowBounds.{extras}
use Rattle.machine.proofs.Potential.ChangesLeft.{other_changes}
use Rattle.machine.proofs.Potential.SeenByOthers.{Seen, seen}
use Rattle.machine.proofs.Potential.SeenByItself.{Busy, Falls, OwnSeen, rests, reads, opens, works, ends, own_seen}
use Rattle.machine.proofs.Potential.Waiting.{Pays, share, dists_fall, stages_clear, stages_apply, stages_hand_over, waiting_stays, place_other, waiting_most}
use Rattle.machine.proofs.Potential.Answered.{due_part, HeadDue, NeitherRises, lasts_no_longer, head_most, mark_most, answered_most, load_stays, head_stays, marks_stay, mark_same}
use Rattle.machine.proofs.Potential.StageChanges.{clear_keeps_turn, hand_over_keeps_turn, apply_rank, clear_rank, announces_polls, apply_turns, ranks_unmarked, clear_head, apply_head, rank_rises, hand_over_load, hand_over_head}

false_of : (x : Bool) → bit x ≤ 0 → x ≡ false
false_of true h = absurd (omega arith)
false_of false h = refl

or_bit : (x x' y : Bool) (k : ℕ) → bit x' ≤ bit x + k → bit (x' || y) ≤ bit (x || y) + k
or_bit true true y k h = omega arith
or_bit true false y k h = omega (arith, pick_le y 1)
or_bit false true y k h = omega arith
or_bit false false y k h = omega arith

-- The part of the head that is due to the task that steps: only a link makes it due.
own_due : (a a' links : Bool) (s s' most : ℕ) → s' ≤ s → s' ≤ most → bit a' ≤ bit a + bit links → cond a' s' 0 ≤ cond a s 0 + cond (links && not a) most 0
own_due true true l s s' most x y z = omega arith
own_due false true true s s' most x y z = omega arith
own_due false true false s s' most x y z = omega arith
own_due a false l s s' most x y z = omega arith

-- ---- By the kind of the phase

-- A busy task has announced.
busy_announced : (k : Kind) {a : Content} (o : ℕ) → Busy k → OwnContent a o k → a ≡ Empty → ⊥
busy_announced Off o u y e = u
busy_announced Reading o u y e = u
busy_announced Opening o u y e = u
busy_announced Looping o u y e = not_empty o y e
busy_announced (Exiting v) o u y e = never cc
busy_announced (Retracting v) o u y e = never cc

busy_potential : (n : ℕ) (c : Config) (p : ℕ) (a : Content) (k : Kind) → Busy k → potential_by n c p k a ≡ announced_potential n c p a
busy_potential n c p a Off u = absurd u
busy_potential n c p a Reading u = absurd u
busy_potential n c p a Opening u = absurd u
busy_potential n c p a Looping u = refl
busy_potential n c p a (Exiting v) u = refl
busy_potential n c p a (Retracting v) u = refl

-- Of a task that keeps its record.
pub kind_stays : (n : ℕ) (c c' : Config) (p : ℕ) (a a' : Content) (k : Kind) → (Busy k → announced_potential n c' p a' ≤ announced_potential n c p a) → potential_by n c' p k a' ≤ potential_by n c p k a
kind_stays n c c' p a a' Off f = omega arith
kind_stays n c c' p a a' Reading f = omega arith
kind_stays n c c' p a a' Opening f = omega arith
kind_stays n c c' p a a' Looping f = f tt
kind_stays n c c' p a a' (Exiting v) f = f tt
kind_stays n c c' p a a' (Retracting v) f = f tt

module _ (b : Object) (n i : ℕ) (lt : i < n) (c : Config) (safe : Safe c) (below : (c.task i).priority < n) where
  abbrev m : Memory
  m = c.memory

  abbrev after : Effect → Next → Config
  after e y = moved n i c e y

  may : {e : Effect} {y : Next} → Steps b i c e y → Allowed b m i e
  may v = allowed b m i (c.task i).priority (c.task i).operation safe.holder v (safe.each i)

  sees : {e : Effect} {y : Next} → Steps b i c e y → (p t : ℕ) → Seen m (effect i e m) i (c.task i).priority n p t (row (c.task i).phase) (row (phase_of y)) e y
  sees v p t = seen b m i (c.task i).priority (c.task i).operation n p t (extras (held (head_value m)) (is_in_head m i) (answered (content m i))) v (safe.each i) (may v)

  -- The rank pays for an ordinary effect.
  paid : {e : Effect} {y : Next} → Steps b i c e y → Ordinary m (effect i e m) i (effect_row e)
      → Pays i c (effect i e m) (advance n (c.task i) y) (effect_row e)
  paid v o = omega (arith, (sees v 0 0).rank, o.stage)

  -- Unless the priority moves on, nobody comes further away from a waiting task.
  nearer : {e : Effect} {y : Next} → Steps b i c e y → (p : ℕ) {x : ℕ} → content m p ≡ Op x → turns y ≡ false → dists n p (after e y) ≤ dists n p c
  nearer {e} {y} v p f z = omega (arith, dists_fall n i lt c (effect i e m) (advance n (c.task i) y) p 0 (rw z (omega (arith, rw f at (sees v p 0).distance))))

  -- ---- A waiting task p, whoever steps

  module _ (p : ℕ) (below_p : p < n) {x : ℕ} (f : content m p ≡ Op x) (k : ℕ) (one_step : k ≤ 1) where
    -- It goes on waiting, with k more of its place behind it, or the stage changes, or it has its response.
    waits : {e : Effect} {y : Next} → Steps b i c e y → OrdinaryOrStage b m i e
        → (Ordinary m (effect i e m) i (effect_row e) → content (effect i e m) p ≡ content m p)
        → place_of (effect i e m) p (row ((after e y).task p).phase) + k ≤ place_of m p (row (c.task p).phase) + share i c (effect_row e) p + (effect_row e).stage
        → announced_potential n (after e y) p (content (effect i e m) p) + k ≤ waiting_potential n c p
    waits {e} {y} v (ordinary o) g l =
        rw (g o ∙ f) (waiting_stays n i lt c (effect i e m) (advance n (c.task i) y) p k o (paid v o) (nearer v p f (false_of (turns y) (omega (arith, (sees v 0 0).turn, o.stage)))) (omega (arith, l, o.stage)))
    waits {y = y} v (clears a) g l =
        rw f (omega (
          arith,
          l,
          but_at_most p i 0,
          ranks_unmarked n i c p (Free (state_of (head_value m))) (advance n (c.task i) y) true below_p (ap held a.3) refl (clear_rank v (safe.each i).own),
          stages_clear b n m i p x _ _ f a (nearer v p f (clear_keeps_turn v)),
        ))
    waits {y = y} v (applies {q = q} {j = j} {r = r} a) g l =
        rw f (omega (
          arith,
          l,
          but_at_most p i 0,
          ranks_unmarked n i c p (Held q j r) (advance n (c.task i) y) false below_p (ap held a.2) refl (apply_rank v),
          stages_apply b n m i p x _ _ f q j r a (λ d. dists_fall n i lt c (effect i (Applied q j r) m) (advance n (c.task i) y) p 1 (apply_turns n p (c.task i) v below_p below d)),
        ))
    waits {y = y} v (hands_over {j = j} {r = r} a) g l = go (ℕ_discrete j p)
      where
        go : Dec (j ≡ p) → announced_potential n (after (HandedOver j r) y) p (content (effect i (HandedOver j r) m) p) + k ≤ waiting_potential n c p
        go (yes z) =
            let u : content (effect i (HandedOver j r) m) p ≡ Resp r = rw (← z) (value_found (update_same m.announcement j _)) in
            rw u (omega (arith, answered_most n (after (HandedOver j r) y) p below_p, hand_over_load b n i c p v a, if_pos {C = ℕ} (ℕ_discrete j p) z 0 26))
        go (no d) =
            rw (elsewhere m i j p _ d, f) (omega (
              arith,
              l,
              but_at_most p i 0,
              rank_rises b n i c p v a,
              but_at_most p j 26,
              stages_hand_over b n m i p x _ _ f j r a d (nearer v p f (hand_over_keeps_turn v)),
            ))

  -- ---- Another task p with its response

  module _ (p : ℕ) (d : i ≢ p) (r : IsResp (content m p)) where
    head_no_rise : {e : Effect} {y : Next} → Steps b i c e y → OrdinaryOrStage b m i e → HeadDue n c (after e y) p
    head_no_rise {e} {y} v (ordinary o) = head_stays n i lt c (effect i e m) (advance n (c.task i) y) p d o (paid v o)
    head_no_rise {y = y} v (clears a) = clear_head b n i c p y
    head_no_rise {y = y} v (applies a) = apply_head b n i c p y r a
    head_no_rise v (hands_over a) = hand_over_head b n i c p v a

    neither_rises : {e : Effect} {y : Next} → Steps b i c e y → NeitherRises n c (after e y) p
    neither_rises {e} {y} v = record {
      head = head_no_rise v (ordinary_or_stage b m i e (may v));
      marks = λ t. marks_stay n i lt c (effect i e m) (advance n (c.task i) y) p t d (announcement_change m i t e) (λ x k w. other_changes b m i x t w (ordinary_or_stage b m i e (may v)) k) (sees v 0 t).changes;
    }

    answers : {e : Effect} {y : Next} → Steps b i c e y → answered_potential n (after e y) p ≤ answered_potential n c p
    answers {y = y} v = rw (update_other c.task i (advance n (c.task i) y) p d) (lasts_no_longer n c _ p (neither_rises v) (c.task p).phase (safe.each p).saved)

  -- ---- Another task p

  other_announced : {e : Effect} {y : Next} → Steps b i c e y → (p : ℕ) → i ≢ p → p < n → (a : Content) → content m p ≡ a → (a ≡ Empty → ⊥)
      → announced_potential n (after e y) p (content (effect i e m) p) ≤ announced_potential n c p a
  other_announced v p d h Empty f z = absurd (z refl)
  other_announced {e} {y} v p d h (Op x) f z =
      omega (arith, waits p h f 0 (omega arith) v (ordinary_or_stage b m i e (may v)) (λ o. o.contents p (λ z. d (sym z))) (place_other i c (advance n (c.task i) y) p (ordinary_or_stage b m i e (may v)) d))
  other_announced {e} v p d h (Resp r) f z =
      let u : content (effect i e m) p ≡ Resp r = rw f at (relies b m (λ z. d (sym z)) e (may v)).own in
      rw u (answers p d (is_response f) v)

  pub potential_other : {e : Effect} {y : Next} → Steps b i c e y → (p : ℕ) → i ≢ p → p < n → potential n (after e y) p ≤ potential n c p
  potential_other {e} {y} v p d h =
      rw (update_other c.task i (advance n (c.task i) y) p d)
      (kind_stays n c (after e y) p (content m p) (content (effect i e m) p) (kind (c.task p).phase)
      (λ u. other_announced v p d h (content m p) refl (busy_announced (kind (c.task p).phase) (c.task p).operation u (safe.each p).own)))

  -- ---- The task that steps

  -- Its announcement keeps its content in an ordinary step, and its response in any.
  own_stays : (e : Effect) → Ordinary m (effect i e m) i (effect_row e) → bit ((effect_row e).writes i i) ≤ (effect_row e).stage → content (effect i e m) i ≡ content m i
  own_stays e o h = go (announcement_change m i i e)
    where
      go : AnnouncementChange m (effect i e m) i i (effect_row e) → content (effect i e m) i ≡ content m i
      go (rewritten w f) = clash w (false_of ((effect_row e).writes i i) (omega (arith, o.stage)))
      go (kept w v a f) = v

  own_answered : {e : Effect} {r : Outcome} → OrdinaryOrStage b m i e → bit ((effect_row e).writes i i) ≤ (effect_row e).stage → content m i ≡ Resp r → content (effect i e m) i ≡ Resp r
  own_answered {e} (ordinary o) h f = own_stays e o h ∙ f
  own_answered (clears a) h f = f
  own_answered (applies a) h f = f
  own_answered {r = r} (hands_over {j = j} a) h f = elsewhere m i j i _ (λ z. (let u : content m i ≡ Op a.1 = rw (← z) a.3 in never cc)) ∙ f

  -- Its part of the head becomes due by a link alone.
  own_head : {e : Effect} {y : Next} → Steps b i c e y → OrdinaryOrStage b m i e → IsResp (content m i) → head_part n (after e y) i ≤ head_part n c i + cond ((effect_row e).links && not (at_head m i)) (39 * n) 0
  own_head {e} {y} v (ordinary o) r =
      own_due (at_head m i) (at_head (effect i e m) i) (effect_row e).links _ _ (39 * n)
      (omega (arith, load_stays n i lt c (effect i e m) (advance n (c.task i) y) i o (paid v o))) (head_most n (after e y) i lt)
      (rw o.value (or_bit (is_in_head m i) (is_in_head (effect i e m) i) (holds i (head_value m)) (bit (effect_row e).links) o.own))
  own_head {y = y} v (clears a) r = omega (arith, due_part (clear_head b n i c i y))
  own_head {y = y} v (applies a) r = omega (arith, due_part (apply_head b n i c i y r a))
  own_head v (hands_over a) r = omega (arith, due_part (hand_over_head b n i c i v a))

  own_sees : {e : Effect} {y : Next} (v : Steps b i c e y) (h h' : ℕ) → h' ≤ 39 * n → h' ≤ h + cond ((effect_row e).links && not (at_head m i)) (39 * n) 0
      → OwnSeen (row (c.task i).phase) (Falls n i m (effect i e m) h h' (mark_part n c i) (mark_part n (after e y) i) (c.task i).phase (phase_of y) e) (kind (c.task i).phase) e (kind (phase_of y))
  own_sees {e} {y} v h h' most l =
      own_seen b m i (c.task i).priority (c.task i).operation n h h' (mark_part n c i) (mark_part n (after e y) i) most (mark_most n (after e y) i lt) v (safe.each i) l
      (λ z. mark_same n i lt c (effect i e m) (advance n (c.task i) y) i (ap (λ (e : Effect). effect i e m) z))

  -- By where the step stands in the operation.
  own_by : {k k' : Kind} {e : Effect} {y : Next} {F : Type 0} → Steps b i c e y → OwnSeen (row (c.task i).phase) F k e k' → (k ≡ Off → ⊥)
      → (F → Busy k × Busy k' × (announced_potential n (after e y) i (content (effect i e m) i) + 1 ≤ announced_potential n c i (content m i)))
      → potential_by n (after e y) i k' (content (effect i e m) i) + 1 ≤ potential_by n c i k (content m i)
  own_by v rests z g = absurd (z refl)
  own_by v reads z g = omega arith
  own_by {y = y} v (opens {o = o}) z g =
      let u : content (effect i (Announced o) m) i ≡ Op o = value_found (update_same m.announcement i _) in
      rw u (waiting_most n (after (Announced o) y) i lt (ap (λ (t : Task). t.phase) (update_same c.task i (advance n (c.task i) y)) ∙ announces_polls v))
  own_by {k} {k'} {e} {y} v (works F) z g =
      omega (arith, busy_potential n (after e y) i (content (effect i e m) i) k' (g F).1, busy_potential n c i (content m i) k (g F).0, (g F).2)
  own_by v (ends h) z g = let u : content m i ≡ Resp (may v).0 = (may v).1 in rw u (omega arith)

  pub potential_own : {e : Effect} {y : Next} → Steps b i c e y → (kind (c.task i).phase ≡ Off → ⊥) → potential n (after e y) i + 1 ≤ potential n c i
  potential_own {e} {y} v z = rw mine (go (content m i) refl)
    where
      mine : (after e y).task i ≡ advance n (c.task i) y
      mine = update_same c.task i (advance n (c.task i) y)

      go : (a : Content) → content m i ≡ a → potential_by n (after e y) i (kind (phase_of y)) (content (effect i e m) i) + 1 ≤ potential_by n c i (kind (c.task i).phase) (content m i)
      go Empty f =
          own_by v (own_sees v 0 0 (omega arith) (omega arith)) z
          (λ F. absurd (busy_announced (kind (c.task i).phase) (c.task i).operation F.before (safe.each i).own f))
      go (Op x) f =
          own_by v (own_sees v 0 0 (omega arith) (omega arith)) z
          (λ F. (
            F.before,
            F.after,
            omega (arith, ap (announced_potential n c i) f, waits i lt f 1 (omega arith) v (ordinary_or_stage b m i e (may v)) (λ o. own_stays e o F.writes) (rw mine (omega (arith, F.place)))),
          ))
      go (Resp r) f =
          own_by v (own_sees v (head_part n c i) (head_part n (after e y) i)
          (omega (arith, pick_le (at_head (effect i e m) i) (head_load n (after e y) i), head_most n (after e y) i lt)) (own_head v (ordinary_or_stage b m i e (may v)) (is_response f))) z
          (λ F. (
            F.before,
            F.after,
            omega (
              arith,
              ap (announced_potential n c i) f,
              ap (announced_potential n (after e y) i) (own_answered (ordinary_or_stage b m i e (may v)) F.writes f),
              ap (λ (t : Task). lasts n (head_part n (after e y) i) (mark_part n (after e y) i) (effect i e m) (row t.phase)) mine,
              F.last (is_response f),
            ),
          ))
