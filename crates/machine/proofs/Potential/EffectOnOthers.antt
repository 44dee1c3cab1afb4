-- What a step leaves to everybody else: an ordinary effect, the three stage changes, and what becomes of an announcement.
use mathlib.Core.Path.{◌≡◌, refl, sym, ◌∙◌, ap}
use mathlib.Core.Bool.{Bool, true, false, not, cond}
use mathlib.Core.Logic.{◌≢◌}
use Prim.Native.Nat.{ℕ, ◌+◌, ◌*◌, ◌≤◌}
use native.Mathlib.Decide.{ℕ_discrete}
use native.Mathlib.Omega.{arith}
use Rattle.laws.specs.Bit.{bit}
use Rattle.laws.specs.Decision.{decided}
use Rattle.laws.proofs.Update.{update_all, update_same, update_other}
use Rattle.laws.proofs.Choice.{pick_le}
use Rattle.cells.specs.Marks.{has, add}
use Rattle.cells.proofs.MarkLaws.{has_none, has_add_other, has_remove, has_remove_other, add_has}
use Rattle.machine.specs.Outcome.{Outcome}
use Rattle.machine.specs.Object.{Object}
use Rattle.machine.specs.Memory.{HeadValue, Held, Content, Empty, Op, Resp, Cell, Memory, unmarked, head_dec, announcement_dec}
use Rattle.machine.specs.Machine.{linked, released}
use Rattle.machine.specs.Invariant.{is_in_head, is_in_announcement, head_value, content, NotHolder}
use Rattle.machine.specs.Potential.{Compared, NoWord, HeadWord, AnnouncementWord, stale}
use Rattle.machine.proofs.Steps.Effect.{Effect, Unchanged, Linked, Released, Cleared, Retracted, Applied, LinkedAt, ReleasedAt, HandedOver, Announced, effect, with_head, with_announcement, Allowed}
use Rattle.machine.proofs.Invariant.Guarantee.{value_found}
use Rattle.machine.proofs.Potential.EffectTable.{EffectRow, effect_row}

-- ---- Stale words

pub stale_most : (m : Memory) (w : Compared) → stale m w ≤ 5
stale_most m NoWord = omega arith
stale_most m (HeadWord h) = omega (arith, pick_le (not (decided (head_dec m.head h))) 1)
stale_most m (AnnouncementWord j a) = omega (arith, pick_le (not (decided (announcement_dec (m.announcement j) a))) 1)

-- Another head.
pub head_words : (m : Memory) (x : Cell HeadValue) (w : Compared) → stale (with_head m x) w ≤ stale m w + 3
head_words m x NoWord = omega arith
head_words m x (HeadWord h) = omega (arith, pick_le (not (decided (head_dec x h))) 1)
head_words m x (AnnouncementWord j a) = omega arith

-- ---- Ordinary effects

-- A change of the cells from m to m' by task i that keeps the head's value and the stage.
pub record Ordinary (m m' : Memory) (i : ℕ) (k : EffectRow) : Type 0 where
  -- No stage changes, and no other task's mark in the head.
  pub stage : k.stage ≡ 0
  pub value : head_value m' ≡ head_value m
  pub marks : (x : ℕ) → x ≢ i → is_in_head m' x ≡ is_in_head m x
  -- The own mark comes into the head by a link alone.
  pub own : bit (is_in_head m' i) ≤ bit (is_in_head m i) + bit k.links
  -- The announcements of the other tasks, and of the holder, keep their contents.
  pub contents : (x : ℕ) → x ≢ i → content m' x ≡ content m x
  pub holder : (q j : ℕ) (r : Outcome) → head_value m ≡ Held q j r → content m' j ≡ content m j
  -- A compared word goes stale at a cost alone.
  pub words : (w : Compared) → stale m' w ≤ stale m w + k.cost (is_in_head m i)

module _ (m : Memory) (i : ℕ) where
  -- Other marks in the head.
  head_ordinary : (v : ℕ) (k : EffectRow) → k.stage ≡ 0 → ((x : ℕ) → x ≢ i → has x v ≡ is_in_head m x) → bit (has i v) ≤ bit (is_in_head m i) + bit k.links
      → ((w : Compared) → stale (with_head m (record { value = head_value m; marks = v })) w ≤ stale m w + k.cost (is_in_head m i))
      → Ordinary m (with_head m (record { value = head_value m; marks = v })) i k
  head_ordinary v k s f o w = record {
    stage = s;
    value = refl;
    marks = f;
    own = o;
    contents = λ _ _. refl;
    holder = λ _ _ _ _. refl;
    words = w;
  }

  pub unchanged : Ordinary m m i (effect_row Unchanged)
  unchanged = head_ordinary m.head.marks (effect_row Unchanged) refl (λ _ _. refl) (omega arith) (λ _. omega arith)

  -- A mark that stands already changes nothing.
  link_words : (w : Compared) (c : Bool) → is_in_head m i ≡ c → stale (effect i Linked m) w ≤ stale m w + cond c 0 3
  link_words w true e =
      let z : effect i Linked m ≡ m = (λ t. record { head = record { value = head_value m; marks = add_has i m.head.marks e t }; announcement = m.announcement }) in
      rw z (omega arith)
  link_words w false e = head_words m _ w

  -- An announcement that keeps its content, or the own one of a task that doesn't hold the head.
  announcement_ordinary : (j : ℕ) (a : Cell Content) (k : EffectRow) → k.stage ≡ 0 → k.cost (is_in_head m i) ≡ 5
      → ((x : ℕ) → x ≢ i → content (with_announcement m j a) x ≡ content m x)
      → ((q t : ℕ) (r : Outcome) → head_value m ≡ Held q t r → content (with_announcement m j a) t ≡ content m t)
      → Ordinary m (with_announcement m j a) i k
  announcement_ordinary j a k s e f g = record {
    stage = s;
    value = refl;
    marks = λ _ _. refl;
    own = omega arith;
    contents = f;
    holder = g;
    words = λ w. omega (arith, stale_most (with_announcement m j a) w);
  }

  pub remarked : (j v x : ℕ) → content (with_announcement m j (record { value = content m j; marks = v })) x ≡ content m x
  remarked j v x = update_all m.announcement j _ (λ t (a : Cell Content). a.value ≡ content m t) refl (λ t _. refl) x

  remarked_ordinary : (j v : ℕ) (k : EffectRow) → k.stage ≡ 0 → k.cost (is_in_head m i) ≡ 5 → Ordinary m (with_announcement m j (record { value = content m j; marks = v })) i k
  remarked_ordinary j v k s e = announcement_ordinary j _ k s e (λ x _. remarked j v x) (λ _ t _ _. remarked j v t)

  pub elsewhere : (j x : ℕ) (a : Cell Content) → j ≢ x → content (with_announcement m j a) x ≡ content m x
  elsewhere j x a d = value_found (update_other m.announcement j a x d)

  own_ordinary : (a : Content) (k : EffectRow) → k.stage ≡ 0 → k.cost (is_in_head m i) ≡ 5 → NotHolder (head_value m) i → Ordinary m (with_announcement m i (unmarked a)) i k
  own_ordinary a k s e h = announcement_ordinary i _ k s e (λ x d. elsewhere i x _ (λ z. d (sym z))) (λ q t r z. elsewhere i t _ (λ y. h q r (rw y z)))

-- Every effect is ordinary or a stage change.
pub data OrdinaryOrStage (b : Object) (m : Memory) (i : ℕ) : Effect → Type 0 where
  ordinary : {e : Effect} → Ordinary m (effect i e m) i (effect_row e) → OrdinaryOrStage b m i e
  clears : Allowed b m i Cleared → OrdinaryOrStage b m i Cleared
  applies : {q j : ℕ} {r : Outcome} → Allowed b m i (Applied q j r) → OrdinaryOrStage b m i (Applied q j r)
  hands_over : {j : ℕ} {r : Outcome} → Allowed b m i (HandedOver j r) → OrdinaryOrStage b m i (HandedOver j r)

pub ordinary_or_stage : (b : Object) (m : Memory) (i : ℕ) (e : Effect) → Allowed b m i e → OrdinaryOrStage b m i e
ordinary_or_stage b m i Unchanged a = ordinary (unchanged m i)
ordinary_or_stage b m i Linked a = ordinary (head_ordinary m i _ (effect_row Linked) refl (λ x d. has_add_other x i _ d) (omega (arith, pick_le (has i (add i m.head.marks)) 1)) (λ w. link_words m i w (is_in_head m i) refl))
ordinary_or_stage b m i Released a = ordinary (head_ordinary m i _ (effect_row Released) refl (λ x d. has_remove_other x i _ d) (rw (has_remove i m.head.marks) (omega arith)) (head_words m _))
ordinary_or_stage b m i Cleared a = clears a
ordinary_or_stage b m i Retracted a = ordinary (own_ordinary m i Empty (effect_row Retracted) refl refl a.2)
ordinary_or_stage b m i (Applied q j r) a = applies a
ordinary_or_stage b m i (LinkedAt j) a = ordinary (remarked_ordinary m i j _ (effect_row (LinkedAt j)) refl refl)
ordinary_or_stage b m i (ReleasedAt j) a = ordinary (remarked_ordinary m i j _ (effect_row (ReleasedAt j)) refl refl)
ordinary_or_stage b m i (HandedOver j r) a = hands_over a
ordinary_or_stage b m i (Announced o) a = ordinary (own_ordinary m i (Op o) (effect_row (Announced o)) refl refl a.1)

-- ---- What becomes of the announcement of task t

-- Rewritten, it has no mark; otherwise it keeps its content and the marks of the other tasks, and goes stale only if it
-- is marked or unmarked.
pub data AnnouncementChange (m m' : Memory) (i t : ℕ) (k : EffectRow) : Type 0 where
  rewritten : k.writes i t ≡ true → ((x : ℕ) → is_in_announcement m' x t ≡ false) → AnnouncementChange m m' i t k
  kept : k.writes i t ≡ false → content m' t ≡ content m t → ((x : ℕ) → x ≢ i → is_in_announcement m' x t ≡ is_in_announcement m x t)
      → ((a : Cell Content) → stale m' (AnnouncementWord t a) ≤ stale m (AnnouncementWord t a) + 5 * bit (k.marks i t))
      → AnnouncementChange m m' i t k

module _ (m : Memory) (i t : ℕ) where
  pub untouched : (h : Cell HeadValue) (k : EffectRow) → k.writes i t ≡ false → AnnouncementChange m (with_head m h) i t k
  untouched h k w = kept w refl (λ _ _. refl) (λ _. omega arith)

  module _ (j : ℕ) (k : EffectRow) where
    marked_change : (v : ℕ) → ((x : ℕ) → x ≢ i → has x v ≡ is_in_announcement m x j) → k.writes i t ≡ false → k.marks i t ≡ decided (ℕ_discrete j t)
        → AnnouncementChange m (with_announcement m j (record { value = content m j; marks = v })) i t k
    marked_change v f w e = kept w (remarked m i j v t) (λ x d. update_all m.announcement j _ (λ t (a : Cell Content). has x a.marks ≡ is_in_announcement m x t) (f x d) (λ _ _. refl) t) (λ a. rw e (words a (ℕ_discrete j t)))
      where
        words : (a : Cell Content) (d : Dec (j ≡ t)) → stale (with_announcement m j (record { value = content m j; marks = v })) (AnnouncementWord t a) ≤ stale m (AnnouncementWord t a) + 5 * bit (decided d)
        words a (yes e) = omega (arith, stale_most (with_announcement m j (record { value = content m j; marks = v })) (AnnouncementWord t a))
        words a (no d) = rw (update_other m.announcement j (record { value = content m j; marks = v }) t d) (omega arith)

    written_change : (a : Content) → k.writes i t ≡ decided (ℕ_discrete j t) → AnnouncementChange m (with_announcement m j (unmarked a)) i t k
    written_change a e = go (ℕ_discrete j t) e
      where
        go : (d : Dec (j ≡ t)) → k.writes i t ≡ decided d → AnnouncementChange m (with_announcement m j (unmarked a)) i t k
        go (yes z) w = rewritten w (λ x. rw (← z) (ap (λ (s : Cell Content). has x s.marks) (update_same m.announcement j (unmarked a)) ∙ has_none x))
        go (no d) w =
            let same : (with_announcement m j (unmarked a)).announcement t ≡ m.announcement t = update_other m.announcement j (unmarked a) t d in
            kept w (value_found same) (λ x _. ap (λ (s : Cell Content). has x s.marks) same) (λ a. rw same (omega arith))

  pub announcement_change : (e : Effect) → AnnouncementChange m (effect i e m) i t (effect_row e)
  announcement_change Unchanged = untouched m.head (effect_row Unchanged) refl
  announcement_change Linked = untouched (linked i m.head) (effect_row Linked) refl
  announcement_change Released = untouched (released i m.head) (effect_row Released) refl
  announcement_change Cleared = untouched _ (effect_row Cleared) refl
  announcement_change Retracted = written_change i (effect_row Retracted) Empty refl
  announcement_change (Applied q j r) = untouched _ (effect_row (Applied q j r)) refl
  announcement_change (LinkedAt j) = marked_change j (effect_row (LinkedAt j)) _ (λ x d. has_add_other x i _ d) refl refl
  announcement_change (ReleasedAt j) = marked_change j (effect_row (ReleasedAt j)) _ (λ x d. has_remove_other x i _ d) refl refl
  announcement_change (HandedOver j r) = written_change j (effect_row (HandedOver j r)) (Resp r) refl
  announcement_change (Announced o) = written_change i (effect_row (Announced o)) (Op o) refl
