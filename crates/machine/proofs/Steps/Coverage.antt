-- Every step takes one of the branches.
use mathlib.Core.Path.{◌≡◌, refl, ◌∙◌, ap}
use mathlib.Core.Bool.{Bool, true, false, cond}
use mathlib.Core.Logic.{◌≢◌, ite}
use Prim.Native.Nat.{ℕ}
use native.Mathlib.Decide.{ℕ_discrete}
use Rattle.laws.specs.Update.{update}
use Rattle.laws.specs.Decision.{decided}
use Rattle.laws.proofs.Clash.{never}
use Rattle.machine.specs.Outcome.{Outcome}
use Rattle.machine.specs.Object.{Object}
use Rattle.machine.specs.Memory.{HeadValue, Free, Held, Content, Empty, Op, Resp, Cell, Memory, head_dec, announcement_dec}
use Rattle.machine.specs.Machine.{Phase, Idle, ReadOnly, Announce, Poll, LoadHead, LinkHead, LoadPriority, LoadOwn, Apply, ReloadApply, LoadHelped, LinkHelped, Validate, HandOver, ReloadHandOver, Release, ReloadRelease, ClearHead, ReloadClear, LoadExit, LinkExit, ClearExit, ReleaseExit, Retract, linked, released, cleared, plan, result, perform, after, Next, after_poll, after_link, after_priority, after_own, after_link_helped, after_exit}
use Rattle.machine.specs.Invariant.{is_in_head, is_in_announcement, head_value, content, NotHolder}
use Rattle.machine.proofs.Steps.Effect.{Effect, Unchanged, Linked, Released, Cleared, Retracted, Applied, LinkedAt, ReleasedAt, HandedOver, Announced, effect, with_head, with_announcement}
use Rattle.machine.proofs.Steps.Branch.{Branch, stay_idle, read_only, announce, poll_response, poll_waits, load_head, link_free, link_held, link_fails, priority_waits, priority_rests, own_waits, own_response, own_empty, apply, apply_fails, reload_apply, reload_apply_lost, load_helped, link_helped, link_rested, link_helped_fails, validate, validate_fails, hand_over, hand_over_fails, reload_hand_over, reload_hand_over_lost, release, release_fails, reload_release, reload_release_lost, clear, clear_fails, reload_clear, reload_clear_lost, exit_clear, exit_release, exit_link, exit_retract, link_exit, link_exit_fails, clear_exit, clear_exit_fails, release_exit, release_exit_fails, retract}

pub free_not_holder : {v : HeadValue} {q i : ℕ} → v ≡ Free q → NotHolder v i
free_not_holder e q' r f = never cc

pub held_not_holder : {v : HeadValue} {q j : ℕ} {r : Outcome} {i : ℕ} → v ≡ Held q j r → j ≢ i → NotHolder v i
held_not_holder e n q' r' f = n cc

-- A step with its effect e, that leads to the cells m' and to y.
pub record Taken (b : Object) (m : Memory) (i p x : ℕ) (f : Phase) (m' : Memory) (y : Next) : Type 0 where
  pub change : Effect
  pub branch : Branch b m i p x f change y
  pub cells : m' ≡ effect i change m

module _ (b : Object) (m : Memory) (i p x : ℕ) where
  abbrev Takes : Phase → Memory → Next → Type 0
  Takes f m' y = Taken b m i p x f m' y

  -- The cells are as they were.
  same : {f : Phase} {y : Next} → Branch b m i p x f Unchanged y → Takes f m y
  same v = record { change = Unchanged; branch = v; cells = refl }

  by_mark : {f : Phase} {y z : Next} (c : Bool) → (c ≡ true → Branch b m i p x f Unchanged y) → (c ≡ false → Branch b m i p x f Unchanged z) → Takes f m (cond c y z)
  by_mark true g h = same (g refl)
  by_mark false g h = same (h refl)

  -- A swap of the head, and one of an announcement.
  swap_head_lem : {f : Phase} {h h' : Cell HeadValue} {y z : Next} (d : Dec (m.head ≡ h)) (e : Effect)
      → (m.head ≡ h → Branch b m i p x f e y) → (m.head ≡ h → with_head m h' ≡ effect i e m)
      → ((m.head ≡ h → ⊥) → Branch b m i p x f Unchanged z) → Takes f (with_head m (ite d h' m.head)) (cond (decided d) y z)
  swap_head_lem (yes q) e g k n = record { change = e; branch = g q; cells = k q }
  swap_head_lem (no q) e g k n = same (n q)

  swap_announcement_lem : {f : Phase} {j : ℕ} {a : Cell Content} {y z : Next} (d : Dec (m.announcement j ≡ a)) (a' : Cell Content) (e : Effect)
      → (m.announcement j ≡ a → Branch b m i p x f e y) → (m.announcement j ≡ a → with_announcement m j a' ≡ effect i e m)
      → ((m.announcement j ≡ a → ⊥) → Branch b m i p x f Unchanged z)
      → Takes f (record { head = m.head; announcement = ite d (update m.announcement j a') m.announcement }) (cond (decided d) y z)
  swap_announcement_lem (yes q) a' e g k n = record { change = e; branch = g q; cells = k q }
  swap_announcement_lem (no q) a' e g k n = same (n q)

  by_poll : (a : Content) → content m i ≡ a → Branch b m i p x Poll Unchanged (after_poll a)
  by_poll Empty e = poll_waits (λ u. (rw e at u))
  by_poll (Op o) e = poll_waits (λ u. (rw e at u))
  by_poll (Resp v) e = poll_response e

  by_link : (h : Cell HeadValue) → m.head ≡ h → (v : HeadValue) → h.value ≡ v → Branch b m i p x (LinkHead h) Linked (after_link (linked i h) v)
  by_link h e (Free q) f = link_free e f
  by_link h e (Held q j r) f = link_held e f

  by_priority : (h : Cell HeadValue) (a : Content) → content m p ≡ a → Branch b m i p x (LoadPriority h) Unchanged (after_priority h p a)
  by_priority h Empty e = priority_rests (λ u. (rw e at u))
  by_priority h (Op o) e = priority_waits e
  by_priority h (Resp v) e = priority_rests (λ u. (rw e at u))

  by_own : (h : Cell HeadValue) (a : Content) → content m i ≡ a → Branch b m i p x (LoadOwn h) Unchanged (after_own h i a)
  by_own h Empty e = own_empty e
  by_own h (Op o) e = own_waits e
  by_own h (Resp v) e = own_response e

  by_link_helped : (h : Cell HeadValue) (j : ℕ) (a : Cell Content) → m.announcement j ≡ a → (v : Content) → a.value ≡ v → Branch b m i p x (LinkHelped h j a) (LinkedAt j) (after_link_helped h j (linked i a) v)
  by_link_helped h j a e Empty f = link_rested e (λ u. (rw f at u))
  by_link_helped h j a e (Op o) f = link_helped e f
  by_link_helped h j a e (Resp v) f = link_rested e (λ u. (rw f at u))

  by_holder : {f : Phase} {y z : Next} {j : ℕ} (d : Dec (j ≡ i)) → (j ≡ i → Branch b m i p x f Unchanged y) → (j ≢ i → Branch b m i p x f Unchanged z) → Branch b m i p x f Unchanged (ite d y z)
  by_holder (yes e) g h = g e
  by_holder (no n) g h = h n

  by_exit : (v : Outcome) (c : Bool) → is_in_head m i ≡ c → (g : HeadValue) → head_value m ≡ g → Branch b m i p x (LoadExit v) Unchanged (after_exit c i v m.head g)
  by_exit v true c (Free q) e = exit_release c (free_not_holder e)
  by_exit v true c (Held q j r) e = by_holder (ℕ_discrete j i) (λ f. exit_clear c (e ∙ ap (λ t. Held q t r) f)) (λ f. exit_release c (held_not_holder e f))
  by_exit v false c (Free q) e = exit_retract c (free_not_holder e)
  by_exit v false c (Held q j r) e = by_holder (ℕ_discrete j i) (λ f. exit_link c (e ∙ ap (λ t. Held q t r) f)) (λ f. exit_retract c (held_not_holder e f))

  -- A swap that stores by the found cell stores by the compared one.
  found_head : {h : Cell HeadValue} (g : Cell HeadValue → Cell HeadValue) → m.head ≡ h → with_head m (g h) ≡ with_head m (g m.head)
  found_head g e = rw e refl

  found_announcement : {j : ℕ} {a : Cell Content} (g : Cell Content → Cell Content) → m.announcement j ≡ a → with_announcement m j (g a) ≡ with_announcement m j (g (m.announcement j))
  found_announcement g e = rw e refl

  pub taken : (f : Phase) → Takes f (perform (plan b i p x f) m) (after b i p x f (result (plan b i p x f) m))
  unfolding plan perform result after
  taken Idle = same stay_idle
  taken ReadOnly = same read_only
  taken Announce = record { change = Announced x; branch = announce; cells = refl }
  taken Poll = same (by_poll (content m i) refl)
  taken LoadHead = same load_head
  taken (LinkHead h) = swap_head_lem (head_dec m.head h) Linked (λ e. by_link h e h.value refl) (found_head (linked i)) link_fails
  taken (LoadPriority h) = same (by_priority h (content m p) refl)
  taken (LoadOwn h) = same (by_own h (content m i) refl)
  taken (Apply h j o) = swap_head_lem (head_dec m.head h) (Applied _ j _) apply (λ _. refl) apply_fails
  taken (ReloadApply h j o) = by_mark (is_in_head m i) reload_apply reload_apply_lost
  taken (LoadHelped h j) = same load_helped
  taken (LinkHelped h j a) = swap_announcement_lem (announcement_dec (m.announcement j) a) _ (LinkedAt j) (λ e. by_link_helped h j a e a.value refl) (found_announcement (linked i)) link_helped_fails
  taken (Validate h j a) = by_mark (is_in_head m i) validate validate_fails
  taken (HandOver h j a) = swap_announcement_lem (announcement_dec (m.announcement j) a) _ (HandedOver j _) hand_over (λ _. refl) hand_over_fails
  taken (ReloadHandOver h j a) = by_mark (is_in_announcement m i j) reload_hand_over reload_hand_over_lost
  taken (Release h j a) = swap_announcement_lem (announcement_dec (m.announcement j) a) _ (ReleasedAt j) release (found_announcement (released i)) release_fails
  taken (ReloadRelease h j a) = by_mark (is_in_announcement m i j) reload_release reload_release_lost
  taken (ClearHead h j) = swap_head_lem (head_dec m.head h) Cleared clear (found_head cleared) clear_fails
  taken (ReloadClear h j) = by_mark (is_in_head m i) reload_clear reload_clear_lost
  taken (LoadExit v) = same (by_exit v (is_in_head m i) refl (head_value m) refl)
  taken (LinkExit h v) = swap_head_lem (head_dec m.head h) Linked link_exit (found_head (linked i)) link_exit_fails
  taken (ClearExit h v) = swap_head_lem (head_dec m.head h) Cleared clear_exit (found_head cleared) clear_exit_fails
  taken (ReleaseExit h v) = swap_head_lem (head_dec m.head h) Released release_exit (found_head (released i)) release_exit_fails
  taken (Retract v) = record { change = Retracted; branch = retract; cells = refl }
