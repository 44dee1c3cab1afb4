-- The branches of a step: one for each way on from a phase, with what was found in the cells, its effect and what follows.
use mathlib.Core.Path.{◌≡◌}
use mathlib.Core.Bool.{true, false}
use Prim.Native.Nat.{ℕ}
use Rattle.machine.specs.Outcome.{Outcome}
use Rattle.machine.specs.Object.{Object}
use Rattle.machine.specs.Memory.{HeadValue, Free, Held, Content, Empty, Op, Resp, Cell, Memory, state_of, outcome_of}
use Rattle.machine.specs.Machine.{Phase, Idle, ReadOnly, Announce, Poll, LoadHead, LinkHead, LoadPriority, LoadOwn, Apply, ReloadApply, LoadHelped, LinkHelped, Validate, HandOver, ReloadHandOver, Release, ReloadRelease, ClearHead, ReloadClear, LoadExit, LinkExit, ClearExit, ReleaseExit, Retract, linked, Next, Go, Turn, End}
use Rattle.machine.specs.Invariant.{is_in_head, is_in_announcement, head_value, content, IsResp, IsOp, NotHolder}
use Rattle.machine.proofs.Steps.Effect.{Effect, Unchanged, Linked, Released, Cleared, Retracted, Applied, LinkedAt, ReleasedAt, HandedOver, Announced}

-- For the task i with priority p and operation x, over the cells m.
pub data Branch (b : Object) (m : Memory) (i p x : ℕ) : Phase → Effect → Next → Type 0 where
  stay_idle : Branch b m i p x Idle Unchanged (Go Idle)
  read_only : Branch b m i p x ReadOnly Unchanged (End (b.outcome (state_of (head_value m)) x))
  announce : Branch b m i p x Announce (Announced x) (Go Poll)
  poll_response : {v : Outcome} → content m i ≡ Resp v → Branch b m i p x Poll Unchanged (Go (LoadExit v))
  poll_waits : (IsResp (content m i) → ⊥) → Branch b m i p x Poll Unchanged (Go LoadHead)
  load_head : Branch b m i p x LoadHead Unchanged (Go (LinkHead m.head))
  link_free : {h : Cell HeadValue} {q : ℕ} → m.head ≡ h → h.value ≡ Free q → Branch b m i p x (LinkHead h) Linked (Go (LoadPriority (linked i h)))
  link_held : {h : Cell HeadValue} {q j : ℕ} {r : Outcome} → m.head ≡ h → h.value ≡ Held q j r → Branch b m i p x (LinkHead h) Linked (Go (LoadHelped (linked i h) j))
  link_fails : {h : Cell HeadValue} → (m.head ≡ h → ⊥) → Branch b m i p x (LinkHead h) Unchanged (Go Poll)
  priority_waits : {h : Cell HeadValue} {o : ℕ} → content m p ≡ Op o → Branch b m i p x (LoadPriority h) Unchanged (Go (Apply h p o))
  priority_rests : {h : Cell HeadValue} → (IsOp (content m p) → ⊥) → Branch b m i p x (LoadPriority h) Unchanged (Go (LoadOwn h))
  own_waits : {h : Cell HeadValue} {o : ℕ} → content m i ≡ Op o → Branch b m i p x (LoadOwn h) Unchanged (Go (Apply h i o))
  own_response : {h : Cell HeadValue} {v : Outcome} → content m i ≡ Resp v → Branch b m i p x (LoadOwn h) Unchanged (Go (LoadExit v))
  own_empty : {h : Cell HeadValue} → content m i ≡ Empty → Branch b m i p x (LoadOwn h) Unchanged (Go Poll)
  apply : {h : Cell HeadValue} {j o : ℕ} → m.head ≡ h → Branch b m i p x (Apply h j o) (Applied (b.next (state_of h.value) o) j (b.outcome (state_of h.value) o)) (Turn Poll)
  apply_fails : {h : Cell HeadValue} {j o : ℕ} → (m.head ≡ h → ⊥) → Branch b m i p x (Apply h j o) Unchanged (Go (ReloadApply h j o))
  reload_apply : {h : Cell HeadValue} {j o : ℕ} → is_in_head m i ≡ true → Branch b m i p x (ReloadApply h j o) Unchanged (Go (Apply m.head j o))
  reload_apply_lost : {h : Cell HeadValue} {j o : ℕ} → is_in_head m i ≡ false → Branch b m i p x (ReloadApply h j o) Unchanged (Go Poll)
  load_helped : {h : Cell HeadValue} {j : ℕ} → Branch b m i p x (LoadHelped h j) Unchanged (Go (LinkHelped h j (m.announcement j)))
  link_helped : {h : Cell HeadValue} {j o : ℕ} {a : Cell Content} → m.announcement j ≡ a → a.value ≡ Op o → Branch b m i p x (LinkHelped h j a) (LinkedAt j) (Go (Validate h j (linked i a)))
  link_rested : {h : Cell HeadValue} {j : ℕ} {a : Cell Content} → m.announcement j ≡ a → (IsOp a.value → ⊥) → Branch b m i p x (LinkHelped h j a) (LinkedAt j) (Go (Release h j (linked i a)))
  link_helped_fails : {h : Cell HeadValue} {j : ℕ} {a : Cell Content} → (m.announcement j ≡ a → ⊥) → Branch b m i p x (LinkHelped h j a) Unchanged (Go Poll)
  validate : {h : Cell HeadValue} {j : ℕ} {a : Cell Content} → is_in_head m i ≡ true → Branch b m i p x (Validate h j a) Unchanged (Go (HandOver h j a))
  validate_fails : {h : Cell HeadValue} {j : ℕ} {a : Cell Content} → is_in_head m i ≡ false → Branch b m i p x (Validate h j a) Unchanged (Go (Release h j a))
  hand_over : {h : Cell HeadValue} {j : ℕ} {a : Cell Content} → m.announcement j ≡ a → Branch b m i p x (HandOver h j a) (HandedOver j (outcome_of h.value)) (Go (ClearHead h j))
  hand_over_fails : {h : Cell HeadValue} {j : ℕ} {a : Cell Content} → (m.announcement j ≡ a → ⊥) → Branch b m i p x (HandOver h j a) Unchanged (Go (ReloadHandOver h j a))
  reload_hand_over : {h : Cell HeadValue} {j : ℕ} {a : Cell Content} → is_in_announcement m i j ≡ true → Branch b m i p x (ReloadHandOver h j a) Unchanged (Go (HandOver h j (m.announcement j)))
  reload_hand_over_lost : {h : Cell HeadValue} {j : ℕ} {a : Cell Content} → is_in_announcement m i j ≡ false → Branch b m i p x (ReloadHandOver h j a) Unchanged (Go (ClearHead h j))
  release : {h : Cell HeadValue} {j : ℕ} {a : Cell Content} → m.announcement j ≡ a → Branch b m i p x (Release h j a) (ReleasedAt j) (Go (ClearHead h j))
  release_fails : {h : Cell HeadValue} {j : ℕ} {a : Cell Content} → (m.announcement j ≡ a → ⊥) → Branch b m i p x (Release h j a) Unchanged (Go (ReloadRelease h j a))
  reload_release : {h : Cell HeadValue} {j : ℕ} {a : Cell Content} → is_in_announcement m i j ≡ true → Branch b m i p x (ReloadRelease h j a) Unchanged (Go (Release h j (m.announcement j)))
  reload_release_lost : {h : Cell HeadValue} {j : ℕ} {a : Cell Content} → is_in_announcement m i j ≡ false → Branch b m i p x (ReloadRelease h j a) Unchanged (Go (ClearHead h j))
  clear : {h : Cell HeadValue} {j : ℕ} → m.head ≡ h → Branch b m i p x (ClearHead h j) Cleared (Go Poll)
  clear_fails : {h : Cell HeadValue} {j : ℕ} → (m.head ≡ h → ⊥) → Branch b m i p x (ClearHead h j) Unchanged (Go (ReloadClear h j))
  reload_clear : {h : Cell HeadValue} {j : ℕ} → is_in_head m i ≡ true → Branch b m i p x (ReloadClear h j) Unchanged (Go (ClearHead m.head j))
  reload_clear_lost : {h : Cell HeadValue} {j : ℕ} → is_in_head m i ≡ false → Branch b m i p x (ReloadClear h j) Unchanged (Go Poll)
  exit_clear : {q : ℕ} {r : Outcome} {v : Outcome} → is_in_head m i ≡ true → head_value m ≡ Held q i r → Branch b m i p x (LoadExit v) Unchanged (Go (ClearExit m.head v))
  exit_release : {v : Outcome} → is_in_head m i ≡ true → NotHolder (head_value m) i → Branch b m i p x (LoadExit v) Unchanged (Go (ReleaseExit m.head v))
  exit_link : {q : ℕ} {r : Outcome} {v : Outcome} → is_in_head m i ≡ false → head_value m ≡ Held q i r → Branch b m i p x (LoadExit v) Unchanged (Go (LinkExit m.head v))
  exit_retract : {v : Outcome} → is_in_head m i ≡ false → NotHolder (head_value m) i → Branch b m i p x (LoadExit v) Unchanged (Go (Retract v))
  link_exit : {h : Cell HeadValue} {v : Outcome} → m.head ≡ h → Branch b m i p x (LinkExit h v) Linked (Go (ClearExit (linked i h) v))
  link_exit_fails : {h : Cell HeadValue} {v : Outcome} → (m.head ≡ h → ⊥) → Branch b m i p x (LinkExit h v) Unchanged (Go (LoadExit v))
  clear_exit : {h : Cell HeadValue} {v : Outcome} → m.head ≡ h → Branch b m i p x (ClearExit h v) Cleared (Go (Retract v))
  clear_exit_fails : {h : Cell HeadValue} {v : Outcome} → (m.head ≡ h → ⊥) → Branch b m i p x (ClearExit h v) Unchanged (Go (LoadExit v))
  release_exit : {h : Cell HeadValue} {v : Outcome} → m.head ≡ h → Branch b m i p x (ReleaseExit h v) Released (Go (Retract v))
  release_exit_fails : {h : Cell HeadValue} {v : Outcome} → (m.head ≡ h → ⊥) → Branch b m i p x (ReleaseExit h v) Unchanged (Go (LoadExit v))
  retract : {v : Outcome} → Branch b m i p x (Retract v) Retracted (End v)
