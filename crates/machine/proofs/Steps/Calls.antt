-- What a call does, by its tests: one case for each outcome, with the facts that the tests found.
use mathlib.Core.Path.{◌≡◌, refl}
use mathlib.Core.Bool.{true, false}
use Prim.Native.Nat.{ℕ, ◌<◌}
use native.Mathlib.Omega.{arith}
use lib.Dec.{ltb}
use borrow.Author.Tests.{ltb-true, ltb-false}
use Rattle.laws.proofs.Choice.{choice_by}
use Rattle.machine.specs.Object.{Object}
use Rattle.machine.specs.Machine.{Phase, Idle, ReadOnly, Announce, Poll, LoadHead, LinkHead, LoadPriority, LoadOwn, Apply, ReloadApply, LoadHelped, LinkHelped, Validate, HandOver, ReloadHandOver, Release, ReloadRelease, ClearHead, ReloadClear, LoadExit, LinkExit, ClearExit, ReleaseExit, Retract, Next}
use Rattle.machine.specs.Kind.{kind, off}
use Rattle.machine.specs.Run.{Config, Served, unserved, begun, begin, step, stepped, answer_of, serve}
use Rattle.machine.specs.Calls.{Call, Begin, Step}
use Rattle.machine.proofs.Steps.Effect.{Effect}
use Rattle.machine.proofs.Steps.Successor.{moved, Steps, steps}

-- The only phase of kind Off is Idle.
pub off_idle : (f : Phase) → off (kind f) ≡ true → f ≡ Idle
off_idle Idle e = refl
off_idle ReadOnly e = cc
off_idle Announce e = cc
off_idle Poll e = cc
off_idle LoadHead e = cc
off_idle (LinkHead h) e = cc
off_idle (LoadPriority h) e = cc
off_idle (LoadOwn h) e = cc
off_idle (Apply h j o) e = cc
off_idle (ReloadApply h j o) e = cc
off_idle (LoadHelped h j) e = cc
off_idle (LinkHelped h j a) e = cc
off_idle (Validate h j a) e = cc
off_idle (HandOver h j a) e = cc
off_idle (ReloadHandOver h j a) e = cc
off_idle (Release h j a) e = cc
off_idle (ReloadRelease h j a) e = cc
off_idle (ClearHead h j) e = cc
off_idle (ReloadClear h j) e = cc
off_idle (LoadExit v) e = cc
off_idle (LinkExit h v) e = cc
off_idle (ClearExit h v) e = cc
off_idle (ReleaseExit h v) e = cc
off_idle (Retract v) e = cc

-- What a call of x leaves and answers, over the configuration c.
pub data Serving (b : Object) (n : ℕ) (c : Config) : Call → Served → Type 0 where
  begins : {i o : ℕ} → i < n → o < b.operations → (c.task i).phase ≡ Idle → Serving b n c (Begin i o) (begun b i o c)
  begin_task : {i o : ℕ} → (i < n → ⊥) → Serving b n c (Begin i o) (unserved c 7)
  begin_operation : {i o : ℕ} → i < n → (o < b.operations → ⊥) → Serving b n c (Begin i o) (unserved c 8)
  begin_pending : {i o : ℕ} → i < n → o < b.operations → off (kind (c.task i).phase) ≡ false → Serving b n c (Begin i o) (unserved c 9)
  moves : {i : ℕ} {e : Effect} {y : Next} → i < n → off (kind (c.task i).phase) ≡ false → Steps b i c e y → Serving b n c (Step i) (record { config = moved n i c e y; answer = answer_of (c.task i).steps y })
  step_task : {i : ℕ} → (i < n → ⊥) → Serving b n c (Step i) (unserved c 7)
  step_idle : {i : ℕ} → i < n → (c.task i).phase ≡ Idle → Serving b n c (Step i) (unserved c 10)

not_below : (i n : ℕ) → ltb i n ≡ false → i < n → ⊥
not_below i n e h = omega (arith, ltb-false i n e)

module _ (b : Object) (n : ℕ) (c : Config) where
  serving_step : (i : ℕ) → i < n → off (kind (c.task i).phase) ≡ false → Serving b n c (Step i) (stepped b n i c)
  serving_step i h e =
      let s = steps b n i c in
      rw s.config (moves h e s.branch)

  pub serving : (x : Call) → Serving b n c x (serve b n x c)
  unfolding begin step
  serving (Begin i o) =
      choice_by (Serving b n c (Begin i o)) (ltb i n)
      (λ h. choice_by (Serving b n c (Begin i o)) (ltb o b.operations)
      (λ k. choice_by (Serving b n c (Begin i o)) (off (kind (c.task i).phase))
      (λ e. begins (ltb-true i n h) (ltb-true o _ k) (off_idle _ e))
      (begin_pending (ltb-true i n h) (ltb-true o _ k)))
      (λ k. begin_operation (ltb-true i n h) (not_below o _ k)))
      (λ h. begin_task (not_below i n h))
  serving (Step i) =
      choice_by (Serving b n c (Step i)) (ltb i n)
      (λ h. choice_by (Serving b n c (Step i)) (off (kind (c.task i).phase))
      (λ e. step_idle (ltb-true i n h) (off_idle _ e))
      (serving_step i (ltb-true i n h)))
      (λ h. step_task (not_below i n h))
