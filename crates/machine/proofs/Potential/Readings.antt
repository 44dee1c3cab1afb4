-- Small facts about the readings of the cells that the potential is made of.
use mathlib.Core.Path.{◌≡◌, refl}
use mathlib.Core.Bool.{false, not}
use Rattle.laws.specs.Bit.{bit}
use Rattle.laws.specs.Decision.{decided}
use Rattle.machine.specs.Memory.{Content, Empty, Op, Resp}
use Rattle.machine.specs.Invariant.{IsResp, IsOp}
use Rattle.machine.specs.Potential.{answered, waiting}

-- A compared word that is in its cell, and one that is not.
pub found_word : {P : Type 0} (d : Dec P) → P → bit (not (decided d)) ≡ 0
found_word (yes e) x = refl
found_word (no n) x = absurd (n x)

pub lost_word : {P : Type 0} (d : Dec P) → (P → ⊥) → bit (not (decided d)) ≡ 1
lost_word (yes e) n = absurd (n e)
lost_word (no _) n = refl

pub answered_not : (a : Content) → (IsResp a → ⊥) → answered a ≡ false
answered_not Empty n = refl
answered_not (Op o) n = refl
answered_not (Resp v) n = absurd (n tt)

pub waiting_not : (a : Content) → (IsOp a → ⊥) → waiting a ≡ false
waiting_not Empty n = refl
waiting_not (Op o) n = absurd (n tt)
waiting_not (Resp v) n = refl

pub resp_not_op : (a : Content) → IsResp a → IsOp a → ⊥
resp_not_op Empty u v = u
resp_not_op (Op o) u v = u
resp_not_op (Resp r) u v = v
