-- The ten ways in which a step changes the cells, and when each is allowed. Everybody else cares about the effect alone.
use mathlib.Core.Path.{◌≡◌}
use Prim.Native.Nat.{ℕ}
use Rattle.laws.specs.Update.{update}
use Rattle.machine.specs.Outcome.{Outcome}
use Rattle.machine.specs.Object.{Object}
use Rattle.machine.specs.Memory.{HeadValue, Free, Held, Content, Empty, Op, Resp, Cell, Memory, unmarked}
use Rattle.machine.specs.Machine.{linked, released, cleared}
use Rattle.machine.specs.Invariant.{head_value, content, IsResp, NotHolder}

pub data Effect : Type 0 where
  Unchanged Linked Released Cleared Retracted : Effect
  Applied : (q j : ℕ) (r : Outcome) → Effect
  LinkedAt ReleasedAt : (j : ℕ) → Effect
  HandedOver : (j : ℕ) (r : Outcome) → Effect
  Announced : (o : ℕ) → Effect

-- The cells with another head, and with another announcement of task j.
abbrev pub with_head : Memory → Cell HeadValue → Memory
with_head m h = record { head = h; announcement = m.announcement }

abbrev pub with_announcement : Memory → ℕ → Cell Content → Memory
with_announcement m j a = record { head = m.head; announcement = update m.announcement j a }

-- The cells after an effect of a step of task i.
abbrev pub effect : ℕ → Effect → Memory → Memory
effect i Unchanged m = m
effect i Linked m = with_head m (linked i m.head)
effect i Released m = with_head m (released i m.head)
effect i Cleared m = with_head m (cleared m.head)
effect i Retracted m = with_announcement m i (unmarked Empty)
effect i (Applied q j r) m = with_head m (unmarked (Held q j r))
effect i (LinkedAt j) m = with_announcement m j (linked i (m.announcement j))
effect i (ReleasedAt j) m = with_announcement m j (released i (m.announcement j))
effect i (HandedOver j r) m = with_announcement m j (unmarked (Resp r))
effect i (Announced o) m = with_announcement m i (unmarked (Op o))

-- What an effect needs of the cells before it.
abbrev pub Allowed : Object → Memory → ℕ → Effect → Type 0
Allowed b m i Unchanged = Unit {0}
Allowed b m i Linked = Unit {0}
Allowed b m i Released = Unit {0}
Allowed b m i Cleared = (q : ℕ) × (j : ℕ) × (r : Outcome) × (head_value m ≡ Held q j r) × IsResp (content m j)
Allowed b m i Retracted = (v : Outcome) × (content m i ≡ Resp v) × NotHolder (head_value m) i
Allowed b m i (Applied q j r) =
    (c : ℕ) × (x : ℕ) × (head_value m ≡ Free c) × (content m j ≡ Op x) × (q ≡ b.next c x) × (r ≡ b.outcome c x)
Allowed b m i (LinkedAt j) = Unit {0}
Allowed b m i (ReleasedAt j) = Unit {0}
Allowed b m i (HandedOver j r) = (q : ℕ) × (x : ℕ) × (head_value m ≡ Held q j r) × (content m j ≡ Op x)
Allowed b m i (Announced o) = (content m i ≡ Empty) × NotHolder (head_value m) i
