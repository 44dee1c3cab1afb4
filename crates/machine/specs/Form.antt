-- The ranges of the cells and of the records, for n tasks over the object b: what makes them fit into words.
use Rattle.std.specs.Prelude.{◌≡◌, true, false, ℕ, ◌<◌, ◌^◌}
use Rattle.machine.specs.Object.{Object}
use Rattle.machine.specs.Lawful.{Lawful}
use Rattle.machine.specs.Memory.{HeadValue, Free, Held, Content, Empty, Op, Resp, Cell, Memory, unmarked}
use Rattle.machine.specs.Machine.{Phase, Idle, ReadOnly, Announce, Poll, LoadHead, LinkHead, LoadPriority, LoadOwn, Apply, ReloadApply, LoadHelped, LinkHelped, Validate, HandOver, ReloadHandOver, Release, ReloadRelease, ClearHead, ReloadClear, LoadExit, LinkExit, ClearExit, ReleaseExit, Retract, Task}
use Rattle.machine.specs.Kind.{Kind, Off, Reading, Opening, Looping, Exiting, Retracting, kind}
use Rattle.machine.specs.Run.{Config, idle_task}

-- The head's state is good, its holder is a task, and its response is within the object's bound.
abbrev pub HeadValueFormed : Object → ℕ → HeadValue → Type 0
HeadValueFormed b n (Free q) = b.good q ≡ true
HeadValueFormed b n (Held q j r) = (b.good q ≡ true) × (j < n) × (r.response < b.outcomes)

-- An announced operation is one of the object's, and a response is within its bound.
abbrev pub ContentFormed : Object → Content → Type 0
ContentFormed b Empty = Unit {0}
ContentFormed b (Op o) = o < b.operations
ContentFormed b (Resp v) = v.response < b.outcomes

-- A cell: its value is in form, and only the n tasks have marks.
pub record CellFormed {A : Type 0} (n : ℕ) (ValueFormed : A → Type 0) (c : Cell A) : Type 0 where
  pub value : ValueFormed c.value
  pub marks : c.marks < 2 ^ n

abbrev pub HeadFormed : Object → ℕ → Cell HeadValue → Type 0
HeadFormed b n h = CellFormed n (HeadValueFormed b n) h

abbrev pub AnnouncementFormed : Object → ℕ → Cell Content → Type 0
AnnouncementFormed b n a = CellFormed n (ContentFormed b) a

-- The cells; from n on the announcements are never touched.
pub record MemoryFormed (b : Object) (n : ℕ) (m : Memory) : Type 0 where
  pub head : HeadFormed b n m.head
  pub announcement : (j : ℕ) → AnnouncementFormed b n (m.announcement j)
  pub untouched : (j : ℕ) → (j < n → ⊥) → m.announcement j ≡ unmarked Empty

-- What a phase has saved.
abbrev pub PhaseFormed : Object → ℕ → Phase → Type 0
PhaseFormed b n Idle = Unit {0}
PhaseFormed b n ReadOnly = Unit {0}
PhaseFormed b n Announce = Unit {0}
PhaseFormed b n Poll = Unit {0}
PhaseFormed b n LoadHead = Unit {0}
PhaseFormed b n (LinkHead h) = HeadFormed b n h
PhaseFormed b n (LoadPriority h) = HeadFormed b n h
PhaseFormed b n (LoadOwn h) = HeadFormed b n h
PhaseFormed b n (Apply h j o) = HeadFormed b n h × (j < n) × (o < b.operations)
PhaseFormed b n (ReloadApply h j o) = HeadFormed b n h × (j < n) × (o < b.operations)
PhaseFormed b n (LoadHelped h j) = HeadFormed b n h × (j < n)
PhaseFormed b n (LinkHelped h j a) = HeadFormed b n h × (j < n) × AnnouncementFormed b n a
PhaseFormed b n (Validate h j a) = HeadFormed b n h × (j < n) × AnnouncementFormed b n a
PhaseFormed b n (HandOver h j a) = HeadFormed b n h × (j < n) × AnnouncementFormed b n a
PhaseFormed b n (ReloadHandOver h j a) = HeadFormed b n h × (j < n) × AnnouncementFormed b n a
PhaseFormed b n (Release h j a) = HeadFormed b n h × (j < n) × AnnouncementFormed b n a
PhaseFormed b n (ReloadRelease h j a) = HeadFormed b n h × (j < n) × AnnouncementFormed b n a
PhaseFormed b n (ClearHead h j) = HeadFormed b n h × (j < n)
PhaseFormed b n (ReloadClear h j) = HeadFormed b n h × (j < n)
PhaseFormed b n (LoadExit v) = v.response < b.outcomes
PhaseFormed b n (LinkExit h v) = HeadFormed b n h × (v.response < b.outcomes)
PhaseFormed b n (ClearExit h v) = HeadFormed b n h × (v.response < b.outcomes)
PhaseFormed b n (ReleaseExit h v) = HeadFormed b n h × (v.response < b.outcomes)
PhaseFormed b n (Retract v) = v.response < b.outcomes

-- The own operation with its count of steps: both 0 without one; else one of the object's, reading in ReadOnly and
-- changing elsewhere, with no step yet in its first phase.
abbrev pub OperationFormed : Object → Kind → (operation steps : ℕ) → Type 0
OperationFormed b Off o s = (o ≡ 0) × (s ≡ 0)
OperationFormed b Reading o s = (o < b.operations) × (b.changing o ≡ false) × (s ≡ 0)
OperationFormed b Opening o s = (o < b.operations) × (b.changing o ≡ true) × (s ≡ 0)
OperationFormed b Looping o s = (o < b.operations) × (b.changing o ≡ true)
OperationFormed b (Exiting v) o s = (o < b.operations) × (b.changing o ≡ true)
OperationFormed b (Retracting v) o s = (o < b.operations) × (b.changing o ≡ true)

-- A task's record.
pub record TaskFormed (b : Object) (n : ℕ) (t : Task) : Type 0 where
  pub phase : PhaseFormed b n t.phase
  pub priority : t.priority < n
  pub operation : OperationFormed b (kind t.phase) t.operation t.steps

-- The configuration, over an object whose laws hold; from n on the records are never touched.
pub record Formed (b : Object) (n : ℕ) (c : Config) : Type 0 where
  pub lawful : Lawful b
  pub memory : MemoryFormed b n c.memory
  pub task : (i : ℕ) → i < n → TaskFormed b n (c.task i)
  pub untouched : (i : ℕ) → (i < n → ⊥) → c.task i ≡ idle_task i
