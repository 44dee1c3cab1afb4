-- The step machine: the phases of a task, the one access of a step (plan), the access itself (perform), and what follows from it (after).
use Rattle.std.specs.Prelude.{Bool, true, false, cond, ℕ, suc, ◌%◌}
use Rattle.std.proofs.Math.Logic.{ite}
use Rattle.std.proofs.Math.Decide.{ℕ_discrete}
use Rattle.laws.specs.Update.{update}
use Rattle.laws.specs.Decision.{decided}
use Rattle.cells.specs.Marks.{has, add, remove}
use Rattle.machine.specs.Outcome.{Outcome}
use Rattle.machine.specs.Object.{Object}
use Rattle.machine.specs.Memory.{HeadValue, Free, Held, Content, Empty, Op, Resp, Cell, Memory, state_of, outcome_of, unmarked, head_dec, announcement_dec}

-- Where a task is in its operation, with what it has saved: h a head, a an announcement, j the task that it works for,
-- o an operation to apply, v the own outcome.
pub data Phase : Type 0 where
  Idle ReadOnly Announce Poll LoadHead : Phase
  LinkHead LoadPriority LoadOwn : (h : Cell HeadValue) → Phase
  Apply ReloadApply : (h : Cell HeadValue) (j o : ℕ) → Phase
  LoadHelped ClearHead ReloadClear : (h : Cell HeadValue) (j : ℕ) → Phase
  LinkHelped Validate HandOver ReloadHandOver Release ReloadRelease : (h : Cell HeadValue) (j : ℕ) (a : Cell Content) → Phase
  LoadExit Retract : (v : Outcome) → Phase
  LinkExit ClearExit ReleaseExit : (h : Cell HeadValue) (v : Outcome) → Phase

-- A task's private record: its phase, its own operation, the task that it helps first, and its steps since begin.
pub record Task : Type 0 where
  pub phase : Phase
  pub operation : ℕ
  pub priority : ℕ
  pub steps : ℕ

-- One access to one cell.
pub data Access : Type 0 where
  NoAccess ReadHead : Access
  ReadAnnouncement : (j : ℕ) → Access
  WriteAnnouncement : (j : ℕ) (written : Cell Content) → Access
  SwapHead : (compared written : Cell HeadValue) → Access
  SwapAnnouncement : (j : ℕ) (compared written : Cell Content) → Access

-- What an access gives back: the word for a read, yes or no for a swap, nothing for a write.
pub data Result : Type 0 where
  Nothing : Result
  HeadRead : (h : Cell HeadValue) → Result
  AnnouncementRead : (a : Cell Content) → Result
  Swapped : (made : Bool) → Result

-- A cell with a task's mark added: what a link stores.
abbrev pub linked : {A : Type 0} → ℕ → Cell A → Cell A
linked i c = record { value = c.value; marks = add i c.marks }

-- A cell with a task's mark taken away: what a release stores.
abbrev pub released : {A : Type 0} → ℕ → Cell A → Cell A
released i c = record { value = c.value; marks = remove i c.marks }

-- The head after a clear: its state alone.
abbrev pub cleared : Cell HeadValue → Cell HeadValue
cleared h = unmarked (Free (state_of h.value))

-- The head after operation o of task j: a conditional store.
abbrev pub applied : Object → Cell HeadValue → ℕ → ℕ → Cell HeadValue
applied b h j o = unmarked (Held (b.next (state_of h.value) o) j (b.outcome (state_of h.value) o))

-- The access of the next step of task i. It follows from the object and the record alone.
unfoldable pub plan : Object → (i priority operation : ℕ) → Phase → Access
plan b i p x Idle = NoAccess
plan b i p x ReadOnly = ReadHead
plan b i p x Announce = WriteAnnouncement i (unmarked (Op x))
plan b i p x Poll = ReadAnnouncement i
plan b i p x LoadHead = ReadHead
plan b i p x (LinkHead h) = SwapHead h (linked i h)
plan b i p x (LoadPriority h) = ReadAnnouncement p
plan b i p x (LoadOwn h) = ReadAnnouncement i
plan b i p x (Apply h j o) = SwapHead h (applied b h j o)
plan b i p x (ReloadApply h j o) = ReadHead
plan b i p x (LoadHelped h j) = ReadAnnouncement j
plan b i p x (LinkHelped h j a) = SwapAnnouncement j a (linked i a)
plan b i p x (Validate h j a) = ReadHead
plan b i p x (HandOver h j a) = SwapAnnouncement j a (unmarked (Resp (outcome_of h.value)))
plan b i p x (ReloadHandOver h j a) = ReadAnnouncement j
plan b i p x (Release h j a) = SwapAnnouncement j a (released i a)
plan b i p x (ReloadRelease h j a) = ReadAnnouncement j
plan b i p x (ClearHead h j) = SwapHead h (cleared h)
plan b i p x (ReloadClear h j) = ReadHead
plan b i p x (LoadExit v) = ReadHead
plan b i p x (LinkExit h v) = SwapHead h (linked i h)
plan b i p x (ClearExit h v) = SwapHead h (cleared h)
plan b i p x (ReleaseExit h v) = SwapHead h (released i h)
plan b i p x (Retract v) = WriteAnnouncement i (unmarked Empty)

-- What an access gives back.
unfoldable pub result : Access → Memory → Result
result NoAccess m = Nothing
result ReadHead m = HeadRead m.head
result (ReadAnnouncement j) m = AnnouncementRead (m.announcement j)
result (WriteAnnouncement j a) m = Nothing
result (SwapHead h h') m = Swapped (decided (head_dec m.head h))
result (SwapAnnouncement j a a') m = Swapped (decided (announcement_dec (m.announcement j) a))

-- The cells after an access.
unfoldable pub perform : Access → Memory → Memory
perform NoAccess m = m
perform ReadHead m = m
perform (ReadAnnouncement j) m = m
perform (WriteAnnouncement j a) m = record { head = m.head; announcement = update m.announcement j a }
perform (SwapHead h h') m = record { head = ite (head_dec m.head h) h' m.head; announcement = m.announcement }
perform (SwapAnnouncement j a a') m =
    record { head = m.head; announcement = ite (announcement_dec (m.announcement j) a) (update m.announcement j a') m.announcement }

-- The word that was read, an unmarked empty one if none was.
abbrev pub head_read : Result → Cell HeadValue
head_read Nothing = unmarked (Free 0)
head_read (HeadRead h) = h
head_read (AnnouncementRead a) = unmarked (Free 0)
head_read (Swapped s) = unmarked (Free 0)

abbrev pub announcement_read : Result → Cell Content
announcement_read Nothing = unmarked Empty
announcement_read (HeadRead h) = unmarked Empty
announcement_read (AnnouncementRead a) = a
announcement_read (Swapped s) = unmarked Empty

-- Whether the swap was made.
abbrev pub swapped : Result → Bool
swapped Nothing = false
swapped (HeadRead h) = false
swapped (AnnouncementRead a) = false
swapped (Swapped s) = s

-- What a step leads to: the next phase, with the priority left or moved on by one task; or the end with an outcome.
pub data Next : Type 0 where
  Go Turn : Phase → Next
  End : (outcome : Outcome) → Next

abbrev pub after_poll : Content → Next
after_poll Empty = Go LoadHead
after_poll (Op o) = Go LoadHead
after_poll (Resp v) = Go (LoadExit v)

abbrev pub after_link : Cell HeadValue → HeadValue → Next
after_link h (Free q) = Go (LoadPriority h)
after_link h (Held q j r) = Go (LoadHelped h j)

abbrev pub after_priority : Cell HeadValue → ℕ → Content → Next
after_priority h p Empty = Go (LoadOwn h)
after_priority h p (Op o) = Go (Apply h p o)
after_priority h p (Resp v) = Go (LoadOwn h)

abbrev pub after_own : Cell HeadValue → ℕ → Content → Next
after_own h i Empty = Go Poll
after_own h i (Op o) = Go (Apply h i o)
after_own h i (Resp v) = Go (LoadExit v)

-- A helper goes on only with a cell that holds an operation.
abbrev pub after_link_helped : Cell HeadValue → ℕ → Cell Content → Content → Next
after_link_helped h j a Empty = Go (Release h j a)
after_link_helped h j a (Op o) = Go (Validate h j a)
after_link_helped h j a (Resp v) = Go (Release h j a)

-- By the own mark in the head, and by whether the task holds the head.
abbrev pub after_exit : Bool → ℕ → Outcome → Cell HeadValue → HeadValue → Next
after_exit true i v h (Free q) = Go (ReleaseExit h v)
after_exit true i v h (Held q j r) = ite (ℕ_discrete j i) (Go (ClearExit h v)) (Go (ReleaseExit h v))
after_exit false i v h (Free q) = Go (Retract v)
after_exit false i v h (Held q j r) = ite (ℕ_discrete j i) (Go (LinkExit h v)) (Go (Retract v))

-- What follows from the record and the result of the access alone.
unfoldable pub after : Object → (i priority operation : ℕ) → Phase → Result → Next
after b i p x Idle r = Go Idle
after b i p x ReadOnly r = End (b.outcome (state_of (head_read r).value) x)
after b i p x Announce r = Go Poll
after b i p x Poll r = after_poll (announcement_read r).value
after b i p x LoadHead r = Go (LinkHead (head_read r))
after b i p x (LinkHead h) r = cond (swapped r) (after_link (linked i h) h.value) (Go Poll)
after b i p x (LoadPriority h) r = after_priority h p (announcement_read r).value
after b i p x (LoadOwn h) r = after_own h i (announcement_read r).value
after b i p x (Apply h j o) r = cond (swapped r) (Turn Poll) (Go (ReloadApply h j o))
after b i p x (ReloadApply h j o) r = cond (has i (head_read r).marks) (Go (Apply (head_read r) j o)) (Go Poll)
after b i p x (LoadHelped h j) r = Go (LinkHelped h j (announcement_read r))
after b i p x (LinkHelped h j a) r = cond (swapped r) (after_link_helped h j (linked i a) a.value) (Go Poll)
after b i p x (Validate h j a) r = cond (has i (head_read r).marks) (Go (HandOver h j a)) (Go (Release h j a))
after b i p x (HandOver h j a) r = cond (swapped r) (Go (ClearHead h j)) (Go (ReloadHandOver h j a))
after b i p x (ReloadHandOver h j a) r = cond (has i (announcement_read r).marks) (Go (HandOver h j (announcement_read r))) (Go (ClearHead h j))
after b i p x (Release h j a) r = cond (swapped r) (Go (ClearHead h j)) (Go (ReloadRelease h j a))
after b i p x (ReloadRelease h j a) r = cond (has i (announcement_read r).marks) (Go (Release h j (announcement_read r))) (Go (ClearHead h j))
after b i p x (ClearHead h j) r = cond (swapped r) (Go Poll) (Go (ReloadClear h j))
after b i p x (ReloadClear h j) r = cond (has i (head_read r).marks) (Go (ClearHead (head_read r) j)) (Go Poll)
after b i p x (LoadExit v) r = after_exit (has i (head_read r).marks) i v (head_read r) (head_read r).value
after b i p x (LinkExit h v) r = cond (swapped r) (Go (ClearExit (linked i h) v)) (Go (LoadExit v))
after b i p x (ClearExit h v) r = cond (swapped r) (Go (Retract v)) (Go (LoadExit v))
after b i p x (ReleaseExit h v) r = cond (swapped r) (Go (Retract v)) (Go (LoadExit v))
after b i p x (Retract v) r = End v

abbrev pub phase_of : Next → Phase
phase_of (Go f) = f
phase_of (Turn f) = f
phase_of (End v) = Idle

abbrev pub turns : Next → Bool
turns (Go f) = false
turns (Turn f) = true
turns (End v) = false

abbrev pub ends : Next → Bool
ends (Go f) = false
ends (Turn f) = false
ends (End v) = true

-- The record after a step: an ended task keeps its priority alone.
abbrev pub advance : ℕ → Task → Next → Task
advance n t x = record {
  phase = phase_of x;
  operation = cond (ends x) 0 t.operation;
  priority = cond (turns x) (suc t.priority % n) t.priority;
  steps = cond (ends x) 0 (suc t.steps);
}
