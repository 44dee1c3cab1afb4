-- How the step machine stands in words: its cells, what a record keeps of a task, its accesses and what they give back.
use Rattle.std.specs.Prelude.{cond, ℕ, ◌+◌}
use Rattle.cells.specs.Layout.{head_word, announcement_word}
use Rattle.cells.specs.declared.head.Head.{Head}
use Rattle.cells.specs.declared.head.Head.TheVariants as word
use Rattle.cells.specs.declared.announcement.Announcement.{Announcement}
use Rattle.cells.specs.declared.announcement.Announcement.TheVariants as content
use Rattle.machine.specs.Outcome.{Outcome}
use Rattle.machine.specs.Memory.{HeadValue, Free, Held, Content, Empty, Op, Resp, Cell}
use Rattle.machine.specs.Machine as machine
use Rattle.machine.specs.Machine.{Idle, ReadOnly, Announce, Poll, LoadHead, LinkHead, LoadPriority, LoadOwn, Apply, ReloadApply, LoadHelped, LinkHelped, Validate, HandOver, ReloadHandOver, Release, ReloadRelease, ClearHead, ReloadClear, LoadExit, LinkExit, ClearExit, ReleaseExit, Retract, NoAccess, ReadHead, ReadAnnouncement, WriteAnnouncement, SwapHead, SwapAnnouncement, Nothing, HeadRead, AnnouncementRead}
use Rattle.records.specs.declared.record.Task.{Task}
use Rattle.records.specs.declared.phase.Phase.{Phase}
use Rattle.records.specs.declared.phase.Phase.TheVariants as phase
use Rattle.records.specs.Phase.{phase_number}
use Rattle.transition.specs.Transition.{payload_of}
use Rattle.transition.specs.declared.access.Access.{Access}
use Rattle.transition.specs.declared.access.Access.TheVariants.{Read, Write, Swap}
use Rattle.transition.specs.declared.access.Found.{Found}
use Rattle.transition.specs.declared.access.Found.TheVariants.{Word, Stored, Swapped, Unswapped}

-- ---- Cells

-- The head and the announcement that a word says, of a value.
abbrev pub head_in : HeadValue → Head
head_in (Free q) = word.Free q
head_in (Held q j r) = word.Held q j r.response r.moved

abbrev pub announcement_in : Content → Announcement
announcement_in Empty = content.Empty
announcement_in (Op o) = content.Operation o
announcement_in (Resp v) = content.Response v.response v.moved

-- The word of a cell.
abbrev pub encode_head : Cell HeadValue → ℕ
encode_head h = head_word (head_in h.value) h.marks

abbrev pub encode_announcement : Cell Content → ℕ
encode_announcement a = announcement_word (announcement_in a.value) a.marks

-- ---- Records

-- What a record keeps of a phase: which it is, and the payload and the words that it has saved.
pub record Kept : Type 0 where
  pub phase : Phase
  pub payload : ℕ
  pub head : ℕ
  pub announcement : ℕ

abbrev pub keep : Phase → (payload head announcement : ℕ) → Kept
keep f v h a = record { phase = f; payload = v; head = h; announcement = a }

-- The payload that keeps an outcome.
abbrev pub kept_outcome : Outcome → ℕ
kept_outcome v = payload_of v.response v.moved

-- A field in which the phase has saved nothing is 0. The task that ClearHead and ReloadClear work for is the saved head's holder.
abbrev pub kept : machine.Phase → Kept
kept Idle = keep phase.Idle 0 0 0
kept ReadOnly = keep phase.ReadOnly 0 0 0
kept Announce = keep phase.Announce 0 0 0
kept Poll = keep phase.Poll 0 0 0
kept LoadHead = keep phase.LoadHead 0 0 0
kept (LinkHead h) = keep phase.LinkHead 0 (encode_head h) 0
kept (LoadPriority h) = keep phase.LoadPriority 0 (encode_head h) 0
kept (LoadOwn h) = keep phase.LoadOwn 0 (encode_head h) 0
kept (Apply h j o) = keep (phase.Apply j) o (encode_head h) 0
kept (ReloadApply h j o) = keep (phase.ReloadApply j) o (encode_head h) 0
kept (LoadHelped h j) = keep (phase.LoadHelped j) 0 (encode_head h) 0
kept (LinkHelped h j a) = keep (phase.LinkHelped j) 0 (encode_head h) (encode_announcement a)
kept (Validate h j a) = keep (phase.Validate j) 0 (encode_head h) (encode_announcement a)
kept (HandOver h j a) = keep (phase.HandOver j) 0 (encode_head h) (encode_announcement a)
kept (ReloadHandOver h j a) = keep (phase.ReloadHandOver j) 0 (encode_head h) (encode_announcement a)
kept (Release h j a) = keep (phase.Release j) 0 (encode_head h) (encode_announcement a)
kept (ReloadRelease h j a) = keep (phase.ReloadRelease j) 0 (encode_head h) (encode_announcement a)
kept (ClearHead h j) = keep phase.ClearHead 0 (encode_head h) 0
kept (ReloadClear h j) = keep phase.ReloadClear 0 (encode_head h) 0
kept (LoadExit v) = keep phase.LoadExit (kept_outcome v) 0 0
kept (LinkExit h v) = keep phase.LinkExit (kept_outcome v) (encode_head h) 0
kept (ClearExit h v) = keep phase.ClearExit (kept_outcome v) (encode_head h) 0
kept (ReleaseExit h v) = keep phase.ReleaseExit (kept_outcome v) (encode_head h) 0
kept (Retract v) = keep phase.Retract (kept_outcome v) 0 0

-- The record of a task.
abbrev pub encode_task : machine.Task → Task
encode_task t = record {
  head = (kept t.phase).head;
  announcement = (kept t.phase).announcement;
  payload = (kept t.phase).payload;
  steps = t.steps;
  operation = t.operation;
  priority = t.priority;
  phase = phase_number (kept t.phase).phase;
}

-- ---- Accesses

-- The access and its result on words. A step with no access isn't accepted.
abbrev pub encode_access : machine.Access → Access
encode_access NoAccess = Read 0
encode_access ReadHead = Read 0
encode_access (ReadAnnouncement j) = Read (j + 1)
encode_access (WriteAnnouncement j a) = Write (j + 1) (encode_announcement a)
encode_access (SwapHead h g) = Swap 0 (encode_head h) (encode_head g)
encode_access (SwapAnnouncement j a c) = Swap (j + 1) (encode_announcement a) (encode_announcement c)

abbrev pub encode_result : machine.Result → Found
encode_result Nothing = Stored
encode_result (HeadRead h) = Word (encode_head h)
encode_result (AnnouncementRead a) = Word (encode_announcement a)
encode_result (machine.Swapped made) = cond made Swapped Unswapped
