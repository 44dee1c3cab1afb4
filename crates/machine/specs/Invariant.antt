-- What holds of the cells and of each task between two calls. T1 to T7 and G1 are the design's names.
use Rattle.std.specs.Prelude.{◌≡◌, Bool, true, false, ℕ}
use Rattle.cells.specs.Marks.{has}
use Rattle.machine.specs.Outcome.{Outcome}
use Rattle.machine.specs.Memory.{HeadValue, Free, Held, Content, Empty, Op, Resp, Cell, Memory}
use Rattle.machine.specs.Machine.{Phase, Idle, ReadOnly, Announce, Poll, LoadHead, LinkHead, LoadPriority, LoadOwn, Apply, ReloadApply, LoadHelped, LinkHelped, Validate, HandOver, ReloadHandOver, Release, ReloadRelease, ClearHead, ReloadClear, LoadExit, LinkExit, ClearExit, ReleaseExit, Retract}
use Rattle.machine.specs.Kind.{Kind, Off, Reading, Opening, Looping, Exiting, Retracting, kind}
use Rattle.machine.specs.Run.{Config}

-- Whether task i has its mark in the head, and in the announcement of task j.
abbrev pub is_in_head : Memory → ℕ → Bool
is_in_head m i = has i m.head.marks

abbrev pub is_in_announcement : Memory → ℕ → ℕ → Bool
is_in_announcement m i j = has i (m.announcement j).marks

abbrev pub head_value : Memory → HeadValue
head_value m = m.head.value

abbrev pub content : Memory → ℕ → Content
content m j = (m.announcement j).value

-- On a content: it is a response; it is an operation.
abbrev pub IsResp : Content → Type 0
IsResp Empty = ⊥
IsResp (Op o) = ⊥
IsResp (Resp v) = Unit {0}

abbrev pub IsOp : Content → Type 0
IsOp Empty = ⊥
IsOp (Op o) = Unit {0}
IsOp (Resp v) = ⊥

-- An announcement at work: the operation o, or a response.
abbrev pub Announces : Content → ℕ → Type 0
Announces Empty o = ⊥
Announces (Op x) o = x ≡ o
Announces (Resp v) o = Unit {0}

-- An announcement that agrees with an outcome: an operation, or that very outcome.
abbrev pub Agrees : Content → Outcome → Type 0
Agrees Empty r = ⊥
Agrees (Op x) r = Unit {0}
Agrees (Resp v) r = v ≡ r

-- The task doesn't hold the head.
abbrev pub NotHolder : HeadValue → ℕ → Type 0
NotHolder h i = (q : ℕ) (r : Outcome) → h ≡ Held q i r → ⊥

-- G1: the head's holder has announced, and its announcement agrees with the head's outcome.
abbrev pub HolderAnnounces : Memory → ℕ → Type 0
HolderAnnounces m i = (q : ℕ) (r : Outcome) → head_value m ≡ Held q i r → Agrees (content m i) r

-- T1: what the own announcement holds.
abbrev pub OwnContent : Content → ℕ → Kind → Type 0
OwnContent a o Off = a ≡ Empty
OwnContent a o Reading = a ≡ Empty
OwnContent a o Opening = a ≡ Empty
OwnContent a o Looping = Announces a o
OwnContent a o (Exiting v) = a ≡ Resp v
OwnContent a o (Retracting v) = a ≡ Resp v

-- T2 and T3, the head: without an operation at work, and before the retraction, there is no own mark in it; then the
-- task doesn't hold it either.
abbrev pub Unlinked : Memory → ℕ → Type 0
Unlinked m i = is_in_head m i ≡ true → ⊥

abbrev pub OwnHead : Memory → ℕ → Kind → Type 0
OwnHead m i Off = Unlinked m i
OwnHead m i Reading = Unlinked m i
OwnHead m i Opening = Unlinked m i
OwnHead m i Looping = Unit {0}
OwnHead m i (Exiting v) = Unit {0}
OwnHead m i (Retracting v) = Unlinked m i × NotHolder (head_value m) i

-- T2, the announcements: no own mark in any, or at most in that of task j.
abbrev pub NoMark : Memory → ℕ → Type 0
NoMark m i = (j : ℕ) → is_in_announcement m i j ≡ true → ⊥

abbrev pub OnlyMark : Memory → ℕ → ℕ → Type 0
OnlyMark m i t = (j : ℕ) → is_in_announcement m i j ≡ true → j ≡ t

-- T4: a saved cell with the own mark: while the mark stands in the cell, the value is the saved one.
pub record Saved {A : Type 0} (now : Cell A) (i : ℕ) (saved : Cell A) : Type 0 where
  pub mine : has i saved.marks ≡ true
  pub keeps : has i now.marks ≡ true → now.value ≡ saved.value

-- T4: the saved head has no holder.
pub record SavedFree (now : Cell HeadValue) (i : ℕ) (h : Cell HeadValue) : Type 0 where
  pub q : ℕ
  pub saved : Saved now i h
  pub form : h.value ≡ Free q

-- T4: the saved head is held by task j.
pub record SavedHeld (now : Cell HeadValue) (i : ℕ) (h : Cell HeadValue) (j : ℕ) : Type 0 where
  pub q : ℕ
  pub r : Outcome
  pub saved : Saved now i h
  pub form : h.value ≡ Held q j r

-- T5: while the mark stands in the head, task j waits with the operation to apply.
pub record Applying (m : Memory) (i : ℕ) (h : Cell HeadValue) (j o : ℕ) : Type 0 where
  pub head : SavedFree m.head i h
  pub waits : is_in_head m i ≡ true → content m j ≡ Op o

-- T6 and T7 of Validate, HandOver and ReloadHandOver: the saved announcement holds an operation; if the mark there is
-- gone while that in the head stands, task j has its response.
pub record Helping (m : Memory) (i : ℕ) (h : Cell HeadValue) (j : ℕ) (a : Cell Content) : Type 0 where
  pub head : SavedHeld m.head i h j
  pub noted : Saved (m.announcement j) i a
  pub operation : IsOp a.value
  pub lost : is_in_head m i ≡ true → is_in_announcement m i j ≡ false → IsResp (content m j)

-- T7 of HandOver and ReloadHandOver: while the mark stands in the announcement, that in the head stands too.
pub record HandingOver (m : Memory) (i : ℕ) (h : Cell HeadValue) (j : ℕ) (a : Cell Content) : Type 0 where
  pub helping : Helping m i h j a
  pub both : is_in_announcement m i j ≡ true → is_in_head m i ≡ true

-- T7 of ClearHead and ReloadClear: while the mark stands in the head, task j has its response.
pub record Clearing (m : Memory) (i : ℕ) (h : Cell HeadValue) (j : ℕ) : Type 0 where
  pub head : SavedHeld m.head i h j
  pub done : is_in_head m i ≡ true → IsResp (content m j)

-- T6 and T7 of Release and ReloadRelease.
pub record Releasing (m : Memory) (i : ℕ) (h : Cell HeadValue) (j : ℕ) (a : Cell Content) : Type 0 where
  pub clearing : Clearing m i h j
  pub noted : Saved (m.announcement j) i a

-- T4 of LinkExit and ClearExit: the saved head is held by the task itself.
abbrev pub HeldBy : ℕ → Cell HeadValue → Type 0
HeldBy i h = (q : ℕ) × (r : Outcome) × (h.value ≡ Held q i r)

-- T2 and T4 to T7, by phase: the marks in announcements, and what was saved.
abbrev pub OwnSaved : Memory → ℕ → Phase → Type 0
OwnSaved m i Idle = NoMark m i × Unit {0}
OwnSaved m i ReadOnly = NoMark m i × Unit {0}
OwnSaved m i Announce = NoMark m i × Unit {0}
OwnSaved m i Poll = NoMark m i × Unit {0}
OwnSaved m i LoadHead = NoMark m i × Unit {0}
OwnSaved m i (LinkHead h) = NoMark m i × Unit {0}
OwnSaved m i (LoadPriority h) = NoMark m i × SavedFree m.head i h
OwnSaved m i (LoadOwn h) = NoMark m i × SavedFree m.head i h
OwnSaved m i (Apply h j o) = NoMark m i × Applying m i h j o
OwnSaved m i (ReloadApply h j o) = NoMark m i × Applying m i h j o
OwnSaved m i (LoadHelped h j) = NoMark m i × SavedHeld m.head i h j
OwnSaved m i (LinkHelped h j a) = NoMark m i × SavedHeld m.head i h j
OwnSaved m i (Validate h j a) = OnlyMark m i j × Helping m i h j a
OwnSaved m i (HandOver h j a) = OnlyMark m i j × HandingOver m i h j a
OwnSaved m i (ReloadHandOver h j a) = OnlyMark m i j × HandingOver m i h j a
OwnSaved m i (Release h j a) = OnlyMark m i j × Releasing m i h j a
OwnSaved m i (ReloadRelease h j a) = OnlyMark m i j × Releasing m i h j a
OwnSaved m i (ClearHead h j) = NoMark m i × Clearing m i h j
OwnSaved m i (ReloadClear h j) = NoMark m i × Clearing m i h j
OwnSaved m i (LoadExit v) = NoMark m i × Unit {0}
OwnSaved m i (LinkExit h v) = NoMark m i × HeldBy i h
OwnSaved m i (ClearExit h v) = NoMark m i × HeldBy i h
OwnSaved m i (ReleaseExit h v) = NoMark m i × (NotHolder h.value i × (has i h.marks ≡ true))
OwnSaved m i (Retract v) = NoMark m i × Unit {0}

-- The invariant of one task, whose operation is o.
pub record TaskSafe (m : Memory) (i o : ℕ) (f : Phase) : Type 0 where
  pub own : OwnContent (content m i) o (kind f)
  pub head : OwnHead m i (kind f)
  pub saved : OwnSaved m i f

-- The invariant: G1, and T1 to T7 of every task.
pub record Safe (c : Config) : Type 0 where
  pub holder : (i : ℕ) → HolderAnnounces c.memory i
  pub each : (i : ℕ) → TaskSafe c.memory i (c.task i).operation (c.task i).phase
