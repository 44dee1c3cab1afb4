-- What each phase does: the access that it plans, the entry of the table that it uses, and what follows from what comes back.
use Rattle.std.specs.Prelude.{Bool, true, false, cond, List, ℕ, ◌+◌, ◌*◌, ◌/◌, ◌%◌, eqb}
use Rattle.laws.specs.Bit.{bit}
use Rattle.cells.specs.Layout.{has_mark, add_mark, remove_mark, head_word, head_of, announcement_word, announcement_of}
use Rattle.cells.specs.declared.head.Head.{Head}
use Rattle.cells.specs.declared.head.Head.TheVariants.{Free, Held}
use Rattle.cells.specs.declared.announcement.Announcement.{Announcement}
use Rattle.cells.specs.declared.announcement.Announcement.TheVariants as content
use Rattle.table.specs.declared.Shape.{Shape}
use Rattle.table.specs.Entries.{entry_of, entry_in_range, moves}
use Rattle.records.specs.declared.record.Task.{Task}
use Rattle.records.specs.declared.phase.Phase.{Phase}
use Rattle.records.specs.declared.phase.Phase.TheVariants.{Idle, ReadOnly, Announce, Poll, LoadHead, LinkHead, LoadPriority, LoadOwn, LoadExit, LinkExit, ClearExit, ReleaseExit, Retract, ClearHead, ReloadClear, Apply, ReloadApply, LoadHelped, LinkHelped, Validate, HandOver, ReloadHandOver, Release, ReloadRelease}
use Rattle.transition.specs.declared.access.Access.{Access}
use Rattle.transition.specs.declared.access.Access.TheVariants.{Read, Write, Swap}
use Rattle.transition.specs.declared.access.Found.{Found}
use Rattle.transition.specs.declared.access.Found.TheVariants.{Word, Stored, Swapped, Unswapped}
use Rattle.transition.specs.declared.access.Next.{Next}
use Rattle.transition.specs.declared.access.Next.TheVariants.{Go, Turn, End}

-- ---- Words that a step writes

-- The state in a head.
abbrev pub state_in : Head → ℕ
state_in (Free q) = q
state_in (Held q j r v) = q

-- The response in a head, 0 without a holder.
abbrev pub response_in : Head → ℕ
response_in (Free q) = 0
response_in (Held q j r v) = r

-- Whether a head says that the state moved; without a holder it doesn't.
abbrev pub moved_in : Head → Bool
moved_in (Free q) = false
moved_in (Held q j r v) = v

-- The payload that keeps an outcome: the response in bits 0 to 15, and bit 16 if the state moved.
abbrev pub payload_of : ℕ → Bool → ℕ
payload_of response moved = response + 65536 * bit moved

-- The operation or the response that a payload names.
abbrev pub named : ℕ → ℕ
named payload = payload % 65536

-- Whether a payload says that the state moved. Its higher bits are ignored.
abbrev pub moved_by : ℕ → Bool
moved_by payload = eqb (payload / 65536 % 2) 1

-- The head with its state alone.
unfoldable pub cleared_word : ℕ → ℕ
cleared_word h = head_word (Free (state_in (head_of h))) 0

-- The head after an operation of task j, by the table's entry.
unfoldable pub applied_word : List ℕ → Shape → (h j o : ℕ) → ℕ
applied_word file shape h j o =
    let q = state_in (head_of h) in
    let entry = entry_of file shape q o in
    head_word (Held entry.next j entry.response (moves file shape q o)) 0

-- The announcement of an operation; the outcome in a head, handed over.
unfoldable pub operation_word : ℕ → ℕ
operation_word o = announcement_word (content.Operation o) 0

unfoldable pub response_word : ℕ → ℕ
response_word h = announcement_word (content.Response (response_in (head_of h)) (moved_in (head_of h))) 0

-- ---- The access of the next step of task i, which helps task p first. It follows from the table, the numbers and the record.

-- Cell 0 is the head; cell j + 1 is the announcement of task j.
abbrev pub read_head : Access
read_head = Read 0

abbrev pub read_announcement : ℕ → Access
read_announcement j = Read (j + 1)

abbrev pub swap_head : Task → ℕ → Access
swap_head t written = Swap 0 t.head written

abbrev pub swap_announcement : ℕ → Task → ℕ → Access
swap_announcement j t written = Swap (j + 1) t.announcement written

unfoldable pub plan_of : List ℕ → Shape → (i p : ℕ) → Task → Phase → Access
plan_of file shape i p t Idle = read_head
plan_of file shape i p t ReadOnly = read_head
plan_of file shape i p t Announce = Write (i + 1) (operation_word t.operation)
plan_of file shape i p t Poll = read_announcement i
plan_of file shape i p t LoadHead = read_head
plan_of file shape i p t LinkHead = swap_head t (add_mark i t.head)
plan_of file shape i p t LoadPriority = read_announcement p
plan_of file shape i p t LoadOwn = read_announcement i
plan_of file shape i p t LoadExit = read_head
plan_of file shape i p t LinkExit = swap_head t (add_mark i t.head)
plan_of file shape i p t ClearExit = swap_head t (cleared_word t.head)
plan_of file shape i p t ReleaseExit = swap_head t (remove_mark i t.head)
plan_of file shape i p t Retract = Write (i + 1) 0
plan_of file shape i p t ClearHead = swap_head t (cleared_word t.head)
plan_of file shape i p t ReloadClear = read_head
plan_of file shape i p t (Apply j) = swap_head t (applied_word file shape t.head j (named t.payload))
plan_of file shape i p t (ReloadApply j) = read_head
plan_of file shape i p t (LoadHelped j) = read_announcement j
plan_of file shape i p t (LinkHelped j) = swap_announcement j t (add_mark i t.announcement)
plan_of file shape i p t (Validate j) = read_head
plan_of file shape i p t (HandOver j) = swap_announcement j t (response_word t.head)
plan_of file shape i p t (ReloadHandOver j) = read_announcement j
plan_of file shape i p t (Release j) = swap_announcement j t (remove_mark i t.announcement)
plan_of file shape i p t (ReloadRelease j) = read_announcement j

-- ---- The entry that a step uses

-- The one entry that a step uses is in range, if it uses one: that of the state read in ReadOnly, that of the saved state in Apply.
abbrev pub used_in_range : List ℕ → Shape → Task → ℕ → Phase → Bool
used_in_range file shape t old Idle = true
used_in_range file shape t old ReadOnly = entry_in_range file shape (state_in (head_of old)) t.operation
used_in_range file shape t old Announce = true
used_in_range file shape t old Poll = true
used_in_range file shape t old LoadHead = true
used_in_range file shape t old LinkHead = true
used_in_range file shape t old LoadPriority = true
used_in_range file shape t old LoadOwn = true
used_in_range file shape t old LoadExit = true
used_in_range file shape t old LinkExit = true
used_in_range file shape t old ClearExit = true
used_in_range file shape t old ReleaseExit = true
used_in_range file shape t old Retract = true
used_in_range file shape t old ClearHead = true
used_in_range file shape t old ReloadClear = true
used_in_range file shape t old (Apply j) = entry_in_range file shape (state_in (head_of t.head)) (named t.payload)
used_in_range file shape t old (ReloadApply j) = true
used_in_range file shape t old (LoadHelped j) = true
used_in_range file shape t old (LinkHelped j) = true
used_in_range file shape t old (Validate j) = true
used_in_range file shape t old (HandOver j) = true
used_in_range file shape t old (ReloadHandOver j) = true
used_in_range file shape t old (Release j) = true
used_in_range file shape t old (ReloadRelease j) = true

-- ---- What follows from the record and what came back

-- The word that was read, 0 if none was; whether the swap was made.
abbrev pub word_in : Found → ℕ
word_in (Word w) = w
word_in Stored = 0
word_in Swapped = 0
word_in Unswapped = 0

abbrev pub made_in : Found → Bool
made_in (Word w) = false
made_in Stored = false
made_in Swapped = true
made_in Unswapped = false

-- Another phase that keeps nothing; a payload; a head; a head and an announcement.
abbrev pub bare : Phase → Next
bare f = Go f 0 0 0

abbrev pub with_payload : Phase → ℕ → Next
with_payload f v = Go f v 0 0

abbrev pub with_head : Phase → ℕ → Next
with_head f h = Go f 0 h 0

abbrev pub with_both : Phase → (h a : ℕ) → Next
with_both f h a = Go f 0 h a

-- After a link that fails a task looks for its own response before it tries again.
abbrev pub failed_link : Next
failed_link = bare Poll

-- The exit, with the own outcome.
abbrev pub to_exit : ℕ → Bool → Next
to_exit response moved = with_payload LoadExit (payload_of response moved)

abbrev pub after_poll : Announcement → Next
after_poll content.Empty = bare LoadHead
after_poll (content.Operation o) = bare LoadHead
after_poll (content.Response r v) = to_exit r v

abbrev pub after_link : ℕ → Head → Next
after_link h (Free q) = with_head LoadPriority h
after_link h (Held q j r v) = with_head (LoadHelped j) h

abbrev pub after_priority : (h p : ℕ) → Announcement → Next
after_priority h p content.Empty = with_head LoadOwn h
after_priority h p (content.Operation o) = Go (Apply p) o h 0
after_priority h p (content.Response r v) = with_head LoadOwn h

abbrev pub after_own : (h i : ℕ) → Announcement → Next
after_own h i content.Empty = bare Poll
after_own h i (content.Operation o) = Go (Apply i) o h 0
after_own h i (content.Response r v) = to_exit r v

-- A helper goes on only with a cell that holds an operation.
abbrev pub after_link_helped : (h j a : ℕ) → Announcement → Next
after_link_helped h j a content.Empty = with_both (Release j) h a
after_link_helped h j a (content.Operation o) = with_both (Validate j) h a
after_link_helped h j a (content.Response r v) = with_both (Release j) h a

-- Whether task i holds the head.
abbrev pub holder_is : ℕ → Head → Bool
holder_is i (Free q) = false
holder_is i (Held q j r v) = eqb j i

-- With the payload v, by the own mark in the head h and by whether the task holds it.
abbrev pub after_exit : (v h : ℕ) → (marked holder : Bool) → Next
after_exit v h true true = Go ClearExit v h 0
after_exit v h true false = Go ReleaseExit v h 0
after_exit v h false true = Go LinkExit v h 0
after_exit v h false false = with_payload Retract v

-- What the step of task i leads to, which helps task p first.
unfoldable pub next_of : List ℕ → Shape → (i p : ℕ) → Task → Phase → Found → Next
next_of file shape i p t Idle g = bare Idle
next_of file shape i p t ReadOnly g =
    let q = state_in (head_of (word_in g)) in
    End (entry_of file shape q t.operation).response (moves file shape q t.operation)
next_of file shape i p t Announce g = bare Poll
next_of file shape i p t Poll g = after_poll (announcement_of (word_in g))
next_of file shape i p t LoadHead g = with_head LinkHead (word_in g)
next_of file shape i p t LinkHead g = cond (made_in g) (after_link (add_mark i t.head) (head_of t.head)) failed_link
next_of file shape i p t LoadPriority g = after_priority t.head p (announcement_of (word_in g))
next_of file shape i p t LoadOwn g = after_own t.head i (announcement_of (word_in g))
next_of file shape i p t LoadExit g = after_exit t.payload (word_in g) (has_mark i (word_in g)) (holder_is i (head_of (word_in g)))
next_of file shape i p t LinkExit g = cond (made_in g) (Go ClearExit t.payload (add_mark i t.head) 0) (with_payload LoadExit t.payload)
next_of file shape i p t ClearExit g = cond (made_in g) (with_payload Retract t.payload) (with_payload LoadExit t.payload)
next_of file shape i p t ReleaseExit g = cond (made_in g) (with_payload Retract t.payload) (with_payload LoadExit t.payload)
next_of file shape i p t Retract g = End (named t.payload) (moved_by t.payload)
next_of file shape i p t ClearHead g = cond (made_in g) (bare Poll) (with_head ReloadClear t.head)
next_of file shape i p t ReloadClear g = cond (has_mark i (word_in g)) (with_head ClearHead (word_in g)) (bare Poll)
next_of file shape i p t (Apply j) g = cond (made_in g) Turn (Go (ReloadApply j) t.payload t.head 0)
next_of file shape i p t (ReloadApply j) g = cond (has_mark i (word_in g)) (Go (Apply j) t.payload (word_in g) 0) (bare Poll)
next_of file shape i p t (LoadHelped j) g = with_both (LinkHelped j) t.head (word_in g)
next_of file shape i p t (LinkHelped j) g =
    cond (made_in g) (after_link_helped t.head j (add_mark i t.announcement) (announcement_of t.announcement)) failed_link
next_of file shape i p t (Validate j) g =
    cond (has_mark i (word_in g)) (with_both (HandOver j) t.head t.announcement) (with_both (Release j) t.head t.announcement)
next_of file shape i p t (HandOver j) g = cond (made_in g) (with_head ClearHead t.head) (with_both (ReloadHandOver j) t.head t.announcement)
next_of file shape i p t (ReloadHandOver j) g =
    cond (has_mark i (word_in g)) (with_both (HandOver j) t.head (word_in g)) (with_head ClearHead t.head)
next_of file shape i p t (Release j) g = cond (made_in g) (with_head ClearHead t.head) (with_both (ReloadRelease j) t.head t.announcement)
next_of file shape i p t (ReloadRelease j) g =
    cond (has_mark i (word_in g)) (with_both (Release j) t.head (word_in g)) (with_head ClearHead t.head)
