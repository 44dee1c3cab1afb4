-- What a step leads to, from an encoded record and an encoded result.
use mathlib.Core.Path.{◌≡◌, sym, ap₂, subst}
use mathlib.Core.Bool.{Bool, true, false, cond}
use mathlib.Core.List.{List}
use mathlib.Core.Logic.{ite}
use Prim.Native.Nat.{ℕ, ◌<◌, ◌≤◌}
use native.Mathlib.Decide.{ℕ_discrete}
use native.Mathlib.Omega.{arith}
use Rattle.laws.specs.Decision.{decided}
use Rattle.laws.proofs.Choice.{choices}
use Rattle.laws.proofs.Decision.{eqb_decided}
use Rattle.cells.specs.Marks.{has}
use Rattle.cells.specs.Layout.{marks_width, has_mark, announcement_of}
use Rattle.table.specs.declared.Shape.{Shape}
use Rattle.machine.specs.Object.{Object}
use Rattle.machine.specs.Outcome.{Outcome}
use Rattle.machine.specs.Memory.{HeadValue, Free, Held, Content, Empty, Op, Resp, Cell, Memory, head_dec, announcement_dec}
use Rattle.machine.specs.Machine as machine
use Rattle.machine.specs.Machine.{Idle, ReadOnly, Announce, Poll, LoadHead, LinkHead, LoadPriority, LoadOwn, Apply, ReloadApply, LoadHelped, LinkHelped, Validate, HandOver, ReloadHandOver, Release, ReloadRelease, ClearHead, ReloadClear, LoadExit, LinkExit, ClearExit, ReleaseExit, Retract, linked, plan, result, after}
use Rattle.machine.specs.Form.{MemoryFormed, PhaseFormed}
use Rattle.transition.specs.declared.access.Found.TheVariants.{Swapped, Unswapped}
use Rattle.transition.specs.declared.access.Next.{Next}
use Rattle.transition.specs.declared.access.Next.TheVariants.{Go, Turn, End}
use Rattle.transition.specs.Transition.{made_in, after_poll, after_link, after_priority, after_own, after_link_helped, holder_is, after_exit, next_of}
use Rattle.transition.specs.Object.{ObjectTable, object_of}
use Rattle.transition.specs.Encoding.{head_in, announcement_in, encode_head, encode_announcement, kept_outcome, kept, encode_result}
use Rattle.transition.proofs.EncodedCells.{head_read_lem, head_has, head_linked, announcement_read_lem, announcement_has, announcement_linked}
use Rattle.transition.proofs.Payloads.{response_kept, moved_kept}
use Rattle.transition.proofs.Plans.{record_in, head_state}

-- What a step leads to, and how a record says it.
pub data Encodes : machine.Next → Next → Type 0 where
  goes : (f : machine.Phase) → Encodes (machine.Go f) (Go (kept f).phase (kept f).payload (kept f).head (kept f).announcement)
  turns : Encodes (machine.Turn Poll) Turn
  ends : (v : Outcome) → Encodes (machine.End v) (End v.response v.moved)

-- By whether a swap was made.
swap : (made : Bool) {y y' : machine.Next} {z z' : Next} → Encodes y z → Encodes y' z' → Encodes (cond made y y') (cond (made_in (cond made Swapped Unswapped)) z z')
swap true e e' = e
swap false e e' = e'

-- By what was read in a cell.
poll_next : (c : Content) → Encodes (machine.after_poll c) (after_poll (announcement_in c))
poll_next Empty = goes LoadHead
poll_next (Op o) = goes LoadHead
poll_next (Resp v) = goes (LoadExit v)

link_next : (h : Cell HeadValue) (v : HeadValue) → Encodes (machine.after_link h v) (after_link (encode_head h) (head_in v))
link_next h (Free q) = goes (LoadPriority h)
link_next h (Held q j r) = goes (LoadHelped h j)

priority_next : (h : Cell HeadValue) (p : ℕ) (c : Content) → Encodes (machine.after_priority h p c) (after_priority (encode_head h) p (announcement_in c))
priority_next h p Empty = goes (LoadOwn h)
priority_next h p (Op o) = goes (Apply h p o)
priority_next h p (Resp v) = goes (LoadOwn h)

own_next : (h : Cell HeadValue) (i : ℕ) (c : Content) → Encodes (machine.after_own h i c) (after_own (encode_head h) i (announcement_in c))
own_next h i Empty = goes Poll
own_next h i (Op o) = goes (Apply h i o)
own_next h i (Resp v) = goes (LoadExit v)

helped_next : (h : Cell HeadValue) (j : ℕ) (a : Cell Content) (c : Content) → Encodes (machine.after_link_helped h j a c) (after_link_helped (encode_head h) j (encode_announcement a) (announcement_in c))
helped_next h j a Empty = goes (Release h j a)
helped_next h j a (Op o) = goes (Validate h j a)
helped_next h j a (Resp v) = goes (Release h j a)

module _ (i : ℕ) (v : Outcome) (h : Cell HeadValue) where
  holder_next : (marked : Bool) {P : Type 0} (d : Dec P) → Encodes (cond marked (ite d (machine.Go (ClearExit h v)) (machine.Go (ReleaseExit h v))) (ite d (machine.Go (LinkExit h v)) (machine.Go (Retract v)))) (after_exit (kept_outcome v) (encode_head h) marked (decided d))
  holder_next true (yes e) = goes (ClearExit h v)
  holder_next true (no e) = goes (ReleaseExit h v)
  holder_next false (yes e) = goes (LinkExit h v)
  holder_next false (no e) = goes (Retract v)

  exit_next : (marked : Bool) (u : HeadValue) → Encodes (machine.after_exit marked i v h u) (after_exit (kept_outcome v) (encode_head h) marked (holder_is i (head_in u)))
  exit_next true (Free q) = goes (ReleaseExit h v)
  exit_next false (Free q) = goes (Retract v)
  exit_next true (Held q j r) = rw (eqb_decided j i (ℕ_discrete j i)) (holder_next true (ℕ_discrete j i))
  exit_next false (Held q j r) = rw (eqb_decided j i (ℕ_discrete j i)) (holder_next false (ℕ_discrete j i))

module _ (file : List ℕ) (shape : Shape) (table : ObjectTable file shape) (n : ℕ) (most : n ≤ marks_width) (m : Memory) (ranged : MemoryFormed (object_of file shape) n m) (i p x s : ℕ) (below : i < n) where
  abbrev object : Object
  object = object_of file shape

  -- What the step leads to by the own mark in the head, or in the announcement of task j.
  head_marked : {y y' : machine.Next} {z z' : Next} → Encodes y z → Encodes y' z' → Encodes (cond (has i m.head.marks) y y') (cond (has_mark i (encode_head m.head)) z z')
  head_marked e e' = rw (head_has file shape table n most m.head ranged.head i below) (choices Encodes (has i m.head.marks) e e')

  announcement_marked : (j : ℕ) {y y' : machine.Next} {z z' : Next} → Encodes y z → Encodes y' z' → Encodes (cond (has i (m.announcement j).marks) y y') (cond (has_mark i (encode_announcement (m.announcement j))) z z')
  announcement_marked j e e' = rw (announcement_has file shape table n most (m.announcement j) (ranged.announcement j) i below) (choices Encodes (has i (m.announcement j).marks) e e')

  -- Whether the swap is made that compares with a saved cell.
  abbrev head_made : Cell HeadValue → Bool
  head_made h = decided (head_dec m.head h)

  abbrev announcement_made : ℕ → Cell Content → Bool
  announcement_made j a = decided (announcement_dec (m.announcement j) a)

  -- What an announcement says.
  content_read : (j : ℕ) → announcement_of (encode_announcement (m.announcement j)) ≡ announcement_in (m.announcement j).value
  content_read j = announcement_read_lem file shape table n most (m.announcement j) (ranged.announcement j)

  -- What follows from the record and the result of its access.
  pub next_simulates : (f : machine.Phase) → PhaseFormed object n f → Encodes (after object i p x f (result (plan object i p x f) m)) (next_of file shape i p (record_in f p x s) (kept f).phase (encode_result (result (plan object i p x f) m)))
  unfolding plan result after next_of
  next_simulates Idle r = goes Idle
  next_simulates ReadOnly r = rw (head_state file shape table n most m.head ranged.head) (ends _)
  next_simulates Announce r = goes Poll
  next_simulates Poll r = rw (content_read i) (poll_next (m.announcement i).value)
  next_simulates LoadHead r = goes (LinkHead m.head)
  next_simulates (LinkHead h) r = rw (head_linked file shape table n most h r i below, head_read_lem file shape table n most h r) (swap (head_made h) (link_next (linked i h) h.value) (goes Poll))
  next_simulates (LoadPriority h) r = rw (content_read p) (priority_next h p (m.announcement p).value)
  next_simulates (LoadOwn h) r = rw (content_read i) (own_next h i (m.announcement i).value)
  next_simulates (Apply h j o) r = swap (head_made h) turns (goes (ReloadApply h j o))
  next_simulates (ReloadApply h j o) r = head_marked (goes (Apply m.head j o)) (goes Poll)
  next_simulates (LoadHelped h j) r = goes (LinkHelped h j (m.announcement j))
  next_simulates (LinkHelped h j a) r = rw (announcement_linked file shape table n most a r.2 i below, announcement_read_lem file shape table n most a r.2) (swap (announcement_made j a) (helped_next h j (linked i a) a.value) (goes Poll))
  next_simulates (Validate h j a) r = head_marked (goes (HandOver h j a)) (goes (Release h j a))
  next_simulates (HandOver h j a) r = swap (announcement_made j a) (goes (ClearHead h j)) (goes (ReloadHandOver h j a))
  next_simulates (ReloadHandOver h j a) r = announcement_marked j (goes (HandOver h j (m.announcement j))) (goes (ClearHead h j))
  next_simulates (Release h j a) r = swap (announcement_made j a) (goes (ClearHead h j)) (goes (ReloadRelease h j a))
  next_simulates (ReloadRelease h j a) r = announcement_marked j (goes (Release h j (m.announcement j))) (goes (ClearHead h j))
  next_simulates (ClearHead h j) r = swap (head_made h) (goes Poll) (goes (ReloadClear h j))
  next_simulates (ReloadClear h j) r = head_marked (goes (ClearHead m.head j)) (goes Poll)
  next_simulates (LoadExit v) r = rw (head_has file shape table n most m.head ranged.head i below, head_read_lem file shape table n most m.head ranged.head) (exit_next i v m.head (has i m.head.marks) m.head.value)
  next_simulates (LinkExit h v) r = rw (head_linked file shape table n most h r.0 i below) (swap (head_made h) (goes (ClearExit (linked i h) v)) (goes (LoadExit v)))
  next_simulates (ClearExit h v) r = swap (head_made h) (goes (Retract v)) (goes (LoadExit v))
  next_simulates (ReleaseExit h v) r = swap (head_made h) (goes (Retract v)) (goes (LoadExit v))
  next_simulates (Retract v) r =
      let small : v.response < 65536 = omega (arith, r) in
      subst (Encodes (machine.End v)) (sym (ap₂ End (response_kept v.response v.moved small) (moved_kept v.response v.moved small))) (ends v)
