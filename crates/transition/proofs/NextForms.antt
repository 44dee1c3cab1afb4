-- A step from a record in form saves what is in form, on any cells: over all phases.
use mathlib.Core.Path.{◌≡◌, refl}
use mathlib.Core.Bool.{Bool, true, false, cond}
use mathlib.Core.List.{List}
use Prim.Native.Nat.{ℕ, ◌<◌, ◌≤◌}
use native.Mathlib.Omega.{arith}
use borrow.Author.Tests.{ltb-true}
use lib.Dec.{eqb}
use Rattle.laws.proofs.Choice.{choice}
use Rattle.laws.proofs.Clash.{clash}
use Rattle.cells.specs.Form.{head_in_form, announcement_in_form}
use Rattle.cells.specs.Layout.{has_mark, add_mark, head_of, announcement_of}
use Rattle.cells.specs.Statement.{CellFits}
use Rattle.cells.specs.declared.head.Head.{Head}
use Rattle.cells.specs.declared.head.Head.TheVariants.{Free, Held}
use Rattle.cells.specs.declared.announcement.Announcement.{Announcement}
use Rattle.cells.specs.declared.announcement.Announcement.TheVariants as content
use Rattle.cells.proofs.AnnouncementLaws.{announcement_range}
use Rattle.cells.proofs.Images.{no_head, no_announcement}
use Rattle.cells.proofs.Linked.{head_linked_form, announcement_linked_form}
use Rattle.cells.proofs.Theorem.{point_by_point, holder_is_task}
use Rattle.table.specs.declared.Shape.{Shape}
use Rattle.records.specs.declared.record.Task.{Task}
use Rattle.records.specs.declared.phase.Phase.{Phase}
use Rattle.records.specs.declared.phase.Phase.TheVariants.{Idle, ReadOnly, Announce, Poll, LoadHead, LinkHead, LoadPriority, LoadOwn, LoadExit, LinkExit, ClearExit, ReleaseExit, Retract, ClearHead, ReloadClear, Apply, ReloadApply, LoadHelped, LinkHelped, Validate, HandOver, ReloadHandOver, Release, ReloadRelease}
use Rattle.records.specs.Phase.{phase_number}
use Rattle.records.specs.Statement.{PendingPoints}
use Rattle.records.proofs.Phases.{WorksBelow}
use Rattle.records.proofs.Saved.{Saved, plain, applies, reloads_apply, loads_helped, links_helped, validates, hands_over, reloads_hand_over, releases, reloads_release}
use Rattle.transition.specs.declared.access.Access.{Access}
use Rattle.transition.specs.declared.access.Access.TheVariants.{Read, Write, Swap}
use Rattle.transition.specs.declared.access.Found.{Found}
use Rattle.transition.specs.declared.access.Next.{Next}
use Rattle.transition.specs.declared.access.Next.TheVariants.{Go, Turn, End}
use Rattle.transition.specs.Transition.{plan_of, next_of, word_in, made_in, after_poll, after_link, after_priority, after_own, after_link_helped, holder_is, after_exit}

-- A word that is read is in form.
abbrev pub FoundFormed : Shape → ℕ → Access → Found → Type 0
FoundFormed shape n (Read cell) g = CellFits shape.states shape.operations n cell (word_in g)
FoundFormed shape n (Write cell w) g = Unit {0}
FoundFormed shape n (Swap cell x w) g = Unit {0}

-- What a step leads to is in form: what it saves, if the operation goes on; a turn goes on in Poll.
abbrev pub NextFormed : Shape → ℕ → Next → Type 0
NextFormed shape n (Go f v h a) = Saved shape n f v h a
NextFormed shape n Turn = Saved shape n Poll 0 0 0
NextFormed shape n (End r v) = Unit {0}

module _ (file : List ℕ) (shape : Shape) (n c i : ℕ) (t : Task) (few : n ≤ 8) (below : i < n) (own : PendingPoints shape n c t) where
  abbrev HeadFormed : ℕ → Type 0
  HeadFormed w = head_in_form shape.states n w ≡ true

  abbrev AnnouncementFormed : ℕ → Type 0
  AnnouncementFormed w = announcement_in_form shape.operations n w ≡ true

  empty_head : HeadFormed 0
  empty_head = no_head shape.states n (omega (arith, ((point_by_point shape.states n t.head).0 own.head).state))

  empty : AnnouncementFormed 0
  empty = no_announcement shape.operations n

  some_operation : 0 < shape.operations
  some_operation = omega (arith, own.operation)

  linked_head : HeadFormed (add_mark i t.head)
  linked_head = head_linked_form i n t.head below few shape.states own.head

  -- Phases to which many steps lead.
  polls : Saved shape n Poll 0 0 0
  polls = plain shape n tt refl (omega arith) empty_head

  exits : (v : ℕ) → Saved shape n LoadExit v 0 0
  exits v = plain shape n tt refl (omega arith) empty_head

  retracts : (v : ℕ) → Saved shape n Retract v 0 0
  retracts v = plain shape n tt refl (omega arith) empty_head

  clears : (h : ℕ) → HeadFormed h → Saved shape n ClearHead 0 h 0
  clears h e = plain shape n tt refl (omega arith) e

  -- The operation in an announcement.
  operation_below : (w o : ℕ) → AnnouncementFormed w → announcement_of w ≡ content.Operation o → o < shape.operations
  operation_below w o e said = ltb-true o shape.operations (rw said at (announcement_range shape.operations n w e))

  -- ---- What follows by what a word says

  after_poll_lem : (x : Announcement) → NextFormed shape n (after_poll x)
  after_poll_lem content.Empty = plain shape n tt refl (omega arith) empty_head
  after_poll_lem (content.Operation o) = plain shape n tt refl (omega arith) empty_head
  after_poll_lem (content.Response r v) = exits _

  -- The holder of the linked head is a task below n.
  after_link_lem : (x : Head) → head_of t.head ≡ x → NextFormed shape n (after_link (add_mark i t.head) x)
  after_link_lem (Free q) e = plain shape n tt refl (omega arith) linked_head
  after_link_lem (Held q j r v) e = loads_helped shape n few j (holder_is_task shape.states n t.head own.head q j r v e) some_operation linked_head empty

  after_priority_lem : (w : ℕ) → AnnouncementFormed w → (x : Announcement) → announcement_of w ≡ x → NextFormed shape n (after_priority t.head t.priority x)
  after_priority_lem w e content.Empty s = plain shape n tt refl (omega arith) own.head
  after_priority_lem w e (content.Operation o) s = applies shape n few t.priority own.priority (operation_below w o e s) own.head empty
  after_priority_lem w e (content.Response r v) s = plain shape n tt refl (omega arith) own.head

  after_own_lem : (w : ℕ) → AnnouncementFormed w → (x : Announcement) → announcement_of w ≡ x → NextFormed shape n (after_own t.head i x)
  after_own_lem w e content.Empty s = polls
  after_own_lem w e (content.Operation o) s = applies shape n few i below (operation_below w o e s) own.head empty
  after_own_lem w e (content.Response r v) s = exits _

  after_link_helped_lem : (j : ℕ) → j < n → (x : Announcement) → NextFormed shape n (after_link_helped t.head j (add_mark i t.announcement) x)
  after_link_helped_lem j l x = by x
    where
      linked : AnnouncementFormed (add_mark i t.announcement)
      linked = announcement_linked_form i n t.announcement below few shape.operations own.announcement

      by : (x : Announcement) → NextFormed shape n (after_link_helped t.head j (add_mark i t.announcement) x)
      by content.Empty = releases shape n few j l some_operation own.head linked
      by (content.Operation o) = validates shape n few j l some_operation own.head linked
      by (content.Response r v) = releases shape n few j l some_operation own.head linked

  after_exit_lem : (w : ℕ) → HeadFormed w → (marked holder : Bool) → NextFormed shape n (after_exit t.payload w marked holder)
  after_exit_lem w e true true = plain shape n tt refl (omega arith) e
  after_exit_lem w e true false = plain shape n tt refl (omega arith) e
  after_exit_lem w e false true = plain shape n tt refl (omega arith) e
  after_exit_lem w e false false = retracts _

  -- ---- Every phase of a pending operation

  either : (b : Bool) (x y : Next) → NextFormed shape n x → NextFormed shape n y → NextFormed shape n (cond b x y)
  either = choice (NextFormed shape n)

  pub next_formed : (f : Phase) → phase_number f ≡ t.phase → eqb (phase_number f) 0 ≡ false → WorksBelow n f → (g : Found) → FoundFormed shape n (plan_of file shape i t.priority t f) g
      → NextFormed shape n (next_of file shape i t.priority t f g)
  unfolding plan_of next_of
  next_formed Idle k e l g r = clash refl e
  next_formed ReadOnly k e l g r = tt
  next_formed Announce k e l g r = polls
  next_formed Poll k e l g r = after_poll_lem (announcement_of (word_in g))
  next_formed LoadHead k e l g r = plain shape n tt refl (omega arith) (r.head refl)
  next_formed LinkHead k e l g r = either (made_in g) _ _ (after_link_lem (head_of t.head) refl) polls
  next_formed LoadPriority k e l g r = after_priority_lem (word_in g) (r.announcement t.priority refl) (announcement_of (word_in g)) refl
  next_formed LoadOwn k e l g r = after_own_lem (word_in g) (r.announcement i refl) (announcement_of (word_in g)) refl
  next_formed LoadExit k e l g r = after_exit_lem (word_in g) (r.head refl) (has_mark i (word_in g)) (holder_is i (head_of (word_in g)))
  next_formed LinkExit k e l g r = either (made_in g) _ _ (plain shape n tt refl (omega arith) linked_head) (exits _)
  next_formed ClearExit k e l g r = either (made_in g) _ _ (retracts _) (exits _)
  next_formed ReleaseExit k e l g r = either (made_in g) _ _ (retracts _) (exits _)
  next_formed Retract k e l g r = tt
  next_formed ClearHead k e l g r = either (made_in g) _ _ polls (plain shape n tt refl (omega arith) own.head)
  next_formed ReloadClear k e l g r = either (has_mark i (word_in g)) _ _ (clears (word_in g) (r.head refl)) polls
  next_formed (Apply j) k e l g r = either (made_in g) _ _ polls (reloads_apply shape n few j l (own.payload (omega arith) (omega arith)) own.head empty)
  next_formed (ReloadApply j) k e l g r = either (has_mark i (word_in g)) _ _ (applies shape n few j l (own.payload (omega arith) (omega arith)) (r.head refl) empty) polls
  next_formed (LoadHelped j) k e l g r = links_helped shape n few j l some_operation own.head (r.announcement j refl)
  next_formed (LinkHelped j) k e l g r = either (made_in g) _ _ (after_link_helped_lem j l (announcement_of t.announcement)) polls
  next_formed (Validate j) k e l g r =
      either (has_mark i (word_in g)) _ _ (hands_over shape n few j l some_operation own.head own.announcement) (releases shape n few j l some_operation own.head own.announcement)
  next_formed (HandOver j) k e l g r = either (made_in g) _ _ (clears _ own.head) (reloads_hand_over shape n few j l some_operation own.head own.announcement)
  next_formed (ReloadHandOver j) k e l g r =
      either (has_mark i (word_in g)) _ _ (hands_over shape n few j l some_operation own.head (r.announcement j refl)) (clears _ own.head)
  next_formed (Release j) k e l g r = either (made_in g) _ _ (clears _ own.head) (reloads_release shape n few j l some_operation own.head own.announcement)
  next_formed (ReloadRelease j) k e l g r = either (has_mark i (word_in g)) _ _ (releases shape n few j l some_operation own.head (r.announcement j refl)) (clears _ own.head)
