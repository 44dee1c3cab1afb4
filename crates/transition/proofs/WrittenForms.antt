-- What a step from a record in form writes is in form, on any cells: over all phases.
use mathlib.Core.Path.{◌≡◌, ◌∙◌}
use mathlib.Core.Bool.{true, and-eq-true_iff}
use mathlib.Core.List.{List}
use Prim.Native.Nat.{ℕ, ◌+◌, ◌^◌, ◌<◌, ◌≤◌}
use native.Mathlib.Nat.{mod-lt}
use native.Mathlib.Omega.{arith}
use borrow.Author.Tests.{ltb-true, lt-ltb}
use lib.Dec.{eqb, ltb}
use lib.ListN.{get_or}
use lib.Pow.{pow_pos}
use Rattle.laws.proofs.Bits.{bit_below}
use Rattle.laws.proofs.Choice.{choice}
use Rattle.cells.specs.Field.{unpack}
use Rattle.cells.specs.Form.{holder_bound, head_in_form, announcement_in_form}
use Rattle.cells.specs.Layout.{add_mark, remove_mark, head_widths, head_of}
use Rattle.cells.specs.Statement.{CellFits}
use Rattle.cells.specs.declared.head.Head.{Head}
use Rattle.cells.specs.declared.head.Head.TheVariants.{Free, Held}
use Rattle.cells.specs.declared.announcement.Announcement.TheVariants as content
use Rattle.cells.proofs.AnnouncementLaws.{announcement_form}
use Rattle.cells.proofs.HeadLaws.{head_in_range, head_form, head_range}
use Rattle.cells.proofs.Images.{no_announcement}
use Rattle.cells.proofs.Linked.{head_linked_form, head_released_form, announcement_linked_form, announcement_released_form}
use Rattle.table.specs.declared.Shape.{Shape}
use Rattle.table.specs.File.{Bytes}
use Rattle.table.specs.Entries.{entry_of, moves}
use Rattle.table.proofs.Accepted.{next_below, response_byte}
use Rattle.table.proofs.Fitting.{Fitting}
use Rattle.records.specs.declared.record.Task.{Task}
use Rattle.records.specs.declared.phase.Phase.{Phase}
use Rattle.records.specs.declared.phase.Phase.TheVariants.{Idle, ReadOnly, Announce, Poll, LoadHead, LinkHead, LoadPriority, LoadOwn, LoadExit, LinkExit, ClearExit, ReleaseExit, Retract, ClearHead, ReloadClear, Apply, ReloadApply, LoadHelped, LinkHelped, Validate, HandOver, ReloadHandOver, Release, ReloadRelease}
use Rattle.records.specs.Statement.{PendingPoints}
use Rattle.records.proofs.Phases.{WorksBelow}
use Rattle.transition.specs.declared.access.Access.{Access}
use Rattle.transition.specs.declared.access.Access.TheVariants.{Read, Write, Swap}
use Rattle.transition.specs.Transition.{state_in, response_in, moved_in, named, cleared_word, applied_word, operation_word, response_word, plan_of, used_in_range}

-- A word that an access would write is in form for the cell that it touches.
abbrev pub WrittenFormed : Shape → ℕ → Access → Type 0
WrittenFormed shape n (Read cell) = Unit {0}
WrittenFormed shape n (Write cell w) = CellFits shape.states shape.operations n cell w
WrittenFormed shape n (Swap cell x w) = CellFits shape.states shape.operations n cell w

-- A response in a head is a byte.
response_in_lem : (h : ℕ) → response_in (head_of h) < 256
unfolding head_of unpack
response_in_lem h = choice (λ (x : Head). response_in x < 256) (eqb (get_or (unpack head_widths h) 3 0) 0) _ _ (omega arith) (mod-lt _ (omega arith))

module _ (file : List ℕ) (shape : Shape) (bytes : Bytes file) (fitting : Fitting file shape) (n c i : ℕ) (t : Task) (few : n ≤ 8) (below : i < n) (own : PendingPoints shape n c t) where
  -- A word that goes to the head, and one that goes to an announcement.
  on_head : (w : ℕ) → head_in_form shape.states n w ≡ true → CellFits shape.states shape.operations n 0 w
  on_head w e = record { head = λ _. e; announcement = λ j z. absurd (omega arith) }

  on_announcement : (j w : ℕ) → announcement_in_form shape.operations n w ≡ true → CellFits shape.states shape.operations n (j + 1) w
  on_announcement j w e = record { head = λ z. absurd (omega arith); announcement = λ _ _. e }

  no_marks : ltb 0 (2 ^ n) ≡ true
  no_marks = lt-ltb 0 (2 ^ n) (pow_pos n)

  -- The state in the saved head.
  state_below : state_in (head_of t.head) < shape.states
  state_below = by (head_of t.head) (head_range shape.states n t.head own.head)
    where
      by : (x : Head) → head_in_range shape.states n x ≡ true → state_in x < shape.states
      by (Free q) e = ltb-true q shape.states e
      by (Held q j r v) e = ltb-true q shape.states ((and-eq-true_iff (ltb q shape.states) (ltb j (holder_bound n))).0 e).0

  linked : head_in_form shape.states n (add_mark i t.head) ≡ true
  linked = head_linked_form i n t.head below few shape.states own.head

  released : head_in_form shape.states n (remove_mark i t.head) ≡ true
  released = head_released_form i n t.head below few shape.states own.head

  cleared : head_in_form shape.states n (cleared_word t.head) ≡ true
  unfolding cleared_word
  cleared = head_form (Free (state_in (head_of t.head))) 0 (omega (arith, state_below, fitting.few_states)) shape.states n ∙ rw (no_marks, lt-ltb _ _ state_below)

  -- The head after an operation of a task j below n, whose entry is in range.
  applied : (j o : ℕ) → j < n → (entry_of file shape (state_in (head_of t.head)) o).next < shape.states → head_in_form shape.states n (applied_word file shape t.head j o) ≡ true
  unfolding applied_word
  applied j o l next =
      let q = state_in (head_of t.head) in
      let entry = entry_of file shape q o in
      head_form (Held entry.next j entry.response (moves file shape q o)) 0
      (omega (arith, l, few, next, fitting.few_states, response_byte file shape bytes q o, bit_below (moves file shape q o)))
      shape.states n
      ∙ rw (no_marks, lt-ltb _ _ next, lt-ltb j (holder_bound n) (omega (arith, l, few)))

  announces : announcement_in_form shape.operations n (operation_word t.operation) ≡ true
  unfolding operation_word
  announces =
      announcement_form (content.Operation t.operation) 0 (omega (arith, own.operation, fitting.few_operations)) shape.operations n
      ∙ rw (no_marks, lt-ltb _ _ own.operation)

  hands_over : announcement_in_form shape.operations n (response_word t.head) ≡ true
  unfolding response_word
  hands_over =
      announcement_form (content.Response (response_in (head_of t.head)) (moved_in (head_of t.head))) 0
      (omega (arith, response_in_lem t.head, bit_below (moved_in (head_of t.head))))
      shape.operations n
      ∙ rw no_marks

  pub written_formed : (f : Phase) → WorksBelow n f → (old : ℕ) → used_in_range file shape t old f ≡ true → WrittenFormed shape n (plan_of file shape i t.priority t f)
  unfolding plan_of
  written_formed Idle l old u = tt
  written_formed ReadOnly l old u = tt
  written_formed Announce l old u = on_announcement i _ announces
  written_formed Poll l old u = tt
  written_formed LoadHead l old u = tt
  written_formed LinkHead l old u = on_head _ linked
  written_formed LoadPriority l old u = tt
  written_formed LoadOwn l old u = tt
  written_formed LoadExit l old u = tt
  written_formed LinkExit l old u = on_head _ linked
  written_formed ClearExit l old u = on_head _ cleared
  written_formed ReleaseExit l old u = on_head _ released
  written_formed Retract l old u = on_announcement i _ (no_announcement shape.operations n)
  written_formed ClearHead l old u = on_head _ cleared
  written_formed ReloadClear l old u = tt
  written_formed (Apply j) l old u = on_head _ (applied j (named t.payload) l (next_below file shape _ _ u))
  written_formed (ReloadApply j) l old u = tt
  written_formed (LoadHelped j) l old u = tt
  written_formed (LinkHelped j) l old u = on_announcement j _ (announcement_linked_form i n t.announcement below few shape.operations own.announcement)
  written_formed (Validate j) l old u = tt
  written_formed (HandOver j) l old u = on_announcement j _ hands_over
  written_formed (ReloadHandOver j) l old u = tt
  written_formed (Release j) l old u = on_announcement j _ (announcement_released_form i n t.announcement below few shape.operations own.announcement)
  written_formed (ReloadRelease j) l old u = tt
