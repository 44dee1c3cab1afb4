-- The record of a task in range: it is in form, and its phase is read back.
use Rattle.std.specs.Prelude.{Ok}
use mathlib.Core.Path.{◌≡◌, refl, sym, subst}
use mathlib.Core.Bool.{Bool, true, false}
use mathlib.Core.List.{List}
use Prim.Native.Nat.{ℕ, ◌<◌, ◌≤◌}
use native.Mathlib.Omega.{arith}
use lib.Dec.{eqb}
use Rattle.laws.proofs.Clash.{clash}
use Rattle.cells.specs.Form.{head_in_form, announcement_in_form}
use Rattle.cells.specs.Layout.{marks_width}
use Rattle.cells.proofs.Images.{no_head, no_announcement}
use Rattle.table.specs.declared.Shape.{Shape}
use Rattle.table.proofs.Accepted.{accepted_fitting}
use Rattle.machine.specs.Object.{Object}
use Rattle.machine.specs.Memory.{HeadValue, Content, Cell}
use Rattle.machine.specs.Machine as machine
use Rattle.machine.specs.Machine.{Idle, ReadOnly, Announce, Poll, LoadHead, LinkHead, LoadPriority, LoadOwn, Apply, ReloadApply, LoadHelped, LinkHelped, Validate, HandOver, ReloadHandOver, Release, ReloadRelease, ClearHead, ReloadClear, LoadExit, LinkExit, ClearExit, ReleaseExit, Retract}
use Rattle.machine.specs.Kind.{Kind, Off, Reading, Opening, Looping, Exiting, Retracting, kind, off}
use Rattle.machine.specs.Form.{HeadFormed, AnnouncementFormed, PhaseFormed, OperationFormed, TaskFormed}
use Rattle.machine.proofs.Steps.Calls.{off_idle}
use Rattle.records.specs.Record.{idle_task, read_record, RecordFits}
use Rattle.transition.specs.Object.{ObjectTable, object_of}
use Rattle.transition.specs.Encoding.{encode_head, encode_announcement, Kept, kept, encode_task}
use Rattle.records.proofs.Saved.{Saved, plain, applies, reloads_apply, loads_helped, links_helped, validates, hands_over, reloads_hand_over, releases, reloads_release, saved_read, idle_read}
use Rattle.transition.proofs.EncodedCells.{head_in_form_lem, announcement_in_form_lem}

-- A phase of the machine is kept in form.
abbrev KeptFormed : Shape → ℕ → Kept → Type 0
KeptFormed shape n k = Saved shape n k.phase k.payload k.head k.announcement

module _ (file : List ℕ) (shape : Shape) (table : ObjectTable file shape) (n : ℕ) (most : n ≤ marks_width) where
  abbrev object : Object
  object = object_of file shape

  formed_head : (h : Cell HeadValue) → HeadFormed object n h → head_in_form shape.states n (encode_head h) ≡ true
  formed_head = head_in_form_lem file shape table n most

  formed_announcement : (a : Cell Content) → AnnouncementFormed object n a → announcement_in_form shape.operations n (encode_announcement a) ≡ true
  formed_announcement = announcement_in_form_lem file shape table n most

  -- Nothing saved is the word 0, which is in form.
  empty_head : head_in_form shape.states n 0 ≡ true
  empty_head = no_head shape.states n (accepted_fitting file shape table.accepted).some_state

  empty : announcement_in_form shape.operations n 0 ≡ true
  empty = no_announcement shape.operations n

  some_operation : 0 < shape.operations
  some_operation = (accepted_fitting file shape table.accepted).some_operation

  -- Every phase of a pending operation, with what it has saved in range.
  kept_formed : (f : machine.Phase) → off (kind f) ≡ false → PhaseFormed object n f → KeptFormed shape n (kept f)
  kept_formed Idle e p = clash refl e
  kept_formed ReadOnly e p = plain shape n tt refl (omega arith) empty_head
  kept_formed Announce e p = plain shape n tt refl (omega arith) empty_head
  kept_formed Poll e p = plain shape n tt refl (omega arith) empty_head
  kept_formed LoadHead e p = plain shape n tt refl (omega arith) empty_head
  kept_formed (LinkHead h) e p = plain shape n tt refl (omega arith) (formed_head h p)
  kept_formed (LoadPriority h) e p = plain shape n tt refl (omega arith) (formed_head h p)
  kept_formed (LoadOwn h) e p = plain shape n tt refl (omega arith) (formed_head h p)
  kept_formed (ClearHead h j) e p = plain shape n tt refl (omega arith) (formed_head h p.0)
  kept_formed (ReloadClear h j) e p = plain shape n tt refl (omega arith) (formed_head h p.0)
  kept_formed (LoadExit v) e p = plain shape n tt refl (omega arith) empty_head
  kept_formed (LinkExit h v) e p = plain shape n tt refl (omega arith) (formed_head h p.0)
  kept_formed (ClearExit h v) e p = plain shape n tt refl (omega arith) (formed_head h p.0)
  kept_formed (ReleaseExit h v) e p = plain shape n tt refl (omega arith) (formed_head h p.0)
  kept_formed (Retract v) e p = plain shape n tt refl (omega arith) empty_head
  kept_formed (Apply h j o) e p = applies shape n most j p.1 p.2 (formed_head h p.0) empty
  kept_formed (ReloadApply h j o) e p = reloads_apply shape n most j p.1 p.2 (formed_head h p.0) empty
  kept_formed (LoadHelped h j) e p = loads_helped shape n most j p.1 some_operation (formed_head h p.0) empty
  kept_formed (LinkHelped h j a) e p = links_helped shape n most j p.1 some_operation (formed_head h p.0) (formed_announcement a p.2)
  kept_formed (Validate h j a) e p = validates shape n most j p.1 some_operation (formed_head h p.0) (formed_announcement a p.2)
  kept_formed (HandOver h j a) e p = hands_over shape n most j p.1 some_operation (formed_head h p.0) (formed_announcement a p.2)
  kept_formed (ReloadHandOver h j a) e p = reloads_hand_over shape n most j p.1 some_operation (formed_head h p.0) (formed_announcement a p.2)
  kept_formed (Release h j a) e p = releases shape n most j p.1 some_operation (formed_head h p.0) (formed_announcement a p.2)
  kept_formed (ReloadRelease h j a) e p = reloads_release shape n most j p.1 some_operation (formed_head h p.0) (formed_announcement a p.2)

  -- A pending operation is one of the table's.
  operation_below : (k : Kind) (o s : ℕ) → off k ≡ false → OperationFormed object k o s → o < shape.operations
  operation_below Off o s e w = clash refl e
  operation_below Reading o s e w = w.0
  operation_below Opening o s e w = w.0
  operation_below Looping o s e w = w.0
  operation_below (Exiting v) o s e w = w.0
  operation_below (Retracting v) o s e w = w.0

  -- The record of a pending operation with its steps below the ceiling.
  pub pending_read : (ceiling : ℕ) (t : machine.Task) → TaskFormed object n t → off (kind t.phase) ≡ false → t.steps < ceiling → read_record shape n ceiling (encode_task t) ≡ Ok (kept t.phase).phase
  pending_read ceiling t formed e timely =
      saved_read shape n (kept_formed t.phase e formed.phase) t.operation t.priority t.steps ceiling (operation_below (kind t.phase) t.operation t.steps e formed.operation) formed.priority timely

  pub pending_number : (t : machine.Task) → TaskFormed object n t → off (kind t.phase) ≡ false → eqb (encode_task t).phase 0 ≡ false
  pending_number t formed e = (kept_formed t.phase e formed.phase).pending

  -- An idle task keeps its priority alone.
  pub idle_kept : (t : machine.Task) → TaskFormed object n t → off (kind t.phase) ≡ true → encode_task t ≡ idle_task t.priority
  idle_kept t formed e =
      let f : t.phase ≡ Idle = off_idle t.phase e in
      let w : (t.operation ≡ 0) × (t.steps ≡ 0) = subst (λ (f : machine.Phase). OperationFormed object (kind f) t.operation t.steps) f formed.operation in
      rw (f, w.0, w.1)

  -- Either way it is in form.
  pub task_fits : (ceiling : ℕ) (t : machine.Task) → TaskFormed object n t → (off (kind t.phase) ≡ false → t.steps < ceiling) → RecordFits shape n ceiling (encode_task t)
  task_fits ceiling t formed timely = by (off (kind t.phase)) refl
    where
      by : (b : Bool) → off (kind t.phase) ≡ b → RecordFits shape n ceiling (encode_task t)
      by true e = subst (RecordFits shape n ceiling) (sym (idle_kept t formed e)) (_, idle_read shape n ceiling t.priority formed.priority)
      by false e = (_, pending_read ceiling t formed e (timely e))
