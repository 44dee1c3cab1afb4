-- The access of the next step, planned on an encoded record.
use mathlib.Core.Path.{◌≡◌, refl, ap, ap₂, ◌∙◌}
use mathlib.Core.Bool.{true}
use mathlib.Core.List.{List}
use Prim.Native.Nat.{ℕ, ◌+◌, ◌<◌, ◌≤◌}
use native.Mathlib.Nat.{mod-eq_of_lt}
use native.Mathlib.Omega.{arith}
use Rattle.cells.specs.Field.{pack}
use Rattle.cells.specs.Layout.{marks_width, head_of, announcement_word}
use Rattle.cells.specs.declared.announcement.Announcement.TheVariants as content
use Rattle.table.specs.declared.Shape.{Shape}
use Rattle.table.specs.Entries.{entry_in_range}
use Rattle.table.proofs.Accepted.{accepted_fitting, accepted_entry}
use Rattle.machine.specs.Object.{Object}
use Rattle.machine.specs.Memory.{HeadValue, Resp, Cell, state_of, outcome_of}
use Rattle.machine.specs.Machine as machine
use Rattle.machine.specs.Machine.{Idle, ReadOnly, Announce, Poll, LoadHead, LinkHead, LoadPriority, LoadOwn, Apply, ReloadApply, LoadHelped, LinkHelped, Validate, HandOver, ReloadHandOver, Release, ReloadRelease, ClearHead, ReloadClear, LoadExit, LinkExit, ClearExit, ReleaseExit, Retract, plan}
use Rattle.machine.specs.Form.{HeadFormed, PhaseFormed}
use Rattle.machine.proofs.Invariant.Ranges.{state_good}
use Rattle.records.specs.declared.record.Task.{Task}
use Rattle.transition.specs.declared.access.Access.TheVariants.{Swap}
use Rattle.transition.specs.Transition.{state_in, response_in, moved_in, named, cleared_word, applied_word, operation_word, response_word, plan_of}
use Rattle.transition.specs.Object.{ObjectTable, object_of}
use Rattle.transition.specs.Encoding.{announcement_in, encode_head, encode_announcement, kept, encode_task, encode_access}
use Rattle.transition.proofs.Lawful.{good_below}
use Rattle.transition.proofs.EncodedCells.{state_in_lem, response_in_lem, moved_in_lem, head_read_lem, head_linked, head_released, announcement_linked, announcement_released}

-- The record of a task in a phase, with its priority, operation and steps.
abbrev pub record_in : machine.Phase → (priority operation steps : ℕ) → Task
record_in f p x s = encode_task (record { phase = f; operation = x; priority = p; steps = s })

module _ (file : List ℕ) (shape : Shape) (table : ObjectTable file shape) (n : ℕ) (most : n ≤ marks_width) where
  abbrev object : Object
  object = object_of file shape

  -- An operation in range is the one that its payload names.
  pub named_operation : (o : ℕ) → o < shape.operations → named o ≡ o
  named_operation o l = mod-eq_of_lt (omega (arith, accepted_fitting file shape table.accepted))

  -- The words that a step makes of a saved head.
  module _ (h : Cell HeadValue) (ranged : HeadFormed object n h) where
    pub head_state : state_in (head_of (encode_head h)) ≡ state_of h.value
    head_state = ap state_in (head_read_lem file shape table n most h ranged) ∙ state_in_lem h.value

    head_response : response_in (head_of (encode_head h)) ≡ (outcome_of h.value).response
    head_response = ap response_in (head_read_lem file shape table n most h ranged) ∙ response_in_lem h.value

    head_moved : moved_in (head_of (encode_head h)) ≡ (outcome_of h.value).moved
    head_moved = ap moved_in (head_read_lem file shape table n most h ranged) ∙ moved_in_lem h.value

    -- The entry of the head's state is in range.
    pub head_entry : (o : ℕ) → o < shape.operations → entry_in_range file shape (state_in (head_of (encode_head h))) o ≡ true
    head_entry o l = rw head_state (accepted_entry file shape table.accepted (state_of h.value) o (good_below table _ (state_good object n h.value ranged.value)) l)

    cleared_word_lem : cleared_word (encode_head h) ≡ encode_head (machine.cleared h)
    unfolding cleared_word
    cleared_word_lem = rw head_state

    applied_word_lem : (j o : ℕ) → o < shape.operations → applied_word file shape (encode_head h) j (named o) ≡ encode_head (machine.applied object h j o)
    unfolding applied_word
    applied_word_lem j o l = rw (head_state, named_operation o l)

    response_word_lem : response_word (encode_head h) ≡ announcement_word (announcement_in (Resp (outcome_of h.value))) 0
    unfolding response_word
    response_word_lem = ap₂ (λ r v. announcement_word (content.Response r v) 0) head_response head_moved

  module _ (i p x s : ℕ) (below : i < n) where
    -- The planned access.
    pub plan_simulates : (f : machine.Phase) → PhaseFormed object n f → plan_of file shape i p (record_in f p x s) (kept f).phase ≡ encode_access (plan object i p x f)
    unfolding plan_of plan operation_word announcement_word pack
    plan_simulates Idle r = refl
    plan_simulates ReadOnly r = refl
    plan_simulates Announce r = refl
    plan_simulates Poll r = refl
    plan_simulates LoadHead r = refl
    plan_simulates (LinkHead h) r = ap (Swap 0 (encode_head h)) (head_linked file shape table n most h r i below)
    plan_simulates (LoadPriority h) r = refl
    plan_simulates (LoadOwn h) r = refl
    plan_simulates (Apply h j o) r = ap (Swap 0 (encode_head h)) (applied_word_lem h r.0 j o r.2)
    plan_simulates (ReloadApply h j o) r = refl
    plan_simulates (LoadHelped h j) r = refl
    plan_simulates (LinkHelped h j a) r = ap (Swap (j + 1) (encode_announcement a)) (announcement_linked file shape table n most a r.2 i below)
    plan_simulates (Validate h j a) r = refl
    plan_simulates (HandOver h j a) r = ap (Swap (j + 1) (encode_announcement a)) (response_word_lem h r.0)
    plan_simulates (ReloadHandOver h j a) r = refl
    plan_simulates (Release h j a) r = ap (Swap (j + 1) (encode_announcement a)) (announcement_released file shape table n most a r.2 i below)
    plan_simulates (ReloadRelease h j a) r = refl
    plan_simulates (ClearHead h j) r = ap (Swap 0 (encode_head h)) (cleared_word_lem h r.0)
    plan_simulates (ReloadClear h j) r = refl
    plan_simulates (LoadExit v) r = refl
    plan_simulates (LinkExit h v) r = ap (Swap 0 (encode_head h)) (head_linked file shape table n most h r.0 i below)
    plan_simulates (ClearExit h v) r = ap (Swap 0 (encode_head h)) (cleared_word_lem h r.0)
    plan_simulates (ReleaseExit h v) r = ap (Swap 0 (encode_head h)) (head_released file shape table n most h r.0 i below)
    plan_simulates (Retract v) r = refl
