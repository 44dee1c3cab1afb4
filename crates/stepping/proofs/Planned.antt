-- The planned access of an encoded record is in range, and so is the one entry that its step uses.
use mathlib.Core.Path.{◌≡◌, refl}
use mathlib.Core.Bool.{true, false}
use mathlib.Core.List.{List}
use Prim.Native.Nat.{ℕ, ◌<◌, ◌≤◌}
use lib.ListN.{get_or}
use Rattle.laws.proofs.Clash.{clash}
use Rattle.cells.specs.Layout.{marks_width}
use Rattle.table.specs.declared.Shape.{Shape}
use Rattle.machine.specs.Object.{Object}
use Rattle.machine.specs.Memory.{Memory}
use Rattle.machine.specs.Machine as machine
use Rattle.machine.specs.Machine.{Idle, ReadOnly, Announce, Poll, LoadHead, LinkHead, LoadPriority, LoadOwn, Apply, ReloadApply, LoadHelped, LinkHelped, Validate, HandOver, ReloadHandOver, Release, ReloadRelease, ClearHead, ReloadClear, LoadExit, LinkExit, ClearExit, ReleaseExit, Retract, plan}
use Rattle.machine.specs.Kind.{kind, off}
use Rattle.machine.specs.Form.{MemoryFormed, PhaseFormed, OperationFormed}
use Rattle.transition.specs.Transition.{used_in_range}
use Rattle.transition.specs.Object.{ObjectTable, object_of}
use Rattle.transition.specs.Encoding.{kept, encode_access}
use Rattle.transition.proofs.Plans.{record_in, named_operation, head_entry}
use Rattle.stepping.specs.Step.{touched}
use Rattle.stepping.specs.Encoding.{encode_cells}
use Rattle.stepping.proofs.Accesses.{AccessFormed}

module _ (file : List ℕ) (shape : Shape) (table : ObjectTable file shape) (n : ℕ) (most : n ≤ marks_width) (i p x s : ℕ) (below : i < n) where
  abbrev object : Object
  object = object_of file shape

  -- It is in range.
  pub plan_formed : (f : machine.Phase) → off (kind f) ≡ false → p < n → PhaseFormed object n f → AccessFormed file shape table n most (plan object i p x f)
  unfolding plan
  plan_formed Idle e l r = clash refl e
  plan_formed ReadOnly e l r = tt
  plan_formed Announce e l r = below
  plan_formed Poll e l r = below
  plan_formed LoadHead e l r = tt
  plan_formed (LinkHead h) e l r = r
  plan_formed (LoadPriority h) e l r = l
  plan_formed (LoadOwn h) e l r = below
  plan_formed (Apply h j o) e l r = r.0
  plan_formed (ReloadApply h j o) e l r = tt
  plan_formed (LoadHelped h j) e l r = r.1
  plan_formed (LinkHelped h j a) e l r = (r.1, r.2)
  plan_formed (Validate h j a) e l r = tt
  plan_formed (HandOver h j a) e l r = (r.1, r.2)
  plan_formed (ReloadHandOver h j a) e l r = r.1
  plan_formed (Release h j a) e l r = (r.1, r.2)
  plan_formed (ReloadRelease h j a) e l r = r.1
  plan_formed (ClearHead h j) e l r = r.0
  plan_formed (ReloadClear h j) e l r = tt
  plan_formed (LoadExit v) e l r = tt
  plan_formed (LinkExit h v) e l r = r.0
  plan_formed (ClearExit h v) e l r = r.0
  plan_formed (ReleaseExit h v) e l r = r.0
  plan_formed (Retract v) e l r = below

  -- The one entry that the step uses is in range.
  pub entry_in_range_lem : (m : Memory) → MemoryFormed object n m → (f : machine.Phase) → PhaseFormed object n f → OperationFormed object (kind f) x s → used_in_range file shape (record_in f p x s) (get_or (encode_cells n m) (touched (encode_access (plan object i p x f))) 0) (kept f).phase ≡ true
  unfolding plan
  entry_in_range_lem m c Idle r w = refl
  entry_in_range_lem m c ReadOnly r w = head_entry file shape table n most m.head c.head x w.0
  entry_in_range_lem m c Announce r w = refl
  entry_in_range_lem m c Poll r w = refl
  entry_in_range_lem m c LoadHead r w = refl
  entry_in_range_lem m c (LinkHead h) r w = refl
  entry_in_range_lem m c (LoadPriority h) r w = refl
  entry_in_range_lem m c (LoadOwn h) r w = refl
  entry_in_range_lem m c (Apply h j o) r w = rw (named_operation file shape table n most o r.2) (head_entry file shape table n most h r.0 o r.2)
  entry_in_range_lem m c (ReloadApply h j o) r w = refl
  entry_in_range_lem m c (LoadHelped h j) r w = refl
  entry_in_range_lem m c (LinkHelped h j a) r w = refl
  entry_in_range_lem m c (Validate h j a) r w = refl
  entry_in_range_lem m c (HandOver h j a) r w = refl
  entry_in_range_lem m c (ReloadHandOver h j a) r w = refl
  entry_in_range_lem m c (Release h j a) r w = refl
  entry_in_range_lem m c (ReloadRelease h j a) r w = refl
  entry_in_range_lem m c (ClearHead h j) r w = refl
  entry_in_range_lem m c (ReloadClear h j) r w = refl
  entry_in_range_lem m c (LoadExit v) r w = refl
  entry_in_range_lem m c (LinkExit h v) r w = refl
  entry_in_range_lem m c (ClearExit h v) r w = refl
  entry_in_range_lem m c (ReleaseExit h v) r w = refl
  entry_in_range_lem m c (Retract v) r w = refl
