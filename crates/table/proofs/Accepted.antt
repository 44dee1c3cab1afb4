-- What an accepted table promises to the calls that use it.
use Rattle.std.specs.Prelude.{Result, Ok, Err}
use Prim.Native.Nat.{ℕ, ◌<◌}
use mathlib.Core.Path.{◌≡◌, sym, ap, ◌∙◌}
use mathlib.Core.Bool.{true, false}
use mathlib.Core.Logic.{◌↔◌}
use mathlib.Core.List.{List}
use borrow.Author.Tests.{ltb-true, ltb-false, lt-ltb, le-ltb}
use Rattle.laws.proofs.Choice.{taken}
use Rattle.refusal.specs.declared.Refusal.TheVariants.{NextState}
use Rattle.table.specs.declared.Shape.{Shape}
use Rattle.laws.proofs.Below.{all_at, all_of, not_all, fails_at}
use Rattle.table.specs.File.{Bytes}
use Rattle.table.specs.Entries.{entry_of, entry_in_range, operation_in_range, entries_in_range}
use Rattle.table.specs.Layout.{layout_of}
use Rattle.table.specs.Check.{with_entries, check_of}
use Rattle.table.specs.Statement.{AllInRange, OutOfRange}
use Rattle.table.proofs.Fitting.{Fitting, layout_fitting, fitting_layout, refused}
use Rattle.refusal.specs.declared.Refusal.{Refusal}

module _ (file : List ℕ) (shape : Shape) where
  -- One tested entry: its next state is one of the table's states.
  pub next_below : (state operation : ℕ) → entry_in_range file shape state operation ≡ true → (entry_of file shape state operation).next < shape.states
  unfolding entry_in_range
  next_below state operation e = ltb-true _ _ e

  -- The entries of an operation that was tested.
  pub operation_entry : (operation : ℕ) → operation_in_range file shape operation ≡ true → (state : ℕ) → state < shape.states → entry_in_range file shape state operation ≡ true
  unfolding operation_in_range
  operation_entry operation e state q = all_at _ _ e state q

  -- The operations of a table that was tested.
  pub entries_operation : entries_in_range file shape ≡ true → (operation : ℕ) → operation < shape.operations → operation_in_range file shape operation ≡ true
  unfolding entries_in_range
  entries_operation e operation o = all_at _ _ e operation o

  -- So every next state is one of the table's states.
  pub tested_all : entries_in_range file shape ≡ true → AllInRange file shape
  tested_all e state operation q o = next_below state operation (operation_entry operation (entries_operation e operation o) state q)

  parts : (layout : Result Shape Refusal) → with_entries file layout ≡ Ok shape → (layout ≡ Ok shape) × (entries_in_range file shape ≡ true)
  parts (Ok found) e =
      let t = taken (entries_in_range file found) _ _ _ e (refused NextState shape) in
      let i : found ≡ shape = cc t.1 in
      (t.1, sym (ap (entries_in_range file) i) ∙ t.0)
  parts (Err cause) e = absurd (refused cause shape e)

  -- The layout of an accepted table is accepted, with the same shape, and all its entries are in range.
  pub accepted_parts : check_of file ≡ Ok shape → (layout_of file ≡ Ok shape) × (entries_in_range file shape ≡ true)
  unfolding check_of
  accepted_parts e = parts (layout_of file) e

  module _ (accepted : check_of file ≡ Ok shape) where
    -- None of causes 1 to 3 holds: the ranges of the dimensions, and the shape that the trailer says.
    pub accepted_fitting : Fitting file shape
    accepted_fitting = layout_fitting file shape (accepted_parts accepted).0

    -- Cause 4 holds on no operation's entries, and on no entry.
    pub accepted_operation : (operation : ℕ) → operation < shape.operations → operation_in_range file shape operation ≡ true
    accepted_operation operation o = entries_operation (accepted_parts accepted).1 operation o

    pub accepted_entry : (state operation : ℕ) → state < shape.states → operation < shape.operations → entry_in_range file shape state operation ≡ true
    accepted_entry state operation q o = operation_entry operation (accepted_operation operation o) state q

    -- Every next state is one of the table's states.
    pub accepted_next : AllInRange file shape
    accepted_next = tested_all (accepted_parts accepted).1

  -- The test says that every entry is in range if it is.
  pub all_tested : AllInRange file shape → entries_in_range file shape ≡ true
  unfolding entries_in_range operation_in_range entry_in_range
  all_tested all =
      all_of shape.operations (operation_in_range file shape) (λ operation o. all_of shape.states (λ state. entry_in_range file shape state operation) (λ state q. lt-ltb _ _ (all state operation q o)))

  -- And that not every one is exactly if some entry leads to no state of the table.
  pub entries_out : (entries_in_range file shape ≡ false) ↔ OutOfRange file shape
  unfolding entries_in_range operation_in_range entry_in_range
  entries_out = (
    λ e.
        let (operation, o, out) = fails_at shape.operations (operation_in_range file shape) e in
        let (state, q, beyond) = fails_at shape.states (λ state. entry_in_range file shape state operation) out in
        record { state = state; operation = operation; state_below = q; operation_below = o; beyond = ltb-false _ _ beyond },
    λ out. not_all shape.operations (operation_in_range file shape) out.operation out.operation_below
        (not_all shape.states (λ state. entry_in_range file shape state out.operation) out.state out.state_below (le-ltb _ _ out.beyond)),
  )

  -- A file of which none of causes 1 to 4 holds is accepted.
  pub fitting_accepted : Fitting file shape → AllInRange file shape → check_of file ≡ Ok shape
  unfolding check_of
  fitting_accepted fitting all = simp (fitting_layout file shape fitting, all_tested all)

  -- A response is a byte.
  pub response_byte : Bytes file → (state operation : ℕ) → (entry_of file shape state operation).response < 256
  unfolding entry_of
  response_byte bytes state operation = bytes _
