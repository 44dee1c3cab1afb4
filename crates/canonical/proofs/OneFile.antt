-- Two tables have equal files exactly if they are the same object, and so an object's file is its own.
use mathlib.Core.Path.{◌≡◌, sym, ap, subst, ◌∙◌}
use mathlib.Core.List.{List}
use Prim.Native.Nat.{ℕ, ◌<◌}
use lib.ListN.{length, get_or, length-map}
use Rattle.table.specs.declared.Entry.{Entry}
use Rattle.table.specs.File.{shape_of}
use Rattle.table_writer.specs.Written.{file_of}
use Rattle.table_writer.proofs.ReadsBack.{same_file}
use Rattle.reach.specs.Order.{place_in, order_of}
use Rattle.reach.proofs.Search.{next_reached}
use Rattle.canonical.specs.Same.{operations_of, next_in, response_in, Same}
use Rattle.canonical.specs.Canonical.{renumbered_entry, renumbered, canonical_of}
use Rattle.canonical.specs.Statement.{Served, SameFiles, Settled}
use Rattle.canonical.proofs.Renumbered.{closed, written_served, same_written}
use Rattle.canonical.proofs.SameLaws.{same_back, same_further}
use Rattle.canonical.proofs.OneOrder.{map_at, place_same, InStep, order_in_step}

-- ---- The same object has one file

module _ (one other : List ℕ) (served : Served one) (other_served : Served other) (s : Same one other) where
  abbrev order : List ℕ
  order = order_of one (shape_of one)

  abbrev other_order : List ℕ
  other_order = order_of other (shape_of other)

  step : InStep (closed one served) (closed other other_served) s order other_order
  step = order_in_step (closed one served) (closed other other_served) s

  long : length order ≡ length other_order
  long = sym (length-map order s.to) ∙ ap length step.same

  -- At every place stand states that are the same by renumbering.
  state_same : (number : ℕ) → number < length order → get_or other_order number 0 ≡ s.to (get_or order number 0)
  state_same number h = ap (λ (l : List ℕ). get_or l number 0) (sym step.same) ∙ map_at s.to order number h

  entry_same : (number operation : ℕ) → number < length order → operation < operations_of one
      → renumbered_entry one (shape_of one) order number operation ≡ renumbered_entry other (shape_of other) other_order number operation
  entry_same number operation h l =
      let state : ℕ = get_or order number 0 in
      let r = step.all number h in
      let there : next_in other (get_or other_order number 0) operation ≡ s.to (next_in one state operation) = ap (λ (q : ℕ). next_in other q operation) (state_same number h) ∙ sym (s.next state operation r l) in
      let next : place_in order (next_in one state operation) ≡ place_in other_order (next_in other (get_or other_order number 0) operation) =
      sym (place_same (closed one served) (closed other other_served) s order (next_in one state operation) step.all (next_reached one (shape_of one) state operation r l))
      ∙ ap (λ (x : List ℕ). place_in x (s.to (next_in one state operation))) step.same
      ∙ ap (place_in other_order) (sym there) in
      let response : response_in one state operation ≡ response_in other (get_or other_order number 0) operation = s.response state operation r l ∙ ap (λ (q : ℕ). response_in other q operation) (sym (state_same number h)) in
      pair next response
    where
      pair : {a b c d : ℕ} → a ≡ b → c ≡ d → ◌≡◌ {A = Entry} (record { next = a; response = c }) (record { next = b; response = d })
      pair e f = rw (e, f)

  same_equal : canonical_of one ≡ canonical_of other
  unfolding canonical_of renumbered
  same_equal =
      same_file (length order) (operations_of one) 0 (renumbered_entry one (shape_of one) order) (renumbered_entry other (shape_of other) other_order) entry_same
      ∙ ap (λ (k : ℕ). file_of k (operations_of one) 0 (renumbered_entry other (shape_of other) other_order)) long
      ∙ ap (λ (m : ℕ). file_of (length other_order) m 0 (renumbered_entry other (shape_of other) other_order)) s.operations

-- ---- Both ways

pub same_files : SameFiles
same_files one other served other_served =
    (same_equal one other served other_served, λ equal. same_further (subst (Same one) equal (same_written one served)) (same_back (same_written other other_served)))

pub settled : Settled
settled file served = sym ((same_files file (canonical_of file) served (written_served file served)).0 (same_written file served))
