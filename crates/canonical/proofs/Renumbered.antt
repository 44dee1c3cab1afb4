-- The file of an object: it is accepted, its entries are those of the table in new numbers, and it is the same object.
use Rattle.std.specs.Prelude.{Ok}
use mathlib.Core.Path.{◌≡◌, refl, sym, ap, subst, ◌∙◌}
use mathlib.Core.List.{List}
use Prim.Native.Nat.{ℕ, ◌+◌, ◌*◌, ◌<◌}
use native.Mathlib.Omega.{arith}
use lib.ListN.{length, get_or}
use Rattle.table.specs.declared.Shape.{Shape}
use Rattle.table.specs.declared.Entry.{Entry}
use Rattle.table.specs.File.{Bytes, shape_of}
use Rattle.table.specs.Entries.{entry_of}
use Rattle.table.specs.Check.{check_of}
use Rattle.table.proofs.Fitting.{Fitting}
use Rattle.table.proofs.Accepted.{accepted_fitting, response_byte}
use Rattle.table_writer.specs.Written.{file_of}
use Rattle.table_writer.specs.Statement.{WithinLimits, ReadsBack}
use Rattle.table_writer.proofs.ReadsBack.{reads_back}
use Rattle.reach.specs.Walk.{next_of, walk, AllBelow, none, more}
use Rattle.reach.specs.Order.{place_in, order_of}
use Rattle.reach.specs.Statement.{Ordered}
use Rattle.reach.proofs.Places.{place_holds}
use Rattle.reach.proofs.Search.{Closed, start_reached, next_reached}
use Rattle.reach.proofs.Turns.{order_closed}
use Rattle.reach.proofs.Ordered.{accepted_closed, accepted_ordered, reachable_listed, listed_reachable, order_once, order_some, reachable_below}
use Rattle.canonical.specs.Same.{operations_of, start_state_of, next_in, response_in, ReachableIn, Same}
use Rattle.canonical.specs.Canonical.{renumbered_entry, renumbered_shape, renumbered, canonical_of}
use Rattle.canonical.specs.Statement.{Served, Renumbered, Canonical, ServedCanonical}

module _ (file : List ℕ) (served : Served file) where
  abbrev shape : Shape
  shape = shape_of file

  abbrev order : List ℕ
  order = order_of file (shape_of file)

  abbrev written : List ℕ
  written = canonical_of file

  fits : Fitting file shape
  fits = accepted_fitting file shape served.1

  pub closed : Closed file shape
  closed = accepted_closed file shape served.1

  ordered : Ordered file shape
  ordered = accepted_ordered file shape served.1

  listed_next : (number operation : ℕ) → number < length order → operation < shape.operations → place_in order (next_of file shape (get_or order number 0) operation) < length order
  listed_next = order_closed file shape closed

  -- ---- What is read from the file

  limits : let new = renumbered_shape shape order in WithinLimits new.states new.operations new.start (renumbered_entry file shape order)
  limits =
      record {
        some_state = order_some file shape closed;
        few_states = omega (arith, ordered.few, fits.few_states);
        some_operation = fits.some_operation;
        few_operations = fits.few_operations;
        start_below = order_some file shape closed;
        next_below = listed_next;
        response_byte = λ number operation _ _. response_byte file shape served.0 _ operation;
      }

  back : ReadsBack (length order) shape.operations 0 (renumbered_entry file shape order)
  back = reads_back (length order) shape.operations 0 (renumbered_entry file shape order) limits

  written_is : written ≡ file_of (length order) shape.operations 0 (renumbered_entry file shape order)
  unfolding canonical_of renumbered
  written_is = refl

  pub written_long : length written ≡ 2 * (length order * operations_of file) + 16
  written_long = omega (arith, ap length written_is, back.long)

  written_bytes : Bytes written
  written_bytes = subst Bytes (sym written_is) back.bytes

  written_accepted : check_of written ≡ Ok (renumbered_shape shape order)
  written_accepted = ap check_of written_is ∙ back.accepted

  pub written_shape : shape_of written ≡ renumbered_shape shape order
  written_shape = sym (accepted_fitting written (renumbered_shape shape order) written_accepted).shape_is

  pub written_served : Served written
  written_served = (written_bytes, written_accepted ∙ ap Ok (sym written_shape))

  written_closed : Closed written (shape_of written)
  written_closed = accepted_closed written (shape_of written) written_served.1

  written_entry : (number operation : ℕ) → number < length order → operation < shape.operations → entry_of written (shape_of written) number operation ≡ renumbered_entry file shape order number operation
  written_entry number operation h l =
      ap (λ (s : Shape). entry_of written s number operation) written_shape
      ∙ ap (λ (f : List ℕ). entry_of f (renumbered_shape shape order) number operation) written_is
      ∙ back.entries number operation h l

  next_is : (number operation : ℕ) → number < length order → operation < shape.operations → next_in written number operation ≡ place_in order (next_of file shape (get_or order number 0) operation)
  next_is number operation h l = ap (λ (e : Entry). e.next) (written_entry number operation h l)

  response_is : (number operation : ℕ) → number < length order → operation < shape.operations → response_in written number operation ≡ response_in file (get_or order number 0) operation
  response_is number operation h l = ap (λ (e : Entry). e.response) (written_entry number operation h l)

  operations_is : operations_of written ≡ shape.operations
  operations_is = ap (λ (s : Shape). s.operations) written_shape

  written_renumbered : Renumbered file order written
  written_renumbered =
      record {
        bytes = written_bytes;
        long = written_long;
        accepts = written_accepted;
        next = λ number operation h l.
            let below = listed_next number operation h l in
            (rw (next_is number operation h l) below, rw (next_is number operation h l) (place_holds (next_in file (get_or order number 0) operation) order below));
        response = response_is;
      }

  -- ---- The same object

  -- A state by its place, and back.
  listed : (state : ℕ) → ReachableIn file state → place_in order state < length order
  listed = reachable_listed file shape closed

  at_place : (state : ℕ) → ReachableIn file state → get_or order (place_in order state) 0 ≡ state
  at_place state r = place_holds state order (listed state r)

  start_place : place_in order (start_state_of file) ≡ start_state_of written
  start_place =
      let first = order_once file shape closed 0 (order_some file shape closed) in
      ap (place_in order) (sym ordered.first_meeting.start) ∙ first ∙ sym (ap (λ (s : Shape). s.start) written_shape)

  next_place : (state operation : ℕ) → ReachableIn file state → operation < operations_of file → place_in order (next_in file state operation) ≡ next_in written (place_in order state) operation
  next_place state operation r l =
      ap (λ (q : ℕ). place_in order (next_in file q operation)) (sym (at_place state r)) ∙ sym (next_is (place_in order state) operation (listed state r) l)

  -- A walk in the file is one in what is written.
  walk_place : (state : ℕ) {by : List ℕ} → ReachableIn file state → AllBelow shape.operations by → place_in order (walk file shape state by) ≡ walk written (shape_of written) (place_in order state) by
  walk_place state r none = refl
  walk_place state r (more {operation} {rest} l all) =
      walk_place (next_in file state operation) (next_reached file shape state operation r l) all
      ∙ ap (λ (q : ℕ). walk written (shape_of written) q rest) (next_place state operation r l)

  reached_place : (state : ℕ) → ReachableIn file state → ReachableIn written (place_in order state)
  reached_place state r =
      record {
        by = r.by;
        known = subst (λ m. AllBelow m r.by) (sym operations_is) r.known;
        arrives =
            ap (λ (q : ℕ). walk written (shape_of written) q r.by) (sym start_place)
            ∙ sym (walk_place (start_state_of file) (start_reached file shape) r.known)
            ∙ ap (place_in order) r.arrives;
      }

  number_below : (number : ℕ) → ReachableIn written number → number < length order
  number_below number r = omega (arith, reachable_below written (shape_of written) written_closed number r, ap (λ (s : Shape). s.states) written_shape)

  reached_number : (number : ℕ) → number < length order → ReachableIn written number
  reached_number number h =
      subst (ReachableIn written) (order_once file shape closed number h) (reached_place (get_or order number 0) (listed_reachable file shape closed number h))

  pub same_written : Same file written
  same_written =
      record {
        to = place_in order;
        from = λ number. get_or order number 0;
        operations = sym operations_is;
        start = start_place;
        reached = reached_place;
        reached_back = λ number r. listed_reachable file shape closed number (number_below number r);
        from_to = at_place;
        to_from = λ number r. order_once file shape closed number (number_below number r);
        next = next_place;
        response = λ state operation r l. ap (λ (q : ℕ). response_in file q operation) (sym (at_place state r)) ∙ sym (response_is (place_in order state) operation (listed state r) l);
      }

  object_file : Canonical file
  object_file =
      let states : (shape_of written).states ≡ length order = ap (λ (s : Shape). s.states) written_shape in
      record {
        order = order;
        first_meeting = ordered.first_meeting;
        renumbered = λ other of_kind. subst (λ x. Renumbered file x written) (sym (ordered.only other of_kind)) written_renumbered;
        reachable = λ number. (λ r. omega (arith, number_below number r, states), λ h. reached_number number (omega (arith, h, states)));
        same = same_written;
      }

pub served_canonical : ServedCanonical
served_canonical = object_file
