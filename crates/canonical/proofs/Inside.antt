-- What the writer reads in the arrays of the order for the states and operations of the file that it writes.
use mathlib.Core.Path.{◌≡◌, ap, ◌∙◌}
use mathlib.Core.List.{List}
use Prim.Native.Nat.{ℕ, suc, ◌-◌, ◌<◌, ◌≤◌}
use native.Mathlib.Omega.{arith}
use lib.ListN.{length, get_or}
use Rattle.table.specs.declared.Shape.{Shape}
use Rattle.table.specs.declared.Entry.{Entry}
use Rattle.table.specs.Entries.{entry_of}
use Rattle.table.specs.Layout.{most_states, most_operations}
use Rattle.table.proofs.Accepted.{accepted_fitting}
use Rattle.reach.specs.Walk.{next_of}
use Rattle.reach.specs.Order.{place_in, order_of}
use Rattle.reach.proofs.Search.{Closed, next_reached}
use Rattle.reach.proofs.Turns.{order_closed}
use Rattle.reach.proofs.Ordered.{accepted_closed, listed_reachable, reachable_below}
use Rattle.reach.proofs.Words.{order_words_length, number_words_length, number_words_at, number_listed}
use Rattle.canonical.specs.Canonical.{renumbered_entry, Numbered}
use Rattle.canonical.proofs.Arrays.{few, state_at}

module _ {file : List ℕ} {shape : Shape} {order number : List ℕ} (n : Numbered file shape order number) where
  abbrev list : List ℕ
  list = order_of file shape

  closed : Closed file shape
  closed = accepted_closed file shape n.accepted

  pub few_operations : shape.operations ≤ most_operations
  few_operations = (accepted_fitting file shape n.accepted).few_operations

  pub order_long : length order ≡ most_states
  order_long = ap length n.order_is ∙ order_words_length list (few n)

  pub number_long : length number ≡ most_states
  number_long = ap length n.number_is ∙ number_words_length list

  module _ (place : ℕ) (h : place < length list) where
    module _ (operation : ℕ) (l : operation < shape.operations) where
      abbrev next : ℕ
      next = next_of file shape (get_or list place 0) operation

      next_small : next < most_states
      next_small = omega (arith, closed.few, reachable_below file shape closed next (next_reached file shape (get_or list place 0) operation (listed_reachable file shape closed place h) l))

      number_at : get_or number next 0 ≡ suc (place_in list next)
      number_at = ap (λ (x : List ℕ). get_or x next 0) n.number_is ∙ number_words_at list next next_small ∙ number_listed list next (order_closed file shape closed place operation h l)

      -- An entry that was read by the arrays, in new numbers.
      module _ {entry : Entry} (read : entry ≡ entry_of file shape (get_or order place 0) operation) where
        entry_is : entry ≡ entry_of file shape (get_or list place 0) operation
        entry_is = read ∙ ap (λ (q : ℕ). entry_of file shape q operation) (state_at n place)

        next_is : entry.next ≡ next
        next_is = ap (λ (e : Entry). e.next) entry_is

        pub read_small : entry.next < most_states
        read_small = rw next_is next_small

        numbered : get_or number entry.next 0 ≡ suc (place_in list next)
        numbered = ap (λ (q : ℕ). get_or number q 0) next_is ∙ number_at

        pub read_some : 1 ≤ get_or number entry.next 0
        read_some = omega (arith, numbered)

        pub read_renumbered : ◌≡◌ {A = Entry} (record { next = get_or number entry.next 0 - 1; response = entry.response }) (renumbered_entry file shape list place operation)
        read_renumbered =
            let one : get_or number entry.next 0 - 1 ≡ place_in list next = omega (arith, numbered) in
            rw (one, entry_is)
