-- The order of first meeting has the states that can be reached, and no other list is of its kind.
use Rattle.std.specs.Prelude.{Ok}
use mathlib.Core.Path.{◌≡◌, sym, ap, subst, ◌∙◌}
use mathlib.Core.List.{List}
use Prim.Native.Nat.{ℕ, ◌<◌}
use native.Mathlib.Omega.{arith}
use lib.ListN.{length, get_or}
use Rattle.table.specs.declared.Shape.{Shape}
use Rattle.table.specs.Layout.{most_states}
use Rattle.table.specs.Check.{check_of}
use Rattle.table.proofs.Accepted.{accepted_fitting, accepted_next}
use Rattle.reach.specs.Walk.{next_of, walk, AllBelow, none, more, Reachable}
use Rattle.reach.specs.Order.{place_in, order_of}
use Rattle.reach.specs.Statement.{StandsIn, FirstMeeting, AcceptedOrdered}
use Rattle.reach.proofs.Places.{place_holds, place_first}
use Rattle.reach.proofs.Search.{Closed, Searched}
use Rattle.reach.proofs.Turns.{order_searched, order_few, order_closed}
use Rattle.reach.proofs.OneList.{one_list}

pub accepted_closed : (file : List ℕ) (shape : Shape) → check_of file ≡ Ok shape → Closed file shape
accepted_closed file shape accepted =
    let fitting = accepted_fitting file shape accepted in
    record { few = fitting.few_states; start_below = fitting.start_below; next_below = accepted_next file shape accepted }

module _ (file : List ℕ) (shape : Shape) (closed : Closed file shape) where
  abbrev order : List ℕ
  order = order_of file shape

  searched : Searched file shape order most_states 0
  searched = order_searched file shape closed

  -- A state with a place in the list stands there.
  pub order_stands : (state : ℕ) → place_in order state < length order → StandsIn order state
  order_stands state h = record { place = place_in order state; below = h; is = place_holds state order h }

  -- A walk from a state of the list ends in the list.
  walk_listed : (state : ℕ) {by : List ℕ} → AllBelow shape.operations by → place_in order state < length order → place_in order (walk file shape state by) < length order
  walk_listed state none h = h
  walk_listed state (more {operation} l rest) h =
      let next = order_closed file shape closed (place_in order state) operation h l in
      walk_listed (next_of file shape state operation) rest (rw (place_holds state order h) at next)

  pub reachable_listed : (state : ℕ) → Reachable file shape state → place_in order state < length order
  reachable_listed state r =
      let first = place_first shape.start order 0 searched.some searched.start in
      subst (λ q. place_in order q < length order) r.arrives (walk_listed shape.start r.known (omega (arith, first, searched.some)))

  pub listed_reachable : (place : ℕ) → place < length order → Reachable file shape (get_or order place 0)
  listed_reachable = searched.reached

  pub order_once : (place : ℕ) → place < length order → place_in order (get_or order place 0) ≡ place
  order_once = searched.once

  pub order_some : 0 < length order
  order_some = searched.some

  -- What can be reached is a state of the table.
  pub reachable_below : (state : ℕ) → Reachable file shape state → state < shape.states
  reachable_below state r =
      let h = reachable_listed state r in
      subst (λ q. q < shape.states) (place_holds state order h) (searched.within (place_in order state) h)

  pub first_meeting : FirstMeeting file shape order
  first_meeting =
      record {
        start = searched.start;
        once = λ i j h l e. sym (order_once i h) ∙ ap (place_in order) e ∙ order_once j l;
        exactly = λ state. (λ at. subst (Reachable file shape) at.is (listed_reachable at.place at.below), λ r. order_stands state (reachable_listed state r));
        met = searched.met;
      }

pub accepted_ordered : AcceptedOrdered
accepted_ordered file shape accepted =
    let closed = accepted_closed file shape accepted in
    let meets = first_meeting file shape closed in
    record { first_meeting = meets; few = order_few file shape closed; only = λ other of_kind. one_list file shape other (order_of file shape) of_kind meets }
