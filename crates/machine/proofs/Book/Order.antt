-- A book kept along a history: its order only grows at its end.
use mathlib.Core.Path.{◌≡◌, refl, sym, ◌∙◌, ap}
use mathlib.Core.List.{List, [], ◌∷◌, ◌++◌, append-nil, append_assoc}
use Prim.Native.Nat.{ℕ}
use Rattle.machine.specs.Object.{Object}
use Rattle.machine.specs.Calls.{Call, Answer, Event}
use Rattle.machine.specs.Book.{Operation, Book, Entering, none, enter, Booking, begun, begin_task, begin_operation, begin_pending, running_waiting, running_done, ended, step_task, step_idle, Kept, rest, then}

-- One order extends another at its end.
abbrev pub Extends : List Operation → List Operation → Type 0
Extends xs zs = (ys : List Operation) × (zs ≡ xs ++ ys)

extends_trans : (xs : List Operation) {ys zs : List Operation} → Extends xs ys → Extends ys zs → Extends xs zs
extends_trans xs f g = (f.0 ++ g.0, g.1 ∙ ap (λ l. l ++ g.0) f.1 ∙ append_assoc xs f.0 g.0)

module _ {b : Object} where
  -- Entries extend the order at its end.
  pub entering_grows : {k k' : Book} → Entering b k k' → Extends k.order k'.order
  entering_grows {k} none = ([], sym (append-nil k.order))
  entering_grows (enter {k = k} t x s e f) = extends_trans k.order (x ∷ [], refl) (entering_grows f)

  -- The booking rule itself leaves the order.
  pub booking_keeps : {n p : ℕ} {k k' : Book} {c : Call} {a : Answer} → Booking b n p k c a k' → k'.order ≡ k.order
  booking_keeps (begun _ _ _) = refl
  booking_keeps (begin_task _) = refl
  booking_keeps (begin_operation _ _) = refl
  booking_keeps (begin_pending _ _ _) = refl
  booking_keeps (running_waiting _ _) = refl
  booking_keeps (running_done _ _) = refl
  booking_keeps (ended _ _) = refl
  booking_keeps (step_task _) = refl
  booking_keeps (step_idle _ _) = refl

  -- The order only grows at its end.
  pub order_grows : {n p : ℕ} {k k' : Book} {es : List Event} → Kept b n p k es k' → Extends k.order k'.order
  order_grows {k = k} rest = ([], sym (append-nil k.order))
  order_grows (then {k = k} {k' = k'} l f) = extends_trans k.order booked (order_grows f)
    where
      booked : Extends k.order k'.order
      booked = rw (booking_keeps l.booking) (entering_grows l.entering)
