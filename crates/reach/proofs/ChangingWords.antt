-- Whether an operation is changing, by the arrays that keep the order of first meeting.
use Prim.Native.Nat.{ℕ}
use mathlib.Core.Path.{◌≡◌, refl, ap, ◌∙◌}
use mathlib.Core.Bool.{Bool, true, false, ◌&&◌, and-eq-true_iff, and-false}
use mathlib.Core.List.{List}
use native.Mathlib.Omega.{arith}
use borrow.Author.Tests.{ltb-true, lt-ltb}
use lib.Dec.{ltb}
use lib.ListN.{length, get_or}
use Rattle.laws.specs.Below.{any_below}
use Rattle.laws.proofs.Below.{any_of, some_at, none_at, not_any}
use Rattle.laws.proofs.Decision.{same_tests}
use Rattle.table.specs.declared.Shape.{Shape}
use Rattle.table.specs.Entries.{moves}
use Rattle.reach.specs.Order.{place_in, listed, order_of}
use Rattle.reach.specs.Changing.{reachable, changing}
use Rattle.reach.proofs.Places.{place_holds, place_first}

-- ---- A test at some place of a list, and at some number that stands in it

module _ (list : List ℕ) (bound : ℕ) (test : ℕ → Bool) where
  placed : any_below (length list) (λ place. ltb (get_or list place 0) bound && test (get_or list place 0)) ≡ true → any_below bound (λ state. listed list state && test state) ≡ true
  placed e =
      let (place, below, both) = some_at (length list) (λ place. ltb (get_or list place 0) bound && test (get_or list place 0)) e in
      let state : ℕ = get_or list place 0 in
      let (small, holds) = (and-eq-true_iff (ltb state bound) (test state)).0 both in
      let first = place_first state list place below refl in
      any_of bound (λ state. listed list state && test state) state (ltb-true _ _ small)
      ((and-eq-true_iff (listed list state) (test state)).1 (lt-ltb (place_in list state) (length list) (omega (arith, first, below)), holds))

  standing : any_below bound (λ state. listed list state && test state) ≡ true → any_below (length list) (λ place. ltb (get_or list place 0) bound && test (get_or list place 0)) ≡ true
  standing e =
      let (state, small, both) = some_at bound (λ state. listed list state && test state) e in
      let (stands, holds) = (and-eq-true_iff (listed list state) (test state)).0 both in
      let below = ltb-true _ _ stands in
      any_of (length list) (λ place. ltb (get_or list place 0) bound && test (get_or list place 0)) (place_in list state) below
      (rw (place_holds state list below) ((and-eq-true_iff (ltb state bound) (test state)).1 (lt-ltb _ _ small, holds)))

  any_listed : any_below (length list) (λ place. ltb (get_or list place 0) bound && test (get_or list place 0)) ≡ any_below bound (λ state. listed list state && test state)
  any_listed = same_tests _ _ placed standing

module _ (file : List ℕ) (shape : Shape) (operation : ℕ) where
  -- The states of the order say whether an operation is changing.
  pub changing_by_states : {met : List ℕ} → met ≡ order_of file shape
      → any_below (length met) (λ place. ltb (get_or met place 0) shape.states && moves file shape (get_or met place 0) operation) ≡ changing file shape operation
  unfolding changing reachable
  changing_by_states e = rw e (any_listed (order_of file shape) shape.states (λ state. moves file shape state operation))

  -- An operation that moves no state of the table is reading.
  pub unmoved_reading : any_below shape.states (λ state. moves file shape state operation) ≡ false → changing file shape operation ≡ false
  unfolding changing
  unmoved_reading e =
      not_any shape.states _ (λ state h. ap (λ (b : Bool). reachable file shape state && b) (none_at shape.states (λ state. moves file shape state operation) e state h) ∙ and-false (reachable file shape state))
