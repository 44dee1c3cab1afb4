-- Which operations are changing: exactly those that move a state that can be reached.
use Prim.Native.Nat.{ℕ}
use mathlib.Core.Path.{◌≡◌, refl, subst}
use mathlib.Core.Bool.{Bool, true, false, ◌&&◌, and-eq-true_iff}
use mathlib.Core.Logic.{◌↔◌, ◌≢◌}
use mathlib.Core.List.{List}
use borrow.Author.Tests.{ltb-true, lt-ltb, eqb-true, eqb-false, eq-eqb, ne_eqb, not-true, not-false}
use Rattle.laws.proofs.Below.{any_of, some_at}
use Rattle.laws.proofs.Clash.{clash}
use Rattle.table.specs.declared.Shape.{Shape}
use Rattle.table.specs.Entries.{moves}
use Rattle.reach.specs.Walk.{next_of, Reachable}
use Rattle.reach.specs.Order.{place_in, order_of}
use Rattle.reach.specs.Changing.{reachable, changing}
use Rattle.reach.specs.Statement.{ChangingExactly, AcceptedStates, AcceptedChanging}
use Rattle.reach.proofs.Places.{place_holds}
use Rattle.reach.proofs.Search.{Closed, start_reached, next_reached}
use Rattle.reach.proofs.Ordered.{accepted_closed, reachable_listed, listed_reachable, reachable_below}

-- An operation moves a state exactly if it leads to another one.
module _ (file : List ℕ) (shape : Shape) (state operation : ℕ) where
  moved_away : moves file shape state operation ≡ true → next_of file shape state operation ≢ state
  unfolding moves
  moved_away e = eqb-false _ _ (not-true _ e)

  away_moved : next_of file shape state operation ≢ state → moves file shape state operation ≡ true
  unfolding moves
  away_moved other = rw (ne_eqb _ _ other)

  unmoved_keeps : moves file shape state operation ≡ false → next_of file shape state operation ≡ state
  unfolding moves
  unmoved_keeps e = eqb-true _ _ (not-false _ e)

  pub keeps_unmoved : next_of file shape state operation ≡ state → moves file shape state operation ≡ false
  unfolding moves
  keeps_unmoved e = rw (eq-eqb _ _ e)

module _ (file : List ℕ) (shape : Shape) (closed : Closed file shape) where
  tested : (state : ℕ) → (reachable file shape state ≡ true) ↔ Reachable file shape state
  unfolding reachable
  tested state = (
    λ e. let h = ltb-true _ _ e in subst (Reachable file shape) (place_holds state (order_of file shape) h) (listed_reachable file shape closed (place_in (order_of file shape) state) h),
    λ r. lt-ltb _ _ (reachable_listed file shape closed state r),
  )

  module _ (operation : ℕ) where
    -- What is tested at each state.
    abbrev moved : ℕ → Bool
    moved state = reachable file shape state && moves file shape state operation

    -- A changing operation moves a state that can be reached; one that moves such a state is changing.
    changes : changing file shape operation ≡ true → (state : ℕ) × Reachable file shape state × (next_of file shape state operation ≢ state)
    unfolding changing
    changes e =
        let (state, below, both) = some_at shape.states moved e in
        let (reached, away) = (and-eq-true_iff _ _).0 both in
        (state, (tested state).0 reached, moved_away file shape state operation away)

    moved_changing : (state : ℕ) → Reachable file shape state → next_of file shape state operation ≢ state → changing file shape operation ≡ true
    unfolding changing
    moved_changing state r other =
        any_of shape.states moved state (reachable_below file shape closed state r) ((and-eq-true_iff _ _).1 ((tested state).1 r, away_moved file shape state operation other))

    -- A reading operation moves no state that can be reached.
    reading_unmoved : changing file shape operation ≡ false → (state : ℕ) → Reachable file shape state → moves file shape state operation ≡ false
    reading_unmoved e state r = by (moves file shape state operation) refl
      where
        by : (b : Bool) → moves file shape state operation ≡ b → b ≡ false
        by true q = clash (moved_changing state r (moved_away file shape state operation q)) e
        by false q = refl

    kept_reading : ((state : ℕ) → Reachable file shape state → next_of file shape state operation ≡ state) → changing file shape operation ≡ false
    kept_reading keeps = by (changing file shape operation) refl
      where
        by : (b : Bool) → changing file shape operation ≡ b → b ≡ false
        by true q = let (state, r, other) = changes q in absurd (other (keeps state r))
        by false q = refl

    exactly : ChangingExactly file shape operation
    exactly = record {
      changes = (changes, λ (state, r, other). moved_changing state r other);
      reads = (λ e state r. unmoved_keeps file shape state operation (reading_unmoved e state r), kept_reading);
      moves_one = λ e. let (state, r, other) = changes e in (state, reachable_below file shape closed state r, other);
    }

pub accepted_states : AcceptedStates
accepted_states file shape accepted =
    let closed = accepted_closed file shape accepted in
    record { start = start_reached file shape; next = next_reached file shape; below = reachable_below file shape closed; tested = tested file shape closed }

pub accepted_changing : AcceptedChanging
accepted_changing file shape accepted = exactly file shape (accepted_closed file shape accepted)
