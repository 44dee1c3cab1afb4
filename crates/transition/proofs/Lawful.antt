-- The object of an accepted table keeps the laws that the machine asks for.
use mathlib.Core.Path.{◌≡◌}
use mathlib.Core.Bool.{true}
use mathlib.Core.Logic.{◌↔◌}
use mathlib.Core.List.{List}
use Prim.Native.Nat.{ℕ, ◌<◌}
use Rattle.table.specs.declared.Shape.{Shape}
use Rattle.table.proofs.Accepted.{response_byte}
use Rattle.reach.specs.Walk.{Reachable}
use Rattle.reach.specs.Statement.{ReachedStates}
use Rattle.reach.proofs.Changing.{accepted_states, accepted_changing}
use Rattle.machine.specs.Lawful.{Lawful}
use Rattle.transition.specs.Object.{ObjectTable, object_of}

module _ {file : List ℕ} {shape : Shape} (t : ObjectTable file shape) where
  states : ReachedStates file shape
  states = accepted_states file shape t.accepted

  -- The good states are those that can be reached, and they are states of the table.
  pub good_reached : (q : ℕ) → ((object_of file shape).good q ≡ true) ↔ Reachable file shape q
  good_reached = states.tested

  pub good_below : (q : ℕ) → (object_of file shape).good q ≡ true → q < shape.states
  good_below q good = states.below q ((good_reached q).0 good)

  pub object_lawful : Lawful (object_of file shape)
  object_lawful = record {
    closed = λ q o good below. (good_reached _).1 (states.next q o ((good_reached q).0 good) below);
    bounded = λ q o good below. response_byte file shape t.bytes q o;
    still = λ q o good below reads. (accepted_changing file shape t.accepted o).reads.0 reads q ((good_reached q).0 good);
  }
