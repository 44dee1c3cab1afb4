-- What the machine asks of an object, and of the state in which a run opens.
use Rattle.std.specs.Prelude.{◌≡◌, true, false, ℕ, ◌<◌}
use Rattle.machine.specs.Object.{Object}

-- Its laws.
pub record Lawful (b : Object) : Type 0 where
  -- Operations lead from good states to good states, and their responses are within the bound.
  pub closed : (q o : ℕ) → b.good q ≡ true → o < b.operations → b.good (b.next q o) ≡ true
  pub bounded : (q o : ℕ) → b.good q ≡ true → o < b.operations → (b.outcome q o).response < b.outcomes
  -- An operation that is not changing keeps every good state.
  pub still : (q o : ℕ) → b.good q ≡ true → o < b.operations → b.changing o ≡ false → b.next q o ≡ q

-- A run may open in state q.
pub record Opens (b : Object) (q : ℕ) : Type 0 where
  pub lawful : Lawful b
  pub good : b.good q ≡ true
