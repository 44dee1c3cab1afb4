-- Chains over the numbers below a bound: what `all`, `any` and `find` answer is the test at every number below it, at some, or at the lowest.
use mathlib.Core.Path.{◌≡◌, refl}
use mathlib.Core.Bool.{Bool, true, false}
use mathlib.Core.List.{List, []}
use Prim.Native.Nat.{ℕ, ◌<◌, ◌≤◌}
use lib.ListN.{get_or}
use Rattle.std.proofs.iter.runs.Sources.{ranges}
use Rattle.laws.specs.Below.{all_below, any_below}
use Rattle.laws.specs.Lowest.{lowest_below}
use Rattle.laws.proofs.Below.{all_at, fails_at, some_at, none_at}
use Rattle.laws.proofs.Lowest.{lowest_found}

-- A number at which some list is read: `grind` looks at the place of a run that it names.
abbrev pub Read : ℕ → Type 0
Read k = (xs : List ℕ) × (get_or xs k 0 ≡ get_or xs k 0)

pub all_read : (n : ℕ) (test : ℕ → Bool) → (all_below n test ≡ all_below n test) × (all_below n test ≡ true → (k : ℕ) → k < n → test k ≡ true) × (all_below n test ≡ false → (k : ℕ) × (k < n) × (test k ≡ false) × Read k)
all_read n test = (refl, all_at n test, λ e. let (k, h, fails) = fails_at n test e in (k, h, fails, ([], refl)))

pub any_read : (n : ℕ) (test : ℕ → Bool) → (any_below n test ≡ any_below n test) × (any_below n test ≡ false → (k : ℕ) → k < n → test k ≡ false) × (any_below n test ≡ true → (k : ℕ) × (k < n) × (test k ≡ true) × Read k)
any_read n test = (refl, none_at n test, λ e. let (k, h, holds) = some_at n test e in (k, h, holds, ([], refl)))

pub ruleset all_any = (ranges, all_read, any_read)

pub lowest_read : (n : ℕ) (test : ℕ → Bool) → (lowest_below n test ≡ lowest_below n test) × (lowest_below n test ≤ n) × (lowest_below n test < n → (test (lowest_below n test) ≡ true) × Read (lowest_below n test)) × ((j : ℕ) → j < lowest_below n test → test j ≡ false)
lowest_read n test = let found = lowest_found n test in (refl, found.bounded, (λ h. (found.holds h, ([], refl))), found.lower)

pub ruleset lowest = (ranges, lowest_read)
