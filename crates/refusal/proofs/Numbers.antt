-- All numbers are those of the table of refusals; answers that say different numbers are different.
use mathlib.Core.Path.{◌≡◌, refl, ap}
use mathlib.Core.List.{[], ◌∷◌, map}
use Prim.Native.Nat.{ℕ}
use lib.ListN.{get_or}
use Rattle.refusal.specs.Number.{number_of, Said, accepted}
use Rattle.refusal.specs.Rows.{rows}

pub numbers_hold : map (λ r. number_of r.cause) rows ≡ map (λ r. r.number) rows
unfolding rows
numbers_hold = refl

pub numbers_apart : {s t : Said} → s ≡ t → (s.number ≡ t.number → ⊥) → ⊥
numbers_apart e n = n (ap (λ (s : Said). s.number) e)

pub values_same : {k l : ℕ} → accepted (k ∷ []) ≡ accepted (l ∷ []) → k ≡ l
values_same e = ap (λ (s : Said). get_or s.values 0 0) e
