-- docs/RUNS.md, "Runs, steps and records": the ceiling of own steps, 1,000 × n × n × n.
use Rattle.std.specs.Prelude.{◌&&◌, cond, List, [], ◌∷◌, ℕ, ◌*◌, ◌-◌, leb, get_or, Result, Ok, Err}
use Rattle.refusal.specs.Number.{Said, accepted, refused_by, refused}
use Rattle.refusal.specs.declared.Refusal.TheVariants.{Row}
use Rattle.refusal.specs.declared.Refusal.{Refusal}

-- The product for n tasks, if there are 1 to 8; else the row is refused.
unfoldable pub ceiling_of : ℕ → Result ℕ Refusal
ceiling_of n = cond (leb 1 n && leb n 8) (Ok (1000 * (n * n * n))) (Err Row)

-- What an answer says: the ceiling, or the number of the cause.
abbrev pub ceiling_said : Result ℕ Refusal → Said
ceiling_said (Ok c) = accepted (c ∷ [])
ceiling_said (Err cause) = refused cause

-- The ceiling for 8 tasks, which is the greatest.
abbrev pub greatest_ceiling : ℕ
greatest_ceiling = 512000

-- The contract's list (document 01's) of the ceilings for 1 to 8 tasks. No code and no function's contract uses it: a theorem compares
-- the answers with it.
abbrev pub listed_ceilings : List ℕ
listed_ceilings = 1000 ∷ 8000 ∷ 27000 ∷ 64000 ∷ 125000 ∷ 216000 ∷ 343000 ∷ 512000 ∷ []

-- What an answer by that list says: its entry for n tasks, if there are 1 to 8; else 5.
unfoldable pub listed_ceiling : ℕ → Said
listed_ceiling n = cond (leb 1 n && leb n 8) (accepted (get_or listed_ceilings (n - 1) 0 ∷ [])) (refused_by 5)
