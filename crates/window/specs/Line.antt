-- docs/FORMATS.md, "The register window": the interrupt line of a task.
use Rattle.std.specs.Prelude.{Bool, false, cond, List, [], ◌∷◌, ℕ, Result, Ok, Err, ⊤}
use Rattle.refusal.specs.Number.{Said, accepted, refused}
use Rattle.window.specs.Window.{interrupt_at, mask_at, place_of}
use Rattle.refusal.specs.declared.Refusal.{Refusal}
use Rattle.window.specs.declared.LineLevel.{LineLevel}
use Rattle.window.specs.declared.LineLevel.TheVariants as line

-- The line is up while byte 5 is 1 and byte 6 is 0.
abbrev pub line_up : List ℕ → ℕ → Bool
line_up windows t = cond (mask_at windows t) false (interrupt_at windows t)

-- A task that has no window is refused.
abbrev pub line_in : List ℕ → ℕ → Result ⊤ Refusal → Result LineLevel Refusal
line_in windows t (Err c) = Err c
line_in windows t (Ok tt) = cond (line_up windows t) (Ok line.Up) (Ok line.Down)

-- For task t of n.
unfoldable pub line_of : List ℕ → (n t : ℕ) → Result LineLevel Refusal
line_of windows n t = line_in windows t (place_of windows n t)

-- What an answer says: 1 for a line that is up, 0 for one that is down.
abbrev pub line_said : Result LineLevel Refusal → Said
line_said (Ok line.Up) = accepted (1 ∷ [])
line_said (Ok line.Down) = accepted (0 ∷ [])
line_said (Err c) = refused c
