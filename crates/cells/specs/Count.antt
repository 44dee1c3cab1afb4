-- docs/FORMATS.md, "The bench": how many marks are set in all cells together.
use Rattle.std.specs.Prelude.{List, [], ◌∷◌, ℕ, zero, suc, ◌+◌}
use Rattle.laws.specs.Bit.{bit}
use Rattle.cells.specs.Layout.{marks_width}
use Rattle.cells.specs.Marks.{has}

-- How many of the tasks below k have their mark in w.
unfoldable pub marks_below : ℕ → ℕ → ℕ
marks_below zero w = 0
marks_below (suc k) w = bit (has k w) + marks_below k w

-- How many marks are set in a word.
unfoldable pub marks_in : ℕ → ℕ
marks_in w = marks_below marks_width w

-- How many marks are set in all cells together.
unfoldable pub mark_count : List ℕ → ℕ
mark_count [] = 0
mark_count (w ∷ ws) = marks_in w + mark_count ws
