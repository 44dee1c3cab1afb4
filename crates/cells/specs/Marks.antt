-- docs/FORMATS.md, "The cells": marks are bits of a word, bit i for task i.
use Rattle.std.specs.Prelude.{Bool, cond, ℕ, ◌+◌, ◌-◌, ◌/◌, ◌%◌, ◌^◌, eqb}

-- No marks.
abbrev pub none : ℕ
none = 0

-- Task i has its mark in w.
unfoldable pub has : ℕ → ℕ → Bool
has i w = eqb (w / 2 ^ i % 2) 1

-- The word w with task i's mark.
unfoldable pub add : ℕ → ℕ → ℕ
add i w = cond (has i w) w (w + 2 ^ i)

-- The word w without task i's mark.
unfoldable pub remove : ℕ → ℕ → ℕ
remove i w = cond (has i w) (w - 2 ^ i) w
