-- docs/FORMATS.md, "The cells": the image of a state, which the cells hold at rest.
use Rattle.std.specs.Prelude.{List, [], ◌∷◌, ℕ, zero, suc, ◌*◌, ◌^◌, replicate}
use Rattle.cells.specs.Layout.{marks_width}

-- The head has the state in its place and nothing else; each of the n announcements is 0.
unfoldable pub image : ℕ → ℕ → List ℕ
image n q = q * 2 ^ marks_width ∷ replicate n 0

-- The image in a number of cells, one more than tasks; no cells hold none.
unfoldable pub image_in : ℕ → ℕ → List ℕ
image_in zero q = []
image_in (suc n) q = image n q
