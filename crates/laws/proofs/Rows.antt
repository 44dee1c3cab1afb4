-- Rows of one width, one after the other, and the numbers counted through them.
use mathlib.Core.Path.{◌≡◌}
use Prim.Native.Nat.{ℕ, zero, suc, ◌+◌, ◌-◌, ◌*◌, ◌<◌}
use native.Mathlib.Nat.{mul-le-mul_right}
use native.Mathlib.Decide.{dec_lt}
use native.Mathlib.Omega.{arith}

-- A place in a row has a number below that of all places.
pub row_below : (rows width row place : ℕ) → row < rows → place < width → row * width + place < rows * width
row_below rows width row place r p = omega (arith, mul-le-mul_right width r, p)

-- The row and the place in it that have a number.
pub record Row (rows width number : ℕ) : Type 0 where
  pub row : ℕ
  pub place : ℕ
  pub row_few : row < rows
  pub place_few : place < width
  pub same : row * width + place ≡ number

-- Each number below that of all places has them.
pub row_of : (rows width number : ℕ) → number < rows * width → Row rows width number
row_of zero width number h = absurd (omega arith)
row_of (suc rows) width number h = by (dec_lt number (rows * width)) (row_of rows width number)
  where
    by : Dec (number < rows * width) → (number < rows * width → Row rows width number) → Row (suc rows) width number
    by (yes l) earlier = let found = earlier l in record { row = found.row; place = found.place; row_few = omega (arith, found.row_few); place_few = found.place_few; same = found.same }
    by (no n) _ = record { row = rows; place = number - rows * width; row_few = omega arith; place_few = omega (arith, n, h); same = omega (arith, n) }
