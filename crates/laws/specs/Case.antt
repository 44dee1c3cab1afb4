-- Worked cases: tables of numbers that definitions give, beside those that a page says.
use Rattle.std.specs.Prelude.{ℕ}

-- A case: what the definitions give, and what the page says.
pub record Case : Type 0 where
  pub given : ℕ
  pub said : ℕ

unfoldable pub case : ℕ → ℕ → Case
case given said = record { given = given; said = said }
