-- Yes and no as numbers.
use Rattle.std.specs.Prelude.{Bool, cond, ℕ}

-- 1 for yes, 0 for no.
abbrev pub bit : Bool → ℕ
bit b = cond b 1 0
