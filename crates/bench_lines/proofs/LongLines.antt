-- A known form has at most nine bytes: a longer line, so every line of more than 64 bytes, has none.
use mathlib.Core.Path.{◌≡◌, refl}
use mathlib.Core.Bool.{Bool, true, false}
use mathlib.Core.List.{List, [], ◌∷◌}
use Prim.Native.Nat.{ℕ, suc, ◌+◌, ◌<◌}
use native.Mathlib.Omega.{arith}
use borrow.Author.Tests.{ltb-true, ltb-false}
use lib.Dec.{ltb, eqb}
use lib.ListN.{length}
use Rattle.std.specs.Prelude.{Option, Some, None}
use Rattle.bench_lines.specs.declared.command.Command.TheVariants.{Unknown}
use Rattle.bench_lines.specs.Command.{Fields, last, more, space, lengthened, fields_of, decimal_of, letter_of, with_two, after_number, after_letter, command_in, command_of}
use Rattle.bench_lines.proofs.Fields.{decimal_of_none, no_letter, no_form}

-- The bytes of a line with these fields.
abbrev size : Fields → ℕ
size (last f) = length f
size (more f rest) = length f + 1 + size rest

size_lengthened : (b : ℕ) (fields : Fields) → size (lengthened b fields) ≡ suc (size fields)
size_lengthened b (last f) = refl
size_lengthened b (more f rest) = omega arith

size_fields : (line : List ℕ) → size (fields_of line) ≡ length line
unfolding fields_of
size_fields [] = refl
size_fields (b ∷ line) = at (eqb b space) refl (size_fields line)
  where
    at : (t : Bool) → eqb b space ≡ t → size (fields_of line) ≡ length line → size (fields_of (b ∷ line)) ≡ suc (length line)
    at true e rest = rw e (omega arith)
    at false e rest = rw e (omega (arith, size_lengthened b (fields_of line)))

long_number : (field : List ℕ) → 3 < length field → decimal_of field ≡ None
long_number field h = decimal_of_none field (λ e. omega arith) (λ e. omega arith) (λ e. omega arith)

no_second : (letter : ℕ) (first : Option ℕ) → with_two letter first None ≡ Unknown
no_second letter (Some v) = refl
no_second letter None = refl

no_first : (letter : ℕ) (rest : Fields) → after_number letter None rest ≡ Unknown
no_first letter (last g) = refl
no_first letter (more g rest) = refl

long_second : (letter : ℕ) (first : Option ℕ) (rest : Fields) → 3 < size rest → after_number letter first rest ≡ Unknown
long_second letter first (last g) h = rw (long_number g h) (no_second letter first)
long_second letter first (more g rest) h = refl

long_after_letter : (letter : ℕ) (rest : Fields) → 7 < size rest → after_letter letter rest ≡ Unknown
long_after_letter letter (last f) h = rw (long_number f (omega arith)) refl
long_after_letter letter (more f rest) h = at (ltb 3 (length f)) refl
  where
    at : (t : Bool) → ltb 3 (length f) ≡ t → after_number letter (decimal_of f) rest ≡ Unknown
    at true e = rw (long_number f (ltb-true 3 (length f) e)) (no_first letter rest)
    at false e = long_second letter (decimal_of f) rest (omega (arith, ltb-false 3 (length f) e))

long_fields : (fields : Fields) → 9 < size fields → command_in fields ≡ Unknown
long_fields (last f) h = rw (no_letter f (λ e. omega arith)) refl
long_fields (more f rest) h = at (ltb 1 (length f)) refl
  where
    at : (t : Bool) → ltb 1 (length f) ≡ t → after_letter (letter_of f) rest ≡ Unknown
    at true e = rw (no_letter f (λ q. omega (arith, ltb-true 1 (length f) e))) (no_form rest)
    at false e = long_after_letter (letter_of f) rest (omega (arith, ltb-false 1 (length f) e))

-- A line of more than nine bytes is of no known form.
pub long_line : (line : List ℕ) → 9 < length line → command_of line ≡ Unknown
unfolding command_of
long_line line h = long_fields (fields_of line) (omega (arith, size_fields line))
