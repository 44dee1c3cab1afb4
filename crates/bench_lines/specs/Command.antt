-- docs/FORMATS.md, "The bench": what a line of input means.
use Rattle.std.specs.Prelude.{Bool, ◌&&◌, cond, Option, Some, None, List, [], ◌∷◌, ℕ, ◌+◌, ◌-◌, ◌*◌, leb, eqb}
use Rattle.bench_lines.specs.declared.command.Command.{Command}
use Rattle.bench_lines.specs.declared.command.Command.TheVariants.{Start, Begin, Step, Finish, Print, Unknown}

-- ---- Bytes, in ASCII

-- A space, and the digits 0 and 9.
abbrev pub space : ℕ
space = 32

abbrev pub zero_digit : ℕ
zero_digit = 48

abbrev pub nine_digit : ℕ
nine_digit = 57

-- ---- A line's fields: its parts between spaces, one more than there are spaces

-- The last field, or a field and those after it.
pub data Fields : Type 0 where
  last : List ℕ → Fields
  more : List ℕ → Fields → Fields

-- The fields of a byte that is no space, followed by these.
abbrev pub lengthened : ℕ → Fields → Fields
lengthened b (last f) = last (b ∷ f)
lengthened b (more f rest) = more (b ∷ f) rest

-- A space ends a field and begins the next.
unfoldable pub fields_of : List ℕ → Fields
fields_of [] = last []
fields_of (b ∷ line) = cond (eqb b space) (more [] (fields_of line)) (lengthened b (fields_of line))

-- ---- A field's meaning

-- The bytes 0 to 9.
abbrev pub is_digit : ℕ → Bool
is_digit b = leb zero_digit b && leb b nine_digit

-- The number that a digit writes; nothing for another byte.
abbrev pub digit_of : ℕ → Option ℕ
digit_of b = cond (is_digit b) (Some (b - zero_digit)) None

-- The number that three digits write; nothing if one of them is another byte.
unfoldable pub digits_of : (a b c : ℕ) → Option ℕ
digits_of a b c =
    cond (is_digit a && is_digit b && is_digit c) (Some (100 * (a - zero_digit) + 10 * (b - zero_digit) + (c - zero_digit))) None

-- A number has one to three digits.
abbrev pub decimal_of : List ℕ → Option ℕ
decimal_of [] = None
decimal_of (c ∷ []) = digits_of zero_digit zero_digit c
decimal_of (b ∷ c ∷ []) = digits_of zero_digit b c
decimal_of (a ∷ b ∷ c ∷ []) = digits_of a b c
decimal_of (a ∷ b ∷ c ∷ d ∷ ds) = None

-- The letter of a field of one byte; of any other it is 0, with which no form begins.
abbrev pub letter_of : List ℕ → ℕ
letter_of [] = 0
letter_of (b ∷ []) = b
letter_of (a ∷ b ∷ bs) = 0

-- ---- The forms: `m`, then `n k`, `s t`, `d t`, then `b t o`

-- A letter alone.
abbrev pub alone : ℕ → Command
alone letter = cond (eqb letter 109) Print Unknown

-- A letter and one number.
abbrev pub with_one : ℕ → Option ℕ → Command
with_one letter (Some v) = cond (eqb letter 110) (Start v) (cond (eqb letter 115) (Step v) (cond (eqb letter 100) (Finish v) Unknown))
with_one letter None = Unknown

-- A letter and two numbers.
abbrev pub with_two : ℕ → Option ℕ → Option ℕ → Command
with_two letter (Some t) (Some o) = cond (eqb letter 98) (Begin t o) Unknown
with_two letter (Some t) None = Unknown
with_two letter None second = Unknown

-- After a letter and a number come the second number, or more fields than a form has.
abbrev pub after_number : ℕ → Option ℕ → Fields → Command
after_number letter first (last g) = with_two letter first (decimal_of g)
after_number letter first (more g rest) = Unknown

-- After a letter come one number or two.
abbrev pub after_letter : ℕ → Fields → Command
after_letter letter (last f) = with_one letter (decimal_of f)
after_letter letter (more f rest) = after_number letter (decimal_of f) rest

-- A line begins with its letter.
abbrev pub command_in : Fields → Command
command_in (last f) = alone (letter_of f)
command_in (more f rest) = after_letter (letter_of f) rest

-- The meaning of a line.
unfoldable pub command_of : List ℕ → Command
command_of line = command_in (fields_of line)
