-- docs/FORMATS.md, "The bench": the lines that it prints.
use Rattle.std.specs.Prelude.{cond, List, [], ◌∷◌, ◌++◌, ℕ, zero, suc, ◌+◌, ◌/◌, ◌%◌, ltb, take, Result, Ok, Err}
use Rattle.io.specs.Digits.{last_digits}
use Rattle.laws.specs.Bit.{bit}
use Rattle.refusal.specs.Number.{number_of}
use Rattle.cells.specs.Count.{mark_count}
use Rattle.bench_lines.specs.declared.line.Line.{Line}
use Rattle.bench_lines.specs.declared.text.Base.{Base}
use Rattle.bench_lines.specs.declared.text.Base.TheVariants.{Decimal, Hexadecimal}
use Rattle.bench_lines.specs.Command.{space, zero_digit}
use Rattle.bench_lines.specs.declared.reply.Reply.{Reply}
use Rattle.bench_lines.specs.declared.reply.Reply.TheVariants as reply
use Rattle.refusal.specs.declared.Refusal.{Refusal}

-- Byte 10, with which every line is closed.
abbrev pub newline : ℕ
newline = 10

-- A number in decimal without leading zeros, if it has at most k digits.
unfoldable pub decimal_in : ℕ → ℕ → List ℕ
decimal_in zero n = []
decimal_in (suc k) n = cond (ltb n 10) [] (decimal_in k (n / 10)) ++ ((zero_digit + n % 10) ∷ [])

-- A number of 64 bits has at most 20 decimal digits.
unfoldable pub decimal : ℕ → List ℕ
decimal n = decimal_in 20 n

-- A word as 16 lower-case hex digits.
unfoldable pub hexadecimal : ℕ → List ℕ
hexadecimal word = last_digits 16 16 word

-- A number as a field: one space parts it from what stands before it.
abbrev pub field_of : Base → ℕ → List ℕ
field_of Decimal n = space ∷ decimal n
field_of Hexadecimal n = space ∷ hexadecimal n

-- A field for each number.
unfoldable pub parted_in : Base → List ℕ → List ℕ
parted_in base [] = []
parted_in base (n ∷ ns) = field_of base n ++ parted_in base ns

-- A line: a letter, its fields, and byte 10.
abbrev pub line_of : ℕ → List ℕ → List ℕ
line_of letter fields = letter ∷ (fields ++ (newline ∷ []))

-- A line of numbers in decimal.
abbrev pub number_line : ℕ → List ℕ → List ℕ
number_line letter numbers = line_of letter (parted_in Decimal numbers)

-- The line of a reply: `n` with tasks, states and operations, `r` with task, response and 1 if the state moved, else 0, `x` with the
-- number of the cause.
abbrev pub reply_line : Result Reply Refusal → List ℕ
reply_line (Ok reply.Silent) = []
reply_line (Ok (reply.Started k s m)) = number_line 110 (k ∷ s ∷ m ∷ [])
reply_line (Ok (reply.Ended t r moved)) = number_line 114 (t ∷ r ∷ bit moved ∷ [])
reply_line (Err c) = number_line 120 (number_of c ∷ [])

-- The line of the cells: `m`, each cell in hex digits, and how many marks are set in all of them.
unfoldable pub cells_line : List ℕ → List ℕ
cells_line cells = line_of 109 (parted_in Hexadecimal cells ++ field_of Decimal (mark_count cells))

-- A run has at most nine cells.
abbrev pub most_cells : ℕ
most_cells = 9

-- Room for the longest line.
abbrev pub text_size : ℕ
text_size = 256

-- The bytes of a line that is kept in an array: its first ones.
abbrev pub line_bytes : {n : ℕ} → Line n → List ℕ
line_bytes line = take line.len line.bytes
