-- docs/FORMATS.md, "The bench": what it prints for a table file and an input, line by line, and the same byte by byte.
use Rattle.std.specs.Prelude.{◌≡◌, Bool, true, false, cond, Option, Some, None, Result, Ok, Err, List, [], ◌∷◌, ◌++◌, ℕ, ◌<◌, eqb, ltb, length}
use Rattle.table.specs.Check.{check_of}
use Rattle.bench_session.specs.declared.run.Bench.{Bench}
use Rattle.bench_session.specs.declared.session.Session.{Session}
use Rattle.bench_lines.specs.Command.{command_of}
use Rattle.bench_lines.specs.declared.line.Line.{Line}
use Rattle.bench_lines.specs.Line.{newline, reply_line, text_size, line_bytes}
use Rattle.bench_session.specs.Run.{Printing, unstarted_bench, serve_command}
use Rattle.table.specs.declared.Shape.{Shape}
use Rattle.refusal.specs.declared.Refusal.{Refusal}

-- ---- The whole input, line by line

-- A byte before the first line; if there is none, it is a line that the end of the input ends.
abbrev pub prefixed : ℕ → List (List ℕ) → List (List ℕ)
prefixed b [] = (b ∷ []) ∷ []
prefixed b (line ∷ lines) = (b ∷ line) ∷ lines

-- The lines of an input. A line ends before byte 10, which isn't counted, or, if not empty, at the end of the input.
unfoldable pub lines_of : List ℕ → List (List ℕ)
lines_of [] = []
lines_of (b ∷ bs) = cond (eqb b newline) ([] ∷ lines_of bs) (prefixed b (lines_of bs))

-- What one line leaves and prints.
abbrev pub serve_line : List ℕ → Bench → List ℕ → Printing
serve_line file bench line = serve_command file bench (command_of line)

-- What the lines print, one after another.
unfoldable pub print_lines : List ℕ → Bench → List (List ℕ) → List ℕ
print_lines file bench [] = []
print_lines file bench (line ∷ lines) = (serve_line file bench line).text ++ print_lines file (serve_line file bench line).bench lines

-- The table is tested before the first line.
abbrev pub is_served : Result Shape Refusal → Bool
is_served (Ok shape) = true
is_served (Err c) = false

-- Of a table that is not served the number is printed.
abbrev pub table_text : Result Shape Refusal → List ℕ
table_text (Ok shape) = []
table_text (Err c) = reply_line (Err c)

-- All that is printed: for a table that is not served its line alone, whatever the input.
unfoldable pub output_of : (file input : List ℕ) → List ℕ
output_of file input = table_text (check_of file) ++ cond (is_served (check_of file)) (print_lines file unstarted_bench (lines_of input)) []

-- ---- The input byte by byte

-- What has been fed: the bench, and the bytes since the last byte 10.
pub record Fed : Type 0 where
  pub bench : Bench
  pub line : List ℕ

-- What is left after some of the input, and what is printed for it.
pub record Consumed : Type 0 where
  pub fed : Fed
  pub text : List ℕ

-- Before the first byte.
abbrev pub new_session : Fed
new_session = record { bench = unstarted_bench; line = [] }

-- A byte other than 10 belongs to the line.
abbrev pub kept_byte : Fed → ℕ → Fed
kept_byte fed b = record { bench = fed.bench; line = fed.line ++ (b ∷ []) }

-- It prints nothing.
abbrev pub keep_byte : Fed → ℕ → Consumed
keep_byte fed b = record { fed = kept_byte fed b; text = [] }

-- A line has been served, and the next one is empty.
abbrev pub line_served : Printing → Consumed
line_served out = record { fed = record { bench = out.bench; line = [] }; text = out.text }

-- The line has come to its end, and is served.
abbrev pub end_line : List ℕ → Fed → Consumed
end_line file fed = line_served (serve_line file fed.bench fed.line)

-- One byte of the input.
unfoldable pub feed_byte : List ℕ → Fed → ℕ → Consumed
feed_byte file fed b = cond (eqb b newline) (end_line file fed) (keep_byte fed b)

-- Some of the input and more of it: the texts stand one after the other.
abbrev pub and_then : Consumed → Consumed → Consumed
and_then first second = record { fed = second.fed; text = first.text ++ second.text }

-- The bytes of the input, one after another.
unfoldable pub feed : List ℕ → Fed → List ℕ → Consumed
feed file fed [] = record { fed = fed; text = [] }
feed file fed (b ∷ bs) = and_then (feed_byte file fed b) (feed file (feed_byte file fed b).fed bs)

-- What the end of the input prints: a line that is not empty is served.
abbrev pub last_text : List ℕ → Bench → List ℕ → List ℕ
last_text file bench [] = []
last_text file bench (b ∷ bs) = (serve_line file bench (b ∷ bs)).text

-- The same, after what has been fed.
abbrev pub finish_text : List ℕ → Fed → List ℕ
finish_text file fed = last_text file fed.bench fed.line

-- ---- What a session holds

-- The longest line that is kept.
abbrev pub longest_line : ℕ
longest_line = 64

-- A buffer holds the bytes of a line; of a line that is too long there is none.
abbrev pub Holds : List ℕ → Option (Line longest_line) → Type 0
Holds bytes (Some line) = line_bytes line ≡ bytes
Holds bytes None = longest_line < length bytes

-- A session is what has been fed to it.
abbrev pub Follows : Fed → Session → Type 0
Follows fed session = (session.bench ≡ fed.bench) × Holds fed.line session.line

-- The session that is left, and the text that is printed.
abbrev pub Yields : Session → Line text_size → Consumed → Type 0
Yields session text out = Follows out.fed session × (line_bytes text ≡ out.text)

-- Whether a table is served; if it is, nothing is printed for it, and else a text.
abbrev pub Reports : Result (Unit {0}) (Line text_size) → Result Shape Refusal → Type 0
Reports (Ok served) out = (is_served out ≡ true) × ([] ≡ table_text out)
Reports (Err text) out = (is_served out ≡ false) × (line_bytes text ≡ table_text out)

-- ---- The reads of the input

-- The bytes of some reads. The last read stands first.
unfoldable pub joined : List (List ℕ) → List ℕ
joined [] = []
joined (bytes ∷ earlier) = joined earlier ++ bytes

-- Whether there may be more to read: unless the last read gave no byte.
abbrev pub goes_on : List (List ℕ) → Bool
goes_on [] = true
goes_on (bytes ∷ earlier) = ltb 0 (length bytes)

-- A session to which some bytes have been fed, those of one read, and whether there are any.
abbrev pub Continues : List ℕ → (before after : Session) → Bool → Type 0
Continues file before after more =
    (bytes : List ℕ) × (((fed : Fed) → Follows fed before → Follows (feed file fed bytes).fed after) × (more ≡ ltb 0 (length bytes)))

-- A session to which the bytes of some reads have been fed, whether there may be more, and the number of the reads. No contract can
-- say that these are the bytes that the system call gave.
abbrev pub Reached : List ℕ → Session → Bool → ℕ → Type 0
Reached file session more reads =
    (parts : List (List ℕ)) × (Follows (feed file new_session (joined parts)).fed session × ((more ≡ goes_on parts) × (reads ≡ length parts)))

-- The greatest number of reads, 2^64 - 1: no input reaches it.
unfoldable pub most_reads : ℕ
most_reads = 18446744073709551615

-- Why the reading stopped, after some reads: the last read gave no byte, or all reads were made.
abbrev pub Ended : List ℕ → Session → Result ℕ ℕ → Type 0
Ended file session (Ok reads) = Reached file session false reads
Ended file session (Err reads) = Reached file session true reads × (reads ≡ most_reads)
