-- The output of the whole input: what the bytes print one after another, and the end of the input after them.
use mathlib.Core.Path.{◌≡◌, refl, ap, sym, ◌∙◌}
use mathlib.Core.Bool.{Bool, true, false, cond}
use mathlib.Core.List.{List, [], ◌∷◌, ◌++◌, append_assoc, append-nil}
use Prim.Native.Nat.{ℕ}
use lib.Dec.{eqb}
use Rattle.table.specs.Check.{check_of}
use Rattle.bench_lines.specs.Line.{newline}
use Rattle.bench_session.specs.declared.run.Bench.{Bench}
use Rattle.bench_session.specs.Run.{unstarted_bench}
use Rattle.bench_session.specs.Statement.{WholeOutput}
use Rattle.bench_session.specs.Session.{Fed, is_served, table_text, prefixed, lines_of, serve_line, print_lines, output_of, new_session, feed_byte, feed, last_text, finish_text}

-- Bytes before the first line; if there is none, they are a line that the end of the input ends, unless there are no bytes.
abbrev joined : List ℕ → List (List ℕ) → List (List ℕ)
joined [] lines = lines
joined (b ∷ bs) [] = (b ∷ bs) ∷ []
joined (b ∷ bs) (line ∷ lines) = ((b ∷ bs) ++ line) ∷ lines

joined_first : (bytes line : List ℕ) (lines : List (List ℕ)) → joined bytes (line ∷ lines) ≡ (bytes ++ line) ∷ lines
joined_first [] line lines = refl
joined_first (b ∷ bs) line lines = refl

joined_more : (bytes : List ℕ) (b : ℕ) (lines : List (List ℕ)) → joined (bytes ++ (b ∷ [])) lines ≡ joined bytes (prefixed b lines)
joined_more [] b [] = refl
joined_more [] b (line ∷ lines) = refl
joined_more (x ∷ xs) b [] = refl
joined_more (x ∷ xs) b (line ∷ lines) = ap (λ (l : List ℕ). (x ∷ l) ∷ lines) (append_assoc xs (b ∷ []) line)

-- The bytes of a line that is held, and more bytes.
last_lines : (file : List ℕ) (bench : Bench) (line : List ℕ) → last_text file bench line ≡ print_lines file bench (joined line [])
unfolding print_lines
last_lines file bench [] = refl
last_lines file bench (b ∷ bs) = sym (append-nil (serve_line file bench (b ∷ bs)).text)

-- What the first byte prints, and then the lines of the others.
byte_lines : (file : List ℕ) (fed : Fed) (b : ℕ) (bs : List ℕ)
    → (feed_byte file fed b).text ++ print_lines file (feed_byte file fed b).fed.bench (joined (feed_byte file fed b).fed.line (lines_of bs))
    ≡ print_lines file fed.bench (joined fed.line (lines_of (b ∷ bs)))
unfolding lines_of feed_byte print_lines
byte_lines file fed b bs = at (eqb b newline) refl
  where
    closed : (lines : List (List ℕ)) → print_lines file fed.bench (joined fed.line ([] ∷ lines)) ≡ print_lines file fed.bench (fed.line ∷ lines)
    closed lines = ap (print_lines file fed.bench) (joined_first fed.line [] lines ∙ ap (λ (l : List ℕ). l ∷ lines) (append-nil fed.line))

    at : (t : Bool) → eqb b newline ≡ t
        → (feed_byte file fed b).text ++ print_lines file (feed_byte file fed b).fed.bench (joined (feed_byte file fed b).fed.line (lines_of bs))
        ≡ print_lines file fed.bench (joined fed.line (lines_of (b ∷ bs)))
    at true e = simp e (sym (closed (lines_of bs)))
    at false e = simp e (ap (print_lines file fed.bench) (joined_more fed.line b (lines_of bs)))

-- What is printed for the bytes and for the end of the input after them.
abbrev printed_for : (file : List ℕ) (fed : Fed) (bytes : List ℕ) → List ℕ
printed_for file fed bytes = (feed file fed bytes).text ++ finish_text file (feed file fed bytes).fed

fed_lines : (file : List ℕ) (fed : Fed) (bytes : List ℕ) → printed_for file fed bytes ≡ print_lines file fed.bench (joined fed.line (lines_of bytes))
unfolding feed lines_of
fed_lines file fed [] = last_lines file fed.bench fed.line
fed_lines file fed (b ∷ bs) =
    let first = feed_byte file fed b in
    append_assoc first.text (feed file first.fed bs).text (finish_text file (feed file first.fed bs).fed)
    ∙ ap (λ (l : List ℕ). first.text ++ l) (fed_lines file first.fed bs) ∙ byte_lines file fed b bs

-- All that is printed, from what the table's test, the bytes and the end of the input print.
pub whole_output : (file input : List ℕ) → WholeOutput file input
unfolding output_of
whole_output file input = ap (λ (l : List ℕ). table_text (check_of file) ++ cond (is_served (check_of file)) l []) (sym (fed_lines file new_session input))

-- A last line that is not empty is the same with byte 10 after it and without.
lines_unfinished : (input : List ℕ) (b : ℕ) → eqb b newline ≡ false → lines_of (input ++ (b ∷ [])) ≡ lines_of (input ++ (b ∷ newline ∷ []))
unfolding lines_of
lines_unfinished [] b h = simp h
lines_unfinished (x ∷ xs) b h = ap (λ (ls : List (List ℕ)). cond (eqb x newline) ([] ∷ ls) (prefixed x ls)) (lines_unfinished xs b h)

pub output_unfinished : (file input : List ℕ) (b : ℕ) → eqb b newline ≡ false → output_of file (input ++ (b ∷ [])) ≡ output_of file (input ++ (b ∷ newline ∷ []))
unfolding output_of
output_unfinished file input b h =
    ap (λ (ls : List (List ℕ)). table_text (check_of file) ++ cond (is_served (check_of file)) (print_lines file unstarted_bench ls) []) (lines_unfinished input b h)
