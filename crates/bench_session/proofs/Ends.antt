-- The end of the input: a line that is held is served, an empty one is none.
use mathlib.Core.Path.{◌≡◌, refl}
use mathlib.Core.List.{List, [], ◌∷◌}
use Prim.Native.Nat.{ℕ}
use native.Mathlib.Omega.{arith}
use lib.ListN.{length}
use Rattle.bench_session.specs.declared.run.Bench.{Bench}
use Rattle.bench_session.specs.Session.{Fed, serve_line, last_text, finish_text, end_line}

last_none : (file : List ℕ) (bench : Bench) (line : List ℕ) → length line ≡ 0 → [] ≡ last_text file bench line
last_none file bench [] e = refl
last_none file bench (b ∷ bs) e = absurd (omega arith)

last_some : (file : List ℕ) (bench : Bench) (line : List ℕ) → (length line ≡ 0 → ⊥) → (serve_line file bench line).text ≡ last_text file bench line
last_some file bench [] h = absurd (h refl)
last_some file bench (b ∷ bs) h = refl

pub none_held : (file : List ℕ) (fed : Fed) → length fed.line ≡ 0 → [] ≡ finish_text file fed
none_held file fed e = last_none file fed.bench fed.line e

pub some_held : (file : List ℕ) (fed : Fed) → (length fed.line ≡ 0 → ⊥) → (end_line file fed).text ≡ finish_text file fed
some_held file fed h = last_some file fed.bench fed.line h
