-- What is proved of the bench as a whole, as types over its definitions. `proofs/Theorem.antt` has a proof of each.
use Rattle.std.specs.Prelude.{◌≡◌, Bool, false, cond, ◌≢◌, List, [], ◌∷◌, ◌++◌, ℕ, eqb, Result, Ok, Err}
use Rattle.table.specs.File.{Bytes, shape_of}
use Rattle.table.specs.Check.{check_of}
use Rattle.machine.specs.Calls.{Call}
use Rattle.stepping.specs.Runs.{Store, run_of}
use Rattle.stepping.specs.Opening.{Opening, shown}
use Rattle.bench_lines.specs.declared.command.Command.TheVariants as command
use Rattle.bench_session.specs.declared.run.Bench.{Bench}
use Rattle.bench_session.specs.Run.{lent, step_bench, finish_bench, serve_command}
use Rattle.bench_lines.specs.Line.{newline, cells_line}
use Rattle.bench_session.specs.Session.{is_served, table_text, output_of, Fed, new_session, and_then, feed, finish_text}
use Rattle.bench_lines.specs.declared.reply.Reply.{Reply}
use Rattle.bench_lines.specs.declared.reply.Reply.TheVariants as reply
use Rattle.refusal.specs.declared.Refusal.{Refusal}

-- How `d t` ends, by the reply of its first step: one that ends the operation or is refused is the last; after one that
-- answers running the last is one that ends the operation, with some response and a yes or no.
abbrev pub EndsBy : ℕ → (first last : Result Reply Refusal) → Type 0
EndsBy t (Ok reply.Silent) last = (r : ℕ) × (v : Bool) × (last ≡ (Ok (reply.Ended t r v)))
EndsBy t (Ok (reply.Started k s m)) last = ⊥
EndsBy t (Ok (reply.Ended u r v)) last = last ≡ (Ok (reply.Ended u r v))
EndsBy t (Err c) last = last ≡ Err c

-- The bench after any input.
abbrev pub bench_after : (file input : List ℕ) → Bench
bench_after file input = (feed file new_session input).fed.bench

-- `d t` steps task t until it ends: whatever the input before, its turns are enough.
abbrev pub Finishes : List ℕ → Type 0
Finishes file = Bytes file → (input : List ℕ) (t : ℕ)
    → EndsBy t (step_bench file (bench_after file input) t).reply (finish_bench file (bench_after file input) t).reply

-- What `m` prints after an input are the cells of a point of a run from the table's start state, and the next call goes on from there.
pub record PrintsPoint (file input : List ℕ) : Type 0 where
  pub store : Store
  pub opening : Opening file (bench_after file input).tasks (shape_of file).start store
  pub calls : List Call
  -- What the calls have left is what is lent to the next call.
  pub left : run_of file calls store ≡ lent (bench_after file input)
  pub line : (serve_command file (bench_after file input) command.Print).text ≡ cells_line ((shown opening).cells calls)

-- So it is whatever the input, once tasks are started.
abbrev pub PrintsPoints : List ℕ → Type 0
PrintsPoints file = Bytes file → (input : List ℕ) → (bench_after file input).tasks ≢ 0 → PrintsPoint file input

-- What the session's functions give is the whole output: the text of the table's test, then, if the table is served, the texts of
-- the input's bytes in their order and that of its end.
abbrev pub WholeOutput : (file input : List ℕ) → Type 0
WholeOutput file input =
    let all = feed file new_session input in
    output_of file input ≡ table_text (check_of file) ++ cond (is_served (check_of file)) (all.text ++ finish_text file all.fed) []

-- The input may be cut anywhere.
abbrev pub CutAnywhere : List ℕ → Type 0
CutAnywhere file = (fed : Fed) (xs ys : List ℕ) → feed file fed (xs ++ ys) ≡ and_then (feed file fed xs) (feed file (feed file fed xs).fed ys)

-- A last line that is not empty prints the same with byte 10 after it and without.
abbrev pub ServedUnfinished : (file input : List ℕ) → Type 0
ServedUnfinished file input = (b : ℕ) → eqb b newline ≡ false → output_of file (input ++ (b ∷ [])) ≡ output_of file (input ++ (b ∷ newline ∷ []))
