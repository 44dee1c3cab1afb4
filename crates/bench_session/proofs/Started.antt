-- A start on the bench: an accepted one opens a run on the first cells and records.
use Rattle.std.specs.Prelude.{Result, Ok, Err, ⊤}
use mathlib.Core.Path.{◌≡◌, refl, sym, subst, ◌∙◌}
use mathlib.Core.Bool.{Bool, true, false}
use mathlib.Core.List.{List, []}
use Prim.Native.Nat.{ℕ, ◌≤◌}
use native.Mathlib.Omega.{arith}
use lib.Dec.{leb}
use lib.ListN.{length, take}
use lib.Seq.{length_front, length-take-le}
use Rattle.laws.proofs.Lists.{front_taken}
use Rattle.table.specs.File.{Bytes, shape_of}
use Rattle.records.specs.declared.record.Task.{Task}
use Rattle.stepping.specs.Call.{start_of}
use Rattle.stepping.specs.Opening.{Opening, start_store}
use Rattle.stepping.proofs.Theorem.{start_opens}
use Rattle.bench_row.specs.First.{first_count, start_first}
use Rattle.bench_row.proofs.Firsts.{first_few}
use Rattle.bench_session.specs.declared.run.Bench.{Bench}
use Rattle.bench_session.specs.Run.{cell_count, start_held, start_bench, opened}
use Rattle.bench_session.proofs.Openings.{start_sizes}
use Rattle.stepping.proofs.Between.{store_same}
use Rattle.bench_session.proofs.Situations.{Consistent, during, few_cells}
use Rattle.refusal.specs.declared.Refusal.{Refusal}

-- Fewer than nine records are lent as they are counted.
counted : (k : ℕ) → first_count k ≤ 8 → first_count k ≡ k
counted k = at (leb k 9) refl
  where
    at : (b : Bool) → leb k 9 ≡ b → first_count k ≤ 8 → first_count k ≡ k
    at true e h = rw e
    at false e h = absurd (let h' = rw e at h in omega arith)

module _ (file : List ℕ) (bytes : Bytes file) (bench : Bench) (c : Consistent file bench) (k : ℕ) where
  lent_cells : List ℕ
  lent_cells = take (cell_count k) bench.cells

  lent_row : List Task
  lent_row = take (first_count k) bench.row

  pub consistent_start : Consistent file (start_bench file bench k).bench
  unfolding start_bench start_held start_first lent_cells lent_row
  consistent_start = at (start_of file lent_cells lent_row).answer refl
    where
      at : (a : Result ⊤ Refusal) → (start_of file lent_cells lent_row).answer ≡ a
          → Consistent file (opened bench k (shape_of file) (start_held file bench.cells bench.row k) a).bench
      at (Err cause) e = c
      at (Ok tt) e =
          let s = start_sizes file lent_cells lent_row bytes e in
          let out = start_of file lent_cells lent_row in
          let cells_room : cell_count k ≤ length bench.cells = rw c.nine.cells (few_cells k) in
          let row_room : first_count k ≤ length bench.row = rw c.nine.row (first_few k _ refl) in
          let long : length lent_row ≡ first_count k = length-take-le (first_count k) bench.row row_room in
          let n : length lent_row ≡ k = long ∙ counted k (omega (arith, s.most, long)) in
          record {
            nine = record {
              cells = length_front bench.cells out.cells (cell_count k) s.cells_kept ∙ c.nine.cells;
              row = length_front bench.row out.row (first_count k) s.row_kept ∙ c.nine.row;
            };
            situation = during
                (subst (λ (m : ℕ). Opening file m (shape_of file).start (start_store file lent_cells lent_row)) n (start_opens file lent_cells lent_row bytes e))
                []
                (sym (store_same (front_taken (cell_count k) out.cells bench.cells cells_room s.cells_kept) (front_taken (first_count k) out.row bench.row row_room s.row_kept)));
          }
