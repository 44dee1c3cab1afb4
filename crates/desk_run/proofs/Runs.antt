-- A run over a table that the desk has written counts rings.
use Rattle.std.specs.Prelude.{Ok}
use mathlib.Core.Path.{◌≡◌, sym, ap, subst, ◌∙◌}
use mathlib.Core.Bool.{Bool, not}
use mathlib.Core.List.{List, [], ◌∷◌}
use Prim.Native.Nat.{ℕ, zero, suc, ◌+◌, ◌<◌, ◌≤◌}
use native.Mathlib.Omega.{arith}
use lib.Dec.{eqb}
use lib.ListN.{length, take}
use lib.Seq.{take-length}
use Rattle.laws.specs.Places.{At, here, later}
use Rattle.table.specs.declared.Shape.{Shape}
use Rattle.table.specs.File.{Bytes, shape_of}
use Rattle.table.specs.Entries.{moves, entry_of}
use Rattle.table.specs.Check.{check_of}
use Rattle.table.proofs.Accepted.{accepted_fitting}
use Rattle.machine.specs.Outcome.{Outcome}
use Rattle.machine.specs.Calls.{Call}
use Rattle.machine.specs.Book.{Operation}
use Rattle.machine.specs.History.{reached, replayed}
use Rattle.machine.proofs.Book.Replay.{replayed_at}
use Rattle.machine.proofs.Whole.Books.{state_replayed, order_below}
use Rattle.records.specs.declared.record.Task.{Task}
use Rattle.stepping.specs.Call.{start_of}
use Rattle.stepping.specs.Runs.{Store}
use Rattle.stepping.specs.Opening.{Opening, object_in, start_store}
use Rattle.stepping.specs.Statement.{Demands, EntryUsed}
use Rattle.stepping.proofs.Theorem.{start_accepted, start_opens, demands_met, answered_known}
use Rattle.ring_desk.specs.Rings.{ring_count}
use Rattle.ring_desk.specs.Table.{desk_shape, desk_file, table_of}
use Rattle.ring_desk.specs.Statement.{Counts, DriveTable}
use Rattle.ring_desk.proofs.DriveTables.{counts_few, drive_tables}
use Rattle.ring_desk.proofs.WrittenTable.{table_answered, accepted_range}
use Rattle.desk_run.specs.Statement.{Counted, none, then, AnswersCount, CountsRings, DriveRuns}

-- No more than all rings are built.
counted_few : {rings before after : ℕ} {xs : List Operation} → Counted rings before xs after → before ≤ rings → after ≤ rings
counted_few none h = h
counted_few (then c rest) h = counted_few rest (counts_few c h)

module _ (rings : ℕ) (some : 1 ≤ rings) (few : rings ≤ 255) {file : List ℕ} (written : file ≡ desk_file rings) where
  facts : DriveTable rings
  facts = drive_tables rings some few

  accepted : check_of file ≡ Ok (desk_shape rings)
  accepted = ap check_of written ∙ facts.accepts

  module _ {n : ℕ} {s : Store} (o : Opening file n 0 s) where
    shape_is : o.shape ≡ desk_shape rings
    shape_is = cc (sym o.table.accepted ∙ accepted)

    counts : (built operation : ℕ) → built ≤ rings → operation < 3 → Counts rings built operation ((object_in o).next built operation)
    counts built operation h l = rw (shape_is, written) (facts.counts built operation h l)

    responds : (built operation : ℕ) → built ≤ rings → operation < 3 → (entry_of file o.shape built operation).response ≡ built
    responds built operation h l = rw (shape_is, written) (facts.responds built operation h l)

    -- Replay of the first operations of an order counts.
    counted : (k built : ℕ) (order : List Operation) → built ≤ rings → ((i : ℕ) (x : Operation) → At order i x → x.operation < 3)
        → Counted rings built (take k order) (reached (object_in o) built (take k order))
    counted zero built order h below = none
    counted (suc k) built [] h below = none
    counted (suc k) built (x ∷ order) h below =
        let c = counts built x.operation h (below 0 x here) in
        then c (counted k ((object_in o).next built x.operation) order (counts_few c h) (λ i y at. below (suc i) y (later at)))

    module _ (d : Demands o) (xs : List Call) where
      abbrev order : List Operation
      order = (d.book xs).order

      below : (i : ℕ) (x : Operation) → At order i x → x.operation < 3
      below i x at = subst (λ (m : ℕ). x.operation < m) (ap (λ (v : Shape). v.operations) shape_is) (order_below d xs i x at)

      -- The number of rings built by the first operations of the order.
      built_by : (k : ℕ) → Counted rings 0 (take k order) (reached (object_in o) 0 (take k order))
      built_by k = counted k 0 order (omega arith) below

      state_counted : Counted rings 0 order (d.book xs).state
      state_counted = rw (state_replayed d xs) (subst (λ (part : List Operation). Counted rings 0 part (reached (object_in o) 0 part)) (take-length order) (built_by (length order)))

      answer_counted : (x : Operation) (r : ℕ) (moved : Bool) → EntryUsed file o.shape 0 order x r moved → AnswersCount rings order x r moved
      unfolding moves
      answer_counted x r moved used =
          let before = reached (object_in o) 0 (take used.place order) in
          let few_before : before ≤ rings = counted_few (built_by used.place) (omega arith) in
          let listed : x.operation < 3 = below used.place x used.stands in
          let same : r ≡ before = used.response_used ∙ responds before x.operation few_before listed in
          record {
            place = used.place;
            stands = used.stands;
            built_before = rw same (built_by used.place);
            after = (object_in o).next before x.operation;
            built_after = rw same (counts before x.operation few_before listed);
            moved_is = used.moved_used ∙ ap (λ (k : ℕ). not (eqb ((object_in o).next before x.operation) k)) (sym same);
          }

      -- By the replay at its place, an operation of the order used its entry.
      entered_counted : (i : ℕ) (x : Operation) → At order i x → let v = replayed (object_in o) 0 order i in AnswersCount rings order x v.response v.moved
      entered_counted i x at =
          let v = replayed (object_in o) 0 order i in
          let same = replayed_at (object_in o) 0 at in
          answer_counted x v.response v.moved (record { place = i; stands = at; response_used = ap (λ (w : Outcome). w.response) same; moved_used = ap (λ (w : Outcome). w.moved) same })

    counts_rings : (d : Demands o) → CountsRings rings o d
    counts_rings d =
        record {
          state = state_counted d;
          entered = λ xs i x at. entered_counted d xs i x at;
          answers = λ xs x p r moved begins ends. answer_counted d xs x r moved (answered_known o d xs x p r moved begins ends);
        }

  -- Start accepts the table, and opens a run with no ring built.
  module _ (cells : List ℕ) (row : List Task) (records : 1 ≤ length row) (few_records : length row ≤ 8) (one_more : length cells ≡ length row + 1) where
    started : (start_of file cells row).answer ≡ (Ok tt)
    started = (start_accepted file cells row).1 ((desk_shape rings, accepted), records, few_records, one_more)

    opened : Opening file (length row) 0 (start_store file cells row)
    opened =
        let bytes : Bytes file = subst Bytes (sym written) facts.bytes in
        let start_is : (shape_of file).start ≡ 0 = ap (λ (v : Shape). v.start) (sym (accepted_fitting file (desk_shape rings) accepted).shape_is) in
        subst (λ (q : ℕ). Opening file (length row) q (start_store file cells row)) start_is (start_opens file cells row bytes started)

pub drive_runs : (rings room : List ℕ) (bytes : ℕ) → DriveRuns rings room bytes
drive_runs rings room bytes e cells row records few_records one_more =
    let range = accepted_range rings room bytes e in
    let k : ℕ = ring_count rings in
    let wrote = (table_answered rings room).writes range in
    let (fits, long) = (wrote.length_written bytes).0 e in
    let written : take bytes (table_of rings room).room ≡ desk_file k = ap (λ (n : ℕ). take n (table_of rings room).room) long ∙ wrote.front fits in
    let o = opened k range.some range.few written cells row records few_records one_more in
    (started k range.some range.few written cells row records few_records one_more, (o, demands_met o, counts_rings k range.some range.few written o))
