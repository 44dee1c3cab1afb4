-- The object table of a drive is accepted, and counts rings.
use mathlib.Core.Path.{◌≡◌, refl, sym, ap, subst, ◌∙◌}
use mathlib.Core.Bool.{true, false}
use Prim.Native.Nat.{ℕ, zero, suc, ◌+◌, ◌-◌, ◌<◌, ◌≤◌}
use native.Mathlib.Decide.{dec_lt}
use native.Mathlib.Omega.{arith}
use borrow.Author.Tests.{lt-ltb, le-ltb}
use Rattle.table.specs.declared.Entry.{Entry}
use Rattle.table.specs.Entries.{entry_of}
use Rattle.reach.specs.Walk.{Reachable}
use Rattle.reach.specs.Changing.{changing}
use Rattle.reach.specs.Statement.{ChangingExactly}
use Rattle.reach.proofs.Search.{start_reached, next_reached}
use Rattle.reach.proofs.Changing.{accepted_states, accepted_changing}
use Rattle.table_writer.specs.Statement.{WithinLimits, ReadsBack}
use Rattle.table_writer.proofs.ReadsBack.{reads_back}
use Rattle.ring_desk.specs.Table.{desk_operations, next_built, desk_entry, desk_shape, desk_file}
use Rattle.ring_desk.specs.Statement.{Counts, read, build, build_at_last, take_out, take_out_at_none, DriveTable, DriveTables}
use Rattle.ring_desk.proofs.WrittenTable.{file_long}

-- ---- Counting

-- A take out takes one away, if there is one.
one_away : (rings built operation : ℕ) → next_built rings built (suc (suc operation)) ≡ built - 1
one_away rings built operation = by (dec_lt 0 built)
  where
    by : Dec (0 < built) → next_built rings built (suc (suc operation)) ≡ built - 1
    by (yes h) = rw (lt-ltb 0 built h)
    by (no n) = rw (le-ltb 0 built (omega arith)) (omega arith)

-- The definition counts.
next_counts : (rings built operation : ℕ) → built ≤ rings → operation < desk_operations → Counts rings built operation (next_built rings built operation)
next_counts rings built zero h l = read
next_counts rings built (suc zero) h l = by (dec_lt built rings)
  where
    by : Dec (built < rings) → Counts rings built 1 (next_built rings built 1)
    by (yes below) = rw (lt-ltb _ _ below) (build below)
    by (no n) = let last : built ≡ rings = omega arith in rw (le-ltb built rings (omega arith), last) build_at_last
next_counts rings zero (suc (suc zero)) h l = take_out_at_none
next_counts rings (suc built) (suc (suc zero)) h l =
    let before : suc built ≡ built + 1 = omega arith in
    let after : suc built - 1 ≡ built = omega arith in
    rw (one_away rings (suc built) 0, after, before) take_out
next_counts rings built (suc (suc (suc operation))) h l = absurd (omega arith)

-- It counts in one way.
counts_next : (rings built operation after : ℕ) → Counts rings built operation after → after ≡ next_built rings built operation
counts_next rings built operation after read = refl
counts_next rings built operation after (build below) = rw (lt-ltb _ _ below)
counts_next rings built operation after build_at_last = rw (le-ltb rings rings (omega arith))
counts_next rings built operation after take_out = omega (arith, one_away rings (after + 1) 0)
counts_next rings built operation after take_out_at_none = refl

-- No more than all rings are built.
pub counts_few : {rings built operation after : ℕ} → Counts rings built operation after → built ≤ rings → after ≤ rings
counts_few read h = h
counts_few (build l) h = omega arith
counts_few build_at_last h = h
counts_few take_out h = omega arith
counts_few take_out_at_none h = h

-- ---- The file

module _ (rings : ℕ) (some : 1 ≤ rings) (few : rings ≤ 255) where
  limits : WithinLimits (rings + 1) desk_operations 0 (desk_entry rings)
  limits =
      record {
        some_state = omega arith;
        few_states = omega arith;
        some_operation = omega arith;
        few_operations = omega arith;
        start_below = omega arith;
        next_below = λ built operation h l. let few_built : built ≤ rings = omega arith in omega (arith, counts_few (next_counts rings built operation few_built l) few_built);
        response_byte = λ built operation h l. omega arith;
      }

  back : ReadsBack (rings + 1) desk_operations 0 (desk_entry rings)
  back = reads_back (rings + 1) desk_operations 0 (desk_entry rings) limits

  entry_is : (built operation : ℕ) → built ≤ rings → operation < desk_operations → entry_of (desk_file rings) (desk_shape rings) built operation ≡ desk_entry rings built operation
  unfolding desk_file
  entry_is built operation h l = back.entries built operation (omega arith) l

  next_is : (built operation : ℕ) → built ≤ rings → operation < desk_operations → (entry_of (desk_file rings) (desk_shape rings) built operation).next ≡ next_built rings built operation
  next_is built operation h l = ap (λ (e : Entry). e.next) (entry_is built operation h l)

  -- Every number of rings is reached by so many builds.
  reached : (built : ℕ) → built ≤ rings → Reachable (desk_file rings) (desk_shape rings) built
  reached zero h = start_reached (desk_file rings) (desk_shape rings)
  reached (suc built) h =
      let one_more : next_built rings built 1 ≡ suc built = rw (lt-ltb built rings h) (omega arith) in
      subst (Reachable (desk_file rings) (desk_shape rings)) (next_is built 1 (omega arith) (omega arith) ∙ one_more)
      (next_reached (desk_file rings) (desk_shape rings) built 1 (reached built (omega arith)) (omega arith))

  changes : (operation : ℕ) → ChangingExactly (desk_file rings) (desk_shape rings) operation
  unfolding desk_file
  changes = accepted_changing (desk_file rings) (desk_shape rings) back.accepted

  reads : changing (desk_file rings) (desk_shape rings) 0 ≡ false
  unfolding desk_file
  reads = (changes 0).reads.1 (λ built r. next_is built 0 (let below = (accepted_states (desk_file rings) (desk_shape rings) back.accepted).below built r in omega (arith, below)) (omega arith))

  -- An operation that moves a state is changing.
  moved : (built operation : ℕ) → built ≤ rings → operation < desk_operations → (next_built rings built operation ≡ built → ⊥) → changing (desk_file rings) (desk_shape rings) operation ≡ true
  moved built operation h l other = (changes operation).changes.1 (built, reached built h, λ e. other (sym (next_is built operation h l) ∙ e))

  drive_table : DriveTable rings
  unfolding desk_file
  drive_table =
      record {
        long = file_long rings;
        bytes = back.bytes;
        accepts = back.accepted;
        counts = λ built operation h l. rw (next_is built operation h l) (next_counts rings built operation h l);
        counts_once = λ built operation one other a b. counts_next rings built operation one a ∙ sym (counts_next rings built operation other b);
        responds = λ built operation h l. ap (λ (e : Entry). e.response) (entry_is built operation h l);
        reached = reached;
        reads = reads;
        builds = moved 0 1 (omega arith) (omega arith) (rw (lt-ltb 0 rings some) (λ e. omega arith));
        takes_out = moved 1 2 some (omega arith) (λ e. omega arith);
      }

pub drive_tables : DriveTables
drive_tables = drive_table
