-- A file that is written reads back as what was written.
use Rattle.std.specs.Prelude.{Ok}
use mathlib.Core.Path.{◌≡◌, refl, sym, ap, ◌∙◌}
use mathlib.Core.List.{List, ◌++◌}
use Prim.Native.Nat.{ℕ, suc, ◌+◌, ◌*◌, ◌%◌, ◌<◌, ◌≤◌}
use native.Mathlib.Nat.{mul-le-mul_right}
use native.Mathlib.Omega.{arith}
use lib.ListN.{length, get_or-append}
use Rattle.laws.proofs.Lists.{append_all}
use Rattle.laws.proofs.Joined.{joined_length, joined_at, joined_all, joined_same}
use Rattle.table.specs.declared.Entry.{Entry}
use Rattle.table.specs.File.{byte_at, Bytes}
use Rattle.table.specs.Entries.{entry_bytes, entry_place, entry_of}
use Rattle.table.specs.Layout.{file_length}
use Rattle.table.specs.Check.{check_of}
use Rattle.table.proofs.Fitting.{Fitting}
use Rattle.table.proofs.Accepted.{fitting_accepted}
use Rattle.table_writer.specs.Written.{entry_bytes_of, trailer_of, state_bytes, entries_of, plain_shape, file_of}
use Rattle.table_writer.specs.Statement.{Fields, WithinLimits, ReadsBack}
use Rattle.table_writer.proofs.Trailers.{file_length_lem, trailer_reads, two_bytes, trailer_bytes_lem}

-- ---- The entries

pub state_length : (m : ℕ) (entry : ℕ → Entry) → length (state_bytes m entry) ≡ entry_bytes * m
state_length m entry = joined_length (λ o. entry_bytes_of (entry o)) entry_bytes (λ _. refl) m

pub entries_length : (s m : ℕ) (entry : ℕ → ℕ → Entry) → length (entries_of s m entry) ≡ entry_bytes * (s * m)
entries_length s m entry =
    let long : length (entries_of s m entry) ≡ entry_bytes * m * s = joined_length _ (entry_bytes * m) (λ q. state_length m _) s in
    omega arith

-- ---- The file

-- Tables with the same entries have one file.
pub same_file : (s m start : ℕ) (one other : ℕ → ℕ → Entry) → ((q o : ℕ) → q < s → o < m → one q o ≡ other q o) → file_of s m start one ≡ file_of s m start other
unfolding file_of
same_file s m start one other same =
    ap (λ (front : List ℕ). front ++ trailer_of (plain_shape s m start))
    (joined_same (λ q. state_bytes m (one q)) (λ q. state_bytes m (other q)) s (λ q h. joined_same (λ o. entry_bytes_of (one q o)) (λ o. entry_bytes_of (other q o)) m (λ o l. ap entry_bytes_of (same q o h l))))

module _ (s m start : ℕ) (entry : ℕ → ℕ → Entry) where
  pub written_length : length (file_of s m start entry) ≡ file_length (plain_shape s m start)
  unfolding file_of
  written_length = omega (arith, file_length_lem (entries_of s m entry) (plain_shape s m start), entries_length s m entry)

  -- A byte of an entry.
  entry_byte : (q o i place : ℕ) → q < s → o < m → i < entry_bytes → place ≡ entry_bytes * (q * m + o) + i
      → byte_at (file_of s m start entry) place ≡ byte_at (entry_bytes_of (entry q o)) i
  unfolding file_of
  entry_byte q o i place below_s below_m small e =
      let front : List ℕ = entries_of s m entry in
      let at : place ≡ entry_bytes * m * q + (entry_bytes * o + i) = omega arith in
      let rows : suc q * m ≤ s * m = mul-le-mul_right m below_s in
      get_or-append front (trailer_of (plain_shape s m start)) 0 place (omega (arith, entries_length s m entry))
      ∙ ap (λ (k : ℕ). byte_at front k) at
      ∙ joined_at (λ q. state_bytes m (entry q)) (entry_bytes * m) (λ q. state_length m (entry q)) s 0 q (entry_bytes * o + i) below_s (omega arith)
      ∙ joined_at (λ o. entry_bytes_of (entry q o)) entry_bytes (λ _. refl) m 0 o i below_m small

  module _ (limits : WithinLimits s m start entry) where
    entry_read : (q o : ℕ) → q < s → o < m → entry_of (file_of s m start entry) (plain_shape s m start) q o ≡ entry q o
    unfolding entry_of
    entry_read q o below_s below_m =
        let next = entry_byte q o 0 (entry_place (plain_shape s m start) q o) below_s below_m (omega arith) (omega arith) in
        let response = entry_byte q o 1 (entry_place (plain_shape s m start) q o + 1) below_s below_m (omega arith) (omega arith) in
        let small : (entry q o).next % 256 ≡ (entry q o).next = omega (arith, limits.next_below q o below_s below_m, limits.few_states) in
        let byte : (entry q o).response % 256 ≡ (entry q o).response = omega (arith, limits.response_byte q o below_s below_m) in
        rw (next, response, small, byte)

    fields : Fields (plain_shape s m start)
    fields =
        record {
          offset = omega arith;
          states = omega (arith, limits.few_states);
          operations = omega (arith, limits.few_operations);
          start = omega (arith, limits.few_states, limits.start_below);
        }

    entry_bytes_lem : (e : Entry) → Bytes (entry_bytes_of e)
    entry_bytes_lem e = two_bytes (e.next % 256) (e.response % 256) (omega arith) (omega arith)

    written_bytes : Bytes (file_of s m start entry)
    unfolding file_of
    written_bytes =
        append_all (λ b. b < 256) 0 (entries_of s m entry) (trailer_of (plain_shape s m start))
        (joined_all (λ b. b < 256) 0 (λ q. state_bytes m (entry q)) (omega arith) (λ q. joined_all (λ b. b < 256) 0 (λ o. entry_bytes_of (entry q o)) (omega arith) (λ o. entry_bytes_lem (entry q o)) m) s)
        (trailer_bytes_lem (plain_shape s m start) fields)

    fitting : Fitting (file_of s m start entry) (plain_shape s m start)
    unfolding file_of
    fitting =
        let few : s * m ≤ 256 * m = mul-le-mul_right m limits.few_states in
        let reads = trailer_reads (entries_of s m entry) (plain_shape s m start) fields in
        record {
          shape_is = sym reads.says;
          not_short = omega (arith, written_length);
          not_long = omega (arith, written_length, few, limits.few_operations);
          marked = reads.marked;
          some_state = limits.some_state;
          few_states = limits.few_states;
          some_operation = limits.some_operation;
          few_operations = limits.few_operations;
          start_below = limits.start_below;
          little_text = omega arith;
          adds_up = sym written_length;
        }

    written_accepted : check_of (file_of s m start entry) ≡ Ok (plain_shape s m start)
    written_accepted =
        fitting_accepted (file_of s m start entry) (plain_shape s m start) fitting
        (λ q o below_s below_m. rw (entry_read q o below_s below_m) (limits.next_below q o below_s below_m))

    pub reads_back : ReadsBack s m start entry
    reads_back = record { long = written_length; bytes = written_bytes; accepted = written_accepted; entries = entry_read }
