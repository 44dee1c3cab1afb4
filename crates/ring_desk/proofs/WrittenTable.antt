-- What the call that writes the table answers and leaves: case by case, and as its statement says it.
use Rattle.std.specs.Prelude.{Ok}
use mathlib.Core.Path.{◌≡◌, refl, sym, ap, subst, ◌∙◌}
use mathlib.Core.Bool.{Bool, true, false}
use mathlib.Core.List.{List, [], ◌∷◌, ◌++◌}
use Prim.Native.Nat.{ℕ, ◌+◌, ◌*◌, ◌<◌, ◌≤◌}
use native.Mathlib.Decide.{dec_lt}
use native.Mathlib.Omega.{arith}
use lib.ListN.{length, drop}
use Rattle.refusal.specs.declared.Refusal.TheVariants.{Rings, Room}
use Rattle.refusal.specs.Number.{accepted, refused_by}
use Rattle.refusal.specs.Written.{Writing, written_said, not_written, written_into}
use Rattle.refusal.specs.Statement.{Writes}
use Rattle.refusal.proofs.Numbers.{numbers_apart}
use Rattle.refusal.proofs.Writes.{not_written_lem, fully_written, writes_into}
use Rattle.table_writer.proofs.ReadsBack.{written_length}
use Rattle.ring_desk.specs.Rings.{ring_count, rings_fit}
use Rattle.ring_desk.specs.Table.{desk_operations, desk_entry, desk_file, table_of}
use Rattle.ring_desk.specs.Statement.{InRange, TableAnswered}
use Rattle.ring_desk.proofs.Ranges.{fits_range}
use Rattle.ring_desk.proofs.Answers.{no_range}

pub file_long : (rings : ℕ) → length (desk_file rings) ≡ 6 * rings + 22
unfolding desk_file
file_long rings = omega (arith, written_length (rings + 1) desk_operations 0 (desk_entry rings))

module _ (rings room : List ℕ) where
  pub table_no_range : rings_fit rings ≡ false → table_of rings room ≡ not_written Rings room
  unfolding table_of
  table_no_range e = simp e

  pub table_in_range : rings_fit rings ≡ true → table_of rings room ≡ written_into (desk_file (ring_count rings)) room
  unfolding table_of
  table_in_range e = simp e

  module _ (fits : rings_fit rings ≡ true) where
    pub table_no_room : length room < 6 * ring_count rings + 22 → table_of rings room ≡ not_written Room room
    table_no_room short = table_in_range fits ∙ not_written_lem (desk_file (ring_count rings)) room (omega (arith, file_long (ring_count rings)))

    pub table_written : 6 * ring_count rings + 22 ≤ length room
        → table_of rings room ≡ record { answer = Ok (6 * ring_count rings + 22); room = desk_file (ring_count rings) ++ drop (6 * ring_count rings + 22) room }
    table_written enough =
        table_in_range fits
        ∙ fully_written (desk_file (ring_count rings)) room (omega (arith, file_long (ring_count rings)))
        ∙ ap (λ (n : ℕ). record { answer = Ok n; room = desk_file (ring_count rings) ++ drop n room }) (file_long (ring_count rings))

-- ---- The statement

module _ (rings room : List ℕ) where
  refused : rings_fit rings ≡ false → TableAnswered rings room
  refused e =
      let out = table_no_range rings room e in
      record {
        out_of_range = (λ _. no_range rings e, λ _. ap (λ (w : Writing). written_said w.answer) out);
        unchanged = λ _. ap (λ (w : Writing). w.room) out;
        writes = λ range. absurd (no_range rings e range);
      }

  served : rings_fit rings ≡ true → TableAnswered rings room
  served e =
      let range = fits_range rings e in
      let file = desk_file (ring_count rings) in
      let whole = subst (Writes file room) (sym (table_in_range rings room e)) (writes_into file room) in
      record {
        out_of_range = (λ f. absurd (not_14 whole f (dec_lt (length room) (length file))), λ n. absurd (n range));
        unchanged = λ n. absurd (n range);
        writes = λ _. whole;
      }
    where
      -- A list in range is refused with 16, or a length is answered.
      not_14 : {file : List ℕ} {out : Writing} → Writes file room out → written_said out.answer ≡ refused_by 14 → Dec (length room < length file) → ⊥
      not_14 whole f (yes short) = numbers_apart (sym f ∙ whole.no_room.1 short) (λ z. omega arith)
      not_14 whole f (no n) = numbers_apart (sym f ∙ (whole.length_written _).1 (omega arith, refl)) (λ z. omega arith)

  pub table_answered : TableAnswered rings room
  table_answered = by (rings_fit rings) refl
    where
      by : (b : Bool) → rings_fit rings ≡ b → TableAnswered rings room
      by true e = served e
      by false e = refused e

  -- A length is answered only for a list in range.
  pub accepted_range : (bytes : ℕ) → written_said (table_of rings room).answer ≡ accepted (bytes ∷ []) → InRange rings
  accepted_range bytes e = by (rings_fit rings) refl
    where
      by : (b : Bool) → rings_fit rings ≡ b → InRange rings
      by true f = fits_range rings f
      by false f = absurd (numbers_apart (ap (λ (w : Writing). written_said w.answer) (sym (table_no_range rings room f)) ∙ e) (λ z. omega arith))
