-- The entries in the order in which they stand in the file: their next states are tested pair by pair.
use mathlib.Core.Path.{◌≡◌, sym, ap, ◌∙◌}
use mathlib.Core.Bool.{Bool, true, ◌&&◌, and-eq-true_iff}
use mathlib.Core.List.{List, []}
use Prim.Native.Nat.{ℕ, ◌+◌, ◌*◌, ◌/◌, ◌<◌, ◌≤◌}
use native.Mathlib.Nat.{mul-le-mul_right}
use native.Mathlib.Decide.{dec_lt}
use native.Mathlib.Omega.{arith}
use borrow.Author.Tests.{ltb-true, lt-ltb}
use lib.ListN.{length, get_or, take, drop}
use Rattle.std.specs.Prelude.{ltb}
use Rattle.std.specs.List.{list_all}
use Rattle.std.specs.Simd.{first_chunks}
use Rattle.std.specs.Cmp.{both_ways}
use Rattle.std.proofs.lemmas.List.{get_or-drop, get_or-take, get_or_past, length-take, length-drop}
use Rattle.laws.proofs.Listed.{listed_at, listed_of}
use Rattle.laws.proofs.Pairs.{pair_first, pairs_long}
use Rattle.laws.proofs.Rows.{row_of, row_below}
use Rattle.table.specs.declared.Shape.{Shape}
use Rattle.table.specs.File.{byte_at}
use Rattle.table.specs.Entries.{entry_bytes, entry_of, entries_in_range}
use Rattle.table.specs.Statement.{AllInRange}
use Rattle.table.proofs.Accepted.{tested_all, all_tested}

module _ (file : List ℕ) (shape : Shape) where
  -- How many entries there are, and their bytes, as many of them as the file has.
  abbrev entries : ℕ
  entries = shape.states * shape.operations

  abbrev part : List ℕ
  part = take (entry_bytes * entries) (drop shape.offset file)

  -- The next state of the entry at a place, by its bytes.
  part_next : (place : ℕ) → place < entries → get_or part (2 * place) 0 ≡ byte_at file (shape.offset + entry_bytes * place)
  part_next place h = get_or-take (entry_bytes * entries) (drop shape.offset file) (2 * place) 0 (omega arith) ∙ get_or-drop shape.offset file (2 * place) 0

  -- Every next state is in range by the bytes exactly if it is by state and operation.
  abbrev InRange : Type 0
  InRange = (place : ℕ) → place < entries → get_or part (2 * place) 0 < shape.states

  counted : InRange → AllInRange file shape
  unfolding entry_of
  counted each state operation q o =
      let h = row_below shape.states shape.operations state operation q o in
      omega (arith, part_next (state * shape.operations + operation) h, each (state * shape.operations + operation) h)

  by_places : AllInRange file shape → InRange
  unfolding entry_of
  by_places all place h =
      let found = row_of shape.states shape.operations place h in
      omega (arith, part_next place h, ap (λ k. byte_at file (shape.offset + entry_bytes * k)) found.same, all found.row found.place found.row_few found.place_few)

  -- The test of the entries that the file has whole, and of the next state that its end leaves alone, if it does.
  abbrev whole : ℕ
  whole = length part / 2

  abbrev pairs_fit : Bool
  pairs_fit = list_all (λ entry. ltb (get_or entry 0 0) shape.states) (first_chunks 2 whole part)

  abbrev cut_fits : Bool
  cut_fits = list_all (λ next. ltb next shape.states) (drop (whole * 2) part)

  pair_next : (place : ℕ) → place < whole → ltb (get_or (get_or (first_chunks 2 whole part) place []) 0 0) shape.states ≡ ltb (get_or part (2 * place) 0) shape.states
  pair_next place h = ap (λ k. ltb k shape.states) (pair_first whole part place h)

  cut_next : (place : ℕ) → place < length (drop (whole * 2) part) → ltb (get_or (drop (whole * 2) part) place 0) shape.states ≡ ltb (get_or part (2 * whole) 0) shape.states
  cut_next place h =
      let alone : place ≡ 0 = omega (arith, h, length-drop (whole * 2) part) in
      ap (λ k. ltb k shape.states) (get_or-drop (whole * 2) part place 0 ∙ ap (λ k. get_or part k 0) (omega (arith, alone)))

  some_state : (place : ℕ) → place < entries → 0 < shape.states
  some_state place h = by (dec_lt 0 shape.states)
    where
      by : Dec (0 < shape.states) → 0 < shape.states
      by (yes l) = l
      by (no n) = absurd (omega (arith, h, mul-le-mul_right {m = shape.states} {n = 0} shape.operations (omega (arith, n))))

  tested_in_range : (pairs_fit && cut_fits) ≡ true → InRange
  tested_in_range e place h = by (dec_lt place whole) (dec_lt (2 * place) (length part))
    where
      both : (pairs_fit ≡ true) × (cut_fits ≡ true)
      both = (and-eq-true_iff pairs_fit cut_fits).0 e

      by : Dec (place < whole) → Dec (2 * place < length part) → get_or part (2 * place) 0 < shape.states
      by (yes l) _ = ltb-true _ _ (sym (pair_next place l) ∙ listed_at _ (first_chunks 2 whole part) [] both.0 place (omega (arith, l, pairs_long whole part)))
      by (no n) (yes l) =
          let last : 2 * whole ≡ 2 * place = omega (arith, n, l) in
          let cut : 0 < length (drop (whole * 2) part) = omega (arith, last, l, length-drop (whole * 2) part) in
          ltb-true _ _ (ap (λ k. ltb (get_or part k 0) shape.states) (sym last) ∙ sym (cut_next 0 cut) ∙ listed_at _ (drop (whole * 2) part) 0 both.1 0 cut)
      by (no n) (no m) = omega (arith, get_or_past part (2 * place) 0 (omega (arith, m)), some_state place h)

  in_range_tested : InRange → (pairs_fit && cut_fits) ≡ true
  in_range_tested each = (and-eq-true_iff pairs_fit cut_fits).1 (pairs, cut)
    where
      few : length part ≤ 2 * entries
      few = omega (arith, length-take (entry_bytes * entries) (drop shape.offset file))

      pairs : pairs_fit ≡ true
      pairs = listed_of _ (first_chunks 2 whole part) [] (λ place h. let l : place < whole = omega (arith, h, pairs_long whole part) in pair_next place l ∙ lt-ltb _ _ (each place (omega (arith, l, few))))

      cut : cut_fits ≡ true
      cut = listed_of _ (drop (whole * 2) part) 0 (λ place h. cut_next place h ∙ lt-ltb _ _ (each whole (omega (arith, h, few, length-drop (whole * 2) part))))

  -- So the test of the bytes is that of the entries.
  pub bytes_tested : (pairs_fit && cut_fits) ≡ entries_in_range file shape
  bytes_tested =
      both_ways (pairs_fit && cut_fits) (entries_in_range file shape) (λ e. all_tested file shape (counted (tested_in_range e))) (λ e. in_range_tested (by_places (tested_all file shape e)))
