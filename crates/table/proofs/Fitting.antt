-- What it means that a file's length, mark and trailer are accepted.
use Rattle.std.specs.Prelude.{Ok, Err}
use Prim.Native.Nat.{ℕ, ◌<◌, ◌≤◌}
use mathlib.Core.Path.{◌≡◌, ap, ◌∙◌}
use mathlib.Core.Bool.{true, and-eq-true_iff}
use mathlib.Core.List.{List}
use borrow.Author.Tests.{leb-true, ltb-true, eqb-true, le-leb, lt-ltb, eq-eqb}
use lib.ListN.{length}
use Rattle.laws.proofs.Clash.{never}
use Rattle.laws.proofs.Choice.{taken}
use Rattle.refusal.specs.declared.Refusal.{Refusal}
use Rattle.refusal.specs.declared.Refusal.TheVariants.{File, Dimensions, Length}
use Rattle.table.specs.declared.Shape.{Shape}
use Rattle.table.specs.File.{ends_in_mark, shape_of, trailer_bytes}
use Rattle.table.specs.Layout.{longest_file, most_states, most_operations, greatest_offset, file_length, file_fits, dimensions_fit, length_fits, layout_of}

-- The negations of causes 1 to 3, one by one, for a file and its shape.
pub record Fitting (file : List ℕ) (shape : Shape) : Type 0 where
  pub shape_is : shape ≡ shape_of file
  pub not_short : trailer_bytes ≤ length file
  pub not_long : length file ≤ longest_file
  pub marked : ends_in_mark file ≡ true
  pub some_state : 1 ≤ shape.states
  pub few_states : shape.states ≤ most_states
  pub some_operation : 1 ≤ shape.operations
  pub few_operations : shape.operations ≤ most_operations
  pub start_below : shape.start < shape.states
  pub little_text : shape.offset ≤ greatest_offset
  pub adds_up : file_length shape ≡ length file

-- No refusal is an acceptance.
pub refused : (cause : Refusal) (shape : Shape) → Err cause ≡ Ok shape → ⊥
refused cause shape e = never cc

module _ (file : List ℕ) (shape : Shape) where
  file_parts : file_fits file ≡ true → (trailer_bytes ≤ length file) × ((length file ≤ longest_file) × (ends_in_mark file ≡ true))
  unfolding file_fits
  file_parts e =
      let p = (and-eq-true_iff _ _).0 e in
      let q = (and-eq-true_iff _ _).0 p.0 in
      (leb-true _ _ q.0, (leb-true _ _ q.1, p.1))

  dimension_parts : dimensions_fit shape ≡ true → ((1 ≤ shape.states) × (shape.states ≤ most_states)) × ((1 ≤ shape.operations) × ((shape.operations ≤ most_operations) × (shape.start < shape.states)))
  unfolding dimensions_fit
  dimension_parts e =
      let p = (and-eq-true_iff _ _).0 e in
      let q = (and-eq-true_iff _ _).0 p.0 in
      let r = (and-eq-true_iff _ _).0 q.0 in
      let s = (and-eq-true_iff _ _).0 r.0 in
      ((leb-true _ _ s.0, leb-true _ _ s.1), (leb-true _ _ r.1, (leb-true _ _ q.1, ltb-true _ _ p.1)))

  length_parts : length_fits (length file) shape ≡ true → (shape.offset ≤ greatest_offset) × (file_length shape ≡ length file)
  unfolding length_fits
  length_parts e =
      let p = (and-eq-true_iff _ _).0 e in
      (leb-true _ _ p.0, eqb-true _ _ p.1)

  -- An accepted layout means that none of causes 1 to 3 holds.
  pub layout_fitting : layout_of file ≡ Ok shape → Fitting file shape
  unfolding layout_of
  layout_fitting e =
      let f = taken (file_fits file) _ _ _ e (refused File shape) in
      let d = taken (dimensions_fit (shape_of file)) _ _ _ f.1 (refused Dimensions shape) in
      let l = taken (length_fits (length file) (shape_of file)) _ _ _ d.1 (refused Length shape) in
      let i : shape ≡ shape_of file = cc l.1 in
      let a = file_parts f.0 in
      let b = dimension_parts (ap dimensions_fit i ∙ d.0) in
      let k = length_parts (ap (length_fits (length file)) i ∙ l.0) in
      record {
        shape_is = i;
        not_short = a.0;
        not_long = a.1.0;
        marked = a.1.1;
        some_state = b.0.0;
        few_states = b.0.1;
        some_operation = b.1.0;
        few_operations = b.1.1.0;
        start_below = b.1.1.1;
        little_text = k.0;
        adds_up = k.1;
      }

  -- A file of which none of causes 1 to 3 holds has an accepted layout.
  pub fitting_layout : Fitting file shape → layout_of file ≡ Ok shape
  unfolding layout_of file_fits dimensions_fit length_fits
  fitting_layout f =
      simp (
        ← f.shape_is,
        le-leb _ _ f.not_short,
        le-leb _ _ f.not_long,
        f.marked,
        le-leb _ _ f.some_state,
        le-leb _ _ f.few_states,
        le-leb _ _ f.some_operation,
        le-leb _ _ f.few_operations,
        lt-ltb _ _ f.start_below,
        le-leb _ _ f.little_text,
        eq-eqb _ _ f.adds_up,
      )
