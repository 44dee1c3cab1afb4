-- A file is some bytes and then a trailer: what is read from the trailer.
use mathlib.Core.Path.{◌≡◌, ◌∙◌}
use mathlib.Core.Bool.{true}
use mathlib.Core.List.{List, [], ◌∷◌, ◌++◌}
use Prim.Native.Nat.{ℕ, ◌+◌, ◌-◌, ◌/◌, ◌%◌, ◌<◌}
use native.Mathlib.Omega.{arith}
use borrow.Author.Tests.{le-leb, eq-eqb}
use lib.ListN.{length, length-append}
use lib.Seq.{get_or-append-add}
use Rattle.laws.proofs.Below.{all_of}
use Rattle.laws.proofs.Lists.{none_all, cons_all, append_all}
use Rattle.table.specs.declared.Shape.{Shape}
use Rattle.table.specs.File.{byte_at, Bytes, number16, number32, mark, mark_bytes, trailer_bytes, ends_in_mark, shape_of}
use Rattle.table_writer.specs.Written.{bytes16, bytes32, trailer_of}
use Rattle.table_writer.specs.Statement.{Fields, TrailerReads}

-- ---- What is read

module _ (front : List ℕ) (shape : Shape) where
  pub file_length_lem : length (front ++ trailer_of shape) ≡ length front + trailer_bytes
  file_length_lem = length-append front (trailer_of shape)

  byte_at_lem : (place i : ℕ) → place ≡ length front + i → byte_at (front ++ trailer_of shape) place ≡ byte_at (trailer_of shape) i
  byte_at_lem place i e = rw e (get_or-append-add front (trailer_of shape) i 0)

  number_at : (place i : ℕ) → place ≡ length front + i → number16 (front ++ trailer_of shape) place ≡ number16 (trailer_of shape) i
  number_at place i e = rw (byte_at_lem place i e, byte_at_lem (place + 1) (i + 1) (omega arith))

  -- The trailer says the shape.
  shape_read : Fields shape → shape_of (front ++ trailer_of shape) ≡ shape
  unfolding shape_of
  shape_read fit =
      let at : ℕ = length (front ++ trailer_of shape) - trailer_bytes in
      let file : List ℕ = front ++ trailer_of shape in
      let here : at ≡ length front = omega (arith, file_length_lem) in
      let states : number16 file (at + 4) ≡ shape.states = rw (number_at (at + 4) 4 (omega arith)) (omega (arith, fit.states)) in
      let operations : number16 file (at + 6) ≡ shape.operations = rw (number_at (at + 6) 6 (omega arith)) (omega (arith, fit.operations)) in
      let start : number16 file (at + 8) ≡ shape.start = rw (number_at (at + 8) 8 (omega arith)) (omega (arith, fit.start)) in
      let offset : number32 file at ≡ shape.offset = rw (number_at at 0 (omega arith), number_at (at + 2) 2 (omega arith)) (omega (arith, fit.offset)) in
      rw (offset, states, operations, start)

  -- The file ends in the mark.
  mark_read : ends_in_mark (front ++ trailer_of shape) ≡ true
  unfolding ends_in_mark
  mark_read =
      let fields : List ℕ = bytes32 shape.offset ++ bytes16 shape.states ++ bytes16 shape.operations ++ bytes16 shape.start in
      let file : List ℕ = front ++ trailer_of shape in
      simp (le-leb mark_bytes (length file) (omega (arith, file_length_lem)))
      (all_of mark_bytes _ (λ i h. eq-eqb _ _ (byte_at_lem (length file - mark_bytes + i) (10 + i) (omega (arith, file_length_lem)) ∙ get_or-append-add fields mark i 0)))

pub trailer_reads : (front : List ℕ) (shape : Shape) → Fields shape → TrailerReads front shape
trailer_reads front shape fit = record { says = shape_read front shape fit; marked = mark_read front shape }

-- ---- Its bytes

pub two_bytes : (a b : ℕ) → a < 256 → b < 256 → Bytes (a ∷ b ∷ [])
two_bytes a b small_a small_b =
    cons_all (λ x. x < 256) 0 a (b ∷ []) small_a (cons_all (λ x. x < 256) 0 b [] small_b (none_all (λ x. x < 256) 0 (omega arith)))

number_bytes : (n : ℕ) → n < 65536 → Bytes (bytes16 n)
number_bytes n h = two_bytes (n % 256) (n / 256) (omega arith) (omega arith)

both_bytes : (xs ys : List ℕ) → Bytes xs → Bytes ys → Bytes (xs ++ ys)
both_bytes xs ys = append_all (λ b. b < 256) 0 xs ys

mark_bytes_lem : Bytes mark
mark_bytes_lem =
    both_bytes (68 ∷ 82 ∷ 73 ∷ 86 ∷ []) (69 ∷ 49 ∷ [])
    (both_bytes (68 ∷ 82 ∷ []) (73 ∷ 86 ∷ []) (two_bytes 68 82 (omega arith) (omega arith)) (two_bytes 73 86 (omega arith) (omega arith)))
    (two_bytes 69 49 (omega arith) (omega arith))

pub trailer_bytes_lem : (shape : Shape) → Fields shape → Bytes (trailer_of shape)
trailer_bytes_lem shape fit =
    let offset = both_bytes (bytes16 (shape.offset % 65536)) (bytes16 (shape.offset / 65536)) (number_bytes _ (omega arith)) (number_bytes _ (omega (arith, fit.offset))) in
    let states = both_bytes (bytes32 shape.offset) (bytes16 shape.states) offset (number_bytes _ fit.states) in
    let operations = both_bytes (bytes32 shape.offset ++ bytes16 shape.states) (bytes16 shape.operations) states (number_bytes _ fit.operations) in
    let start = both_bytes (bytes32 shape.offset ++ bytes16 shape.states ++ bytes16 shape.operations) (bytes16 shape.start) operations (number_bytes _ fit.start) in
    both_bytes (bytes32 shape.offset ++ bytes16 shape.states ++ bytes16 shape.operations ++ bytes16 shape.start) mark start mark_bytes_lem
