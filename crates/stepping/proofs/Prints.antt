-- What may be read in a print: it is so in the words of the machine's cells; and what follows from it.
use mathlib.Core.Path.{◌≡◌, refl, sym, ap, ◌∙◌}
use mathlib.Core.Bool.{true, false, not-eq-not}
use mathlib.Core.List.{List}
use Prim.Native.Nat.{ℕ, zero, suc, ◌<◌, ◌≤◌}
use native.Mathlib.Decide.{dec_lt}
use native.Mathlib.Numerals.{add-one}
use lib.ListN.{get_or}
use Rattle.laws.proofs.Clash.{clash}
use Rattle.cells.specs.Field.{unpack}
use Rattle.cells.specs.Layout.{marks_width, has_mark, holder_in, kind_in}
use Rattle.cells.specs.Image.{image}
use Rattle.cells.specs.Marks.{has}
use Rattle.cells.proofs.Untraced.{untraced}
use Rattle.cells.proofs.WordMarks.{zero_mark}
use Rattle.table.specs.declared.Shape.{Shape}
use Rattle.machine.specs.Object.{Object}
use Rattle.machine.specs.Outcome.{Outcome}
use Rattle.machine.specs.Memory.{Held, Empty, Memory}
use Rattle.machine.specs.Calls.{Event}
use Rattle.machine.specs.Book.{Operation}
use Rattle.machine.specs.History.{Pending, Nothing, Pends, pending, Quiet, Changes, Rest}
use Rattle.machine.specs.Invariant.{content}
use Rattle.machine.specs.Form.{MemoryFormed}
use Rattle.machine.specs.Points.{MidWork}
use Rattle.transition.specs.Object.{ObjectTable, object_of}
use Rattle.transition.proofs.EncodedCells.{state_seen, holder_seen, head_mark, announcement_mark}
use Rattle.stepping.specs.Encoding.{encode_cells}
use Rattle.stepping.specs.Print.{EmptyAt, Print, Shows, announced, marked, holds, PrintAtRest}
use Rattle.stepping.proofs.Accesses.{cell_at, cell_beyond, encoded_empty}

-- ---- The machine's cells as words

zero_kind : kind_in 0 ≡ 0
unfolding unpack
zero_kind = refl

module _ (file : List ℕ) (shape : Shape) (table : ObjectTable file shape) (n : ℕ) (most : n ≤ marks_width) (m : Memory) (ranged : MemoryFormed (object_of file shape) n m) where
  -- A mark that stands in no cell is shown by no word.
  unseen : (t k : ℕ) → (has t m.head.marks ≡ true → ⊥) → ((j : ℕ) → has t (m.announcement j).marks ≡ true → ⊥) → has_mark t (get_or (encode_cells n m) k 0) ≡ true → ⊥
  unseen t zero head others e = head (head_mark file shape table n most m.head ranged.head t e)
  unseen t (suc j) head others e = by (dec_lt j n)
    where
      by : Dec (j < n) → ⊥
      by (yes below) =
          let word = rw (add-one j) at (cell_at n m j below) in
          others j (announcement_mark file shape table n most (m.announcement j) (ranged.announcement j) t (ap (has_mark t) (sym word) ∙ e))
      by (no beyond) = clash e (ap (has_mark t) (rw (add-one j) at (cell_beyond n m j beyond)) ∙ zero_mark t)

  pub encoded_print : (q : ℕ) (es : List Event) (order : List Operation) → MidWork (object_of file shape) q m es order → Print (object_of file shape) n q (encode_cells n m) es order
  encoded_print q es order w = record {
    kind = λ t quiet. kind_seen t (dec_lt t n) (w.empty t quiet);
    mark = λ t k quiet. (not-eq-not {b = false}).0 (unseen t k (w.head_mark t quiet) (λ j. w.announcement_mark t j quiet));
    holder = λ j e. let (p, r, held) = holder_seen file shape table n most m.head ranged.head j e in (bounded j p r held, w.holder p j r held);
    state = state_seen file shape table n most m.head ranged.head ∙ w.state;
  }
    where
      kind_seen : (t : ℕ) → Dec (t < n) → content m t ≡ Empty → EmptyAt (encode_cells n m) t
      kind_seen t (yes below) empty = (encoded_empty file shape table n most m ranged t below).1 empty
      kind_seen t (no beyond) empty = ap kind_in (cell_beyond n m t beyond) ∙ zero_kind

      bounded : (j p : ℕ) (r : Outcome) → m.head.value ≡ Held p j r → j < n
      bounded j p r held = (rw held at ranged.head.value).1

-- ---- What follows from a print

module _ (b : Object) where
  -- What isn't quiet has a changing operation pending.
  not_quiet : (p : Pending) → (Quiet b p → ⊥) → Changes b p
  not_quiet Nothing f = absurd (f tt)
  not_quiet (Pends o s) f = (not-eq-not {b = true}).0 f

  quiet_changes : (p : Pending) → Quiet b p → Changes b p → ⊥
  quiet_changes Nothing r c = c
  quiet_changes (Pends o s) r c = clash c r

  module _ (n q : ℕ) (cells : List ℕ) (es : List Event) (order : List Operation) where
    -- What the cells show of a task is work on a changing operation.
    pub shown_changes : Print b n q cells es order → (t : ℕ) → Shows cells t → Changes b (pending es t)
    shown_changes p t (announced e) = not_quiet (pending es t) (λ r. e (p.kind t r))
    shown_changes p t (marked k e) = not_quiet (pending es t) (λ r. clash e (p.mark t k r))
    shown_changes p t (holds e) = (p.holder t e).1

    -- Without a changing operation pending nobody holds the head.
    unheld : Print b n q cells es order → Rest b es → (h : ℕ) → holder_in (get_or cells 0 0) ≡ h → h ≡ 0
    unheld p rests zero e = refl
    unheld p rests (suc j) e = absurd (quiet_changes (pending es j) (rests j) (p.holder j (e ∙ sym (add-one j))).1)

    pub print_at_rest : (s m : ℕ) → PrintAtRest b s m n q cells es order
    print_at_rest s m p long formed rests =
        untraced s m n cells long formed (λ t below. p.kind t (rests t)) (unheld p rests _ refl) (λ t k. p.mark t k (rests t))
        ∙ ap (image n) p.state
