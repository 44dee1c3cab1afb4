-- An access to encoded cells: the word that it touches, what it gives back and what it leaves.
use mathlib.Core.Path.{◌≡◌, refl, ap, sym}
use mathlib.Core.Bool.{true, cond}
use mathlib.Core.Logic.{◌↔◌, ite}
use mathlib.Core.List.{List, ◌∷◌}
use Prim.Native.Nat.{ℕ, ◌+◌, ◌<◌, ◌≤◌}
use native.Mathlib.Numerals.{add-one}
use native.Mathlib.Omega.{arith}
use borrow.Author.Tests.{ne_eqb}
use lib.Dec.{eqb}
use lib.ListN.{length, get_or, set, get_or-eq_default}
use lib.Seq.{set-get_or}
use Rattle.laws.specs.Update.{update}
use Rattle.laws.specs.Decision.{decided}
use Rattle.laws.specs.Tabulate.{tabulate}
use Rattle.laws.proofs.Decision.{cond_ite}
use Rattle.cells.specs.Form.{cells_in_form}
use Rattle.cells.specs.Layout.{marks_width, kind_in}
use Rattle.cells.proofs.Images.{cells_by_each}
use Rattle.table.specs.declared.Shape.{Shape}
use Rattle.machine.specs.Object.{Object}
use Rattle.machine.specs.Memory.{Cell, Content, Empty, Memory, head_dec, announcement_dec}
use Rattle.machine.specs.Machine as machine
use Rattle.machine.specs.Machine.{NoAccess, ReadHead, ReadAnnouncement, WriteAnnouncement, SwapHead, SwapAnnouncement, result, perform}
use Rattle.machine.specs.Invariant.{content}
use Rattle.machine.specs.Form.{HeadFormed, AnnouncementFormed, MemoryFormed}
use Rattle.transition.specs.declared.access.Found.TheVariants.{Word}
use Rattle.stepping.specs.Step.{touched, found_of, perform_of, cell_in_form}
use Rattle.transition.specs.Object.{ObjectTable, object_of}
use Rattle.transition.specs.Encoding.{encode_head, encode_announcement, encode_access, encode_result}
use Rattle.transition.proofs.EncodedCells.{head_same, head_in_form_lem, announcement_empty, announcement_same, announcement_in_form_lem}
use Rattle.stepping.specs.Encoding.{encode_cells}
use Rattle.laws.proofs.Tabulate.{tabulate_length, tabulate_at, tabulate_set}

-- The announcements stand behind the head.
module _ (n : ℕ) (m : Memory) where
  pub cells_length : length (encode_cells n m) ≡ n + 1
  cells_length = rw (tabulate_length n (λ j. encode_announcement (m.announcement j))) (sym (add-one n))

  -- Cells from n + 1 on read as 0.
  pub cell_beyond : (j : ℕ) → (j < n → ⊥) → get_or (encode_cells n m) (j + 1) 0 ≡ 0
  cell_beyond j beyond =
      let past : length (encode_cells n m) ≤ j + 1 = omega (arith, beyond, cells_length) in
      get_or-eq_default (encode_cells n m) 0 past

  module _ (j : ℕ) (below : j < n) where
    pub cell_at : get_or (encode_cells n m) (j + 1) 0 ≡ encode_announcement (m.announcement j)
    cell_at = rw (add-one j) (tabulate_at n (λ j. encode_announcement (m.announcement j)) 0 j below)

    cell_set : (a : Cell Content) → set (encode_cells n m) (j + 1) (encode_announcement a) ≡ encode_cells n (record { head = m.head; announcement = update m.announcement j a })
    cell_set a = rw (add-one j) (ap (λ (l : List ℕ). encode_head m.head ∷ l) (tabulate_set encode_announcement n m.announcement j a below))

module _ (file : List ℕ) (shape : Shape) (table : ObjectTable file shape) (n : ℕ) (most : n ≤ marks_width) where
  abbrev object : Object
  object = object_of file shape

  -- The touched cell is one of the cells, and the word compared with is in range.
  abbrev pub AccessFormed : machine.Access → Type 0
  AccessFormed NoAccess = ⊥
  AccessFormed ReadHead = Unit {0}
  AccessFormed (ReadAnnouncement j) = j < n
  AccessFormed (WriteAnnouncement j a) = j < n
  AccessFormed (SwapHead h g) = HeadFormed object n h
  AccessFormed (SwapAnnouncement j a c) = (j < n) × AnnouncementFormed object n a

  module _ (m : Memory) (ranged : MemoryFormed object n m) where
    -- The announcement of task j: what a swap compares, and its form.
    announcement_swap : (j : ℕ) (a : Cell Content) → j < n → AnnouncementFormed object n a → eqb (get_or (encode_cells n m) (j + 1) 0) (encode_announcement a) ≡ decided (announcement_dec (m.announcement j) a)
    announcement_swap j a below r = rw (cell_at n m j below) (announcement_same file shape table n most (m.announcement j) (ranged.announcement j) a r)

    -- The kind in its cell is 0 exactly if it is empty.
    pub encoded_empty : (j : ℕ) → j < n → (kind_in (get_or (encode_cells n m) (j + 1) 0) ≡ 0) ↔ (content m j ≡ Empty)
    encoded_empty j below = rw (cell_at n m j below) (announcement_empty file shape table n most (m.announcement j) (ranged.announcement j))

    head_touched : cell_in_form shape n 0 (encode_head m.head) ≡ true
    unfolding cell_in_form
    head_touched = head_in_form_lem file shape table n most m.head ranged.head

    announcement_touched : (j : ℕ) → j < n → cell_in_form shape n (j + 1) (get_or (encode_cells n m) (j + 1) 0) ≡ true
    unfolding cell_in_form
    announcement_touched j below = rw (ne_eqb (j + 1) 0 (λ z. omega arith), cell_at n m j below) (announcement_in_form_lem file shape table n most (m.announcement j) (ranged.announcement j))

    -- The touched cell is in form.
    pub touched_in_form : (a : machine.Access) → AccessFormed a → cell_in_form shape n (touched (encode_access a)) (get_or (encode_cells n m) (touched (encode_access a)) 0) ≡ true
    touched_in_form NoAccess f = absurd f
    touched_in_form ReadHead f = head_touched
    touched_in_form (ReadAnnouncement j) f = announcement_touched j f
    touched_in_form (WriteAnnouncement j a) f = announcement_touched j f
    touched_in_form (SwapHead h g) f = head_touched
    touched_in_form (SwapAnnouncement j a c) f = announcement_touched j f.0

    -- So is every cell.
    pub encoded_in_form : cells_in_form shape.states shape.operations n (encode_cells n m) ≡ true
    encoded_in_form =
        let encode : ℕ → ℕ = λ j. encode_announcement (m.announcement j) in
        cells_by_each shape.states shape.operations n (encode_head m.head) (tabulate n encode) (head_in_form_lem file shape table n most m.head ranged.head)
        (λ k l. rw (tabulate_at n encode 0 k (rw (tabulate_length n encode) at l)) (announcement_in_form_lem file shape table n most (m.announcement k) (ranged.announcement k)))

    -- What the access gives back.
    pub result_simulates : (a : machine.Access) → AccessFormed a → found_of (get_or (encode_cells n m) (touched (encode_access a)) 0) (encode_access a) ≡ encode_result (result a m)
    unfolding result
    result_simulates NoAccess f = absurd f
    result_simulates ReadHead f = refl
    result_simulates (ReadAnnouncement j) f = ap Word (cell_at n m j f)
    result_simulates (WriteAnnouncement j a) f = refl
    result_simulates (SwapHead h g) f = rw (head_same file shape table n most m.head ranged.head h f)
    result_simulates (SwapAnnouncement j a c) f = rw (announcement_swap j a f.0 f.1)

    -- The cells after the access.
    pub perform_simulates : (a : machine.Access) → AccessFormed a → perform_of (encode_cells n m) (encode_access a) ≡ encode_cells n (perform a m)
    unfolding perform perform_of
    perform_simulates NoAccess f = absurd f
    perform_simulates ReadHead f = refl
    perform_simulates (ReadAnnouncement j) f = set-get_or (encode_cells n m) (j + 1) 0
    perform_simulates (WriteAnnouncement j a) f = cell_set n m j f a
    perform_simulates (SwapHead h g) f = rw (head_same file shape table n most m.head ranged.head h f, cond_ite encode_head (head_dec m.head h) g m.head)
    perform_simulates (SwapAnnouncement j a c) f = rw (announcement_swap j a f.0 f.1) (by (announcement_dec (m.announcement j) a))
      where
        by : (d : Dec (m.announcement j ≡ a)) → set (encode_cells n m) (j + 1) (cond (decided d) (encode_announcement c) (get_or (encode_cells n m) (j + 1) 0)) ≡ encode_cells n (record { head = m.head; announcement = ite d (update m.announcement j c) m.announcement })
        by (yes e) = cell_set n m j f.0 c
        by (no e) = set-get_or (encode_cells n m) (j + 1) 0
