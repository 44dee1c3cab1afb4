-- docs/FORMATS.md, "Cases": the cases about cells and ceiling. The table of all cases, which needs later definitions, is that of the
-- crate stepping.
use Rattle.std.specs.Prelude.{true, false, List, [], ◌∷◌, ℕ, length, get_or, Result}
use Rattle.laws.specs.Bit.{bit}
use Rattle.laws.specs.Case.{Case, case}
use Rattle.cells.specs.Ceiling.{ceiling_of, ceiling_said}
use Rattle.cells.specs.Form.{head_in_form, announcement_in_form}
use Rattle.cells.specs.Image.{image}
use Rattle.cells.specs.Layout.{head_word, announcement_word}
use Rattle.cells.specs.declared.head.Head.TheVariants.{Held}
use Rattle.cells.specs.declared.announcement.Announcement.TheVariants.{Response}
use Rattle.refusal.specs.declared.Refusal.{Refusal}

-- The ceiling that an answer says, 0 if it says none.
abbrev steps : Result ℕ Refusal → ℕ
steps answer = get_or (ceiling_said answer).values 0 0

-- 1 if a head is in form with two states, 0 if it is not; an announcement with three operations and one task.
abbrev head : (tasks word : ℕ) → ℕ
head tasks word = bit (head_in_form 2 tasks word)

abbrev announcement : ℕ → ℕ
announcement word = bit (announcement_in_form 3 1 word)

unfoldable pub cell_cases : List Case
cell_cases =
    -- The image of state 1 with one task: two cells, hex 100 and 0.
    case (length (image 1 1)) 2
    ∷ case (get_or (image 1 1) 0 0) 0x100
    ∷ case (get_or (image 1 1) 1 0) 0
    -- A response without a holder is out of form; with holder task 0 it is in form: state 0, response 1.
    ∷ case (head 1 0x00010000) 0
    ∷ case (head 1 0x01010000) 1
    ∷ case (head_word (Held 0 0 1 false) 0) 0x01010000
    -- With a holder the head may say that the state moved, beside any response; without one it is out of form, and so are higher bits.
    ∷ case (head_word (Held 0 0 1 true) 0) 0x11010000
    ∷ case (head 1 0x11010000) 1
    ∷ case (head 1 0x11000000) 1
    ∷ case (head 1 0x10000000) 0
    ∷ case (head 1 0x21000000) 0
    -- With three tasks the last of them may hold the head; a fourth, and a seventh, is no task.
    ∷ case (head 3 0x03000000) 1
    ∷ case (head 3 0x04000000) 0
    ∷ case (head 3 0x07000000) 0
    -- So may an announcement with a response say that the state moved, and no other kind.
    ∷ case (announcement_word (Response 0 true) 0) 0x01000200
    ∷ case (announcement 0x01000200) 1
    ∷ case (announcement 0x01ff0200) 1
    ∷ case (announcement 0x01000000) 0
    ∷ case (announcement 0x01000100) 0
    ∷ case (announcement 0x01000300) 0
    ∷ case (announcement 0x02000200) 0
    -- The ceiling for three tasks.
    ∷ case (steps (ceiling_of 3)) 27000
    ∷ []
