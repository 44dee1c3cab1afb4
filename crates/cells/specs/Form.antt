-- docs/FORMATS.md, "The cells": which words are in form, with s states, m operations and n tasks.
use Rattle.std.specs.Prelude.{Bool, true, ◌&&◌, cond, List, [], ◌∷◌, ℕ, ◌^◌, min, eqb, ltb, leb, get_or}
use Rattle.cells.specs.Field.{unpack, total}
use Rattle.cells.specs.Layout.{head_widths, announcement_widths, marks}

-- The largest number in a holder field: with n tasks that of the last one, and 8 is the most.
abbrev pub holder_bound : ℕ → ℕ
holder_bound n = min n 8

-- The marks are those of tasks below n.
unfoldable pub marks_in_form : ℕ → ℕ → Bool
marks_in_form n w = ltb (marks w) (2 ^ n)

-- A word with fields of these widths: bits that aren't named are 0, and marks and fields are in form.
unfoldable pub in_form : List ℕ → (List ℕ → Bool) → ℕ → ℕ → Bool
in_form ws fields n w = ltb w (2 ^ total ws) && (marks_in_form n w && fields (unpack ws w))

-- Without a holder response and moved are 0; with one both may have any value.
unfoldable pub outcome_in_form : (holder response moved : ℕ) → Bool
outcome_in_form h r v = cond (eqb h 0) (eqb r 0 && eqb v 0) true

-- The state is below s, the holder within its bound, and response and moved are in form.
unfoldable pub head_fields_in_form : ℕ → ℕ → List ℕ → Bool
head_fields_in_form s n vs =
    ltb (get_or vs 1 0) s && (leb (get_or vs 3 0) (holder_bound n) && outcome_in_form (get_or vs 3 0) (get_or vs 2 0) (get_or vs 4 0))

-- A head in form: the reading of a head is this test, with n, and then `head_of`, which takes the word apart.
unfoldable pub head_in_form : ℕ → ℕ → ℕ → Bool
head_in_form s n w = in_form head_widths (head_fields_in_form s n) n w

-- Kind 0 has payload 0 and moved 0, kind 1 an operation below m and moved 0, kind 2 any response with any moved, and there is no
-- other kind.
unfoldable pub payload_in_form : (m kind payload moved : ℕ) → Bool
payload_in_form m k p v = cond (eqb k 0) (eqb p 0 && eqb v 0) (cond (eqb k 1) (ltb p m && eqb v 0) (eqb k 2))

-- The bits between kind and payload are 0, and payload and moved are in form.
unfoldable pub announcement_fields_in_form : ℕ → List ℕ → Bool
announcement_fields_in_form m vs = eqb (get_or vs 2 0) 0 && payload_in_form m (get_or vs 1 0) (get_or vs 3 0) (get_or vs 4 0)

-- An announcement in form.
unfoldable pub announcement_in_form : ℕ → ℕ → ℕ → Bool
announcement_in_form m n w = in_form announcement_widths (announcement_fields_in_form m) n w

-- Every word of a list is in form as an announcement.
unfoldable pub announcements_in_form : ℕ → ℕ → List ℕ → Bool
announcements_in_form m n [] = true
announcements_in_form m n (w ∷ ws) = announcement_in_form m n w && announcements_in_form m n ws

-- The first cell is in form as a head, and each other as an announcement.
unfoldable pub cells_in_form : ℕ → ℕ → ℕ → List ℕ → Bool
cells_in_form s m n [] = true
cells_in_form s m n (w ∷ ws) = head_in_form s n w && announcements_in_form m n ws
