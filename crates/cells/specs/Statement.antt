-- docs/FORMATS.md, "The cells": which bits a print is read by, what is proved of the form of a head, with s states and n tasks, and
-- when a cell is in form; the proofs are in proofs/Theorem.antt. docs/RUNS.md: what is proved of the ceiling; the proofs are in
-- proofs/Ceilings.antt and proofs/Listed.antt.
use Rattle.std.specs.Prelude.{◌≡◌, Bool, true, false, ◌&&◌, ◌↔◌, [], ◌∷◌, ℕ, ◌+◌, ◌*◌, ◌/◌, ◌%◌, ◌^◌, ◌<◌, ◌≤◌, eqb, ltb, leb}
use Rattle.refusal.specs.Number.{accepted, refused_by}
use Rattle.cells.specs.Ceiling.{ceiling_of, ceiling_said, greatest_ceiling, listed_ceiling}
use Rattle.cells.specs.Form.{head_in_form, announcement_in_form}
use Rattle.cells.specs.Layout.{has_mark, state_in_word, holder_in, kind_in, head_of}
use Rattle.cells.specs.declared.head.Head.TheVariants.{Held}

-- The place values are written as numbers: 256 for bit 8, 65536 for bit 16, 16777216 for bit 24, 268435456 for bit 28, and 536870912
-- for bit 29.

-- The fields by which a print is read: the state is bits 8 to 15 of a head, the holder's number bits 24 to 27; the kind is bits 8
-- and 9 of an announcement; and bit i of either, for i up to 7, is the mark of task i. There are no other marks.
pub record ReadInBits (w : ℕ) : Type 0 where
  pub state : state_in_word w ≡ w / 256 % 256
  pub holder : holder_in w ≡ w / 16777216 % 16
  pub kind : kind_in w ≡ w / 256 % 4
  pub mark : (i : ℕ) → has_mark i w ≡ (ltb i 8 && eqb (w / 2 ^ i % 2) 1)

-- An announcement in form whose kind is 0 has marks and nothing else.
abbrev pub EmptyIsMarks : (m n w : ℕ) → Type 0
EmptyIsMarks m n w = announcement_in_form m n w ≡ true → kind_in w ≡ 0 → w < 256

-- What a head has to keep: its rows in docs/FORMATS.md, and a holder of at most 8, which follows for n up to 8.
pub record HeadPoints (s n w : ℕ) : Type 0 where
  -- Bits that aren't named are 0.
  pub named : w < 536870912
  -- Marks of tasks from n up are 0.
  pub marked : w % 256 < 2 ^ n
  pub state : state_in_word w < s
  -- The holder is 0 for none, else the number of one of the n tasks plus 1.
  pub holder : holder_in w ≤ n
  pub most : holder_in w ≤ 8
  -- With holder 0 response and moved are 0.
  pub free : holder_in w ≡ 0 → (w / 65536 % 256 ≡ 0) × (w / 268435456 % 2 ≡ 0)

-- A head is in form exactly if it keeps each of them.
abbrev pub PointByPoint : (s n w : ℕ) → Type 0
PointByPoint s n w = (head_in_form s n w ≡ true) ↔ HeadPoints s n w

-- The holder that a head in form names is a task of this controller.
abbrev pub HolderIsTask : (s n w : ℕ) → Type 0
HolderIsTask s n w = head_in_form s n w ≡ true → (q j r : ℕ) (moved : Bool) → head_of w ≡ Held q j r moved → j < n

-- For n at most 8: in form with n tasks exactly if in form with 8 and marks and holder are of tasks below n.
abbrev pub WithinEight : (s n w : ℕ) → Type 0
WithinEight s n w = n ≤ 8 → head_in_form s n w ≡ (ltb (w % 256) (2 ^ n) && (head_in_form s 8 w && leb (holder_in w) n))

-- A head in form for n tasks is in form for more.
abbrev pub ForMore : (s n k w : ℕ) → Type 0
ForMore s n k w = n ≤ k → head_in_form s n w ≡ true → head_in_form s k w ≡ true

-- The bound is sharp: a head with holder n + 1, state 0 and nothing else is in form for n + 1 tasks, and not for n.
abbrev pub Sharp : (s n : ℕ) → Type 0
Sharp s n = 1 ≤ s → n ≤ 7 → let w = (n + 1) * 16777216 in (head_in_form s (n + 1) w ≡ true) × (head_in_form s n w ≡ false)

-- The word of a cell is in form: in cell 0 as a head, in cell j + 1 as an announcement, with s states, m operations and n tasks.
pub record CellFits (s m n cell w : ℕ) : Type 0 where
  pub head : cell ≡ 0 → head_in_form s n w ≡ true
  pub announcement : (j : ℕ) → cell ≡ j + 1 → announcement_in_form m n w ≡ true

-- ---- Ceilings, of docs/RUNS.md, by what the answers say

-- The ceiling for n tasks is c: the answer says it, and nothing beside it.
abbrev pub CeilingIs : (n c : ℕ) → Type 0
CeilingIs n c = ceiling_said (ceiling_of n) ≡ accepted (c ∷ [])

-- For 1 to 8 tasks the ceiling is the product.
abbrev pub Product : ℕ → Type 0
Product n = 1 ≤ n → n ≤ 8 → CeilingIs n (1000 * (n * n * n))

-- It is refused with 5 exactly outside 1 to 8.
abbrev pub RefusedOutside : ℕ → Type 0
RefusedOutside n = (ceiling_said (ceiling_of n) ≡ refused_by 5) ↔ (1 ≤ n → n ≤ 8 → ⊥)

-- For every number of tasks the answer is the one by the contract's list, 5 included.
abbrev pub AsListed : ℕ → Type 0
AsListed n = ceiling_said (ceiling_of n) ≡ listed_ceiling n

-- With more tasks the ceiling is greater: for 1 ≤ n < k ≤ 8 the one for n is less than that for k.
abbrev pub Grows : (n k : ℕ) → Type 0
Grows n k = 1 ≤ n → n < k → k ≤ 8 → (a : ℕ) × ((b : ℕ) × (CeilingIs n a × CeilingIs k b × (a < b)))

-- The one for 8 tasks is the greatest.
abbrev pub Greatest : Type 0
Greatest = CeilingIs 8 greatest_ceiling × ((n c : ℕ) → CeilingIs n c → c ≤ greatest_ceiling)
