-- docs/FORMATS.md, "Cases": those of the ring desk, as one table.
use Rattle.std.specs.Prelude.{ℕ, ◌≡◌, List, [], ◌∷◌, get_or, set, replicate}
use Rattle.laws.specs.Case.{Case, case}
use Rattle.refusal.specs.Written.{written_said}
use Rattle.table.specs.Cases.{flag}
use Rattle.ring_desk.specs.Owner.{owner_of, owner_said}
use Rattle.ring_desk.specs.Table.{desk_file, table_of}

-- Rings of 1,000, the second a key ring.
abbrev three : List ℕ
three = 1000 ∷ 0 ∷ 1000 ∷ 1 ∷ 1000 ∷ 0 ∷ []

-- One key ring of 5.
abbrev lone : List ℕ
lone = 5 ∷ 1 ∷ []

-- The number of the refusal, 0 for an answer.
unfoldable pub refusal : List ℕ → ℕ → ℕ
refusal rings chainage = (owner_said (owner_of rings chainage)).number

-- The number of the owner, 0 for none.
unfoldable pub owner : List ℕ → ℕ → ℕ
owner rings chainage = get_or (owner_said (owner_of rings chainage)).values 0 0

-- What is said of the table of one ring, written into a room of so many bytes: the number, and the length.
unfoldable pub table_refusal : ℕ → ℕ
table_refusal room = (written_said (table_of lone (replicate room 0)).answer).number

unfoldable pub table_length : ℕ → ℕ
table_length room = get_or (written_said (table_of lone (replicate room 0)).answer).values 0 0

unfoldable pub desk_cases : List Case
desk_cases =
    -- A joint after an ordinary ring is the next ring's, one after a key ring is the key ring's.
    case (owner three 0) 1
    ∷ case (owner three 999) 1
    ∷ case (owner three 1000) 2
    ∷ case (owner three 1999) 2
    ∷ case (owner three 2000) 2
    ∷ case (owner three 2001) 3
    -- The end of an ordinary last ring has no owner, that of a key ring has.
    ∷ case (owner three 2999) 3
    ∷ case (refusal three 3000) 15
    ∷ case (owner three 3000) 0
    ∷ case (owner lone 5) 1
    ∷ case (refusal lone 6) 15
    -- No ring, one word too many.
    ∷ case (refusal [] 0) 14
    ∷ case (owner [] 0) 0
    ∷ case (refusal (5 ∷ 1 ∷ 5 ∷ []) 0) 14
    -- Lengths 0, 1, 20,000 and 20,001; kind 2; out of range in a ring after the owner.
    ∷ case (refusal (0 ∷ 0 ∷ []) 0) 14
    ∷ case (owner (1 ∷ 0 ∷ []) 0) 1
    ∷ case (owner (20000 ∷ 0 ∷ []) 19999) 1
    ∷ case (refusal (20001 ∷ 0 ∷ []) 0) 14
    ∷ case (refusal (5 ∷ 2 ∷ []) 0) 14
    ∷ case (refusal (set three 5 2) 0) 14
    -- Words count in all of their bits: 2^31 + 1 is no length, and 2^31 no kind.
    ∷ case (refusal (2147483649 ∷ 0 ∷ []) 0) 14
    ∷ case (refusal (5 ∷ 2147483648 ∷ []) 0) 14
    -- The table of one ring has 28 bytes.
    ∷ case (table_refusal 27) 16
    ∷ case (table_length 27) 0
    ∷ case (table_refusal 28) 0
    ∷ case (table_length 28) 28
    ∷ case (table_length 30) 28
    ∷ []

-- The table of one ring is the flag object's file.
abbrev pub FlagWritten : Type 0
FlagWritten = desk_file 1 ≡ flag
