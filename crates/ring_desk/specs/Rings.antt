-- docs/FORMATS.md, "The ring desk": the list of rings, two words a ring, its length in millimetres and its kind; where each ring
-- begins and ends; and cause 14. The ring at place p, counted from 0, has the number p + 1.
use Rattle.std.specs.Prelude.{Bool, ◌&&◌, List, ℕ, ◌+◌, ◌*◌, ◌/◌, ◌%◌, leb, eqb, length, get_or}
use Rattle.laws.specs.Below.{all_below}
use Rattle.laws.specs.Sum.{sum}

-- The greatest number of rings.
abbrev pub most_rings : ℕ
most_rings = 255

-- The greatest length of a ring, in millimetres.
abbrev pub longest_ring : ℕ
longest_ring = 20000

-- The kind of a key ring; the kind of an ordinary one is 0.
abbrev pub key : ℕ
key = 1

-- The number of rings: two words each.
abbrev pub ring_count : List ℕ → ℕ
ring_count rings = length rings / 2

-- A ring's length.
abbrev pub length_of : List ℕ → ℕ → ℕ
length_of rings place = get_or rings (2 * place) 0

-- A ring's kind.
abbrev pub kind_of : List ℕ → ℕ → ℕ
kind_of rings place = get_or rings (2 * place + 1) 0

-- The first ring begins at chainage 0, and each ring begins at the end of the one before: after the lengths of all before it.
abbrev pub start_of : List ℕ → ℕ → ℕ
start_of rings place = sum place (length_of rings)

-- Where a ring ends.
abbrev pub end_of : List ℕ → ℕ → ℕ
end_of rings place = start_of rings place + length_of rings place

-- A ring's length and kind are in range.
unfoldable pub ring_fits : (length kind : ℕ) → Bool
ring_fits length kind = leb 1 length && leb length longest_ring && leb kind key

-- Cause 14 does not hold: two words a ring, the number of rings, and every ring.
unfoldable pub rings_fit : List ℕ → Bool
rings_fit rings =
    eqb (length rings % 2) 0 && leb 1 (ring_count rings) && leb (ring_count rings) most_rings && all_below (ring_count rings) (λ place. ring_fits (length_of rings place) (kind_of rings place))
