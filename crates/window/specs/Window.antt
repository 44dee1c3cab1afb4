-- docs/FORMATS.md, "The register window": the eight bytes of a task's window, and the bits in them.
use Rattle.std.specs.Prelude.{Bool, cond, List, ℕ, ◌+◌, ◌*◌, ◌/◌, ◌%◌, eqb, ltb, length, get_or, set, Result, Ok, Err, ⊤}
use Rattle.refusal.specs.declared.Refusal.TheVariants as cause
use Rattle.window.specs.declared.Status.{Status}
use Rattle.refusal.specs.declared.Refusal.{Refusal}

-- Byte k of the window of task t; the windows stand one after another.
abbrev pub byte_at : List ℕ → (t k : ℕ) → ℕ
byte_at windows t k = get_or windows (8 * t + k) 0

-- The windows with another byte k in the window of task t.
abbrev pub with_byte : List ℕ → (t k byte : ℕ) → List ℕ
with_byte windows t k byte = set windows (8 * t + k) byte

-- Whether bit 0 of a byte is 1.
abbrev pub on : ℕ → Bool
on byte = eqb (byte % 2) 1

-- Byte 2: bit 0 is busy, bit 1 done, bit 2 refused, bit 3 moved; bits 4 to 7 have no name.
abbrev pub status_of : ℕ → Status
status_of byte = record { busy = on byte; done = on (byte / 2); refused = on (byte / 4); moved = on (byte / 8); unnamed = byte / 16 }

-- The byte of a status.
abbrev pub status_byte : Status → ℕ
status_byte s = cond s.busy 1 0 + cond s.done 2 0 + cond s.refused 4 0 + cond s.moved 8 0 + 16 * s.unnamed

-- Byte 5 with another bit 0; bits 1 to 7 have no name and stay.
abbrev pub interrupt_byte : Bool → ℕ → ℕ
interrupt_byte waits byte = cond waits 1 0 + 2 * (byte / 2)

-- What the console reads in the window of task t.
abbrev pub status_at : List ℕ → ℕ → Status
status_at windows t = status_of (byte_at windows t 2)

-- Whether an interrupt waits, and whether it is masked.
abbrev pub interrupt_at : List ℕ → ℕ → Bool
interrupt_at windows t = on (byte_at windows t 5)

abbrev pub mask_at : List ℕ → ℕ → Bool
mask_at windows t = on (byte_at windows t 6)

-- The tests of every call on windows: 18 unless they have eight bytes for each of n tasks, then 7 for a task not below n.
abbrev pub place_of : List ℕ → (n t : ℕ) → Result ⊤ Refusal
place_of windows n t = cond (eqb (length windows) (8 * n)) (cond (ltb t n) (Ok tt) (Err cause.Task)) (Err cause.Window)
