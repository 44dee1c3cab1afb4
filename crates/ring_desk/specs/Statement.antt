-- What is proved of the ring desk's calls, as types over their definitions: what the list must be, who owns a chainage, what is
-- written, and what the table says.
use Rattle.std.specs.Prelude.{◌≡◌, true, false, ◌↔◌, ◌⊎◌, List, [], ◌∷◌, ℕ, ◌+◌, ◌-◌, ◌*◌, ◌/◌, ◌<◌, ◌≤◌, length, get_or, Ok}
use Rattle.refusal.specs.Number.{accepted, refused_by}
use Rattle.refusal.specs.Written.{written_said}
use Rattle.refusal.specs.Statement.{Writes}
use Rattle.table.specs.declared.Shape.{Shape}
use Rattle.table.specs.File.{Bytes}
use Rattle.table.specs.Check.{check_of}
use Rattle.table.specs.Entries.{entry_of}
use Rattle.reach.specs.Walk.{Reachable}
use Rattle.reach.specs.Changing.{changing}
use Rattle.ring_desk.specs.Rings.{ring_count, length_of, kind_of, start_of, end_of}
use Rattle.ring_desk.specs.Owner.{owner_of, owner_said}
use Rattle.ring_desk.specs.Table.{desk_file, table_of}

-- ---- The list of rings

-- Two words a ring, length and then kind; the first ring begins at chainage 0, and each ring begins at the end of the one before.
pub record Listed (rings : List ℕ) : Type 0 where
  pub count : ring_count rings ≡ length rings / 2
  pub length_word : (place : ℕ) → length_of rings place ≡ get_or rings (2 * place) 0
  pub kind_word : (place : ℕ) → kind_of rings place ≡ get_or rings (2 * place + 1) 0
  pub first : start_of rings 0 ≡ 0
  pub next : (place : ℕ) → start_of rings (place + 1) ≡ end_of rings place
  pub end : (place : ℕ) → end_of rings place ≡ start_of rings place + length_of rings place

-- Two words a ring, 1 to 255 rings, every length from 1 to 20,000, every kind 0 for ordinary or 1 for key.
pub record InRange (rings : List ℕ) : Type 0 where
  pub paired : length rings ≡ 2 * ring_count rings
  pub some : 1 ≤ ring_count rings
  pub few : ring_count rings ≤ 255
  pub some_length : (place : ℕ) → place < ring_count rings → 1 ≤ length_of rings place
  pub short : (place : ℕ) → place < ring_count rings → length_of rings place ≤ 20000
  pub kinds : (place : ℕ) → place < ring_count rings → (kind_of rings place ≡ 0) ⊎ (kind_of rings place ≡ 1)

-- ---- Owners

-- An ordinary ring owns its start and not its end; a key ring owns both.
pub data Owns (rings : List ℕ) (place chainage : ℕ) : Type 0 where
  as_ordinary : kind_of rings place ≡ 0 → start_of rings place ≤ chainage → chainage < end_of rings place → Owns rings place chainage
  as_key : kind_of rings place ≡ 1 → start_of rings place ≤ chainage → chainage ≤ end_of rings place → Owns rings place chainage

-- The ring at a place owns a chainage, and no ring of a lower number does.
pub record Owner (rings : List ℕ) (place chainage : ℕ) : Type 0 where
  pub listed : place < ring_count rings
  pub owned : Owns rings place chainage
  pub lowest : (lower : ℕ) → lower < place → Owns rings lower chainage → ⊥

-- No ring of the list owns a chainage.
abbrev pub Unowned : List ℕ → ℕ → Type 0
Unowned rings chainage = (place : ℕ) → place < ring_count rings → Owns rings place chainage → ⊥

-- What the call's answer says, each in both directions.
pub record OwnerAnswered (rings : List ℕ) (chainage : ℕ) : Type 0 where
  -- 14 exactly if the list is out of range.
  pub out_of_range : (owner_said (owner_of rings chainage) ≡ refused_by 14) ↔ (InRange rings → ⊥)
  -- 15 exactly if the list is in range and no ring owns the chainage.
  pub no_owner : (owner_said (owner_of rings chainage) ≡ refused_by 15) ↔ (InRange rings × Unowned rings chainage)
  -- A number exactly if the list is in range and the ring of that number, counted from 1, is the owner.
  pub owner : (number : ℕ) → (owner_said (owner_of rings chainage) ≡ accepted (number ∷ [])) ↔ (InRange rings × ((place : ℕ) × (number ≡ place + 1) × Owner rings place chainage))

-- No ring owns a chainage exactly if it lies past the end of the last ring, or at it and that ring is ordinary.
abbrev pub PastTheEnd : List ℕ → ℕ → Type 0
PastTheEnd rings chainage =
    let last = ring_count rings - 1 in
    InRange rings → Unowned rings chainage ↔ ((end_of rings last < chainage) ⊎ ((chainage ≡ end_of rings last) × (kind_of rings last ≡ 0)))

-- Two rings own a chainage exactly if the first is a key ring that ends there and the other is its successor.
abbrev pub TwoOwners : List ℕ → ℕ → Type 0
TwoOwners rings chainage =
    InRange rings → (lower higher : ℕ) → lower < higher → higher < ring_count rings
    → (Owns rings lower chainage × Owns rings higher chainage) ↔ ((higher ≡ lower + 1) × (kind_of rings lower ≡ 1) × (chainage ≡ end_of rings lower))

-- Three rings never do.
abbrev pub AtMostTwo : List ℕ → ℕ → Type 0
AtMostTwo rings chainage =
    InRange rings → (first second third : ℕ) → first < second → second < third → third < ring_count rings
    → Owns rings first chainage → Owns rings second chainage → Owns rings third chainage → ⊥

-- ---- The table

-- Counting rings: a read leaves the number built, a build adds one, a take out takes one away; with all rings built a build changes
-- nothing, and with none a take out.
pub data Counts (rings : ℕ) : (built operation after : ℕ) → Type 0 where
  read : {built : ℕ} → Counts rings built 0 built
  build : {built : ℕ} → built < rings → Counts rings built 1 (built + 1)
  build_at_last : Counts rings rings 1 rings
  take_out : {built : ℕ} → Counts rings (built + 1) 2 built
  take_out_at_none : Counts rings 0 2 0

-- A state more than rings, three operations, start state 0 and offset 0.
abbrev pub drive_shape : ℕ → Shape
drive_shape rings = record { offset = 0; states = rings + 1; operations = 3; start = 0 }

-- The file of a drive of so many rings: its length; check accepts it; its entries count rings, in one way, and respond with the number
-- built before; every number of rings can be reached; 0 is reading, 1 and 2 are changing.
pub record DriveTable (rings : ℕ) : Type 0 where
  pub long : length (desk_file rings) ≡ 6 * rings + 22
  pub bytes : Bytes (desk_file rings)
  pub accepts : check_of (desk_file rings) ≡ Ok (drive_shape rings)
  pub counts : (built operation : ℕ) → built ≤ rings → operation < 3
      → Counts rings built operation (entry_of (desk_file rings) (drive_shape rings) built operation).next
  pub counts_once : (built operation one other : ℕ) → Counts rings built operation one → Counts rings built operation other → one ≡ other
  pub responds : (built operation : ℕ) → built ≤ rings → operation < 3 → (entry_of (desk_file rings) (drive_shape rings) built operation).response ≡ built
  pub reached : (built : ℕ) → built ≤ rings → Reachable (desk_file rings) (drive_shape rings) built
  pub reads : changing (desk_file rings) (drive_shape rings) 0 ≡ false
  pub builds : changing (desk_file rings) (drive_shape rings) 1 ≡ true
  pub takes_out : changing (desk_file rings) (drive_shape rings) 2 ≡ true

-- For every number of rings that a list may have.
abbrev pub DriveTables : Type 0
DriveTables = (rings : ℕ) → 1 ≤ rings → rings ≤ 255 → DriveTable rings

-- What the call that writes it answers and leaves.
pub record TableAnswered (rings room : List ℕ) : Type 0 where
  -- 14 exactly if the list is out of range, and then the room is as it was.
  pub out_of_range : (written_said (table_of rings room).answer ≡ refused_by 14) ↔ (InRange rings → ⊥)
  pub unchanged : (InRange rings → ⊥) → (table_of rings room).room ≡ room
  -- A list in range: the drive's file is written into the room, or refused with 16.
  pub writes : InRange rings → Writes (desk_file (ring_count rings)) room (table_of rings room)
