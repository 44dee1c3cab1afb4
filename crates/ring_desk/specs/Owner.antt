-- docs/FORMATS.md, "The ring desk": which ring owns a chainage, and what the call answers.
use Rattle.std.specs.Prelude.{Bool, cond, ◌&&◌, ◌||◌, List, [], ◌∷◌, ℕ, ◌+◌, leb, ltb, eqb, Result, Ok, Err}
use Rattle.laws.specs.Lowest.{lowest_below}
use Rattle.refusal.specs.declared.Refusal.{Refusal}
use Rattle.refusal.specs.declared.Refusal.TheVariants.{Rings, Chainage}
use Rattle.refusal.specs.Number.{Said, accepted, refused}
use Rattle.ring_desk.specs.Rings.{key, ring_count, kind_of, start_of, end_of, rings_fit}

-- A ring between these chainages owns its start and what follows up to its end, and its end if it is a key ring.
unfoldable pub owns_between : (start end kind chainage : ℕ) → Bool
owns_between start end kind chainage = leb start chainage && ltb chainage end || eqb kind key && eqb chainage end

-- Whether the ring at a place owns a chainage.
abbrev pub owns : List ℕ → (chainage place : ℕ) → Bool
owns rings chainage place = owns_between (start_of rings place) (end_of rings place) (kind_of rings place) chainage

-- The place of the first ring that owns a chainage, by trial of one after the other; the number of rings if none does.
abbrev pub first_owner : List ℕ → ℕ → ℕ
first_owner rings chainage = lowest_below (ring_count rings) (owns rings chainage)

-- The first of causes 14 and 15 that holds, or the number of the owner.
unfoldable pub owner_of : List ℕ → ℕ → Result ℕ Refusal
owner_of rings chainage =
    cond (rings_fit rings)
    (cond (ltb (first_owner rings chainage) (ring_count rings)) (Ok (first_owner rings chainage + 1)) (Err Chainage))
    (Err Rings)

-- What an answer says: the ring's number, or the number of the cause.
abbrev pub owner_said : Result ℕ Refusal → Said
owner_said (Ok number) = accepted (number ∷ [])
owner_said (Err cause) = refused cause
