-- The list cut into pairs has the words of each ring, and each pair fits exactly if each ring does.
use mathlib.Core.Path.{◌≡◌, ap, ◌∙◌}
use mathlib.Core.Bool.{Bool}
use mathlib.Core.List.{List, []}
use Prim.Native.Nat.{ℕ, ◌+◌, ◌<◌}
use native.Mathlib.Omega.{arith}
use lib.ListN.{get_or}
use Rattle.std.specs.Simd.{first_chunks}
use Rattle.std.specs.List.{list_all}
use Rattle.laws.specs.Below.{all_below}
use Rattle.laws.proofs.Listed.{all_same, all_listed}
use Rattle.laws.proofs.Pairs.{pair_word, pair_first, pairs_long}
use Rattle.ring_desk.specs.Rings.{ring_count, length_of, kind_of, start_of, ring_fits}
use Rattle.ring_desk.specs.Owner.{owns_between, owns}

-- The length and the kind of the ring at a place.
pub pair_length : (rings : List ℕ) (place : ℕ) → place < ring_count rings → get_or (get_or (first_chunks 2 (ring_count rings) rings) place []) 0 0 ≡ length_of rings place
pair_length rings place h = pair_first (ring_count rings) rings place h

pub pair_kind : (rings : List ℕ) (place : ℕ) → place < ring_count rings → get_or (get_or (first_chunks 2 (ring_count rings) rings) place []) 1 0 ≡ kind_of rings place
pair_kind rings place h = pair_word (ring_count rings) rings place 1 h (omega arith)

-- Whether the ring at a place owns a chainage, from where it starts and its pair.
pub pair_owns : (rings : List ℕ) (chainage place : ℕ) → place < ring_count rings
    → let pair = get_or (first_chunks 2 (ring_count rings) rings) place [] in
    owns_between (start_of rings place) (start_of rings place + get_or pair 0 0) (get_or pair 1 0) chainage ≡ owns rings chainage place
pair_owns rings chainage place h = rw (pair_length rings place h, pair_kind rings place h)

-- A pair is a ring in range.
abbrev pub pair_fits : List ℕ → Bool
pair_fits pair = ring_fits (get_or pair 0 0) (get_or pair 1 0)

pub all_pairs : (rings : List ℕ)
    → list_all pair_fits (first_chunks 2 (ring_count rings) rings) ≡ all_below (ring_count rings) (λ place. ring_fits (length_of rings place) (kind_of rings place))
all_pairs rings =
    all_listed pair_fits (first_chunks 2 (ring_count rings) rings) []
    ∙ ap (λ n. all_below n (λ k. pair_fits (get_or (first_chunks 2 (ring_count rings) rings) k []))) (pairs_long (ring_count rings) rings)
    ∙ all_same (ring_count rings) _ _ (λ place h. rw (pair_length rings place h, pair_kind rings place h))
