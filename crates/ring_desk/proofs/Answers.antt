-- What the call for an owner answers, in both directions.
use mathlib.Core.Path.{◌≡◌, refl, sym, ap, ◌∙◌}
use Rattle.std.specs.Prelude.{Result, Ok, Err}
use mathlib.Core.Bool.{Bool, true, false}
use mathlib.Core.Logic.{◌↔◌}
use mathlib.Core.List.{List, [], ◌∷◌}
use Prim.Native.Nat.{ℕ, ◌+◌, ◌<◌}
use native.Mathlib.Decide.{dec_lt}
use native.Mathlib.Omega.{arith}
use borrow.Author.Tests.{lt-ltb, le-ltb}
use Rattle.laws.proofs.Clash.{clash}
use Rattle.laws.proofs.Lowest.{Found, lowest_found}
use Rattle.refusal.specs.declared.Refusal.{Refusal}
use Rattle.refusal.specs.declared.Refusal.TheVariants.{Rings, Chainage}
use Rattle.refusal.specs.Number.{Said, accepted, refused_by}
use Rattle.refusal.proofs.Numbers.{numbers_apart, values_same}
use Rattle.ring_desk.specs.Rings.{ring_count, rings_fit}
use Rattle.ring_desk.specs.Owner.{owns, first_owner, owner_of, owner_said}
use Rattle.ring_desk.specs.Statement.{InRange, Owns, Owner, Unowned, OwnerAnswered}
use Rattle.ring_desk.proofs.Ranges.{fits_range, range_fits}
use Rattle.ring_desk.proofs.Owners.{owns_tested, tested_owns}

-- The list is out of range if the test says so.
pub no_range : (rings : List ℕ) → rings_fit rings ≡ false → InRange rings → ⊥
no_range rings e range = clash (range_fits rings range) e

module _ (rings : List ℕ) (c : ℕ) where
  -- The three ways to answer.
  data Known : Type 0 where
    outside : (InRange rings → ⊥) → owner_of rings c ≡ Err Rings → Known
    owned : InRange rings → (place : ℕ) → Owner rings place c → owner_of rings c ≡ Ok (place + 1) → Known
    unowned : InRange rings → Unowned rings c → owner_of rings c ≡ Err Chainage → Known

  module _ (fits : rings_fit rings ≡ true) where
    range : InRange rings
    range = fits_range rings fits

    search_found : Found (ring_count rings) (owns rings c) (first_owner rings c)
    search_found = lowest_found (ring_count rings) (owns rings c)

    not_lower : (lower : ℕ) → lower < first_owner rings c → Owns rings lower c → ⊥
    not_lower lower h o = clash (owns_tested rings lower c o) (search_found.lower lower h)

    within : Dec (first_owner rings c < ring_count rings) → Known
    unfolding owner_of
    within (yes h) =
        owned range (first_owner rings c)
        (record { listed = h; owned = tested_owns rings range (first_owner rings c) c h (search_found.holds h); lowest = not_lower })
        (simp (fits, lt-ltb _ _ h))
    within (no n) =
        unowned range (λ place h. not_lower place (omega arith)) (simp (fits, le-ltb (first_owner rings c) (ring_count rings) (omega arith)))

  outside_known : rings_fit rings ≡ false → Known
  unfolding owner_of
  outside_known e = outside (no_range rings e) (simp e)

  known : Known
  known = by (rings_fit rings) refl
    where
      by : (b : Bool) → rings_fit rings ≡ b → Known
      by true e = within e (dec_lt (first_owner rings c) (ring_count rings))
      by false e = outside_known e

  -- One place is the owner's.
  same_owner : (place other : ℕ) → Owner rings place c → Owner rings other c → place ≡ other
  same_owner place other a b = by (dec_lt place other) (dec_lt other place)
    where
      by : Dec (place < other) → Dec (other < place) → place ≡ other
      by (yes h) d = absurd (b.lowest place h a.owned)
      by (no n) (yes h) = absurd (a.lowest other h b.owned)
      by (no n) (no m) = omega arith

  said : {a : Result ℕ Refusal} → owner_of rings c ≡ a → {s : Said} → owner_said (owner_of rings c) ≡ s → owner_said a ≡ s
  said e f = ap owner_said (sym e) ∙ f

  range_answer : Known → (owner_said (owner_of rings c) ≡ refused_by 14) ↔ (InRange rings → ⊥)
  range_answer (outside n e) = (λ _. n, λ _. ap owner_said e)
  range_answer (owned r place o e) = (λ f. absurd (numbers_apart (said e f) (λ z. omega arith)), λ n. absurd (n r))
  range_answer (unowned r u e) = (λ f. absurd (numbers_apart (said e f) (λ z. omega arith)), λ n. absurd (n r))

  chainage_answer : Known → (owner_said (owner_of rings c) ≡ refused_by 15) ↔ (InRange rings × Unowned rings c)
  chainage_answer (outside n e) = (λ f. absurd (numbers_apart (said e f) (λ z. omega arith)), λ (r, u). absurd (n r))
  chainage_answer (owned r place o e) = (λ f. absurd (numbers_apart (said e f) (λ z. omega arith)), λ (_, u). absurd (u place o.listed o.owned))
  chainage_answer (unowned r u e) = (λ _. (r, u), λ _. ap owner_said e)

  ring_answer : (number : ℕ) → Known → (owner_said (owner_of rings c) ≡ accepted (number ∷ [])) ↔ (InRange rings × ((place : ℕ) × (number ≡ place + 1) × Owner rings place c))
  ring_answer number (outside n e) = (λ f. absurd (numbers_apart (said e f) (λ z. omega arith)), λ (r, _). absurd (n r))
  ring_answer number (unowned r u e) = (λ f. absurd (numbers_apart (said e f) (λ z. omega arith)), λ (_, (place, _, o)). absurd (u place o.listed o.owned))
  ring_answer number (owned r place o e) =
      (λ f. (r, (place, sym (values_same (said e f)), o)), λ (_, (other, at, b)). let same : place + 1 ≡ number = ap (λ (k : ℕ). k + 1) (same_owner place other o b) ∙ sym at in ap owner_said e ∙ ap (λ (k : ℕ). accepted (k ∷ [])) same)

  pub owner_answered : OwnerAnswered rings c
  owner_answered = record { out_of_range = range_answer known; no_owner = chainage_answer known; owner = λ number. ring_answer number known }
