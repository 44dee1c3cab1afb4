-- Who owns a chainage: the test against the sentence, where rings begin and end, and how many own one.
use mathlib.Core.Path.{◌≡◌, refl, sym, ap, subst, ◌∙◌}
use mathlib.Core.Bool.{Bool, true, false, ◌&&◌, ◌||◌, and-eq-true_iff, or-true}
use mathlib.Core.Logic.{◌⊎◌, inl, inr}
use mathlib.Core.List.{List}
use Prim.Native.Nat.{ℕ, zero, suc, ◌+◌, ◌-◌, ◌<◌, ◌≤◌}
use native.Mathlib.Decide.{ℕ_discrete, dec_lt}
use native.Mathlib.Omega.{arith}
use lib.Dec.{leb, ltb, eqb}
use borrow.Author.Tests.{leb-true, ltb-true, eqb-true, le-leb, lt-ltb, eq-eqb}
use Rattle.laws.proofs.Sums.{sum_before}
use Rattle.ring_desk.specs.Rings.{key, ring_count, length_of, kind_of, start_of, end_of}
use Rattle.ring_desk.specs.Owner.{owns_between, owns}
use Rattle.ring_desk.specs.Statement.{InRange, Owns, as_ordinary, as_key, Unowned, PastTheEnd, TwoOwners, AtMostTwo}

-- ---- The test

inside : (start end kind c : ℕ) → start ≤ c → c < end → owns_between start end kind c ≡ true
unfolding owns_between
inside start end kind c h l = simp (le-leb _ _ h, lt-ltb _ _ l)

at_key_end : (start end kind c : ℕ) → kind ≡ key → c ≡ end → owns_between start end kind c ≡ true
unfolding owns_between
at_key_end start end kind c k e = simp (eq-eqb _ _ k, eq-eqb _ _ e, or-true)

-- What the test found.
found : (start end kind c : ℕ) → owns_between start end kind c ≡ true → ((start ≤ c) × (c < end)) ⊎ ((kind ≡ key) × (c ≡ end))
unfolding owns_between
found start end kind c e = by (leb start c && ltb c end) refl e
  where
    by : (b : Bool) → (leb start c && ltb c end) ≡ b → (b || (eqb kind key && eqb c end)) ≡ true → ((start ≤ c) × (c < end)) ⊎ ((kind ≡ key) × (c ≡ end))
    by true p f = let q = (and-eq-true_iff _ _).0 p in inl (leb-true _ _ q.0, ltb-true _ _ q.1)
    by false p f = let q = (and-eq-true_iff _ _).0 f in inr (eqb-true _ _ q.0, eqb-true _ _ q.1)

module _ (rings : List ℕ) where
  -- What a ring owns is found.
  pub owns_tested : (place c : ℕ) → Owns rings place c → owns rings c place ≡ true
  owns_tested place c (as_ordinary k h l) = inside _ _ _ c h l
  owns_tested place c (as_key k h l) = by (dec_lt c (end_of rings place))
    where
      by : Dec (c < end_of rings place) → owns rings c place ≡ true
      by (yes l') = inside _ _ _ c h l'
      by (no n) = at_key_end _ _ _ c k (omega arith)

  module _ (range : InRange rings) where
    -- A ring owns what lies from its start to before its end.
    owns_inside : (place c : ℕ) → place < ring_count rings → start_of rings place ≤ c → c < end_of rings place → Owns rings place c
    owns_inside place c listed h l = by (range.kinds place listed)
      where
        by : (kind_of rings place ≡ 0) ⊎ (kind_of rings place ≡ key) → Owns rings place c
        by (inl k) = as_ordinary k h l
        by (inr k) = as_key k h (omega arith)

    -- What is found a ring owns.
    pub tested_owns : (place c : ℕ) → place < ring_count rings → owns rings c place ≡ true → Owns rings place c
    tested_owns place c listed e = by (found _ _ _ c e)
      where
        by : ((start_of rings place ≤ c) × (c < end_of rings place)) ⊎ ((kind_of rings place ≡ key) × (c ≡ end_of rings place)) → Owns rings place c
        by (inl (h, l)) = owns_inside place c listed h l
        by (inr (k, at)) = as_key k (omega arith) (omega arith)

-- ---- Where rings begin and end

-- What a ring owns lies from its start to its end, and before the end of an ordinary one.
module _ (rings : List ℕ) (place c : ℕ) where
  from_start : Owns rings place c → start_of rings place ≤ c
  from_start (as_ordinary k h l) = h
  from_start (as_key k h l) = h

  to_end : Owns rings place c → c ≤ end_of rings place
  to_end (as_ordinary k h l) = omega arith
  to_end (as_key k h l) = l

  end_is_key : Owns rings place c → c ≡ end_of rings place → kind_of rings place ≡ key
  end_is_key (as_ordinary k h l) e = absurd (omega arith)
  end_is_key (as_key k h l) e = k

-- A ring ends before a later one begins, or there.
before : (rings : List ℕ) (lower higher : ℕ) → lower < higher → end_of rings lower ≤ start_of rings higher
before rings lower higher h = sum_before higher (length_of rings) lower h

-- ---- How many own a chainage

module _ (rings : List ℕ) (range : InRange rings) where
  -- A chainage before the end of so many rings lies inside one of them.
  inside_one : (n c : ℕ) → n ≤ ring_count rings → c < start_of rings n → (place : ℕ) × (place < n) × (start_of rings place ≤ c) × (c < end_of rings place)
  inside_one zero c few h = absurd (omega arith)
  inside_one (suc n) c few h = by (inside_one n c (omega arith)) (dec_lt c (start_of rings n))
    where
      by : (c < start_of rings n → (place : ℕ) × (place < n) × (start_of rings place ≤ c) × (c < end_of rings place)) → Dec (c < start_of rings n)
          → (place : ℕ) × (place < suc n) × (start_of rings place ≤ c) × (c < end_of rings place)
      by rest (yes l) = let p = rest l in (p.0, omega (arith, p.1), p.2, p.3)
      by rest (no d) = (n, omega arith, omega arith, h)

  -- The successor of a ring owns the ring's end.
  successor_owns : (lower c : ℕ) → suc lower < ring_count rings → c ≡ end_of rings lower → Owns rings (suc lower) c
  successor_owns lower c h e = owns_inside rings range (suc lower) c h (omega arith) (omega (arith, range.some_length (suc lower) h))

  -- Of two owners the higher is the successor.
  next_only : (lower higher c : ℕ) → lower < higher → higher < ring_count rings → c ≤ end_of rings lower → start_of rings higher ≤ c → higher ≡ lower + 1
  next_only lower higher c h l top bottom = by (dec_lt (suc lower) higher)
    where
      by : Dec (suc lower < higher) → higher ≡ lower + 1
      by (yes apart) = absurd (omega (arith, before rings (suc lower) higher apart, range.some_length (suc lower) (omega arith)))
      by (no close) = omega arith

pub two_owners : (rings : List ℕ) (c : ℕ) → TwoOwners rings c
two_owners rings c range lower higher h l = (λ (a, b). (next a b, end_is_key rings lower c a (at a b), at a b), λ (e, k, at). (as_key k (omega arith) (omega arith), back e at))
  where
    at : Owns rings lower c → Owns rings higher c → c ≡ end_of rings lower
    at a b = omega (arith, to_end rings lower c a, from_start rings higher c b, before rings lower higher h)

    next : Owns rings lower c → Owns rings higher c → higher ≡ lower + 1
    next a b = next_only rings range lower higher c h l (to_end rings lower c a) (from_start rings higher c b)

    back : higher ≡ lower + 1 → c ≡ end_of rings lower → Owns rings higher c
    back e at =
        let s : suc lower ≡ higher = omega arith in
        subst (λ (k : ℕ). Owns rings k c) s (successor_owns rings range lower c (omega arith) at)

pub at_most_two : (rings : List ℕ) (c : ℕ) → AtMostTwo rings c
at_most_two rings c range i j k h l m a b d = let (next, _, _) = (two_owners rings c range i k (omega arith) m).0 (a, d) in omega arith

pub past_the_end : (rings : List ℕ) (c : ℕ) → PastTheEnd rings c
past_the_end rings c range = (past (dec_lt (end_of rings last) c) (dec_lt c (end_of rings last)), none)
  where
    last : ℕ
    last = ring_count rings - 1

    listed : last < ring_count rings
    listed = omega (arith, range.some)

    at_end : c ≡ end_of rings last → Unowned rings c → kind_of rings last ≡ 0
    at_end e u = by (range.kinds last listed)
      where
        by : (kind_of rings last ≡ 0) ⊎ (kind_of rings last ≡ key) → kind_of rings last ≡ 0
        by (inl k) = k
        by (inr k) = absurd (u last listed (as_key k (omega arith) (omega arith)))

    past : Dec (end_of rings last < c) → Dec (c < end_of rings last) → Unowned rings c → (end_of rings last < c) ⊎ ((c ≡ end_of rings last) × (kind_of rings last ≡ 0))
    past (yes h) d u = inl h
    past (no n) (yes l) u =
        let p = inside_one rings range (suc last) c (omega arith) l in
        absurd (u p.0 (omega (arith, p.1)) (owns_inside rings range p.0 c (omega (arith, p.1)) p.2 p.3))
    past (no n) (no m) u = let e : c ≡ end_of rings last = omega arith in inr (e, at_end e u)

    none : (end_of rings last < c) ⊎ ((c ≡ end_of rings last) × (kind_of rings last ≡ 0)) → Unowned rings c
    none (inl h) place known o = omega (arith, to_end rings place c o, sum_before (suc last) (length_of rings) place (omega arith))
    none (inr (e, k)) place known o = by (ℕ_discrete place last)
      where
        by : Dec (place ≡ last) → ⊥
        by (yes same) =
            let at : c ≡ end_of rings place = e ∙ ap (end_of rings) (sym same) in
            let clashes : kind_of rings last ≡ key = sym (ap (kind_of rings) same) ∙ end_is_key rings place c o at in
            omega arith
        by (no apart) = omega (arith, to_end rings place c o, before rings place last (omega arith), range.some_length last listed)
