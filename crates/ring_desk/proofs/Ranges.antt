-- The words of the list, and where rings begin and end; the test of cause 14 says whether the list is in range.
use mathlib.Core.Path.{◌≡◌, refl}
use mathlib.Core.Bool.{true, and-eq-true_iff}
use mathlib.Core.Logic.{◌⊎◌, inl, inr}
use mathlib.Core.List.{List}
use Prim.Native.Nat.{ℕ, zero, suc, ◌%◌, ◌<◌, ◌≤◌}
use native.Mathlib.Numerals.{add-one}
use native.Mathlib.Omega.{arith}
use borrow.Author.Tests.{leb-true, eqb-true, le-leb, eq-eqb}
use lib.ListN.{length}
use Rattle.laws.proofs.Below.{all_at, all_of}
use Rattle.ring_desk.specs.Rings.{longest_ring, key, ring_count, length_of, kind_of, ring_fits, rings_fit}
use Rattle.ring_desk.specs.Statement.{Listed, InRange}

pub listed : (rings : List ℕ) → Listed rings
listed rings =
    record {
      count = refl;
      length_word = λ place. refl;
      kind_word = λ place. refl;
      first = refl;
      next = λ place. rw add-one;
      end = λ place. refl;
    }

kind_cases : (kind : ℕ) → kind ≤ key → (kind ≡ 0) ⊎ (kind ≡ key)
kind_cases zero h = inl (omega arith)
kind_cases (suc k) h = inr (omega arith)

kind_small : (kind : ℕ) → (kind ≡ 0) ⊎ (kind ≡ key) → kind ≤ key
kind_small kind (inl e) = omega arith
kind_small kind (inr e) = omega arith

ring_parts : (long kind : ℕ) → ring_fits long kind ≡ true → (1 ≤ long) × (long ≤ longest_ring) × (kind ≤ key)
unfolding ring_fits
ring_parts long kind e =
    let p = (and-eq-true_iff _ _).0 e in
    let q = (and-eq-true_iff _ _).0 p.0 in
    (leb-true _ _ q.0, leb-true _ _ q.1, leb-true _ _ p.1)

parts_ring : (long kind : ℕ) → 1 ≤ long → long ≤ longest_ring → kind ≤ key → ring_fits long kind ≡ true
unfolding ring_fits
parts_ring long kind some short small = simp (le-leb _ _ some, le-leb _ _ short, le-leb _ _ small)

module _ (rings : List ℕ) where
  pub fits_range : rings_fit rings ≡ true → InRange rings
  unfolding rings_fit
  fits_range e =
      let p = (and-eq-true_iff _ _).0 e in
      let q = (and-eq-true_iff _ _).0 p.0 in
      let r = (and-eq-true_iff _ _).0 q.0 in
      let even : length rings % 2 ≡ 0 = eqb-true _ _ r.0 in
      let each : (place : ℕ) → place < ring_count rings → (1 ≤ length_of rings place) × (length_of rings place ≤ longest_ring) × (kind_of rings place ≤ key) =
      λ place h. ring_parts _ _ (all_at (ring_count rings) (λ place. ring_fits (length_of rings place) (kind_of rings place)) p.1 place h) in
      record {
        paired = omega arith;
        some = leb-true _ _ r.1;
        few = leb-true _ _ q.1;
        some_length = λ place h. (each place h).0;
        short = λ place h. (each place h).1;
        kinds = λ place h. kind_cases (kind_of rings place) (each place h).2;
      }

  pub range_fits : InRange rings → rings_fit rings ≡ true
  unfolding rings_fit
  range_fits r =
      let even : length rings % 2 ≡ 0 = omega (arith, r.paired) in
      simp (
        eq-eqb _ _ even,
        le-leb _ _ r.some,
        le-leb _ _ r.few,
        all_of (ring_count rings) (λ place. ring_fits (length_of rings place) (kind_of rings place)) (λ place h. parts_ring _ _ (r.some_length place h) (r.short place h) (kind_small _ (r.kinds place h))),
      )
