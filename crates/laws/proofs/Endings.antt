-- The end of a list, compared with another list.
use mathlib.Core.Path.{◌≡◌, refl, sym, ap, ◌∙◌}
use mathlib.Core.Bool.{Bool, true, false, ◌&&◌, and-eq-true_iff}
use mathlib.Core.List.{List}
use Prim.Native.Nat.{ℕ, ◌+◌, ◌-◌, ◌≤◌}
use native.Mathlib.Omega.{arith}
use borrow.Author.Tests.{le-leb, leb-true, eq-eqb, eqb-true}
use lib.Dec.{leb, eqb}
use lib.ListN.{length, get_or, drop, length-drop}
use lib.Seq.{ext_get_or}
use Rattle.std.proofs.lemmas.List.{get_or-drop}
use Rattle.std.specs.List.{ends_with}
use Rattle.std.specs.Cmp.Lexicographic.{same_text, other_text}
use Rattle.laws.specs.Below.{all_below}
use Rattle.laws.proofs.Below.{all_of, all_at}
use Rattle.laws.proofs.Decision.{same_tests}

module _ (xs end : List ℕ) where
  abbrev at : ℕ
  at = length xs - length end

  abbrev place_same : ℕ → Bool
  place_same i = eqb (get_or xs (at + i) 0) (get_or end i 0)

  -- A list ends in another exactly if it is as long at least, and has the other's elements at its last places.
  pub ends_place_by_place : ends_with eqb xs end ≡ (leb (length end) (length xs) && all_below (length end) place_same)
  ends_place_by_place = same_tests _ _ there back
    where
      rest : ends_with eqb xs end ≡ true → end ≡ drop at xs
      rest e = same_text end (drop at xs) (sym e)

      there : ends_with eqb xs end ≡ true → (leb (length end) (length xs) && all_below (length end) place_same) ≡ true
      there e =
          let long : length end ≡ length xs - at = ap length (rest e) ∙ length-drop at xs in
          (and-eq-true_iff (leb (length end) (length xs)) (all_below (length end) place_same)).1
          (le-leb (length end) (length xs) (omega arith), all_of (length end) place_same (λ k _. eq-eqb _ _ (sym (get_or-drop at xs k 0) ∙ sym (ap (λ l. get_or l k 0) (rest e)))))

      back : (leb (length end) (length xs) && all_below (length end) place_same) ≡ true → ends_with eqb xs end ≡ true
      back e =
          let both = (and-eq-true_iff (leb (length end) (length xs)) (all_below (length end) place_same)).0 e in
          let long : length end ≤ length xs = leb-true _ _ both.0 in
          let same : end ≡ drop at xs =
          ext_get_or 0 end (drop at xs) (omega (arith, length-drop at xs)) (λ k h. sym (get_or-drop at xs k 0 ∙ eqb-true _ _ (all_at (length end) place_same both.1 k h))) in
          by (ends_with eqb xs end) refl same
        where
          by : (b : Bool) → ends_with eqb xs end ≡ b → end ≡ drop at xs → b ≡ true
          by true q s = refl
          by false q s = absurd (other_text end (drop at xs) (sym q) s)
