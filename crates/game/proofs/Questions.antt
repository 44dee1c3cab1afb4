-- The tests of a question say what it means that it is in range.
use mathlib.Core.Path.{◌≡◌}
use mathlib.Core.Bool.{true, false, and-eq-true_iff, and-false}
use mathlib.Core.List.{List}
use Prim.Native.Nat.{ℕ, ◌<◌, ◌≤◌}
use native.Mathlib.Omega.{arith}
use borrow.Author.Tests.{leb-true, ltb-true, eqb-true, le-leb, lt-leb, lt-ltb, eq-eqb}
use lib.Dec.{leb}
use lib.ListN.{length, get_or}
use Rattle.laws.proofs.Below.{all_at, all_of, not_all}
use Rattle.table.specs.declared.Shape.{Shape}
use Rattle.game.specs.Force.{targets_fit, question_fits}
use Rattle.game.specs.Statement.{Asked}

module _ (shape : Shape) (targets : List ℕ) where
  -- A byte over 1 is enough.
  pub byte_unfit : (state : ℕ) → state < length targets → 1 < get_or targets state 0 → targets_fit shape targets ≡ false
  unfolding targets_fit
  byte_unfit state h over = simp (not_all (length targets) (λ k. leb (get_or targets k 0) 1) state h (lt-leb _ _ over), and-false)

  pub bytes_fit : length targets ≡ shape.states → ((k : ℕ) → k < length targets → leb (get_or targets k 0) 1 ≡ true) → targets_fit shape targets ≡ true
  unfolding targets_fit
  bytes_fit long all = simp (eq-eqb _ _ long, all_of (length targets) (λ k. leb (get_or targets k 0) 1) all)

  targets_parts : targets_fit shape targets ≡ true → (length targets ≡ shape.states) × ((state : ℕ) → state < shape.states → get_or targets state 0 ≤ 1)
  unfolding targets_fit
  targets_parts e =
      let p = (and-eq-true_iff _ _).0 e in
      let long = eqb-true _ _ p.0 in
      (long, λ state h. leb-true _ _ (all_at (length targets) (λ k. leb (get_or targets k 0) 1) p.1 state (omega (arith, long, h))))

  module _ (state moves : ℕ) where
    pub fits_asked : question_fits shape state targets moves ≡ true → Asked shape state targets moves
    unfolding question_fits
    fits_asked e =
        let p = (and-eq-true_iff _ _).0 e in
        let q = (and-eq-true_iff _ _).0 p.0 in
        let r = (and-eq-true_iff _ _).0 q.0 in
        let t = targets_parts p.1 in
        record { some = leb-true _ _ r.0; few = leb-true _ _ r.1; known = ltb-true _ _ q.1; long = t.0; bits = t.1 }

    pub asked_fits : Asked shape state targets moves → question_fits shape state targets moves ≡ true
    unfolding question_fits
    asked_fits a =
        let fit = bytes_fit a.long (λ k h. le-leb _ _ (a.bits k (omega (arith, a.long, h)))) in
        simp (le-leb _ _ a.some, le-leb _ _ a.few, lt-ltb _ _ a.known, fit)
