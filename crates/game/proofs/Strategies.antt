-- The turns tell what strategies can do: where the link's turn after an opening is won, the jack console has a strategy that
-- forces a target, and where it isn't, the link has one that avoids them all.
use mathlib.Core.Path.{◌≡◌, refl, sym, ap, ◌∙◌}
use mathlib.Core.Bool.{Bool, true, false}
use mathlib.Core.Logic.{◌⊎◌, inl, inr, ⊎_elim}
use mathlib.Core.List.{List, [], ◌∷◌}
use Prim.Native.Nat.{ℕ, zero, suc, ◌-◌, ◌<◌, ◌≤◌}
use native.Mathlib.Omega.{arith}
use lib.ListN.{length}
use Rattle.laws.proofs.Clash.{clash}
use Rattle.laws.proofs.Lowest.{choose_below}
use Rattle.table.specs.declared.Shape.{Shape}
use Rattle.reach.specs.Walk.{walk}
use Rattle.game.specs.Turns.{is_target}
use Rattle.game.specs.Play.{Strategy, Legal, jack_moves, play, Target, Meets, Forces, Avoids}
use Rattle.game.proofs.Turns.{to_theirs}
use Rattle.game.proofs.Plays.{target_tested, tested_target, play_length, turn, lost_target, won_target, wins, spoils, won_after, lost_after, after, move_of, turn_at, move_legal, first_turn, turn_more, turn_left}

module _ (file : List ℕ) (shape : Shape) (targets : List ℕ) (some_operation : 1 ≤ shape.operations) (moves state : ℕ) (some : 1 ≤ moves) where
  -- ---- An opening that leads to a turn that is won

  -- The jack console opens, and then chooses an operation that wins.
  abbrev winning : (opens : ℕ) → Strategy
  winning opens [] = opens
  winning opens (first ∷ rest) = wins file shape targets (moves - suc (length (first ∷ rest))) (walk file shape state (first ∷ rest))

  winning_legal : (opens : ℕ) → opens < shape.operations → Legal shape (winning opens)
  winning_legal opens known [] = known
  winning_legal opens known (first ∷ rest) = choose_below shape.operations _ some_operation

  winning_later : (opens made : ℕ) (history : List ℕ) → length history ≡ made → 1 ≤ made → winning opens history ≡ wins file shape targets (moves - suc made) (walk file shape state history)
  winning_later opens made [] e later = absurd (omega (arith, later, e))
  winning_later opens made (first ∷ rest) e later = ap (λ k. wins file shape targets (moves - suc k) (walk file shape state (first ∷ rest))) e

  module _ (opens : ℕ) (known : opens < shape.operations) (won : to_theirs file shape targets (moves - 1) state opens ≡ true) (link : Strategy) (legal : Legal shape link) where
    abbrev MetOrWon : ℕ → Type 0
    MetOrWon made = Meets file shape targets made state (winning opens) link ⊎ (turn_at file shape targets moves state (winning opens) link made ≡ true)

    best : (made : ℕ) → 1 ≤ made → jack_moves made ≡ true → move_of (winning opens) link made ≡ wins file shape targets (moves - suc made) (after file shape state (winning opens) link made)
    best made later e = simp e (winning_later opens made (play (winning opens) link made) (play_length (winning opens) link made) later)

    -- The next turn, if the last one is won.
    goes_on : (made : ℕ) → 1 ≤ made → made < moves → turn_at file shape targets moves state (winning opens) link made ≡ true → MetOrWon (suc made)
    goes_on made later h y = by (is_target targets (after file shape state (winning opens) link made)) refl
      where
        by : (b : Bool) → is_target targets (after file shape state (winning opens) link made) ≡ b → MetOrWon (suc made)
        by true t = inl (made, omega arith, tested_target targets _ t)
        by false n =
            inr
            (turn_more file shape targets moves state (winning opens) link made
            ∙ won_after file shape targets (jack_moves made) (moves - suc made) _ _ n
            (sym (turn_left file shape targets moves state (winning opens) link made h) ∙ y)
            (move_legal shape (winning opens) link (winning_legal opens known) legal made)
            (best made later))

    -- A target has been met, or the turn is won.
    keeps : (made : ℕ) → 1 ≤ made → made ≤ moves → MetOrWon made
    keeps zero later h = absurd (omega arith)
    keeps (suc zero) later h = inr (first_turn file shape targets moves state (winning opens) link ∙ won)
    keeps (suc (suc made)) later h =
        ⊎_elim (λ met. inl (met.0, omega (arith, met.1), met.2)) (goes_on (suc made) (omega arith) (omega arith)) (keeps (suc made) (omega arith) (omega arith))

    met_at_last : Meets file shape targets moves state (winning opens) link
    met_at_last = ⊎_elim (λ met. met) at_the_end (keeps moves some (omega arith))
      where
        at_the_end : turn_at file shape targets moves state (winning opens) link moves ≡ true → Meets file shape targets moves state (winning opens) link
        at_the_end y =
            let none : moves - moves ≡ 0 = omega arith in
            let s = after file shape state (winning opens) link moves in
            (moves, omega arith, tested_target targets s (won_target file shape targets (jack_moves moves) s (ap (λ k. turn file shape targets (jack_moves moves) k s) (sym none) ∙ y)))

  pub forces : (opens : ℕ) → opens < shape.operations → to_theirs file shape targets (moves - 1) state opens ≡ true → Forces file shape targets moves state opens
  forces opens known won = record { jack = winning opens; legal = winning_legal opens known; opens = refl; meets = met_at_last opens known won }

  -- ---- An opening that does not

  -- The link chooses an operation that spoils.
  abbrev spoiling : Strategy
  spoiling history = spoils file shape targets (moves - suc (length history)) (walk file shape state history)

  spoiling_legal : Legal shape spoiling
  spoiling_legal history = choose_below shape.operations _ some_operation

  module _ (jack : Strategy) (legal : Legal shape jack) (lost : to_theirs file shape targets (moves - 1) state (jack []) ≡ false) where
    worst : (made : ℕ) → jack_moves made ≡ false → move_of jack spoiling made ≡ spoils file shape targets (moves - suc made) (after file shape state jack spoiling made)
    worst made e = simp e (ap (λ k. spoils file shape targets (moves - suc k) (after file shape state jack spoiling made)) (play_length jack spoiling made))

    -- No turn after the opening is won.
    spoilt : (made : ℕ) → 1 ≤ made → made ≤ moves → turn_at file shape targets moves state jack spoiling made ≡ false
    spoilt zero later h = absurd (omega arith)
    spoilt (suc zero) later h = first_turn file shape targets moves state jack spoiling ∙ lost
    spoilt (suc (suc made)) later h =
        turn_more file shape targets moves state jack spoiling (suc made)
        ∙ lost_after file shape targets (jack_moves (suc made)) (moves - suc (suc made)) _ _
        (sym (turn_left file shape targets moves state jack spoiling (suc made) (omega arith)) ∙ spoilt (suc made) (omega arith) (omega arith))
        (move_legal shape jack spoiling legal spoiling_legal (suc made))
        (worst (suc made))

    never_met : is_target targets state ≡ false → Meets file shape targets moves state jack spoiling → ⊥
    unfolding play
    never_met outset (made, few, t) = by made few t
      where
        by : (made : ℕ) → made ≤ moves → Target targets (walk file shape state (play jack spoiling made)) → ⊥
        by zero few t = clash (target_tested targets state t) outset
        by (suc made) few t = clash (target_tested targets _ t) (lost_target file shape targets (jack_moves (suc made)) (moves - suc made) _ (spoilt (suc made) (omega arith) few))

  pub avoids : (opens : ℕ) → is_target targets state ≡ false → to_theirs file shape targets (moves - 1) state opens ≡ false → Avoids file shape targets moves state opens
  avoids opens outset lost =
      record { link = spoiling; legal = spoiling_legal; never = λ jack legal e. never_met jack legal (ap (to_theirs file shape targets (moves - 1) state) e ∙ lost) outset }
