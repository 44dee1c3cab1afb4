-- What becomes of a turn along a play: after a move it is the other side's, with one move less.
use mathlib.Core.Path.{◌≡◌, refl, sym, ap, ◌∙◌}
use mathlib.Core.Bool.{Bool, true, false, not, cond}
use mathlib.Core.List.{List, [], ◌∷◌, ◌++◌}
use Prim.Native.Nat.{ℕ, zero, suc, ◌+◌, ◌-◌, ◌*◌, ◌<◌}
use native.Mathlib.Numerals.{add-one}
use native.Mathlib.Omega.{arith}
use borrow.Author.Tests.{eq-eqb, eqb-true, not-true}
use lib.ListN.{length, get_or, take, length-append}
use lib.Seq.{take_at, get_or_at}
use Rattle.laws.proofs.Below.{all_at, none_at, some_fails}
use Rattle.laws.proofs.Choice.{choice}
use Rattle.laws.proofs.Clash.{clash}
use Rattle.laws.proofs.Lowest.{choose, choose_holds}
use Rattle.table.specs.declared.Shape.{Shape}
use Rattle.reach.specs.Walk.{next_of, walk}
use Rattle.reach.proofs.Search.{walk_more}
use Rattle.game.specs.Turns.{is_target, ours, theirs}
use Rattle.game.specs.Play.{Strategy, Legal, jack_moves, play, Target}
use Rattle.game.specs.Statement.{PlaysInTurn}
use Rattle.game.proofs.Turns.{to_theirs, to_ours, ours_target, theirs_target, ours_none, theirs_none, ours_more, theirs_more}

-- A target, as a test and as a fact.
pub target_tested : (targets : List ℕ) (state : ℕ) → Target targets state → is_target targets state ≡ true
unfolding is_target
target_tested targets state e = eq-eqb _ _ e

pub tested_target : (targets : List ℕ) (state : ℕ) → is_target targets state ≡ true → Target targets state
unfolding is_target
tested_target targets state e = eqb-true _ _ e

pub untested : (targets : List ℕ) (state : ℕ) → (Target targets state → ⊥) → is_target targets state ≡ false
untested targets state none = by (is_target targets state) refl
  where
    by : (b : Bool) → is_target targets state ≡ b → b ≡ false
    by true t = absurd (none (tested_target targets state t))
    by false t = refl

pub play_length : (jack link : Strategy) (made : ℕ) → length (play jack link made) ≡ made
unfolding play
play_length jack link zero = refl
play_length jack link (suc made) = length-append (play jack link made) _ ∙ omega (arith, play_length jack link made)

-- The jack console makes the moves at even places, and the link those at odd ones.
jack_even : (k : ℕ) → jack_moves (2 * k) ≡ true
unfolding jack_moves
jack_even zero = refl
jack_even (suc k) = let two : 2 * suc k ≡ suc (suc (2 * k)) = omega arith in ap jack_moves two ∙ ap (λ b. not (not b)) (jack_even k)

link_odd : (k : ℕ) → jack_moves (2 * k + 1) ≡ false
unfolding jack_moves
link_odd k = ap jack_moves (add-one (2 * k)) ∙ ap not (jack_even k)

-- The operation of a move, and the state after so many.
abbrev pub move_of : (jack link : Strategy) → ℕ → ℕ
move_of jack link made = cond (jack_moves made) (jack (play jack link made)) (link (play jack link made))

abbrev pub after : (file : List ℕ) (shape : Shape) (state : ℕ) (jack link : Strategy) → ℕ → ℕ
after file shape state jack link made = walk file shape state (play jack link made)

-- It is added at the end.
play_more : (jack link : Strategy) (made : ℕ) → play jack link (made + 1) ≡ play jack link made ++ (move_of jack link made ∷ [])
unfolding play
play_more jack link made = ap (play jack link) (add-one made)

made_last : (jack link : Strategy) (made : ℕ) → get_or (play jack link (made + 1)) made 0 ≡ move_of jack link made
made_last jack link made = ap (λ h. get_or h made 0) (play_more jack link made) ∙ get_or_at (play jack link made) _ [] 0 made (play_length jack link made)

pub plays_in_turn : PlaysInTurn
plays_in_turn jack link =
    record {
      long = play_length jack link;
      stands = λ made. ap (take made) (play_more jack link made) ∙ take_at (play jack link made) _ made (play_length jack link made);
      even = λ k. made_last jack link (2 * k) ∙ simp (jack_even k);
      odd = λ k. ap (λ n. get_or (play jack link n) (2 * k + 1) 0) (omega arith) ∙ made_last jack link (2 * k + 1) ∙ simp (link_odd k);
    }

pub move_legal : (shape : Shape) (jack link : Strategy) → Legal shape jack → Legal shape link → (made : ℕ) → move_of jack link made < shape.operations
move_legal shape jack link jack_legal link_legal made = choice (λ o. o < shape.operations) (jack_moves made) _ _ (jack_legal (play jack link made)) (link_legal (play jack link made))

after_more : (file : List ℕ) (shape : Shape) (state : ℕ) (jack link : Strategy) (made : ℕ)
    → after file shape state jack link (suc made) ≡ next_of file shape (after file shape state jack link made) (move_of jack link made)
unfolding play
after_more file shape state jack link made = walk_more file shape state (play jack link made) (move_of jack link made)

-- ---- One move

module _ (file : List ℕ) (shape : Shape) (targets : List ℕ) where
  -- The turn of a side.
  abbrev pub turn : (jack_to_move : Bool) (left state : ℕ) → Bool
  turn true left state = ours file shape targets left state
  turn false left state = theirs file shape targets left state

  -- The turn of the other side, after an operation.
  abbrev pub turn_after : (jack_moved : Bool) (left state operation : ℕ) → Bool
  turn_after jack_moved left state operation = turn (not jack_moved) left (next_of file shape state operation)

  -- At a target every turn is won; with no move left only there.
  pub lost_target : (side : Bool) (left state : ℕ) → turn side left state ≡ false → is_target targets state ≡ false
  lost_target side left state e = by (is_target targets state) refl side e
    where
      by : (b : Bool) → is_target targets state ≡ b → (side : Bool) → turn side left state ≡ false → b ≡ false
      by false t side e = refl
      by true t true e = clash (ours_target file shape targets left state t) e
      by true t false e = clash (theirs_target file shape targets left state t) e

  pub won_target : (side : Bool) (state : ℕ) → turn side 0 state ≡ true → is_target targets state ≡ true
  won_target true state e = sym (ours_none file shape targets state) ∙ e
  won_target false state e = sym (theirs_none file shape targets state) ∙ e

  -- What a side chooses, with so many moves left after it: the jack console an operation that wins, the link one that spoils.
  abbrev pub wins : (left state : ℕ) → ℕ
  wins left state = choose shape.operations (to_theirs file shape targets left state)

  abbrev pub spoils : (left state : ℕ) → ℕ
  spoils left state = choose shape.operations (λ operation. not (to_ours file shape targets left state operation))

  -- A turn that is won, at no target: after every move of the link, and after the jack console's choice, the next is won.
  pub won_after : (side : Bool) (left state operation : ℕ) → is_target targets state ≡ false → turn side (suc left) state ≡ true → operation < shape.operations
      → (side ≡ true → operation ≡ wins left state) → turn_after side left state operation ≡ true
  won_after true left state operation no_target e legal best =
      ap (to_theirs file shape targets left state) (best refl)
      ∙ choose_holds shape.operations (to_theirs file shape targets left state) (sym (ours_more file shape targets left state no_target) ∙ e)
  won_after false left state operation no_target e legal best =
      all_at shape.operations (to_ours file shape targets left state) (sym (theirs_more file shape targets left state no_target) ∙ e) operation legal

  -- A turn that is not won: after every move of the jack console, and after the link's choice, the next isn't either.
  pub lost_after : (side : Bool) (left state operation : ℕ) → turn side (suc left) state ≡ false → operation < shape.operations
      → (side ≡ false → operation ≡ spoils left state) → turn_after side left state operation ≡ false
  lost_after true left state operation e legal best =
      let no_target = lost_target true (suc left) state e in
      none_at shape.operations (to_theirs file shape targets left state) (sym (ours_more file shape targets left state no_target) ∙ e) operation legal
  lost_after false left state operation e legal best =
      let test = to_ours file shape targets left state in
      let none = some_fails shape.operations test (sym (theirs_more file shape targets left state (lost_target false (suc left) state e)) ∙ e) in
      ap test (best refl) ∙ not-true _ (choose_holds shape.operations (λ operation. not (test operation)) none)

  -- ---- A play

  module _ (moves state : ℕ) (jack link : Strategy) where
    -- The turn after so many moves.
    abbrev pub turn_at : ℕ → Bool
    turn_at made = turn (jack_moves made) (moves - made) (after file shape state jack link made)

    -- After the opening it is the link's turn.
    pub first_turn : turn_at 1 ≡ to_theirs file shape targets (moves - 1) state (jack [])
    unfolding jack_moves play
    first_turn = refl

    pub turn_more : (made : ℕ) → turn_at (suc made) ≡ turn_after (jack_moves made) (moves - suc made) (after file shape state jack link made) (move_of jack link made)
    unfolding jack_moves
    turn_more made = ap (turn (not (jack_moves made)) (moves - suc made)) (after_more file shape state jack link made)

    pub turn_left : (made : ℕ) → made < moves → turn_at made ≡ turn (jack_moves made) (suc (moves - suc made)) (after file shape state jack link made)
    turn_left made h = let one : moves - made ≡ suc (moves - suc made) = omega (arith, h) in ap (λ k. turn (jack_moves made) k (after file shape state jack link made)) one
