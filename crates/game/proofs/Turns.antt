-- The turns, case by case: at a target, with no move left, and by the operations where a move is left.
use mathlib.Core.Path.{◌≡◌, refl, sym, ap, ◌∙◌}
use mathlib.Core.Bool.{Bool, true, false, cond}
use mathlib.Core.List.{List}
use Prim.Native.Nat.{ℕ, zero, suc, ◌-◌, ◌<◌, ◌≤◌}
use native.Mathlib.Omega.{arith}
use borrow.Author.Tests.{lt-ltb, le-ltb}
use lib.Dec.{ltb}
use Rattle.laws.specs.Below.{all_below, any_below}
use Rattle.laws.specs.Lowest.{lowest_below}
use Rattle.laws.proofs.Below.{all_of, not_all}
use Rattle.laws.proofs.Lowest.{lowest_at, lowest_none, lowest_any}
use Rattle.laws.proofs.Positive.{from_one}
use Rattle.table.specs.declared.Shape.{Shape}
use Rattle.reach.specs.Walk.{next_of}
use Rattle.game.specs.declared.Verdict.TheVariants.{Reached, Wins, Loses}
use Rattle.game.specs.Turns.{is_target, ours, theirs}
use Rattle.game.specs.Force.{found, turn_of, is_yes}

module _ (file : List ℕ) (shape : Shape) (targets : List ℕ) where
  -- The turn that an operation leads to, the other side's to move.
  abbrev pub to_theirs : (left state operation : ℕ) → Bool
  to_theirs left state operation = theirs file shape targets left (next_of file shape state operation)

  abbrev pub to_ours : (left state operation : ℕ) → Bool
  to_ours left state operation = ours file shape targets left (next_of file shape state operation)

  -- ---- At a target

  pub reached : (left state : ℕ) → is_target targets state ≡ true → turn_of file shape targets left state ≡ Reached
  unfolding turn_of
  reached left state e = simp e

  pub ours_target : (left state : ℕ) → is_target targets state ≡ true → ours file shape targets left state ≡ true
  unfolding ours
  ours_target zero state e = e
  ours_target (suc left) state e = simp e

  pub theirs_target : (left state : ℕ) → is_target targets state ≡ true → theirs file shape targets left state ≡ true
  unfolding theirs
  theirs_target zero state e = e
  theirs_target (suc left) state e = simp e

  -- ---- With no move left

  pub ours_none : (state : ℕ) → ours file shape targets 0 state ≡ is_target targets state
  unfolding ours
  ours_none state = refl

  pub theirs_none : (state : ℕ) → theirs file shape targets 0 state ≡ is_target targets state
  unfolding theirs
  theirs_none state = refl

  pub turn_none : (state : ℕ) → is_target targets state ≡ false → turn_of file shape targets 0 state ≡ Loses
  unfolding turn_of
  turn_none state e = simp e

  -- ---- With a move left, at no target

  module _ (left state : ℕ) (no_target : is_target targets state ≡ false) where
    pub ours_more : ours file shape targets (suc left) state ≡ any_below shape.operations (to_theirs left state)
    unfolding ours
    ours_more = simp no_target

    pub theirs_more : theirs file shape targets (suc left) state ≡ all_below shape.operations (to_ours left state)
    unfolding theirs
    theirs_more = simp no_target

    pub turn_more : turn_of file shape targets (suc left) state ≡ found shape.operations (lowest_below shape.operations (to_theirs left state))
    unfolding turn_of
    turn_more = simp no_target

  -- ---- By the operations, as the loops go through them

  module _ (left state : ℕ) (no_target : is_target targets state ≡ false) (some : 1 ≤ left) where
    pub turn_some : turn_of file shape targets left state ≡ found shape.operations (lowest_below shape.operations (to_theirs (left - 1) state))
    turn_some =
        from_one (λ k before. turn_of file shape targets k state ≡ found shape.operations (lowest_below shape.operations (to_theirs before state))) (λ k. turn_more k state no_target) left some

    theirs_some : theirs file shape targets left state ≡ all_below shape.operations (to_ours (left - 1) state)
    theirs_some = from_one (λ k before. theirs file shape targets k state ≡ all_below shape.operations (to_ours before state)) (λ k. theirs_more k state no_target) left some

    -- The lowest operation that leads to a turn that is won, or none.
    pub turn_wins : (operation : ℕ) → operation < shape.operations → to_theirs (left - 1) state operation ≡ true
        → ((lower : ℕ) → lower < operation → to_theirs (left - 1) state lower ≡ false) → turn_of file shape targets left state ≡ Wins operation
    turn_wins operation h e lower =
        turn_some ∙ ap (found shape.operations) (lowest_at shape.operations (to_theirs (left - 1) state) operation h e lower) ∙ simp (lt-ltb operation shape.operations h)

    pub turn_loses : ((operation : ℕ) → operation < shape.operations → to_theirs (left - 1) state operation ≡ false) → turn_of file shape targets left state ≡ Loses
    turn_loses none =
        turn_some ∙ ap (found shape.operations) (lowest_none shape.operations (to_theirs (left - 1) state) none) ∙ simp (le-ltb shape.operations shape.operations (omega arith))

    -- An operation that suits the link, or none.
    pub theirs_lost : (operation : ℕ) → operation < shape.operations → to_ours (left - 1) state operation ≡ false → theirs file shape targets left state ≡ false
    theirs_lost operation h e = theirs_some ∙ not_all shape.operations (to_ours (left - 1) state) operation h e

    pub theirs_won : ((operation : ℕ) → operation < shape.operations → to_ours (left - 1) state operation ≡ true) → theirs file shape targets left state ≡ true
    theirs_won all = theirs_some ∙ all_of shape.operations (to_ours (left - 1) state) all

  -- ---- A turn of the jack console is won exactly if its answer is a yes

  found_yes : (operation : ℕ) → is_yes (found shape.operations operation) ≡ ltb operation shape.operations
  found_yes operation = by (ltb operation shape.operations)
    where
      by : (b : Bool) → is_yes (cond b (Wins operation) Loses) ≡ b
      by true = refl
      by false = refl

  pub yes_ours : (left state : ℕ) → is_yes (turn_of file shape targets left state) ≡ ours file shape targets left state
  yes_ours left state = by (is_target targets state) refl left
    where
      by : (b : Bool) → is_target targets state ≡ b → (k : ℕ) → is_yes (turn_of file shape targets k state) ≡ ours file shape targets k state
      by true e k = ap is_yes (reached k state e) ∙ sym (ours_target k state e)
      by false e zero = ap is_yes (turn_none state e) ∙ sym (ours_none state ∙ e)
      by false e (suc k) = ap is_yes (turn_more k state e) ∙ found_yes _ ∙ lowest_any shape.operations (to_theirs k state) ∙ sym (ours_more k state e)
