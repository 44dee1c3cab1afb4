-- The two turns call each other: the moves left fall, and each loop has found of the operations passed that they do not decide.
use Rattle.std.proofs.Common.{◌-◌, ◌≡◌, ℕ, ◌<◌, true, false}
use Rattle.game.proofs.Turns.{to_theirs, to_ours}
use Rattle.game.proofs.+turns.Given as goal

abbrev pub decreases-our_turn : goal.decreases-our_turn
decreases-our_turn l = l.left

abbrev pub decreases-their_turn : goal.decreases-their_turn
decreases-their_turn l = l.left

-- No operation passed leads to a turn that is won.
abbrev pub invariant-our_turn-loop-operation : goal.invariant-our_turn-loop-operation
invariant-our_turn-loop-operation l = (k : ℕ) → k < l.operation → to_theirs l.table.file.now l.table.shape l.targets (l.left - 1) l.state k ≡ false

-- Every operation passed leads to a turn that is won.
abbrev pub invariant-their_turn-loop-operation : goal.invariant-their_turn-loop-operation
invariant-their_turn-loop-operation l = (k : ℕ) → k < l.operation → to_ours l.table.file.now l.table.shape l.targets (l.left - 1) l.state k ≡ true
