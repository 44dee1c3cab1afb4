-- The word at a place is the state there, and the order has no place past the arrays.
use Rattle.std.proofs.Common.{◌≡◌, ◌%◌, ◌∙◌, arith}
use Rattle.canonical.proofs.Arrays.{state_at, state_past}
use Rattle.canonical.proofs.Numbering.state_at.Goals as goal

pub returns-then-place-lt-PLACES : goal.returns-then-place-lt-PLACES
returns-then-place-lt-PLACES c =
    let same : c.args.place % 256 ≡ c.args.place = omega arith in
    rw same at c.word_at-state.ensures ∙ state_at c.args.self.now.numbered c.args.place

pub returns-else-place-lt-PLACES : goal.returns-else-place-lt-PLACES
returns-else-place-lt-PLACES c = state_past c.args.self.now.numbered c.args.place (omega arith)
