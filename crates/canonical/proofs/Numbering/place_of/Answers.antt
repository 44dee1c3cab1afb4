-- The word of a state is its place and one more, or 0.
use Rattle.std.proofs.Common.{arith}
use Rattle.canonical.proofs.Arrays.{place_at}
use Rattle.canonical.proofs.Numbering.place_of.Goals as goal

pub returns : goal.returns
returns c = let n = c.args.self.now in omega (arith, c.min.ensures, n.counted, place_at n.numbered c.args.state c.word_at.ensures)
