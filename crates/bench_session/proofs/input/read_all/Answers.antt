use Rattle.std.proofs.Common.{◌∙◌, sym}
use Rattle.bench_session.proofs.Feeds.{reached_more}
use Rattle.bench_session.proofs.input.read_all.Goals as goal

pub returns-then-not-read_part : goal.returns-then-not-read_part
returns-then-not-read_part g c =
    let part = c.read_part.ensures in
    reached_more _ _ _ _ _ _ c.loop-read.invariant (part.0, (part.1.0, sym c.if-not-read_part.true ∙ part.1.1))

pub loop-read-preserved : goal.loop-read-preserved
loop-read-preserved g c =
    let part = c.read_part.ensures in
    reached_more _ _ _ _ _ _ c.loop-read.invariant (part.0, (part.1.0, sym c.if-not-read_part.false ∙ part.1.1))
