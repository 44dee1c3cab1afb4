use Rattle.bench_session.proofs.Feeds.{follows_as, feed_more}
use Rattle.bench_session.proofs.input.take_all.Goals as goal

pub loop-byte-preserved : goal.loop-byte-preserved
loop-byte-preserved g c = λ fed f. follows_as _ _ _ (feed_more c.args.file.now fed c.args.bytes.now _ c.loop-byte-test.true) (c.take_in-text.ensures _ (c.loop-byte.invariant fed f)).0
