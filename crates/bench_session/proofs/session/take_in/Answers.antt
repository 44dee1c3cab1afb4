use Rattle.std.proofs.Common.{rules}
use Rattle.bench_session.specs.Session.{keep_byte}
use Rattle.bench_session.proofs.Feeds.{yields_as, feed_other}
use Rattle.bench_session.proofs.session.take_in.Goals as goal

pub returns : goal.returns
returns c =
    λ fed f.
    yields_as _ c.new.result (keep_byte fed c.args.byte) _ (feed_other c.args.file.now fed c.args.byte (search rules))
    ((f.0, c.longer-session.ensures fed.line f.1), c.new.ensures)
