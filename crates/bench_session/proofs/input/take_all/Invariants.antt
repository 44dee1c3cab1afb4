use Rattle.std.proofs.Common.{take}
use Rattle.bench_session.specs.Session.{Fed, Follows, feed}
use Rattle.bench_session.proofs.input.take_all.Given as goal

abbrev pub invariant-loop-byte : goal.invariant-loop-byte
invariant-loop-byte g l =
    (fed : Fed) → Follows fed l.initial.session → Follows (feed l.file fed (take l.byte-index l.bytes)).fed l.session
