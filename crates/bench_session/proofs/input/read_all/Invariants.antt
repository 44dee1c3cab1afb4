use mathlib.Core.Bool.{true}
use Rattle.bench_session.specs.Session.{Reached}
use Rattle.bench_session.proofs.input.read_all.Given as goal

abbrev pub invariant-loop-read : goal.invariant-loop-read
invariant-loop-read g l = Reached l.file l.session true l.read
