use Rattle.std.proofs.Common.{◌≡◌, ◌-◌}
use Rattle.bench_session.specs.Run.{Handled, most_turns, finish_from}
use Rattle.bench_session.proofs.run.finish.Given as goal

abbrev pub invariant-loop-turn : goal.invariant-loop-turn
invariant-loop-turn l =
    ◌≡◌ {A = Handled} (finish_from (most_turns - l._turn) l.file l.task (record { bench = l.bench; reply = l.reply }))
    (finish_from most_turns l.file l.task (record { bench = l.initial.bench; reply = l.initial.reply }))
