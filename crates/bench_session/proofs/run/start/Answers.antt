-- A refused start leaves the bench as it was.
use Rattle.std.proofs.lemmas.Result.{err_from_is_err_and}
use Rattle.bench_session.proofs.Runs.{refused_keeps}
use Rattle.bench_session.proofs.run.start.Goals as goal

pub returns-in_err-answer : goal.returns-in_err-answer
returns-in_err-answer c =
    let (cause, told, same) = err_from_is_err_and c.from_residual.result c.from_residual.ensures.1 in
    rw (told, same) (refused_keeps _ _ _ _ _ _ _ _ _ c.from-count.ensures c.cell_count-lent.ensures.0 c.start_first-answer.ensures c.in_err-answer.was)
