use Rattle.bench_lines.proofs.Fields.{first_field}
use Rattle.bench_lines.proofs.command.after_number.Goals as goal

pub returns-in-Some : goal.returns-in-Some
returns-in-Some c = simp (first_field c.args.rest.now _ _ c.first_space.ensures c.in-Some.is)
