use Rattle.std.proofs.Common.{rules, ◌∙◌, ap, ℕ, List, get_or}
use Rattle.laws.proofs.Lists.{to_the_end}
use Rattle.bench_lines.specs.Command.{fields_of, after_letter}
use Rattle.bench_lines.proofs.Fields.{command_of_more}
use Rattle.bench_lines.proofs.command.parse.Goals as goal

pub returns-in-32 : goal.returns-in-32
returns-in-32 c =
    let line = c.args.line.now in
    c.after_letter.ensures ∙ ap (λ (r : List ℕ). after_letter (get_or line 0 0) (fields_of r)) (to_the_end line 2)
    ∙ command_of_more line (search rules) (search rules)
