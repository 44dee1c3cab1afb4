-- The cases of force hold.
use mathlib.Core.Path.{◌≡◌, refl}
use mathlib.Core.List.{map}
use Rattle.laws.specs.Below.{all_below, any_below}
use Rattle.laws.specs.Lowest.{lowest_below}
use Rattle.table.specs.File.{ends_in_mark, shape_of}
use Rattle.table.specs.Entries.{entry_of, entry_in_range, operation_in_range, entries_in_range}
use Rattle.table.specs.Layout.{file_fits, dimensions_fit, length_fits, layout_of}
use Rattle.table.specs.Check.{check_of}
use Rattle.table.specs.Cases.{flag}
use Rattle.game.specs.Turns.{is_target, ours, theirs}
use Rattle.game.specs.Force.{targets_fit, question_fits, turn_of, force_of}
use Rattle.game.specs.Cases.{force_cases}

pub force_cases_hold : map (λ c. c.given) force_cases ≡ map (λ c. c.said) force_cases
unfolding force_cases flag force_of turn_of question_fits targets_fit is_target ours theirs check_of layout_of file_fits dimensions_fit length_fits entries_in_range operation_in_range entry_in_range entry_of ends_in_mark shape_of all_below any_below lowest_below
force_cases_hold = refl
