-- The cases about the object file hold.
use mathlib.Core.Path.{◌≡◌, refl}
use mathlib.Core.List.{map}
use Rattle.laws.specs.Below.{all_below}
use Rattle.laws.specs.Case.{case}
use Rattle.table.specs.File.{ends_in_mark, shape_of}
use Rattle.table.specs.Entries.{entry_of, entry_in_range, operation_in_range, entries_in_range, moves}
use Rattle.table.specs.Layout.{file_fits, dimensions_fit, length_fits, layout_of}
use Rattle.table.specs.Check.{check_of}
use Rattle.table.specs.Cases.{flag, zero_table, number, moved, file_cases}

pub file_cases_hold : map (λ c. c.given) file_cases ≡ map (λ c. c.said) file_cases
unfolding file_cases case flag zero_table number moved check_of layout_of file_fits dimensions_fit length_fits entries_in_range operation_in_range entry_in_range entry_of moves ends_in_mark shape_of all_below
file_cases_hold = refl
