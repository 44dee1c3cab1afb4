-- The cases of an object's one file hold.
use mathlib.Core.Path.{◌≡◌, refl}
use mathlib.Core.List.{map}
use Rattle.laws.specs.Below.{all_below}
use Rattle.laws.specs.Joined.{joined}
use Rattle.table.specs.File.{ends_in_mark, shape_of}
use Rattle.table.specs.Entries.{entry_of, entry_in_range, operation_in_range, entries_in_range}
use Rattle.table.specs.Layout.{file_fits, dimensions_fit, length_fits, layout_of}
use Rattle.table.specs.Check.{check_of}
use Rattle.table.specs.Cases.{flag}
use Rattle.table_writer.specs.Written.{file_of}
use Rattle.reach.specs.Order.{meet, meet_next, turn, turns, order_of}
use Rattle.canonical.specs.Canonical.{renumbered, canonical_of, canonical_written}
use Rattle.canonical.specs.Cases.{flag_from_one, outcome, canonical_cases}

pub canonical_cases_hold : map (λ c. c.given) canonical_cases ≡ map (λ c. c.said) canonical_cases
unfolding canonical_cases outcome flag flag_from_one canonical_written canonical_of renumbered file_of joined order_of turns turn meet_next meet check_of layout_of file_fits dimensions_fit length_fits entries_in_range operation_in_range entry_in_range entry_of ends_in_mark shape_of all_below
canonical_cases_hold = refl
