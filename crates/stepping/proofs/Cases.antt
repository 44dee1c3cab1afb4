-- All cases of the table hold.
use mathlib.Core.Path.{◌≡◌, refl, sym, ◌∙◌, ap₂}
use mathlib.Core.List.{List, ◌++◌, map, map-append}
use Rattle.laws.specs.Below.{all_below, any_below}
use Rattle.laws.specs.Case.{Case, case}
use Rattle.cells.specs.Cases.{cell_cases}
use Rattle.cells.specs.Ceiling.{ceiling_of}
use Rattle.cells.proofs.Cases.{cell_cases_hold}
use Rattle.table.specs.Cases.{flag, file_cases}
use Rattle.table.specs.Check.{check_of}
use Rattle.table.specs.Entries.{entry_of, entry_in_range, operation_in_range, entries_in_range, moves}
use Rattle.table.specs.File.{ends_in_mark, shape_of}
use Rattle.table.specs.Layout.{file_fits, dimensions_fit, length_fits, layout_of}
use Rattle.table.proofs.Cases.{file_cases_hold}
use Rattle.reach.specs.Order.{meet, meet_next, turn, turns, order_of}
use Rattle.reach.specs.Changing.{reachable, changing}
use Rattle.stepping.specs.Call.{admit_start_of, start_of, idle_row}
use Rattle.stepping.specs.Cases.{call_cases, cases}

-- A table of cases holds: each is given what is said.
abbrev Hold : List Case → Type 0
Hold cs = map (λ c. c.given) cs ≡ map (λ c. c.said) cs

calls_hold : Hold call_cases
unfolding call_cases case ceiling_of start_of admit_start_of idle_row flag check_of layout_of file_fits dimensions_fit length_fits entries_in_range operation_in_range entry_in_range entry_of moves changing reachable order_of turns turn meet_next meet ends_in_mark shape_of all_below any_below
calls_hold = refl

both_hold : (cs ds : List Case) → Hold cs → Hold ds → Hold (cs ++ ds)
both_hold cs ds e f = map-append _ cs ds ∙ ap₂ (λ xs ys. xs ++ ys) e f ∙ sym (map-append _ cs ds)

pub cases_hold : map (λ c. c.given) cases ≡ map (λ c. c.said) cases
unfolding cases
cases_hold = both_hold (file_cases ++ cell_cases) call_cases (both_hold file_cases cell_cases file_cases_hold cell_cases_hold) calls_hold
