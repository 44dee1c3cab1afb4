-- The cases of the ring desk hold, and the table of one ring is the flag object's file.
use mathlib.Core.Path.{◌≡◌, refl}
use mathlib.Core.List.{map}
use Rattle.laws.specs.Below.{all_below}
use Rattle.laws.specs.Lowest.{lowest_below}
use Rattle.laws.specs.Joined.{joined}
use Rattle.laws.specs.Case.{case}
use Rattle.table.specs.Cases.{flag}
use Rattle.table_writer.specs.Written.{file_of}
use Rattle.ring_desk.specs.Rings.{ring_fits, rings_fit}
use Rattle.ring_desk.specs.Owner.{owns_between, owner_of}
use Rattle.ring_desk.specs.Table.{desk_file, table_of}
use Rattle.ring_desk.specs.Cases.{owner, refusal, table_refusal, table_length, desk_cases, FlagWritten}

pub desk_cases_hold : map (λ c. c.given) desk_cases ≡ map (λ c. c.said) desk_cases
unfolding desk_cases case owner refusal table_refusal table_length table_of desk_file file_of joined owner_of owns_between rings_fit ring_fits all_below lowest_below
desk_cases_hold = refl

pub one_ring_flag : FlagWritten
unfolding desk_file file_of joined flag
one_ring_flag = refl
