-- The cases about cells and ceiling hold.
use mathlib.Core.Path.{◌≡◌, refl}
use mathlib.Core.List.{map}
use Rattle.laws.specs.Case.{case}
use Rattle.cells.specs.Ceiling.{ceiling_of}
use Rattle.cells.specs.Field.{pack, unpack, total}
use Rattle.cells.specs.Form.{marks_in_form, in_form, outcome_in_form, head_fields_in_form, head_in_form, payload_in_form, announcement_fields_in_form, announcement_in_form}
use Rattle.cells.specs.Image.{image}
use Rattle.cells.specs.Layout.{head_word, announcement_word}
use Rattle.cells.specs.Cases.{cell_cases}

pub cell_cases_hold : map (λ c. c.given) cell_cases ≡ map (λ c. c.said) cell_cases
unfolding cell_cases case image head_in_form announcement_in_form in_form marks_in_form head_fields_in_form outcome_in_form announcement_fields_in_form payload_in_form head_word announcement_word pack unpack total ceiling_of
cell_cases_hold = refl
