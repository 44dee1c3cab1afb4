-- The answers of the flag listing are printed as the page says.
use mathlib.Core.Path.{◌≡◌, refl}
use Rattle.bench_lines.specs.Line.{decimal_in, decimal, parted_in}
use Rattle.bench_lines.specs.Cases.{flag_lines, flag_listing}

pub flag_lines_hold : flag_lines ≡ flag_listing
unfolding flag_lines flag_listing decimal_in decimal parted_in
flag_lines_hold = refl
