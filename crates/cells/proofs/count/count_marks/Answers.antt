use Rattle.std.proofs.Common.{rules, arith, ◌^◌, ◌≤◌, length}
use Rattle.std.proofs.lemmas.Iterator.{YieldsList-from_slice}
use Rattle.std.proofs.lemmas.Iterator.Adapters.{fits_from_length, at_most_from_yields_List}
use Rattle.cells.proofs.Counts.{marks_in_most}
use Rattle.cells.proofs.count.count_marks.Goals as goal

-- A slice has few enough cells, and each has at most eight marks.
pub sum-requires-clause-fits : goal.sum-requires-clause-fits
sum-requires-clause-fits c =
    let few : length c.args.cells.now ≤ 2 ^ 60 = search rules in
    fits_from_length _ _ (2 ^ 60) (2 ^ 64) (at_most_from_yields_List (YieldsList-from_slice c.args.cells.now cc) few) c.map.ensures.closure (omega arith) (λ x r q k. search (rules, marks_in_most))
