use Rattle.std.proofs.Common.{◌≡◌, ◌<◌, ◌+◌, ◌^◌, ◌∙◌, sym, false, arith}
use Rattle.cells.specs.Layout.{has_mark, mark_of}
use Rattle.cells.proofs.WordMarks.{add_mark_below, add_by_place}
use Rattle.cells.proofs.marks.add_mark.Goals as goal

pub overflow_add-result : goal.overflow_add-result
overflow_add-result c =
    let a = c.args in
    let h : has_mark a.task a.word ≡ false = sym c.has_mark.ensures ∙ c.if-has_mark.false in
    let below : a.word + mark_of a.task < 2 ^ 64 = rw (← simp h at (add_by_place a.task a.word)) (add_mark_below a.task a.word 64 (omega arith) (omega arith)) in
    omega (arith, c.mark_of.ensures, below)
