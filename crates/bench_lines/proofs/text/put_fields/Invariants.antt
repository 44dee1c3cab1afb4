use Rattle.std.proofs.Common.{◌≡◌, ◌+◌, ◌*◌, ◌≤◌, ◌++◌, length, take}
use Rattle.bench_lines.specs.Line.{parted_in}
use Rattle.bench_lines.proofs.text.put_fields.Given as goal

abbrev pub invariant-loop-value : goal.invariant-loop-value
invariant-loop-value l =
    (l.out.items ≡ l.initial.out.items ++ parted_in l.base (take l.value-index l.values))
    × (length l.out.items ≤ length l.initial.out.items + 21 * l.value-index)
