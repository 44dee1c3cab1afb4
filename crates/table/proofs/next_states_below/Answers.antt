-- The fours and what is left are all entries.
use Rattle.std.proofs.Common.{ltb, get_or, length, ◌/◌}
use Rattle.laws.proofs.Listed.{all_chunked}
use Rattle.table.proofs.next_states_below.Goals as goal

pub returns : goal.returns
returns c =
    let entries = c.args.entries.now in
    rw (c.fours_below.ensures, c.rest_below.ensures, c.as_chunks.ensures.front, c.as_chunks.ensures.back) (all_chunked (λ entry. ltb (get_or entry 0 0) c.args.bound) 4 (length entries / 4) entries)
