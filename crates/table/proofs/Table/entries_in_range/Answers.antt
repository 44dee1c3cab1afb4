-- The file's bytes are cut into entries, and what is left over.
use Rattle.table.proofs.Flat.{bytes_tested}
use Rattle.table.proofs.Table.entries_in_range.Goals as goal

pub returns : goal.returns
returns c =
    rw (c.next_states_below.ensures, c.cut_below.ensures, c.as_chunks.ensures.front, c.as_chunks.ensures.back, c.entries.ensures) (bytes_tested c.args.self.now.file.now c.args.self.now.shape)
