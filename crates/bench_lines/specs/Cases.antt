-- docs/FORMATS.md, "The bench": the lines of the flag listing that tell answers, byte by byte.
use Rattle.std.specs.Prelude.{true, false, List, [], ◌∷◌, ◌++◌, ℕ, Ok}
use Rattle.bench_lines.specs.Line.{reply_line}
use Rattle.bench_lines.specs.declared.reply.Reply.TheVariants as reply

-- What the definitions give: two tasks start, task 0 sets, task 1 reads, task 1 clears.
unfoldable pub flag_lines : List ℕ
flag_lines = reply_line (Ok (reply.Started 2 2 3)) ++ reply_line (Ok (reply.Ended 0 0 true)) ++ reply_line (Ok (reply.Ended 1 1 false)) ++ reply_line (Ok (reply.Ended 1 1 true))

-- What the page says: `n 2 2 3`, `r 0 0 1`, `r 1 1 0`, `r 1 1 1`.
unfoldable pub flag_listing : List ℕ
flag_listing =
    110 ∷ 32 ∷ 50 ∷ 32 ∷ 50 ∷ 32 ∷ 51 ∷ 10
    ∷ 114 ∷ 32 ∷ 48 ∷ 32 ∷ 48 ∷ 32 ∷ 49 ∷ 10
    ∷ 114 ∷ 32 ∷ 49 ∷ 32 ∷ 49 ∷ 32 ∷ 48 ∷ 10
    ∷ 114 ∷ 32 ∷ 49 ∷ 32 ∷ 49 ∷ 32 ∷ 49 ∷ 10
    ∷ []
