-- A buffer of 64 bytes holds a line that grows, until it is too long.
use mathlib.Core.Path.{◌≡◌, sym}
use mathlib.Core.List.{List, [], ◌∷◌, ◌++◌}
use Prim.Native.Nat.{ℕ, ◌<◌, ◌≤◌}
use native.Mathlib.Omega.{arith}
use lib.ListN.{length, length-append}
use Rattle.bench_lines.specs.declared.command.Command.TheVariants.{Unknown}
use Rattle.bench_lines.specs.Command.{command_of}
use Rattle.bench_session.specs.Session.{longest_line}
use Rattle.bench_lines.proofs.LongLines.{long_line}

-- A byte for which there is no room, and one after it.
pub hold_long : (bytes : List ℕ) (b : ℕ) → longest_line ≤ length bytes → longest_line < length (bytes ++ (b ∷ []))
hold_long bytes b full = omega (arith, length-append bytes (b ∷ []))

-- A line that is too long has no meaning.
pub long_command : (bytes : List ℕ) → longest_line < length bytes → Unknown ≡ command_of bytes
long_command bytes over = sym (long_line bytes (omega arith))
