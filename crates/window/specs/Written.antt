-- docs/FORMATS.md, "The register window": what a window call writes, always into the window of its task. A command is taken once:
-- byte 1 becomes 0.
use Rattle.std.specs.Prelude.{Bool, true, false, List, ℕ, ◌%◌, Result, Ok, Err, ⊤}
use Rattle.refusal.specs.declared.Refusal.{Refusal}
use Rattle.refusal.specs.Number.{number_of}
use Rattle.window.specs.declared.Status.{Status}
use Rattle.window.specs.Window.{byte_at, with_byte, status_byte, status_at, interrupt_byte}
use Rattle.stepping.specs.declared.answer.Progress.{Progress}
use Rattle.stepping.specs.declared.answer.Progress.TheVariants as progress

-- ---- The status after a command

-- Refused is set.
abbrev pub refused_status : Status → Status
refused_status s = record { busy = s.busy; done = s.done; refused = true; moved = s.moved; unnamed = s.unnamed }

-- Busy is set.
abbrev pub begun_status : Status → Status
begun_status s = record { busy = true; done = s.done; refused = s.refused; moved = s.moved; unnamed = s.unnamed }

-- Busy is cleared, done set, and moved is the answer's.
abbrev pub ended_status : Bool → Status → Status
ended_status moved s = record { busy = false; done = true; refused = s.refused; moved = moved; unnamed = s.unnamed }

-- Done and refused are cleared.
abbrev pub acknowledged_status : Status → Status
acknowledged_status s = record { busy = s.busy; done = false; refused = false; moved = s.moved; unnamed = s.unnamed }

-- ---- The windows after a command

-- Byte 1 is written.
abbrev pub taken : List ℕ → ℕ → List ℕ
taken windows t = with_byte windows t 1 0

-- Byte 1 and byte 2 are written.
abbrev pub marked : List ℕ → ℕ → Status → List ℕ
marked windows t s = with_byte (taken windows t) t 2 (status_byte s)

-- A refused command writes bytes 1, 2, 4 and 5: it is marked, numbered, and raises the interrupt.
abbrev pub refused_in : List ℕ → ℕ → Refusal → List ℕ
refused_in windows t cause =
    with_byte (with_byte (marked windows t (refused_status (status_at windows t))) t 4 (number_of cause)) t 5 (interrupt_byte true (byte_at windows t 5))

-- An accepted begin makes the window busy.
abbrev pub begun_in : List ℕ → ℕ → List ℕ
begun_in windows t = marked windows t (begun_status (status_at windows t))

-- An operation that ends is done: its moved answer and the low byte of its response stand there, and the interrupt is raised.
abbrev pub ended_in : List ℕ → ℕ → ℕ → Bool → List ℕ
ended_in windows t response moved =
    with_byte (with_byte (marked windows t (ended_status moved (status_at windows t))) t 3 (response % 256)) t 5 (interrupt_byte true (byte_at windows t 5))

-- Acknowledge clears done, refused and the interrupt.
abbrev pub acknowledged_in : List ℕ → ℕ → List ℕ
acknowledged_in windows t = with_byte (marked windows t (acknowledged_status (status_at windows t))) t 5 (interrupt_byte false (byte_at windows t 5))

-- ---- The windows after a begin and after a step

-- By the answer of the begin.
abbrev pub after_begin : List ℕ → ℕ → Result ⊤ Refusal → List ℕ
after_begin windows t (Ok tt) = begun_in windows t
after_begin windows t (Err c) = refused_in windows t c

-- By the answer of the step.
abbrev pub after_step : List ℕ → ℕ → Result Progress Refusal → List ℕ
after_step windows t (Ok progress.Running) = taken windows t
after_step windows t (Ok (progress.Ended response moved steps)) = ended_in windows t response moved
after_step windows t (Err c) = refused_in windows t c
