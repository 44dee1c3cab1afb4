-- The phase table: the number of each phase.
use Rattle.std.specs.Prelude.{cond, ◌&&◌, ℕ, ◌+◌, ◌-◌, eqb, leb, Result, Ok, Err}
use Rattle.refusal.specs.declared.Refusal.TheVariants as cause
use Rattle.records.specs.declared.phase.Phase.{Phase}
use Rattle.records.specs.declared.phase.Phase.TheVariants.{Idle, ReadOnly, Announce, Poll, LoadHead, LinkHead, LoadPriority, LoadOwn, LoadExit, LinkExit, ClearExit, ReleaseExit, Retract, ClearHead, ReloadClear, Apply, ReloadApply, LoadHelped, LinkHelped, Validate, HandOver, ReloadHandOver, Release, ReloadRelease}
use Rattle.refusal.specs.declared.Refusal.{Refusal}

-- The number of a phase: those that work for a task j are ranges of eight.
abbrev pub phase_number : Phase → ℕ
phase_number Idle = 0
phase_number ReadOnly = 1
phase_number Announce = 2
phase_number Poll = 3
phase_number LoadHead = 4
phase_number LinkHead = 5
phase_number LoadPriority = 6
phase_number LoadOwn = 7
phase_number LoadExit = 8
phase_number LinkExit = 9
phase_number ClearExit = 10
phase_number ReleaseExit = 11
phase_number Retract = 12
phase_number ClearHead = 13
phase_number ReloadClear = 14
phase_number (Apply j) = 16 + j
phase_number (ReloadApply j) = 24 + j
phase_number (LoadHelped j) = 32 + j
phase_number (LinkHelped j) = 40 + j
phase_number (Validate j) = 48 + j
phase_number (HandOver j) = 56 + j
phase_number (ReloadHandOver j) = 64 + j
phase_number (Release j) = 72 + j
phase_number (ReloadRelease j) = 80 + j

-- The phase of a number, if it is that number; else the next guess.
abbrev pub just : ℕ → ℕ → Phase → Result Phase Refusal → Result Phase Refusal
just k number phase other = cond (eqb k number) (Ok phase) other

-- The phase of a number, if it is in the range of eight that starts there; else the next guess.
abbrev pub range : ℕ → ℕ → (ℕ → Phase) → Result Phase Refusal → Result Phase Refusal
range k first phase other = cond (leb first k && leb k (first + 7)) (Ok (phase (k - first))) other

-- The phase of a number; a number of no phase is refused with 11.
unfoldable pub phase_of : ℕ → Result Phase Refusal
phase_of k =
    just k 0 Idle
    (just k 1 ReadOnly
    (just k 2 Announce
    (just k 3 Poll
    (just k 4 LoadHead
    (just k 5 LinkHead
    (just k 6 LoadPriority
    (just k 7 LoadOwn
    (just k 8 LoadExit
    (just k 9 LinkExit
    (just k 10 ClearExit
    (just k 11 ReleaseExit
    (just k 12 Retract
    (just k 13 ClearHead
    (just k 14 ReloadClear
    (range k 16 Apply
    (range k 24 ReloadApply
    (range k 32 LoadHelped
    (range k 40 LinkHelped
    (range k 48 Validate
    (range k 56 HandOver
    (range k 64 ReloadHandOver
    (range k 72 Release
    (range k 80 ReloadRelease (Err cause.Record))))))))))))))))))))))))
