-- The phases in groups: what a task is doing, as far as its own operation goes.
use Rattle.std.specs.Prelude.{Bool, true, false}
use Rattle.machine.specs.Outcome.{Outcome}
use Rattle.machine.specs.Machine.{Phase, Idle, ReadOnly, Announce, Poll, LoadHead, LinkHead, LoadPriority, LoadOwn, Apply, ReloadApply, LoadHelped, LinkHelped, Validate, HandOver, ReloadHandOver, Release, ReloadRelease, ClearHead, ReloadClear, LoadExit, LinkExit, ClearExit, ReleaseExit, Retract}

-- Nothing pending; a reading operation; a changing one not yet announced; announced; leaving with its outcome; about to retract.
pub data Kind : Type 0 where
  Off Reading Opening Looping : Kind
  Exiting Retracting : (outcome : Outcome) → Kind

abbrev pub kind : Phase → Kind
kind Idle = Off
kind ReadOnly = Reading
kind Announce = Opening
kind Poll = Looping
kind LoadHead = Looping
kind (LinkHead h) = Looping
kind (LoadPriority h) = Looping
kind (LoadOwn h) = Looping
kind (Apply h j o) = Looping
kind (ReloadApply h j o) = Looping
kind (LoadHelped h j) = Looping
kind (LinkHelped h j a) = Looping
kind (Validate h j a) = Looping
kind (HandOver h j a) = Looping
kind (ReloadHandOver h j a) = Looping
kind (Release h j a) = Looping
kind (ReloadRelease h j a) = Looping
kind (ClearHead h j) = Looping
kind (ReloadClear h j) = Looping
kind (LoadExit v) = Exiting v
kind (LinkExit h v) = Exiting v
kind (ClearExit h v) = Exiting v
kind (ReleaseExit h v) = Exiting v
kind (Retract v) = Retracting v

-- Whether no operation is pending.
abbrev pub off : Kind → Bool
off Off = true
off Reading = false
off Opening = false
off Looping = false
off (Exiting v) = false
off (Retracting v) = false

-- Whether no changing operation is pending.
abbrev pub calm : Kind → Bool
calm Off = true
calm Reading = true
calm Opening = false
calm Looping = false
calm (Exiting v) = false
calm (Retracting v) = false
