-- The theorems about the window call: a proof of each statement of specs/Statement.antt.
use mathlib.Core.List.{List}
use Prim.Native.Nat.{ℕ}
use Rattle.records.specs.declared.record.Task.{Task}
use Rattle.stepping.specs.Runs.{Store}
use Rattle.stepping.specs.Opening.{Opening}
use Rattle.stepping.specs.Statement.{Demands}
use Rattle.window.specs.Events.{WindowEvent, WindowStore}
use Rattle.window.specs.Console.{Blank}
use Rattle.window.specs.Statement.{BitsNamed, BeginsBy, StepsBy, NoneBy, LineJudged, Judged, SettledAlone, OthersStay, UnnamedStay, TakenOnce, RecordAlone, MaskFree, RefusedLeaves, ServedLeaves, SameAsDirect, ComeTo, CallsGrow, AnswersDirect, ServedOnce, AlongWindows, ReadsDirect, AlwaysTells}
use Rattle.window.proofs.Bytes as bytes
use Rattle.window.proofs.Judged as judging
use Rattle.window.proofs.Left as writing
use Rattle.window.proofs.Shown as showing
use Rattle.window.proofs.Mask as mask
use Rattle.window.proofs.ByRecord as by_record
use Rattle.window.proofs.Runs as runs
use Rattle.window.proofs.Console.{holds, tells}
use Rattle.window.proofs.Readings as readings

-- ---- The bytes and the bits by their numbers

pub bits_known : (windows : List ℕ) (t : ℕ) → BitsNamed windows t
bits_known = bytes.bits_named

-- ---- The tests, the call that is made and the answer

pub begin_asked : (windows : List ℕ) (n t : ℕ) → BeginsBy windows n t
begin_asked = judging.begin_made

pub step_asked : (windows : List ℕ) (n t : ℕ) → StepsBy windows n t
step_asked = judging.step_made

pub none_asked : (windows : List ℕ) (n t : ℕ) → NoneBy windows n t
none_asked = judging.none_made

pub line_known : (windows : List ℕ) (n t : ℕ) → LineJudged windows n t
line_known = judging.line_judged

module _ (file cells : List ℕ) (row : List Task) (windows : List ℕ) (t : ℕ) where
  pub numbers_known : Judged file cells row windows t
  numbers_known = judging.judged file cells row windows t

  pub settled_known : SettledAlone file cells row windows t
  settled_known = showing.settled_alone file cells row windows t

  -- ---- What is written

  pub others_stay : OthersStay file cells row windows t
  others_stay = writing.others_stay file cells row windows t

  pub unnamed_stay : UnnamedStay file cells row windows t
  unnamed_stay = writing.unnamed_stay file cells row windows t

  pub taken_once : TakenOnce file cells row windows t
  taken_once = writing.taken_once file cells row windows t

  pub record_alone : RecordAlone file cells row windows t
  record_alone = by_record.record_alone file cells row windows t

  pub mask_free : MaskFree file cells row windows t
  mask_free = mask.mask_free file cells row windows t

  pub refused_window : RefusedLeaves file cells row windows t
  refused_window = showing.refused_leaves file cells row windows t

  pub served_window : ServedLeaves file cells row windows t
  served_window = showing.served_leaves file cells row windows t

-- ---- Theorem A

pub runs_with_windows : (file : List ℕ) (es : List WindowEvent) (l : WindowStore) → SameAsDirect file es l
runs_with_windows = runs.same_run

pub events_come : (l : WindowStore) → ComeTo l
events_come = runs.events_come

pub calls_grow : (file : List ℕ) (es fs : List WindowEvent) (l : WindowStore) → CallsGrow file es fs l
calls_grow = runs.calls_grow

pub answers_direct : (file : List ℕ) (l : WindowStore) → AnswersDirect file l
answers_direct = runs.answers_direct

pub served_once : (file : List ℕ) (l : WindowStore) → ServedOnce file l
served_once = by_record.served_once

-- ---- Over an opening: demands 2 and 3 with windows, and theorems B and C

module _ {file : List ℕ} {n q : ℕ} {s : Store} (o : Opening file n q s) (windows : List ℕ) where
  pub demands_with_windows : (d : Demands o) (es : List WindowEvent) → AlongWindows o d windows es
  demands_with_windows d es = runs.along_windows o d windows es

  pub console_reads : (t : ℕ) → Blank n t windows → ReadsDirect o windows t
  console_reads t blank es leaves x made = readings.reads_direct o windows t es blank.below (holds o windows t blank es leaves) x made

  pub window_tells : (t : ℕ) → Blank n t windows → AlwaysTells o windows t
  window_tells t blank es leaves = tells o windows t es (holds o windows t blank es leaves)
