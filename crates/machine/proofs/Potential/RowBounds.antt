-- Bounds of the columns of the table of phases.
use mathlib.Core.Bool.{Bool, true, false, not, cond}
use Prim.Native.Nat.{◌+◌, ◌≤◌}
use native.Mathlib.Omega.{arith}
use Rattle.machine.specs.Machine.{Phase, Idle, ReadOnly, Announce, Poll, LoadHead, LinkHead, LoadPriority, LoadOwn, Apply, ReloadApply, LoadHelped, LinkHelped, Validate, HandOver, ReloadHandOver, Release, ReloadRelease, ClearHead, ReloadClear, LoadExit, LinkExit, ClearExit, ReleaseExit, Retract}
use Rattle.machine.specs.Potential.{helping, extra, looping, Row, row}

-- What is to be known of the part of a rank that goes by the head, by the own mark in it and by the own response.
pub record Extra (held marked answered : Bool) : Type 0 where
  pub before : extra held answered marked false ≤ extra held answered marked true
  pub most : extra held answered marked true ≤ 29
  -- Polling and linking.
  pub helps : helping held ≤ cond answered 10 (helping held)
  pub loops : cond answered 0 (helping held) ≤ cond answered 10 (helping held)
  pub twice : cond answered 10 (helping held) ≤ 10
  pub links : extra held answered true true + cond marked 0 3 ≤ extra held answered marked false
  pub links_exit : extra held answered true false + cond marked 0 3 ≤ extra held answered marked false
  -- The mark is lost, and the task polls.
  pub lost : looping 0 held false answered ≤ extra held answered false true
  -- Announcing and leaving.
  pub announces : extra held false marked false ≤ 3
  pub leaves : 16 + helping held ≤ extra held true marked false
  -- Another head without marks, and the own response.
  pub renews : helping (not held) ≤ helping held + cond held 3 13
  pub renews_before : extra (not held) answered false false ≤ extra held answered marked false + cond held 3 13
  pub renews_past : extra (not held) answered false true ≤ extra held answered marked true + cond held 3 13
  pub renews_loop : looping 10 (not held) false answered ≤ looping 10 held marked answered + cond held 3 13
  pub renews_poll : looping 0 (not held) false answered ≤ looping 0 held marked answered + cond held 3 13
  pub served_past : extra held true marked true ≤ extra held answered marked true + 26
  pub served_loop : looping 10 held marked true ≤ looping 10 held marked answered + 26

pub extras : (held marked answered : Bool) → Extra held marked answered
extras true true true = omega arith
extras true true false = omega arith
extras true false true = omega arith
extras true false false = omega arith
extras false true true = omega arith
extras false true false = omega arith
extras false false true = omega arith
extras false false false = omega arith

pub record Bounds (r : Row) (held marked answered : Bool) : Type 0 where
  pub rank : r.rank held marked answered ≤ 39
  pub unmarked : r.rank (not held) false answered ≤ r.rank held marked answered + cond held 3 13
  pub served : r.rank held marked true ≤ r.rank held marked answered + 26
  pub last : r.position true ≤ 18

pub row_bounds : (f : Phase) (w h a : Bool) → Bounds (row f) w h a
row_bounds f w h a = go f (extras w h a)
  where
    go : (f : Phase) → Extra w h a → Bounds (row f) w h a
    go Idle x = omega arith
    go ReadOnly x = omega arith
    go Announce x = omega arith
    go Poll x = omega arith
    go LoadHead x = omega arith
    go (LinkHead g) x = omega arith
    go (LoadPriority g) x = omega arith
    go (LoadOwn g) x = omega arith
    go (Apply g j o) x = omega arith
    go (ReloadApply g j o) x = omega arith
    go (LoadHelped g j) x = omega arith
    go (LinkHelped g j w) x = omega arith
    go (Validate g j w) x = omega arith
    go (HandOver g j w) x = omega arith
    go (ReloadHandOver g j w) x = omega arith
    go (Release g j w) x = omega arith
    go (ReloadRelease g j w) x = omega arith
    go (ClearHead g j) x = omega arith
    go (ReloadClear g j) x = omega arith
    go (LoadExit v) x = omega arith
    go (LinkExit g v) x = omega arith
    go (ClearExit g v) x = omega arith
    go (ReleaseExit g v) x = omega arith
    go (Retract v) x = omega arith
