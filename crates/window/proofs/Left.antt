-- What a window call leaves of the windows: nothing but bytes 1 to 5 of its own is written, the unnamed bits stay, and the command is taken.
use mathlib.Core.Path.{◌≡◌, refl, sym, ap, subst, ◌∙◌}
use mathlib.Core.Logic.{◌≢◌}
use mathlib.Core.Bool.{Bool, true, false}
use mathlib.Core.List.{List}
use Prim.Native.Nat.{ℕ, ◌+◌, ◌*◌, ◌/◌, ◌<◌, ◌≤◌}
use native.Mathlib.Omega.{arith}
use native.Mathlib.Decide.{ℕ_discrete}
use lib.ListN.{length, get_or}
use Rattle.refusal.specs.declared.Refusal.{Refusal}
use Rattle.refusal.specs.declared.Refusal.TheVariants as cause
use Rattle.records.specs.declared.record.Task.{Task}
use Rattle.window.specs.declared.Status.{Status}
use Rattle.window.specs.Window.{byte_at, status_byte, status_at}
use Rattle.window.specs.Written.{refused_status, begun_status, ended_status, acknowledged_status, taken, refused_in, begun_in, ended_in, acknowledged_in}
use Rattle.window.specs.Serve.{WindowOutcome}
use Rattle.window.specs.Statement.{HasWindow, OthersStay, UnnamedStay, TakenOnce}
use Rattle.window.proofs.Bytes.{status_read, interrupt_read, Bytes, bytes_at, with_bytes, bytes_long, bytes_rest, bytes_read, taken_bytes, begun_bytes, refused_bytes, ended_bytes, acknowledged_bytes, taken_bytes_lem, begun_bytes_lem, refused_bytes_lem, acknowledged_bytes_lem, ended_bytes_lem}
use Rattle.window.proofs.Cases.{Case, unfit, past, nothing, unknown, acknowledged, unacknowledged, begun, begin_refused, running, ended, step_refused, cases}

-- ---- Windows that are left

-- The windows are left as they were, without a window or a command, or five bytes of one are written, which keep the unnamed bits and take the command.
data Left (windows : List ℕ) (n t : ℕ) : List ℕ → Type 0 where
  untouched : (HasWindow windows n t → byte_at windows t 1 ≡ 0) → Left windows n t windows
  wrote : 8 * t + 7 < length windows → (b : Bytes) → b.command ≡ 0 → b.status / 16 ≡ byte_at windows t 2 / 16 → b.interrupt / 2 ≡ byte_at windows t 5 / 2 → Left windows n t (with_bytes windows t b)

-- The eight bytes of a task that has a window.
pub inside : (windows : List ℕ) (n t : ℕ) → HasWindow windows n t → 8 * t + 7 < length windows
inside windows n t (long, below) = omega (arith, long, below)

module _ (windows : List ℕ) (n t : ℕ) (has : HasWindow windows n t) where
  written : (left : List ℕ) (b : Bytes) → left ≡ with_bytes windows t b → b.command ≡ 0 → b.status / 16 ≡ byte_at windows t 2 / 16 → b.interrupt / 2 ≡ byte_at windows t 5 / 2 → Left windows n t left
  written left b e c s i = subst (Left windows n t) (sym e) (wrote (inside windows n t has) b c s i)

  -- The unnamed bits of a status that is written.
  unnamed : (s : Status) → status_byte s / 16 ≡ s.unnamed
  unnamed s = ap (λ (z : Status). z.unnamed) (status_read s)

  left_taken : Left windows n t (taken windows t)
  left_taken = written (taken windows t) (taken_bytes (bytes_at windows t)) (taken_bytes_lem windows t) refl refl refl

  left_begun : Left windows n t (begun_in windows t)
  left_begun = written (begun_in windows t) (begun_bytes (bytes_at windows t)) (begun_bytes_lem windows t) refl (unnamed (begun_status (status_at windows t))) refl

  left_refused : (c : Refusal) → Left windows n t (refused_in windows t c)
  left_refused c = written (refused_in windows t c) (refused_bytes c (bytes_at windows t)) (refused_bytes_lem windows t c) refl (unnamed (refused_status (status_at windows t))) (interrupt_read true (byte_at windows t 5)).1

  left_ended : (r : ℕ) (v : Bool) → Left windows n t (ended_in windows t r v)
  left_ended r v = written (ended_in windows t r v) (ended_bytes r v (bytes_at windows t)) (ended_bytes_lem windows t r v) refl (unnamed (ended_status v (status_at windows t))) (interrupt_read true (byte_at windows t 5)).1

  left_acknowledged : Left windows n t (acknowledged_in windows t)
  left_acknowledged = written (acknowledged_in windows t) (acknowledged_bytes (bytes_at windows t)) (acknowledged_bytes_lem windows t) refl (unnamed (acknowledged_status (status_at windows t))) (interrupt_read false (byte_at windows t 5)).1

-- What holds of windows left as they were and of every write holds of the windows that a call leaves.
module _ {windows : List ℕ} {n t : ℕ} where
  left_long : {left : List ℕ} → Left windows n t left → length left ≡ length windows
  left_long (untouched z) = refl
  left_long (wrote within b c s i) = bytes_long windows t b

  left_rest : {left : List ℕ} → Left windows n t left → (p : ℕ) → ((k : ℕ) → 1 ≤ k → k ≤ 5 → p ≢ 8 * t + k) → get_or left p 0 ≡ get_or windows p 0
  left_rest (untouched z) p h = refl
  left_rest (wrote within b c s i) p h = bytes_rest windows t b p h

  left_unnamed : {left : List ℕ} → Left windows n t left → (u : ℕ) → (byte_at left u 2 / 16 ≡ byte_at windows u 2 / 16) × (byte_at left u 5 / 2 ≡ byte_at windows u 5 / 2)
  left_unnamed (untouched z) u = (refl, refl)
  left_unnamed (wrote within b c s i) u = go (ℕ_discrete u t)
    where
      read : bytes_at (with_bytes windows t b) t ≡ b
      read = bytes_read windows t b within

      go : Dec (u ≡ t) → (byte_at (with_bytes windows t b) u 2 / 16 ≡ byte_at windows u 2 / 16) × (byte_at (with_bytes windows t b) u 5 / 2 ≡ byte_at windows u 5 / 2)
      go (yes e) = rw e (ap (λ (z : Bytes). z.status / 16) read ∙ s, ap (λ (z : Bytes). z.interrupt / 2) read ∙ i)
      go (no d) = (
        ap (λ (v : ℕ). v / 16) (bytes_rest windows t b (8 * u + 2) (λ k l m e. d (omega (arith, l, m, e)))),
        ap (λ (v : ℕ). v / 2) (bytes_rest windows t b (8 * u + 5) (λ k l m e. d (omega (arith, l, m, e)))),
      )

  -- The command is taken: it was 0, or byte 1 is written.
  left_taken_once : {left : List ℕ} → Left windows n t left → HasWindow windows n t → byte_at left t 1 ≡ 0
  left_taken_once (untouched z) has = z has
  left_taken_once (wrote within b c s i) has = ap (λ (z : Bytes). z.command) (bytes_read windows t b within) ∙ c

module _ (file cells : List ℕ) (row : List Task) (windows : List ℕ) (t : ℕ) where
  left_of_lem : {out : WindowOutcome} → Case file cells row windows t out → Left windows (length row) t out.windows
  left_of_lem (unfit h) = untouched (λ has. absurd (h has.0))
  left_of_lem (past e h) = untouched (λ has. absurd (omega (arith, has.1, h)))
  left_of_lem (nothing h e) = untouched (λ _. e)
  left_of_lem (unknown h e) = left_refused windows (length row) t h cause.Window
  left_of_lem (acknowledged h e) = left_acknowledged windows (length row) t h
  left_of_lem (unacknowledged h e d) = left_refused windows (length row) t h cause.Unacknowledged
  left_of_lem (begun h e d a) = left_begun windows (length row) t h
  left_of_lem (begin_refused h e d c a) = left_refused windows (length row) t h c
  left_of_lem (running h e a) = left_taken windows (length row) t h
  left_of_lem (ended h e r v k a) = left_ended windows (length row) t h r v
  left_of_lem (step_refused h e c a) = left_refused windows (length row) t h c

  pub others_stay : OthersStay file cells row windows t
  others_stay = let l = left_of_lem (cases file cells row windows t) in record { long = left_long l; rest = left_rest l }

  pub unnamed_stay : UnnamedStay file cells row windows t
  unnamed_stay = left_unnamed (left_of_lem (cases file cells row windows t))

  pub taken_once : TakenOnce file cells row windows t
  taken_once has = left_taken_once (left_of_lem (cases file cells row windows t)) has
