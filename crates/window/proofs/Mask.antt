-- The mask changes nothing else: a call on windows with another mask leaves and answers the same, but for that byte.
use Rattle.std.specs.Prelude.{Result, Ok, Err, ⊤}
use mathlib.Core.Path.{◌≡◌, refl, sym, ap, ◌∙◌}
use mathlib.Core.Logic.{◌≢◌}
use mathlib.Core.Bool.{Bool, cond}
use mathlib.Core.List.{List}
use Prim.Native.Nat.{ℕ, ◌+◌, ◌*◌, ◌≤◌}
use native.Mathlib.Omega.{arith}
use borrow.Author.Tests.{lt-ltb, ne_eqb}
use lib.ListN.{length, set, length-set}
use lib.Seq.{get_or-set_other, set_comm}
use Rattle.refusal.specs.declared.Refusal.{Refusal}
use Rattle.refusal.specs.declared.Refusal.TheVariants as cause
use Rattle.records.specs.declared.record.Task.{Task}
use Rattle.stepping.specs.Call.{begin_of, step_of}
use Rattle.window.specs.Window.{byte_at, with_byte, status_of, status_at, place_of}
use Rattle.window.specs.Written.{taken, refused_in, begun_in, ended_in, acknowledged_in, after_begin, after_step}
use Rattle.window.specs.Serve.{Asked, Settled, Begins, Steps, refused_command, commanded, asked_in, asked_of, made, window_of}
use Rattle.window.specs.Statement.{MaskFree}
use Rattle.window.proofs.Bytes.{Bytes, bytes_at, with_bytes, taken_bytes, begun_bytes, refused_bytes, ended_bytes, acknowledged_bytes, taken_bytes_lem, begun_bytes_lem, refused_bytes_lem, acknowledged_bytes_lem, ended_bytes_lem}
use Rattle.window.proofs.Commands.{Command, nothing, begins, unacknowledged, steps, acknowledges, unknown, command}
use Rattle.stepping.specs.declared.answer.Progress.{Progress}
use Rattle.stepping.specs.declared.answer.Progress.TheVariants as progress

module _ (windows : List ℕ) (u byte t : ℕ) where
  -- No byte of a window but 6 is a mask.
  apart : (k : ℕ) → k ≤ 5 → 8 * u + 6 ≢ 8 * t + k
  apart k h e = omega (arith, h, e)

  same_byte : (k : ℕ) → k ≤ 5 → byte_at (with_byte windows u 6 byte) t k ≡ byte_at windows t k
  same_byte k h = get_or-set_other windows (8 * u + 6) (8 * t + k) byte 0 (λ e. apart k h (sym e))

  same_bytes : bytes_at (with_byte windows u 6 byte) t ≡ bytes_at windows t
  same_bytes i = record {
    command = same_byte 1 (omega arith) i;
    status = same_byte 2 (omega arith) i;
    response = same_byte 3 (omega arith) i;
    refusal = same_byte 4 (omega arith) i;
    interrupt = same_byte 5 (omega arith) i;
  }

  same_done : (status_at (with_byte windows u 6 byte) t).done ≡ (status_at windows t).done
  same_done = ap (λ (z : ℕ). (status_of z).done) (same_byte 2 (omega arith))

  -- Five bytes and a mask are written in either order.
  either_order : (b : Bytes) → with_bytes (with_byte windows u 6 byte) t b ≡ with_byte (with_bytes windows t b) u 6 byte
  unfolding with_bytes
  either_order b =
      let w₁ = set windows (8 * t + 1) b.command in
      let w₂ = set w₁ (8 * t + 2) b.status in
      let w₃ = set w₂ (8 * t + 3) b.response in
      let w₄ = set w₃ (8 * t + 4) b.refusal in
      let e₁ = set_comm windows (8 * u + 6) (8 * t + 1) byte b.command (apart 1 (omega arith)) in
      let e₂ = set_comm w₁ (8 * u + 6) (8 * t + 2) byte b.status (apart 2 (omega arith)) in
      let e₃ = set_comm w₂ (8 * u + 6) (8 * t + 3) byte b.response (apart 3 (omega arith)) in
      let e₄ = set_comm w₃ (8 * u + 6) (8 * t + 4) byte b.refusal (apart 4 (omega arith)) in
      let e₅ = set_comm w₄ (8 * u + 6) (8 * t + 5) byte b.interrupt (apart 5 (omega arith)) in
      ap (λ w. set (set (set (set w (8 * t + 2) b.status) (8 * t + 3) b.response) (8 * t + 4) b.refusal) (8 * t + 5) b.interrupt) e₁
      ∙ ap (λ w. set (set (set w (8 * t + 3) b.response) (8 * t + 4) b.refusal) (8 * t + 5) b.interrupt) e₂
      ∙ ap (λ w. set (set w (8 * t + 4) b.refusal) (8 * t + 5) b.interrupt) e₃ ∙ ap (λ w. set w (8 * t + 5) b.interrupt) e₄ ∙ e₅

  -- What writes five bytes by those that stand there does so beside any mask.
  beside : (f : List ℕ → List ℕ) (g : Bytes → Bytes) → ((w : List ℕ) → f w ≡ with_bytes w t (g (bytes_at w t))) → f (with_byte windows u 6 byte) ≡ with_byte (f windows) u 6 byte
  beside f g e =
      e (with_byte windows u 6 byte) ∙ ap (λ b. with_bytes (with_byte windows u 6 byte) t (g b)) same_bytes ∙ either_order (g (bytes_at windows t)) ∙ ap (λ w. with_byte w u 6 byte) (sym (e windows))

  refused_beside : (c : Refusal) → refused_in (with_byte windows u 6 byte) t c ≡ with_byte (refused_in windows t c) u 6 byte
  refused_beside c = beside (λ w. refused_in w t c) (refused_bytes c) (λ w. refused_bytes_lem w t c)

  begin_beside : (a : Result ⊤ Refusal) → after_begin (with_byte windows u 6 byte) t a ≡ with_byte (after_begin windows t a) u 6 byte
  begin_beside (Ok tt) = beside (λ w. begun_in w t) begun_bytes (λ w. begun_bytes_lem w t)
  begin_beside (Err c) = refused_beside c

  step_beside : (a : Result Progress Refusal) → after_step (with_byte windows u 6 byte) t a ≡ with_byte (after_step windows t a) u 6 byte
  step_beside (Ok progress.Running) = beside (λ w. taken w t) taken_bytes (λ w. taken_bytes_lem w t)
  step_beside (Ok (progress.Ended r v k)) = beside (λ w. ended_in w t r v) (ended_bytes r v) (λ w. ended_bytes_lem w t r v)
  step_beside (Err c) = refused_beside c

  acknowledged_beside : acknowledged_in (with_byte windows u 6 byte) t ≡ with_byte (acknowledged_in windows t) u 6 byte
  acknowledged_beside = beside (λ w. acknowledged_in w t) acknowledged_bytes (λ w. acknowledged_bytes_lem w t)

  -- ---- The call

  -- What is asked for, with another mask in the windows that are left.
  abbrev masked_asked : Asked → Asked
  masked_asked (Settled answer left) = Settled answer (with_byte left u 6 byte)
  masked_asked (Begins o) = Begins o
  masked_asked Steps = Steps

  asked_command : {k : ℕ} {a : Asked} → Command windows t k a → commanded (with_byte windows u 6 byte) t k ≡ masked_asked a
  asked_command (nothing e) = rw e refl
  asked_command (begins e d) = let d' = same_done ∙ d in rw (e, d') (ap Begins (same_byte 0 (omega arith)))
  asked_command (unacknowledged e d) = rw e
      (ap (λ (b : Bool). cond b (refused_command (with_byte windows u 6 byte) t cause.Unacknowledged) (Begins (byte_at (with_byte windows u 6 byte) t 0))) (same_done ∙ d)
      ∙ ap (Settled (Err cause.Unacknowledged)) (refused_beside cause.Unacknowledged))
  asked_command (steps e) = rw e refl
  asked_command (acknowledges e) = rw e (ap (Settled (Ok tt)) acknowledged_beside)
  asked_command {k} (unknown h) = simp (ne_eqb k 0 (λ e. omega (arith, e, h)), lt-ltb 3 k h) (ap (Settled (Err cause.Window)) (refused_beside cause.Window))

  asked_place : (p : Result ⊤ Refusal) → asked_in (with_byte windows u 6 byte) t p ≡ masked_asked (asked_in windows t p)
  asked_place (Err c) = refl
  asked_place (Ok tt) = rw (same_byte 1 (omega arith)) (asked_command (command windows t (byte_at windows t 1)))

  asked_masked : (n : ℕ) → asked_of (with_byte windows u 6 byte) n t ≡ masked_asked (asked_of windows n t)
  unfolding asked_of
  asked_masked n = rw (length-set windows (8 * u + 6) byte) (asked_place (place_of windows n t))

pub mask_free : (file cells : List ℕ) (row : List Task) (windows : List ℕ) (t : ℕ) → MaskFree file cells row windows t
unfolding window_of
mask_free file cells row windows t u byte = rw (asked_masked windows u byte t (length row)) (by (asked_of windows (length row) t))
  where
    by : (a : Asked) → made file cells row (with_byte windows u 6 byte) t (masked_asked windows u byte t a)
        ≡ record { cells = (made file cells row windows t a).cells; row = (made file cells row windows t a).row; windows = with_byte (made file cells row windows t a).windows u 6 byte; answer = (made file cells row windows t a).answer }
    by (Settled answer left) = refl
    by (Begins o) = rw (begin_beside windows u byte t (begin_of file row t o).answer) refl
    by Steps = rw (step_beside windows u byte t (step_of file cells row t).answer) refl
