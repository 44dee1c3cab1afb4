-- A task's eight bytes, lent out of the windows: what is written there as in the window of a task 0 is written in the window of the task.
use Rattle.std.specs.Prelude.{Result, Ok, Err, ⊤}
use mathlib.Core.Path.{◌≡◌, sym, ap, ◌∙◌}
use mathlib.Core.Bool.{Bool}
use mathlib.Core.List.{List, ◌++◌}
use Prim.Native.Nat.{ℕ, ◌+◌, ◌*◌, ◌<◌, ◌≤◌}
use native.Mathlib.Omega.{arith}
use lib.ListN.{length, get_or, set, take, drop}
use Rattle.std.proofs.lemmas.List.{length-set, length-take-le, set-append_left, set-append_right, get_or-append_right, get_or_append_left, take-append-drop}
use Rattle.refusal.specs.declared.Refusal.{Refusal}
use Rattle.stepping.specs.declared.answer.Progress.{Progress}
use Rattle.stepping.specs.declared.answer.Progress.TheVariants as progress
use Rattle.window.specs.Window.{byte_at, with_byte}
use Rattle.window.specs.Written.{taken, refused_in, begun_in, ended_in, acknowledged_in, after_begin, after_step}

-- The windows are the bytes before the window of task t, its own eight, and the others.
pub record Lent (windows : List ℕ) (t : ℕ) (before own others : List ℕ) : Type 0 where
  pub parts : before ++ (own ++ others) ≡ windows
  pub place : length before ≡ 8 * t
  pub whole : length own ≡ 8

-- As they are lent.
pub lent : {windows : List ℕ} {t : ℕ} {before own : List ℕ} (behind : List ℕ) → windows ≡ before ++ behind → length before ≡ 8 * t → own ≡ take 8 behind → 8 ≤ length behind → Lent windows t before own (drop 8 behind)
lent {windows} {t} {before} behind e place o enough = record {
  parts = rw (o, take-append-drop 8 behind) (sym e);
  place = place;
  whole = ap length o ∙ length-take-le 8 behind enough;
}

module _ {windows : List ℕ} {t : ℕ} {before own others : List ℕ} (h : Lent windows t before own others) where
  pub read : (k : ℕ) → k < 8 → byte_at own 0 k ≡ byte_at windows t k
  read k small =
      sym (ap (λ l. get_or l (8 * t + k) 0) (sym h.parts)
      ∙ get_or-append_right before (own ++ others) (8 * t) (8 * t + k) 0 h.place (omega arith)
      ∙ ap (λ i. get_or (own ++ others) i 0) (omega arith)
      ∙ get_or_append_left own others 0 k (omega (arith, small, h.whole))
      ∙ ap (λ i. get_or own i 0) (omega arith))

  pub put : (k byte : ℕ) → k < 8 → Lent (with_byte windows t k byte) t before (with_byte own 0 k byte) others
  put k byte small = record {
    parts = sym (ap (λ l. set l (8 * t + k) byte) (sym h.parts)
        ∙ set-append_right before (own ++ others) (8 * t) (8 * t + k) byte h.place (omega arith)
        ∙ ap (λ i. before ++ set (own ++ others) i byte) (omega arith)
        ∙ ap (λ l. before ++ l) (set-append_left own others k byte (omega (arith, small, h.whole)))
        ∙ ap (λ i. before ++ (set own i byte ++ others)) (omega arith));
    place = h.place;
    whole = length-set own (8 * 0 + k) byte ∙ h.whole;
  }

-- ---- What a command leaves

module _ {windows : List ℕ} {t : ℕ} {before own others : List ℕ} (h : Lent windows t before own others) where
  pub lent_taken : Lent (taken windows t) t before (taken own 0) others
  lent_taken = put h 1 0 (omega arith)

  module _ (s : ℕ) where
    marked : Lent (with_byte (taken windows t) t 2 s) t before (with_byte (taken own 0) 0 2 s) others
    marked = put lent_taken 2 s (omega arith)

  pub lent_begun : Lent (begun_in windows t) t before (begun_in own 0) others
  lent_begun = rw (read h 2 (omega arith)) (marked _)

  pub lent_refused : (c : Refusal) → Lent (refused_in windows t c) t before (refused_in own 0 c) others
  lent_refused c = rw (read h 2 (omega arith), read h 5 (omega arith)) (put (put (marked _) 4 _ (omega arith)) 5 _ (omega arith))

  pub lent_ended : (response : ℕ) (moved : Bool) → Lent (ended_in windows t response moved) t before (ended_in own 0 response moved) others
  lent_ended response moved = rw (read h 2 (omega arith), read h 5 (omega arith)) (put (put (marked _) 3 _ (omega arith)) 5 _ (omega arith))

  pub lent_acknowledged : Lent (acknowledged_in windows t) t before (acknowledged_in own 0) others
  lent_acknowledged = rw (read h 2 (omega arith), read h 5 (omega arith)) (put (marked _) 5 _ (omega arith))

  pub lent_begin : (a : Result ⊤ Refusal) → Lent (after_begin windows t a) t before (after_begin own 0 a) others
  lent_begin (Ok tt) = lent_begun
  lent_begin (Err c) = lent_refused c

  pub lent_step : (a : Result Progress Refusal) → Lent (after_step windows t a) t before (after_step own 0 a) others
  lent_step (Ok progress.Running) = lent_taken
  lent_step (Ok (progress.Ended response moved steps)) = lent_ended response moved
  lent_step (Err c) = lent_refused c
