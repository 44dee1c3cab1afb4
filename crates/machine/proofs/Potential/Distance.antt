-- The distance from a task's priority to task p: it stays or falls while p waits, and falls when somebody else is applied.
use mathlib.Core.Path.{◌≡◌}
use mathlib.Core.Bool.{Bool, not, cond}
use mathlib.Core.Logic.{◌≢◌, ite, if_pos, if_neg}
use Prim.Native.Nat.{ℕ, suc, ◌+◌, ◌-◌, ◌%◌, ◌≤◌, ◌<◌, zero-le}
use native.Mathlib.Decide.{ℕ_discrete, dec_le}
use native.Mathlib.Nat.{mod-eq_of_lt, mod_self}
use native.Mathlib.Omega.{arith}
use Rattle.laws.specs.Decision.{decided}
use Rattle.laws.proofs.Decision.{decided_no}
use Rattle.laws.proofs.Choice.{pick_le}
use Rattle.machine.specs.Memory.{Memory}
use Rattle.machine.specs.Invariant.{content, IsOp}
use Rattle.machine.specs.Potential.{Work, Elsewhere, Applying, waiting, skips, gap, dist}
use Rattle.machine.proofs.Potential.Readings.{waiting_not}

-- For the priority k: by whether it is p.
module _ (n p k : ℕ) where
  -- Leaving off, and applying oneself.
  pub leaves : (x : Bool) → ite (ℕ_discrete k p) 0 (gap n p k) ≤ ite (ℕ_discrete k p) (cond x n 0) (gap n p k)
  leaves x = go (ℕ_discrete k p)
    where
      go : (d : Dec (k ≡ p)) → ite d 0 (gap n p k) ≤ ite d (cond x n 0) (gap n p k)
      go (yes e) = zero-le
      go (no d) = omega arith

  pub turns_to_own : (x : Bool) → ite (ℕ_discrete k p) (cond x n 0) (gap n p k) ≤ ite (ℕ_discrete k p) n (gap n p k)
  turns_to_own x = go (ℕ_discrete k p)
    where
      go : (d : Dec (k ≡ p)) → ite d (cond x n 0) (gap n p k) ≤ ite d n (gap n p k)
      go (yes e) = pick_le x n
      go (no d) = omega arith

  -- Applying the task of the priority.
  pub takes_priority : dist n p k (Applying k) ≤ dist n p k Elsewhere
  takes_priority = go (ℕ_discrete k p)
    where
      go : (d : Dec (k ≡ p)) → ite d (cond (not (decided d)) n 0) (gap n p k) ≤ ite d 0 (gap n p k)
      go (yes e) = omega arith
      go (no d) = omega arith

  -- Passing it over: p doesn't wait.
  pub passes : (m : Memory) → (IsOp (content m k) → ⊥) → ite (ℕ_discrete k p) n (gap n p k) ≤ dist n p k Elsewhere + cond (waiting (content m p)) 0 n
  passes m f = go (ℕ_discrete k p)
    where
      go : (d : Dec (k ≡ p)) → ite d n (gap n p k) ≤ ite d 0 (gap n p k) + cond (waiting (content m p)) 0 n
      go (yes e) = rw (waiting_not (content m p) (rw e at f)) (omega arith)
      go (no d) = omega arith

  gap_most : p < n → gap n p k + 1 ≤ n
  gap_most h = go (dec_le k p)
    where
      go : (d : Dec (k ≤ p)) → ite d (p - k) (p + n - k) + 1 ≤ n
      go (yes e) = omega arith
      go (no d) = omega arith

  pub dist_most : (w : Work) → p < n → dist n p k w ≤ n
  dist_most w h = go (ℕ_discrete k p)
    where
      go : (d : Dec (k ≡ p)) → ite d (cond (skips p w) n 0) (gap n p k) ≤ n
      go (yes e) = pick_le (skips p w) n
      go (no d) = omega (arith, gap_most h)

  -- While the task doesn't skip p.
  pub dist_below : p < n → dist n p k Elsewhere + 1 ≤ n
  dist_below h = go (ℕ_discrete k p)
    where
      go : (d : Dec (k ≡ p)) → ite d 0 (gap n p k) + 1 ≤ n
      go (yes e) = omega arith
      go (no d) = gap_most h

gap_up : (n p k : ℕ) → k ≤ p → gap n p k ≡ p - k
gap_up n p k h = if_pos (dec_le k p) h _ _

gap_around : (n p k : ℕ) → p < k → gap n p k ≡ p + n - k
gap_around n p k h = if_neg (dec_le k p) (omega arith) _ _

-- The gap from the priority after k.
after_other : (n p k : ℕ) → p < n → k < n → k ≢ p → gap n p (suc k % n) + 1 ≤ gap n p k
after_other n p k lt h d = go (dec_le k p) (dec_le (suc (suc k)) n)
  where
    go : Dec (k ≤ p) → Dec (suc (suc k) ≤ n) → gap n p (suc k % n) + 1 ≤ gap n p k
    go (yes e) (yes f) = rw (mod-eq_of_lt f, gap_up n p k e, gap_up n p (suc k) (omega arith)) (omega arith)
    go (yes e) (no f) = omega arith
    go (no e) (yes f) = rw (mod-eq_of_lt f, gap_around n p k (omega arith), gap_around n p (suc k) (omega arith)) (omega arith)
    go (no e) (no f) = let z : suc k ≡ n = omega arith in rw (z, mod_self n, gap_around n p k (omega arith), gap_up n p 0 zero-le) (omega arith)

after_own_lem : (n p : ℕ) → p < n → gap n p (suc p % n) + 1 ≤ n
after_own_lem n p lt = go (dec_le (suc (suc p)) n)
  where
    go : Dec (suc (suc p) ≤ n) → gap n p (suc p % n) + 1 ≤ n
    go (yes f) = rw (mod-eq_of_lt f, gap_around n p (suc p) (omega arith)) (omega arith)
    go (no f) = let z : suc p ≡ n = omega arith in rw (z, mod_self n, gap_up n p 0 zero-le) (omega arith)

-- A task that applies another task than p comes nearer to p.
pub applies_other : (n p k j : ℕ) → p < n → k < n → j ≢ p → dist n p (suc k % n) Elsewhere + 1 ≤ dist n p k (Applying j)
applies_other n p k j lt h d = omega (arith, reaches (ℕ_discrete (suc k % n) p), go (ℕ_discrete k p))
  where
    reaches : (c : Dec (suc k % n ≡ p)) → ite c 0 (gap n p (suc k % n)) ≤ gap n p (suc k % n)
    reaches (yes e) = zero-le
    reaches (no c) = omega arith

    go : (c : Dec (k ≡ p)) → gap n p (suc k % n) + 1 ≤ ite c (cond (not (decided (ℕ_discrete j p))) n 0) (gap n p k)
    go (yes e) = rw (e, decided_no (ℕ_discrete j p) d) (after_own_lem n p lt)
    go (no c) = after_other n p k lt h c
