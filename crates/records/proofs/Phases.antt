-- Which number has which phase, and the task that a phase works for.
use Rattle.std.specs.Prelude.{Result, Ok, Err}
use mathlib.Core.Path.{◌≡◌, refl, sym, ap, subst, ◌∙◌}
use mathlib.Core.Bool.{Bool, true, false, cond, ◌&&◌, ◌||◌, or-true, and-eq-true_iff}
use mathlib.Core.Logic.{◌≢◌}
use mathlib.Core.List.{List, [], ◌∷◌}
use Prim.Native.Nat.{ℕ, zero, suc, ◌+◌, ◌*◌, ◌-◌, ◌%◌, ◌≤◌, ◌<◌}
use native.Mathlib.Nat.{mod-lt}
use native.Mathlib.Omega.{arith}
use borrow.Author.Tests.{eqb-true, ne_eqb, le-leb, lt-leb, lt-ltb, le-ltb, ltb-true, leb-true, leb-false}
use lib.Dec.{eqb, leb, ltb}
use lib.ListN.{length, get_or}
use Rattle.laws.specs.Below.{all_below}
use Rattle.laws.proofs.Below.{all_at}
use Rattle.laws.proofs.Clash.{clash, never}
use Rattle.refusal.specs.declared.Refusal.{Refusal}
use Rattle.refusal.specs.declared.Refusal.TheVariants as cause
use Rattle.records.specs.declared.phase.Phase.{Phase}
use Rattle.records.specs.declared.phase.Phase.TheVariants.{Idle, ReadOnly, Announce, Poll, LoadHead, LinkHead, LoadPriority, LoadOwn, LoadExit, LinkExit, ClearExit, ReleaseExit, Retract, ClearHead, ReloadClear, Apply, ReloadApply, LoadHelped, LinkHelped, Validate, HandOver, ReloadHandOver, Release, ReloadRelease}
use Rattle.records.specs.Phase.{phase_number, range, phase_of}
use Rattle.records.specs.Record.{names_task}

-- The task that a phase works for is below n; a phase that works for none asks nothing.
abbrev pub WorksBelow : ℕ → Phase → Type 0
WorksBelow n Idle = Unit {0}
WorksBelow n ReadOnly = Unit {0}
WorksBelow n Announce = Unit {0}
WorksBelow n Poll = Unit {0}
WorksBelow n LoadHead = Unit {0}
WorksBelow n LinkHead = Unit {0}
WorksBelow n LoadPriority = Unit {0}
WorksBelow n LoadOwn = Unit {0}
WorksBelow n LoadExit = Unit {0}
WorksBelow n LinkExit = Unit {0}
WorksBelow n ClearExit = Unit {0}
WorksBelow n ReleaseExit = Unit {0}
WorksBelow n Retract = Unit {0}
WorksBelow n ClearHead = Unit {0}
WorksBelow n ReloadClear = Unit {0}
WorksBelow n (Apply j) = j < n
WorksBelow n (ReloadApply j) = j < n
WorksBelow n (LoadHelped j) = j < n
WorksBelow n (LinkHelped j) = j < n
WorksBelow n (Validate j) = j < n
WorksBelow n (HandOver j) = j < n
WorksBelow n (ReloadHandOver j) = j < n
WorksBelow n (Release j) = j < n
WorksBelow n (ReloadRelease j) = j < n

-- The phases that work for a task, in the order of their ranges.
abbrev working : List (ℕ → Phase)
working = Apply ∷ ReloadApply ∷ LoadHelped ∷ LinkHelped ∷ Validate ∷ HandOver ∷ ReloadHandOver ∷ Release ∷ ReloadRelease ∷ []

-- Ranges of eight, one after the other.
abbrev ranges : ℕ → ℕ → List (ℕ → Phase) → Result Phase Refusal
ranges k first [] = Err cause.Record
ranges k first (phase ∷ phases) = range k first phase (ranges k (first + 8) phases)

-- From 15 on the single numbers are passed.
past_singles : (k : ℕ) → 14 < k → phase_of k ≡ ranges k 16 working
unfolding phase_of
past_singles k h =
    simp (
      other 0 (omega arith),
      other 1 (omega arith),
      other 2 (omega arith),
      other 3 (omega arith),
      other 4 (omega arith),
      other 5 (omega arith),
      other 6 (omega arith),
      other 7 (omega arith),
      other 8 (omega arith),
      other 9 (omega arith),
      other 10 (omega arith),
      other 11 (omega arith),
      other 12 (omega arith),
      other 13 (omega arith),
      other 14 (omega arith),
    )
  where
    other : (m : ℕ) → m < 15 → eqb k m ≡ false
    other m l = ne_eqb k m (λ e. omega arith)

-- One range: its numbers, and those past its end.
module _ (k first : ℕ) (phase : ℕ → Phase) (other : Result Phase Refusal) where
  within : first ≤ k → k ≤ first + 7 → range k first phase other ≡ Ok (phase (k - first))
  within l h = simp (le-leb first k l, le-leb k (first + 7) h)

  above : first + 7 < k → range k first phase other ≡ other
  above h = simp (le-leb first k (omega arith), lt-leb k (first + 7) h)

-- The number of task j in range m.
in_ranges : (phases : List (ℕ → Phase)) (k first m j : ℕ) → k ≡ first + 8 * m + j → j < 8 → m < length phases → ranges k first phases ≡ Ok (get_or phases m Apply j)
in_ranges [] k first m j e h l = absurd (omega arith)
in_ranges (phase ∷ phases) k first zero j e h l =
    let place : k - first ≡ j = omega arith in
    within k first phase _ (omega arith) (omega arith) ∙ ap (λ (x : ℕ). Ok (phase x)) place
in_ranges (phase ∷ phases) k first (suc m) j e h l =
    above k first phase _ (omega arith) ∙ in_ranges phases k (first + 8) m j (omega arith) h (omega arith)

past_ranges : (phases : List (ℕ → Phase)) (k first : ℕ) → first + 8 * length phases ≤ k → ranges k first phases ≡ Err cause.Record
past_ranges [] k first h = refl
past_ranges (phase ∷ phases) k first h = above k first phase _ (omega arith) ∙ past_ranges phases k (first + 8) (omega arith)

worker : (m j : ℕ) → m < 9 → j < 8 → phase_of (16 + 8 * m + j) ≡ Ok (get_or working m Apply j)
worker m j l h = past_singles (16 + 8 * m + j) (omega arith) ∙ in_ranges working (16 + 8 * m + j) 16 m j refl h l

-- Every phase is the phase of its number.
pub known : (f : Phase) → WorksBelow 8 f → phase_of (phase_number f) ≡ Ok f
unfolding phase_of
known Idle h = refl
known ReadOnly h = refl
known Announce h = refl
known Poll h = refl
known LoadHead h = refl
known LinkHead h = refl
known LoadPriority h = refl
known LoadOwn h = refl
known LoadExit h = refl
known LinkExit h = refl
known ClearExit h = refl
known ReleaseExit h = refl
known Retract h = refl
known ClearHead h = refl
known ReloadClear h = refl
known (Apply j) h = worker 0 j (omega arith) h
known (ReloadApply j) h = worker 1 j (omega arith) h
known (LoadHelped j) h = worker 2 j (omega arith) h
known (LinkHelped j) h = worker 3 j (omega arith) h
known (Validate j) h = worker 4 j (omega arith) h
known (HandOver j) h = worker 5 j (omega arith) h
known (ReloadHandOver j) h = worker 6 j (omega arith) h
known (Release j) h = worker 7 j (omega arith) h
known (ReloadRelease j) h = worker 8 j (omega arith) h

-- Past the last range there is no phase.
pub unknown : (k : ℕ) → 87 < k → phase_of k ≡ Err cause.Record
unknown k h = past_singles k (omega arith) ∙ past_ranges working k 16 (omega arith)

-- What is read from the number k: a phase with that number, which works for a task below n, or the refusal with 11.
record Named (n k : ℕ) (read : Result Phase Refusal) : Type 0 where
  works : (f : Phase) → read ≡ Ok f → WorksBelow n f
  number : (f : Phase) → read ≡ Ok f → phase_number f ≡ k
  refused : (c : Refusal) → read ≡ Err c → c ≡ cause.Record

module _ {n k : ℕ} where
  choose : (b : Bool) (f : Phase) (other : Result Phase Refusal) → (b ≡ true → WorksBelow n f × (phase_number f ≡ k)) → Named n k other → Named n k (cond b (Ok f) other)
  choose true f other w r = record {
    works = λ g e. let same : f ≡ g = cc in subst (λ (x : Phase). WorksBelow n x) same (w refl).0;
    number = λ g e. let same : f ≡ g = cc in ap phase_number (sym same) ∙ (w refl).1;
    refused = λ c e. never cc;
  }
  choose false f other w r = r

  none : Named n k (Err cause.Record)
  none = record { works = λ g e. never cc; number = λ g e. never cc; refused = λ c e. cc }

module _ (n k : ℕ) (h : names_task n k ≡ true) where
  single : (m : ℕ) → eqb k m ≡ true → Unit {0} × (m ≡ k)
  single m b = (tt, sym (eqb-true k m b))

  inside : (first : ℕ) → 16 ≤ first → first % 8 ≡ 0 → leb first k && leb k (first + 7) ≡ true → (k - first < n) × (first + (k - first) ≡ k)
  unfolding names_task
  inside first l m t =
      let both = (and-eq-true_iff (leb first k) (leb k (first + 7))).0 t in
      let low : first ≤ k = leb-true first k both.0 in
      let high : k ≤ first + 7 = leb-true k (first + 7) both.1 in
      let named : ltb (k % 8) n ≡ true = rw (le-ltb k 16 (omega arith)) at h in
      (omega (arith, ltb-true (k % 8) n named), omega arith)

  every : Named n k (phase_of k)
  unfolding phase_of
  every =
      (choose (eqb k 0) Idle _ (single 0)
      (choose (eqb k 1) ReadOnly _ (single 1)
      (choose (eqb k 2) Announce _ (single 2)
      (choose (eqb k 3) Poll _ (single 3)
      (choose (eqb k 4) LoadHead _ (single 4)
      (choose (eqb k 5) LinkHead _ (single 5)
      (choose (eqb k 6) LoadPriority _ (single 6)
      (choose (eqb k 7) LoadOwn _ (single 7)
      (choose (eqb k 8) LoadExit _ (single 8)
      (choose (eqb k 9) LinkExit _ (single 9)
      (choose (eqb k 10) ClearExit _ (single 10)
      (choose (eqb k 11) ReleaseExit _ (single 11)
      (choose (eqb k 12) Retract _ (single 12)
      (choose (eqb k 13) ClearHead _ (single 13)
      (choose (eqb k 14) ReloadClear _ (single 14)
      (choose (leb 16 k && leb k 23) (Apply (k - 16)) _ (inside 16 (omega arith) (omega arith))
      (choose (leb 24 k && leb k 31) (ReloadApply (k - 24)) _ (inside 24 (omega arith) (omega arith))
      (choose (leb 32 k && leb k 39) (LoadHelped (k - 32)) _ (inside 32 (omega arith) (omega arith))
      (choose (leb 40 k && leb k 47) (LinkHelped (k - 40)) _ (inside 40 (omega arith) (omega arith))
      (choose (leb 48 k && leb k 55) (Validate (k - 48)) _ (inside 48 (omega arith) (omega arith))
      (choose (leb 56 k && leb k 63) (HandOver (k - 56)) _ (inside 56 (omega arith) (omega arith))
      (choose (leb 64 k && leb k 71) (ReloadHandOver (k - 64)) _ (inside 64 (omega arith) (omega arith))
      (choose (leb 72 k && leb k 79) (Release (k - 72)) _ (inside 72 (omega arith) (omega arith))
      (choose (leb 80 k && leb k 87) (ReloadRelease (k - 80)) _ (inside 80 (omega arith) (omega arith)) none))))))))))))))))))))))))

  -- A number that names a task below n is read as a phase that works for a task below n.
  pub works : (f : Phase) → phase_of k ≡ Ok f → WorksBelow n f
  works = every.works

-- What is read is the phase with that number, or the refusal with 11.
module _ (k : ℕ) where
  eight : names_task 8 k ≡ true
  unfolding names_task
  eight = rw (lt-ltb (k % 8) 8 (mod-lt k (omega arith))) (or-true (ltb k 16))

  pub number_read : (f : Phase) → phase_of k ≡ Ok f → phase_number f ≡ k
  number_read = (every 8 k eight).number

  pub refused_read : (c : Refusal) → phase_of k ≡ Err c → c ≡ cause.Record
  refused_read = (every 8 k eight).refused

-- The numbers of phases are those up to 87 but 15.
is_known : Result Phase Refusal → Bool
is_known (Ok f) = true
is_known (Err c) = false

numbered : ℕ → Bool
numbered k = is_known (phase_of k) || eqb k 15

pub number_known : (k : ℕ) → k ≤ 87 → k ≢ 15 → (f : Phase) × (phase_of k ≡ Ok f)
unfolding is_known numbered phase_of all_below
number_known k l other = by (phase_of k) refl (all_at 88 numbered refl k (omega arith))
  where
    by : (read : Result Phase Refusal) → phase_of k ≡ read → is_known (phase_of k) || eqb k 15 ≡ true → (f : Phase) × (phase_of k ≡ Ok f)
    by (Ok f) e t = (f, e)
    by (Err c) e t = clash (rw e at t) (ne_eqb k 15 other)

pub known_number : (k : ℕ) (f : Phase) → phase_of k ≡ Ok f → (k ≤ 87) × (k ≢ 15)
unfolding phase_of
known_number k f e = (low (leb k 87) refl, λ z. never (cc (sym (ap phase_of z) ∙ e)))
  where
    low : (b : Bool) → leb k 87 ≡ b → k ≤ 87
    low true t = leb-true k 87 t
    low false t = never (cc (sym (unknown k (leb-false k 87 t)) ∙ e))
