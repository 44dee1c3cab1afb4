-- A start by its parts: the cells that it fills, and the records.
use Rattle.std.specs.Prelude.{Result, Ok, Err, ⊤}
use mathlib.Core.Path.{◌≡◌, refl, sym, ◌∙◌}
use mathlib.Core.Bool.{Bool, true, false, cond}
use mathlib.Core.List.{List, [], ◌∷◌, ◌++◌, append-nil}
use Prim.Native.Nat.{ℕ, zero, suc, ◌+◌, ◌<◌, ◌≤◌}
use native.Mathlib.Numerals.{add-one}
use native.Mathlib.Omega.{arith}
use borrow.Author.Tests.{eqb-true}
use lib.Dec.{eqb}
use lib.ListN.{length, get_or, drop, set, length-append}
use lib.Seq.{set_at, drop-cons, drop-length, append_snoc}
use Rattle.cells.specs.Image.{image_in}
use Rattle.table.specs.Check.{check_of}
use Rattle.records.specs.declared.record.Task.{Task}
use Rattle.records.specs.Record.{idle_task}
use Rattle.stepping.specs.Call.{idle_row, StartOutcome, with_row, start_of, with_cells, admit_start_of}
use Rattle.stepping.proofs.Admission.{admitted_ranges}
use Rattle.refusal.specs.declared.Refusal.TheVariants as cause
use Rattle.laws.proofs.Clash.{never}
use Rattle.refusal.specs.declared.Refusal.{Refusal}
use Rattle.stepping.specs.declared.call.Admission.{Admission}

-- ---- The row

-- The row whose first i records are those of idle tasks.
abbrev pub filled_to : ℕ → List Task → List Task
filled_to i ys = idle_row i ++ drop i ys

length_idle_row : (n : ℕ) → length (idle_row n) ≡ n
unfolding idle_row
length_idle_row zero = refl
length_idle_row (suc n) = length-append (idle_row n) (idle_task n ∷ []) ∙ omega (arith, length_idle_row n)

pub filled_none : (ys : List Task) → ys ≡ filled_to 0 ys
unfolding idle_row
filled_none ys = refl

-- One record more is filled.
pub filled_more : (ys : List Task) (i : ℕ) (zs : List Task) (own : Task) → i < length ys → zs ≡ filled_to i ys → own ≡ idle_task i → set zs i own ≡ filled_to (i + 1) ys
unfolding idle_row
filled_more ys i zs own h e idle =
    rw (add-one, e, idle, drop-cons ys i own h)
    (set_at (idle_row i) (get_or ys i own) (drop (suc i) ys) (idle_task i) i (length_idle_row i) ∙ sym (append_snoc (idle_row i) (idle_task i) (drop (suc i) ys)))

-- Every record is filled.
pub filled_whole : (ys zs : List Task) → zs ≡ filled_to (length ys) ys → zs ≡ idle_row (length ys)
filled_whole ys zs e = e ∙ rw (drop-length ys, append-nil (idle_row (length ys))) refl

-- ---- The whole start

-- The cells, the row and the answer at the exit of a start.
abbrev pub StartSaid : (file cs : List ℕ) → List Task → List ℕ → List Task → Result ⊤ Refusal → Type 0
StartSaid file cs ys cs' ys' a = ◌≡◌ {A = StartOutcome} (record { cells = cs'; row = ys'; answer = a }) (start_of file cs ys)

module _ (file cs : List ℕ) (ys : List Task) where
  -- A start that is refused leaves everything as it was.
  pub start_refused : (c : Refusal) → admit_start_of file (length cs) (length ys) ≡ Err c → StartSaid file cs ys cs ys (Err c)
  unfolding start_of
  start_refused c e = rw e refl

  -- What the tests of an accepted start have found.
  passed : (q : ℕ) (w : Result Admission Refusal) → with_row (length ys) (check_of file) ≡ w → with_cells (length cs) (length ys) w ≡ Ok q → (length ys ≤ 8) × (length cs ≡ length ys + 1)
  passed q (Err c) e f = never cc
  passed q (Ok found) e f = at (eqb (length cs) (length ys + 1)) refl f
    where
      at : (b : Bool) → eqb (length cs) (length ys + 1) ≡ b → cond b (Ok found.shape.start) (Err cause.Cells) ≡ Ok q → (length ys ≤ 8) × (length cs ≡ length ys + 1)
      at true l g = ((admitted_ranges (length ys) found (check_of file) e).few, eqb-true (length cs) (length ys + 1) l)
      at false l g = never cc

  module _ (q : ℕ) (accepted : admit_start_of file (length cs) (length ys) ≡ Ok q) where
    found : (length ys ≤ 8) × (length cs ≡ length ys + 1)
    unfolding admit_start_of
    found = passed q (with_row (length ys) (check_of file)) refl accepted

    -- A row that is served has at most eight records.
    pub few_records : length ys ≤ 8
    few_records = found.0

    pub start_accepted : StartSaid file cs ys (image_in (length cs) q) (idle_row (length ys)) (Ok tt)
    unfolding start_of image_in
    start_accepted = rw (accepted, found.1, add-one) refl
