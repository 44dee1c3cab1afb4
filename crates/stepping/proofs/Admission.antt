-- What an admitted call knows of the row and of the ceiling.
use Rattle.std.specs.Prelude.{Result, Ok, Err}
use mathlib.Core.Path.{◌≡◌, refl, ap, ◌∙◌}
use mathlib.Core.List.{List}
use Prim.Native.Nat.{ℕ, ◌*◌, ◌<◌, ◌≤◌}
use Rattle.laws.proofs.Clash.{never}
use Rattle.cells.specs.Ceiling.{greatest_ceiling, ceiling_of, ceiling_said}
use Rattle.cells.proofs.Ceilings.{ceiling_cubed, ceiling_told, greatest}
use Rattle.table.specs.declared.Shape.{Shape}
use Rattle.table.specs.Layout.{layout_of}
use Rattle.stepping.specs.Call.{with_ceiling, with_row, admit_of}
use Rattle.refusal.specs.declared.Refusal.{Refusal}
use Rattle.stepping.specs.declared.call.Admission.{Admission}

-- A row of 1 to 8 tasks, and a ceiling that is at most the greatest.
pub record Ranges (n c : ℕ) : Type 0 where
  pub some : 0 < n
  pub few : n ≤ 8
  pub low : c ≤ greatest_ceiling

pub ceiling_ranges : (n c : ℕ) → ceiling_of n ≡ Ok c → Ranges n c
ceiling_ranges n c e =
    let told = ap ceiling_said e in
    let range = ceiling_told n c told in
    record { some = range.0; few = range.1; low = greatest.1 n c told }

-- A call is admitted only with a layout that is accepted and a ceiling for its row, which are then in these ranges.
admitted_parts : (n : ℕ) (found : Admission) (checked : Result Shape Refusal) → with_row n checked ≡ Ok found → (checked ≡ Ok found.shape) × (ceiling_of n ≡ Ok found.ceiling)
admitted_parts n found (Ok shape) e = at (ceiling_of n) refl e
  where
    at : (x : Result ℕ Refusal) → ceiling_of n ≡ x → with_ceiling shape x ≡ Ok found → (◌≡◌ {A = Result Shape Refusal} (Ok shape) (Ok found.shape)) × (ceiling_of n ≡ Ok found.ceiling)
    at (Ok c) p q =
        let both : ◌≡◌ {A = Admission} (record { ceiling = c; shape = shape }) found = cc q in
        (ap (λ (a : Admission). Ok a.shape) both, p ∙ ap (λ (a : Admission). Ok a.ceiling) both)
    at (Err reason) p q = never cc
admitted_parts n found (Err reason) e = never cc

pub admitted_ranges : (n : ℕ) (found : Admission) (checked : Result Shape Refusal) → with_row n checked ≡ Ok found → Ranges n found.ceiling
admitted_ranges n found checked e = ceiling_ranges n found.ceiling (admitted_parts n found checked e).1

module _ (file : List ℕ) (n : ℕ) (found : Admission) (e : admit_of file n ≡ Ok found) where
  pub admit_parts : (layout_of file ≡ Ok found.shape) × (ceiling_of n ≡ Ok found.ceiling)
  unfolding admit_of
  admit_parts = admitted_parts n found (layout_of file) e

  pub admit_ranges : Ranges n found.ceiling
  admit_ranges = ceiling_ranges n found.ceiling admit_parts.1

-- The ceiling of own steps with n tasks; with both parts a call is admitted, and has it.
abbrev pub ceiling : ℕ → ℕ
ceiling n = 1000 * (n * n * n)

pub admits : (file : List ℕ) (n : ℕ) (shape : Shape) → layout_of file ≡ Ok shape → 1 ≤ n → n ≤ 8 → admit_of file n ≡ Ok (record { ceiling = ceiling n; shape = shape })
unfolding admit_of
admits file n shape e some few = rw (e, ceiling_cubed n some few)
