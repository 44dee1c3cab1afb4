-- The test of a whole table accepts exactly the files with a fitting layout whose entries are all in range.
use Rattle.std.specs.Prelude.{Result, Ok, Err}
use mathlib.Core.Path.{◌≡◌, refl, sym, ap, subst, ◌∙◌}
use mathlib.Core.Bool.{Bool, true, false, cond}
use mathlib.Core.List.{List}
use Prim.Native.Nat.{ℕ, ◌≤◌}
use native.Mathlib.Omega.{arith}
use lib.ListN.{length}
use Rattle.laws.proofs.Clash.{clash}
use Rattle.refusal.specs.declared.Refusal.{Refusal}
use Rattle.refusal.specs.declared.Refusal.TheVariants.{File, Dimensions, Length, NextState}
use Rattle.refusal.specs.Number.{number_of, Said, refused_by}
use Rattle.refusal.proofs.Numbers.{numbers_apart}
use Rattle.table.specs.declared.Shape.{Shape}
use Rattle.table.specs.File.{shape_of}
use Rattle.table.specs.Entries.{entries_in_range}
use Rattle.table.specs.Layout.{file_fits, dimensions_fit, length_fits, layout_of}
use Rattle.table.specs.Check.{with_entries, check_of, check_said}
use Rattle.table.specs.Statement.{AllInRange, OutOfRange, CheckAnswered}
use Rattle.table.proofs.Fitting.{refused}
use Rattle.table.proofs.Accepted.{accepted_parts, accepted_next, all_tested, entries_out}

module _ (file : List ℕ) where
  check_is : {layout : (Result Shape Refusal)} → layout_of file ≡ layout → check_of file ≡ with_entries file layout
  unfolding check_of
  check_is e = ap (with_entries file) e

  -- The layout is refused with a number from 1 to 3.
  pub layout_numbers : (cause : Refusal) → layout_of file ≡ Err cause → (1 ≤ number_of cause) × (number_of cause ≤ 3)
  unfolding layout_of
  layout_numbers cause e = by (file_fits file) (dimensions_fit (shape_of file)) (length_fits (length file) (shape_of file)) e
    where
      number : {other : Refusal} → ◌≡◌ {A = Result Shape Refusal} (Err other) (Err cause) → 1 ≤ number_of other → number_of other ≤ 3 → (1 ≤ number_of cause) × (number_of cause ≤ 3)
      number f low high = let same = ap (λ (a : Result Shape Refusal). (check_said a).number) f in (omega (arith, low, same), omega (arith, high, same))

      by : (a b c : Bool) → cond a (cond b (cond c (Ok (shape_of file)) (Err Length)) (Err Dimensions)) (Err File) ≡ Err cause → (1 ≤ number_of cause) × (number_of cause ≤ 3)
      by false b c f = number f (omega arith) (omega arith)
      by true false c f = number f (omega arith) (omega arith)
      by true true false f = number f (omega arith) (omega arith)
      by true true true f = absurd (refused cause (shape_of file) (sym f))

  -- A refused layout is the answer.
  refused_layout : (cause : Refusal) → layout_of file ≡ Err cause → CheckAnswered file
  refused_layout cause e =
      let answer = check_is e in
      let few = (layout_numbers cause e).1 in
      record {
        layout = λ number _ _. (λ f. ap check_said e ∙ sym (ap check_said answer) ∙ f, λ f. ap check_said answer ∙ sym (ap check_said e) ∙ f);
        entries = (λ f. absurd (numbers_apart (sym (ap check_said answer) ∙ f) (λ z. omega (arith, z, few))), λ (shape, f, _). absurd (refused cause shape (sym e ∙ f)));
        accepts = λ shape. (λ f. absurd (refused cause shape (sym answer ∙ f)), λ (f, _). absurd (refused cause shape (sym e ∙ f)));
        only = λ number _ f. omega (arith, few, ap (λ (s : Said). s.number) (sym (ap check_said answer) ∙ f));
      }

  module _ (shape : Shape) (e : layout_of file ≡ Ok shape) where
    same_shape : (other : Shape) → layout_of file ≡ Ok other → other ≡ shape
    same_shape other f = cc (e, f)

    out_of_range : entries_in_range file shape ≡ false → CheckAnswered file
    out_of_range bad =
        let answer : check_of file ≡ Err NextState = check_is e ∙ rw bad in
        let not_all : AllInRange file shape → ⊥ = λ all. clash (all_tested file shape all) bad in
        record {
          layout = λ number some few. (λ f. absurd (numbers_apart (sym (ap check_said answer) ∙ f) (λ z. omega (arith, z, few))), λ f. absurd (numbers_apart (sym (ap check_said e) ∙ f) (λ z. omega (arith, z, some))));
          entries = (λ _. (shape, e, (entries_out file shape).0 bad), λ _. ap check_said answer);
          accepts = λ other. (λ f. absurd (refused NextState other (sym answer ∙ f)), λ (f, all). absurd (not_all (subst (AllInRange file) (same_shape other f) all)));
          only = λ number _ f. omega (arith, ap (λ (s : Said). s.number) (sym (ap check_said answer) ∙ f));
        }

    in_range : entries_in_range file shape ≡ true → CheckAnswered file
    in_range good =
        let answer : check_of file ≡ Ok shape = check_is e ∙ rw good in
        let said : (number : ℕ) → 1 ≤ number → check_said (check_of file) ≡ refused_by number → ⊥ = λ number some f. numbers_apart (sym (ap check_said answer) ∙ f) (λ z. omega (arith, z, some)) in
        record {
          layout = λ number some few. (λ f. absurd (said number some f), λ f. absurd (numbers_apart (sym (ap check_said e) ∙ f) (λ z. omega (arith, z, some))));
          entries = (λ f. absurd (said 4 (omega arith) f), λ (other, f, out). clash good ((entries_out file shape).1 (subst (OutOfRange file) (same_shape other f) out)));
          accepts = λ other. (λ f. ((accepted_parts file other f).0, accepted_next file other f), λ (f, _). answer ∙ ap Ok (sym (same_shape other f)));
          only = λ number some f. absurd (said number some f);
        }

  pub check_answered : CheckAnswered file
  check_answered = by (layout_of file) refl
    where
      entries : (shape : Shape) → layout_of file ≡ Ok shape → (b : Bool) → entries_in_range file shape ≡ b → CheckAnswered file
      entries shape e true good = in_range shape e good
      entries shape e false bad = out_of_range shape e bad

      by : (layout : Result Shape Refusal) → layout_of file ≡ layout → CheckAnswered file
      by (Ok shape) e = entries shape e (entries_in_range file shape) refl
      by (Err cause) e = refused_layout cause e
