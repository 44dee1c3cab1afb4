-- A call that writes into lent room keeps to its statement.
use Rattle.std.specs.Prelude.{Ok}
use mathlib.Core.Path.{◌≡◌, refl, sym, ap, subst, ◌∙◌}
use mathlib.Core.List.{List, [], ◌∷◌, ◌++◌}
use Prim.Native.Nat.{ℕ, ◌<◌, ◌≤◌}
use native.Mathlib.Decide.{dec_lt}
use native.Mathlib.Omega.{arith}
use borrow.Author.Tests.{le-leb, lt-leb}
use lib.ListN.{length, drop, length-append, length-drop}
use lib.Seq.{take_at, drop_at}
use Rattle.refusal.specs.declared.Refusal.TheVariants.{Room}
use Rattle.refusal.specs.Number.{accepted}
use Rattle.refusal.specs.Written.{not_written, written_into}
use Rattle.refusal.specs.Statement.{Writes}
use Rattle.refusal.proofs.Numbers.{numbers_apart, values_same}

module _ (new room : List ℕ) where
  pub not_written_lem : length room < length new → written_into new room ≡ not_written Room room
  not_written_lem short = simp (lt-leb _ _ short)

  pub fully_written : length new ≤ length room → written_into new room ≡ record { answer = Ok (length new); room = new ++ drop (length new) room }
  fully_written fits = simp (le-leb _ _ fits)

  too_short : length room < length new → Writes new room (not_written Room room)
  too_short short =
      record {
        no_room = (λ _. short, λ _. refl);
        unchanged = λ _. refl;
        length_written = λ long. (λ e. absurd (numbers_apart e (λ z. omega arith)), λ (fits, _). absurd (omega arith));
        front = λ fits. absurd (omega arith);
        rest = λ fits. absurd (omega arith);
        same_length = refl;
      }

  fitting : length new ≤ length room → Writes new room (record { answer = Ok (length new); room = new ++ drop (length new) room })
  fitting fits =
      record {
        no_room = (λ e. absurd (numbers_apart e (λ z. omega arith)), λ short. absurd (omega arith));
        unchanged = λ short. absurd (omega arith);
        length_written = λ long. (λ e. (fits, sym (values_same e)), λ (_, e). ap (λ (k : ℕ). accepted (k ∷ [])) (sym e));
        front = λ _. take_at new (drop (length new) room) (length new) refl;
        rest = λ _. drop_at new (drop (length new) room) (length new) refl;
        same_length = length-append new (drop (length new) room) ∙ omega (arith, length-drop (length new) room);
      }

  pub writes_into : Writes new room (written_into new room)
  writes_into = by (dec_lt (length room) (length new))
    where
      by : Dec (length room < length new) → Writes new room (written_into new room)
      by (yes short) = subst (Writes new room) (sym (not_written_lem short)) (too_short short)
      by (no n) = let fits : length new ≤ length room = omega arith in subst (Writes new room) (sym (fully_written fits)) (fitting fits)
