-- What is noted at a window, note by note: bits that one note sets and an acknowledge clears tell what stands since the last acknowledge.
use mathlib.Core.Path.{◌≡◌, refl, sym, ap, subst, ◌∙◌}
use mathlib.Core.Bool.{Bool, true, false}
use mathlib.Core.List.{List, [], ◌∷◌, ◌++◌}
use mathlib.Core.Logic.{◌↔◌, ◌≢◌, inl, inr}
use Prim.Native.Nat.{ℕ, ◌<◌}
use native.Mathlib.Omega.{arith}
use lib.ListN.{length}
use Rattle.laws.specs.Places.{At}
use Rattle.laws.proofs.Places.{Either, at_bound, at_none, at_extended, at_next, at_either}
use Rattle.laws.proofs.Lists.{from_the_end}
use Rattle.laws.proofs.Clash.{never, clash}
use Rattle.machine.specs.Outcome.{Outcome}
use Rattle.machine.specs.Calls.{Event}
use Rattle.window.specs.Events.{WindowEvent, WindowStore, happen, after}
use Rattle.window.specs.Console.{Note, Ending, Acknowledging, Other, Refusing, ended_by, last_ended, note_of, notes_of, Since, IsEnding, IsRefusing, number_by, last_refused}

-- ---- One more at the end

pub ended_more : (t : ℕ) (r : Outcome) (es : List Event) (e : Event) → last_ended t r (es ++ (e ∷ [])) ≡ ended_by t e.call e.answer (last_ended t r es)
ended_more t r [] e = refl
ended_more t r (f ∷ es) e = ended_more t (ended_by t f.call f.answer r) es e

pub refused_more : (k : ℕ) (notes : List Note) (x : Note) → last_refused k (notes ++ (x ∷ [])) ≡ number_by x (last_refused k notes)
refused_more k [] x = refl
refused_more k (y ∷ notes) x = refused_more (number_by y k) notes x

pub notes_more : (file : List ℕ) (t : ℕ) (es : List WindowEvent) (e : WindowEvent) (l : WindowStore) → notes_of file t (es ++ (e ∷ [])) l ≡ notes_of file t es l ++ (note_of file t e (after file es l) ∷ [])
notes_more file t [] e l = refl
notes_more file t (f ∷ es) e l = ap (λ xs. note_of file t f l ∷ xs) (notes_more file t es e (happen file f l))

-- ---- Bits

abbrev pub done_by : Note → Bool → Bool
done_by Ending b = true
done_by Acknowledging b = false
done_by Other b = b
done_by (Refusing k) b = b

abbrev pub marked_by : Note → Bool → Bool
marked_by Ending b = b
marked_by Acknowledging b = false
marked_by Other b = b
marked_by (Refusing k) b = true

abbrev pub bit_from : (Note → Bool → Bool) → Bool → List Note → Bool
bit_from f b [] = b
bit_from f b (x ∷ notes) = bit_from f (f x b) notes

pub bit_more : (f : Note → Bool → Bool) (b : Bool) (notes : List Note) (x : Note) → bit_from f b (notes ++ (x ∷ [])) ≡ f x (bit_from f b notes)
bit_more f b [] x = refl
bit_more f b (y ∷ notes) x = bit_more f (f y b) notes x

-- A note sets a bit, clears it or keeps it.
data Changes (P : Note → Type 0) (f : Note → Bool → Bool) (x : Note) : Type 0 where
  sets : P x → ((b : Bool) → f x b ≡ true) → x ≢ Acknowledging → Changes P f x
  clears : x ≡ Acknowledging → ((b : Bool) → f x b ≡ false) → (P x → ⊥) → Changes P f x
  keeps : x ≢ Acknowledging → ((b : Bool) → f x b ≡ b) → (P x → ⊥) → Changes P f x

done_changes : (x : Note) → Changes IsEnding done_by x
done_changes Ending = sets refl (λ _. refl) (λ e. never cc)
done_changes Acknowledging = clears refl (λ _. refl) (λ e. never cc)
done_changes Other = keeps (λ e. never cc) (λ _. refl) (λ e. never cc)
done_changes (Refusing k) = keeps (λ e. never cc) (λ _. refl) (λ e. never cc)

marked_changes : (x : Note) → Changes IsRefusing marked_by x
marked_changes Ending = keeps (λ e. never cc) (λ _. refl) (λ (k, e). never cc)
marked_changes Acknowledging = clears refl (λ _. refl) (λ (k, e). never cc)
marked_changes Other = keeps (λ e. never cc) (λ _. refl) (λ (k, e). never cc)
marked_changes (Refusing k) = sets (k, refl) (λ _. refl) (λ e. never cc)

module _ (P : Note → Type 0) (f : Note → Bool → Bool) (changes : (x : Note) → Changes P f x) where
  -- What stands since the last acknowledge, with one note more.
  since_last : (notes : List Note) (x : Note) → P x → x ≢ Acknowledging → Since P (notes ++ (x ∷ []))
  since_last notes x p other = (length notes, x, at_next notes x [], p, λ j l a. beyond j l (at_either notes x a))
    where
      beyond : (j : ℕ) → length notes < j → Either notes x j Acknowledging → ⊥
      beyond j l (inl a) = omega (arith, at_bound a, l)
      beyond j l (inr (e, _)) = omega (arith, e, l)

  since_kept : (notes : List Note) (x : Note) → x ≢ Acknowledging → Since P notes → Since P (notes ++ (x ∷ []))
  since_kept notes x other (i, y, at, p, none) = (i, y, at_extended (x ∷ []) at, p, λ j l a. later j l (at_either notes x a))
    where
      later : (j : ℕ) → i < j → Either notes x j Acknowledging → ⊥
      later j l (inl a) = none j l a
      later j l (inr (_, e)) = other (sym e)

  since_before : (notes : List Note) (x : Note) → (P x → ⊥) → Since P (notes ++ (x ∷ [])) → Since P notes
  since_before notes x not (i, y, at, p, none) = by (at_either notes x at)
    where
      by : Either notes x i y → Since P notes
      by (inl a) = (i, y, a, p, λ j l b. none j l (at_extended (x ∷ []) b))
      by (inr (_, e)) = absurd (not (subst P e p))

  since_cleared : (notes : List Note) (x : Note) → x ≡ Acknowledging → (P x → ⊥) → Since P (notes ++ (x ∷ [])) → ⊥
  since_cleared notes x e not (i, y, at, p, none) = by (at_either notes x at)
    where
      by : Either notes x i y → ⊥
      by (inl a) = none (length notes) (at_bound a) (subst (At (notes ++ (x ∷ [])) (length notes)) e (at_next notes x []))
      by (inr (_, z)) = not (subst P z p)

  -- A bit that begins off is on exactly if it was set since the last acknowledge.
  bit_since : (notes : List Note) → (bit_from f false notes ≡ true) ↔ Since P notes
  bit_since = from_the_end (λ notes. (bit_from f false notes ≡ true) ↔ Since P notes) ((λ e. never cc), λ (i, y, at, _, _). absurd (at_none at)) more
    where
      more : (notes : List Note) (x : Note) → ((bit_from f false notes ≡ true) ↔ Since P notes) → (bit_from f false (notes ++ (x ∷ [])) ≡ true) ↔ Since P (notes ++ (x ∷ []))
      more notes x (up, down) = by (changes x)
        where
          step : bit_from f false (notes ++ (x ∷ [])) ≡ f x (bit_from f false notes)
          step = bit_more f false notes x

          by : Changes P f x → (bit_from f false (notes ++ (x ∷ [])) ≡ true) ↔ Since P (notes ++ (x ∷ []))
          by (sets p on other) = ((λ _. since_last notes x p other), λ _. step ∙ on (bit_from f false notes))
          by (clears e off not) = ((λ z. clash z (step ∙ off (bit_from f false notes))), λ z. absurd (since_cleared notes x e not z))
          by (keeps other same not) =
              ((λ z. since_kept notes x other (up (sym (same (bit_from f false notes)) ∙ sym step ∙ z))), λ z. step ∙ same (bit_from f false notes) ∙ down (since_before notes x not z))

pub done_since : (notes : List Note) → (bit_from done_by false notes ≡ true) ↔ Since IsEnding notes
done_since = bit_since IsEnding done_by done_changes

pub marked_since : (notes : List Note) → (bit_from marked_by false notes ≡ true) ↔ Since IsRefusing notes
marked_since = bit_since IsRefusing marked_by marked_changes
