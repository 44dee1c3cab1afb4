-- A line's first field ends at its first space; what stands after that space are the other fields.
use mathlib.Core.Path.{◌≡◌, refl, ap, sym, subst, ◌∙◌}
use mathlib.Core.Bool.{Bool, true, false}
use mathlib.Core.List.{List, [], ◌∷◌}
use Prim.Native.Nat.{ℕ, suc, ◌+◌, ◌<◌, ◌≤◌}
use native.Mathlib.Numerals.{add-one}
use native.Mathlib.Omega.{arith}
use borrow.Author.Tests.{ltb-true, ltb-false, eq-eqb, ne_eqb, eqb-true}
use lib.Dec.{ltb, eqb}
use lib.ListN.{length, take, drop, get_or}
use Rattle.std.specs.Prelude.{Option, Some, None}
use Rattle.std.specs.List.{position, position_or_len}
use Rattle.bench_lines.specs.Command.{Fields, last, more, space, lengthened, fields_of, decimal_of, letter_of, with_one, with_two, after_number, after_letter, alone, command_in, command_of}
use Rattle.bench_lines.specs.declared.command.Command.TheVariants.{Unknown}

-- Where the first space stands, or the end.
abbrev before_space : List ℕ → ℕ
before_space line = position_or_len (λ (b : ℕ). eqb b space) line

-- Without a space the line is one field.
whole_line : (line : List ℕ) → length line ≤ before_space line → fields_of line ≡ last line
unfolding fields_of
whole_line [] h = refl
whole_line (b ∷ line) h = at (eqb b space) refl (whole_line line)
  where
    at : (t : Bool) → eqb b space ≡ t → (length line ≤ before_space line → fields_of line ≡ last line) → fields_of (b ∷ line) ≡ last (b ∷ line)
    at true e rest = let h' : suc (length line) ≤ 0 = rw e at h in absurd (omega arith)
    at false e rest =
        let h' : suc (length line) ≤ 1 + before_space line = rw e at h in
        rw e (ap (lengthened b) (rest (omega arith)))

-- With a space the first field stands before it, and the others after it.
abbrev Parted : ℕ → List ℕ → Type 0
Parted end line = fields_of line ≡ more (take end line) (fields_of (drop (suc end) line))

parted_line : (line : List ℕ) → before_space line < length line → Parted (before_space line) line
unfolding fields_of
parted_line [] h = absurd (omega arith)
parted_line (b ∷ line) h = at (eqb b space) refl (parted_line line)
  where
    at : (t : Bool) → eqb b space ≡ t → (before_space line < length line → Parted (before_space line) line) → Parted (before_space (b ∷ line)) (b ∷ line)
    at true e rest = rw e refl
    at false e rest =
        let h' : 1 + before_space line < suc (length line) = rw e at h in
        let next : 1 + before_space line ≡ suc (before_space line) = omega arith in
        rw (e, next) (ap (lengthened b) (rest (omega arith)))

-- The same by what a search for the first space finds.
abbrev Found : List ℕ → Option ℕ → Type 0
Found line None = fields_of line ≡ last line
Found line (Some end) = fields_of line ≡ more (take end line) (fields_of (drop (end + 1) line))

found_space : (line : List ℕ) → Found line (position (λ (b : ℕ). eqb b space) line)
found_space line = at (ltb (before_space line) (length line)) refl
  where
    at : (t : Bool) → ltb (before_space line) (length line) ≡ t → Found line (position (λ (b : ℕ). eqb b space) line)
    at true e = rw (e, add-one) (parted_line line (ltb-true (before_space line) (length line) e))
    at false e = rw e (whole_line line (omega (arith, ltb-false (before_space line) (length line) e)))

pub one_field : (line : List ℕ) (found : Option ℕ) → found ≡ position (λ (b : ℕ). eqb b space) line → found ≡ None → fields_of line ≡ last line
one_field line found e none = subst (Found line) (sym e ∙ none) (found_space line)

pub first_field : (line : List ℕ) (found : Option ℕ) (end : ℕ) → found ≡ position (λ (b : ℕ). eqb b space) line → found ≡ Some end
    → fields_of line ≡ more (take end line) (fields_of (drop (end + 1) line))
first_field line found end e some = subst (Found line) (sym e ∙ some) (found_space line)

-- A field of another length is no number.
pub decimal_of_none : (field : List ℕ) → (length field ≡ 1 → ⊥) → (length field ≡ 2 → ⊥) → (length field ≡ 3 → ⊥) → decimal_of field ≡ None
decimal_of_none [] x y z = refl
decimal_of_none (c ∷ []) x y z = absurd (x refl)
decimal_of_none (b ∷ c ∷ []) x y z = absurd (y refl)
decimal_of_none (a ∷ b ∷ c ∷ []) x y z = absurd (z refl)
decimal_of_none (a ∷ b ∷ c ∷ d ∷ ds) x y z = refl

-- Without a letter there is no form.
no_form_with_one : (value : Option ℕ) → with_one 0 value ≡ Unknown
no_form_with_one (Some v) = refl
no_form_with_one None = refl

no_form_with_two : (first second : Option ℕ) → with_two 0 first second ≡ Unknown
no_form_with_two (Some v) (Some w) = refl
no_form_with_two (Some v) None = refl
no_form_with_two None second = refl

no_form_after_number : (first : Option ℕ) (rest : Fields) → after_number 0 first rest ≡ Unknown
no_form_after_number first (last g) = no_form_with_two first (decimal_of g)
no_form_after_number first (more g rest) = refl

pub no_form : (rest : Fields) → after_letter 0 rest ≡ Unknown
no_form (last f) = no_form_with_one (decimal_of f)
no_form (more f rest) = no_form_after_number (decimal_of f) rest

-- A field that has not one byte is no letter.
pub no_letter : (field : List ℕ) → (length field ≡ 1 → ⊥) → letter_of field ≡ 0
no_letter [] x = refl
no_letter (c ∷ []) x = absurd (x refl)
no_letter (b ∷ c ∷ ds) x = refl

-- A space is no letter: no form begins with it.
no_space_with_one : (value : Option ℕ) → with_one space value ≡ Unknown
no_space_with_one (Some v) = refl
no_space_with_one None = refl

no_space_after_number : (first : Option ℕ) (rest : Fields) → after_number space first rest ≡ Unknown
no_space_after_number first (last g) = at first (decimal_of g)
  where
    at : (first second : Option ℕ) → with_two space first second ≡ Unknown
    at (Some v) (Some w) = refl
    at (Some v) None = refl
    at None second = refl
no_space_after_number first (more g rest) = refl

no_space : (rest : Fields) → after_letter space rest ≡ Unknown
no_space (last f) = no_space_with_one (decimal_of f)
no_space (more f rest) = no_space_after_number (decimal_of f) rest

-- A line that begins with a space has no form.
space_first : (b : ℕ) (line : List ℕ) → eqb b space ≡ true → command_of (b ∷ line) ≡ Unknown
unfolding command_of fields_of
space_first b line e = rw e (no_form (fields_of line))

-- A line without bytes has no form.
pub command_of_empty : (line : List ℕ) → length line < 1 → Unknown ≡ command_of line
unfolding command_of fields_of
command_of_empty [] h = refl
command_of_empty (b ∷ line) h = absurd (omega arith)

-- A line of one byte is its letter.
pub command_of_one : (line : List ℕ) → 1 ≤ length line → length line < 2 → alone (get_or line 0 0) ≡ command_of line
unfolding command_of fields_of
command_of_one [] l h = absurd (omega arith)
command_of_one (b ∷ []) l h = at (eqb b space) refl
  where
    at : (t : Bool) → eqb b space ≡ t → alone b ≡ command_in (fields_of (b ∷ []))
    at true e = rw (eqb-true b space e) refl
    at false e = rw e refl
command_of_one (a ∷ b ∷ line) l h = absurd (omega arith)

-- A longer line goes on after its letter with a space.
pub command_of_more : (line : List ℕ) → 2 ≤ length line → get_or line 1 0 ≡ space → after_letter (get_or line 0 0) (fields_of (drop 2 line)) ≡ command_of line
unfolding command_of fields_of
command_of_more [] h e = absurd (omega arith)
command_of_more (a ∷ []) h e = absurd (omega arith)
command_of_more (a ∷ b ∷ line) h e = at (eqb a space) refl
  where
    parted : fields_of (b ∷ line) ≡ more [] (fields_of line)
    parted = rw (eq-eqb b space e) refl

    at : (t : Bool) → eqb a space ≡ t → after_letter a (fields_of line) ≡ command_in (fields_of (a ∷ b ∷ line))
    at true q = rw (eqb-true a space q) (no_space (fields_of line) ∙ sym (no_form (fields_of (b ∷ line))))
    at false q = rw (q, parted) refl

-- Without that space it has no form.
pub command_of_none : (line : List ℕ) → 2 ≤ length line → (get_or line 1 0 ≡ space → ⊥) → Unknown ≡ command_of line
unfolding command_of fields_of
command_of_none [] h other = absurd (omega arith)
command_of_none (a ∷ []) h other = absurd (omega arith)
command_of_none (a ∷ b ∷ line) h other = at (eqb a space) refl
  where
    longer : (fields : Fields) → command_in (lengthened a (lengthened b fields)) ≡ Unknown
    longer (last f) = refl
    longer (more f rest) = no_form rest

    together : fields_of (b ∷ line) ≡ lengthened b (fields_of line)
    together = rw (ne_eqb b space other) refl

    at : (t : Bool) → eqb a space ≡ t → Unknown ≡ command_in (fields_of (a ∷ b ∷ line))
    at true q = rw q (sym (no_form (fields_of (b ∷ line))))
    at false q = rw (q, together) (sym (longer (fields_of line)))
