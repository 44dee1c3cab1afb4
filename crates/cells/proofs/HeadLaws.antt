-- Laws of the head: decode after encode and back, injectivity, forms.
use mathlib.Core.Path.{◌≡◌, refl, ap}
use mathlib.Core.Bool.{Bool, true, false, ◌&&◌, and-true, and-eq-true_iff}
use mathlib.Core.List.{List, [], ◌∷◌}
use Prim.Native.Nat.{ℕ, ◌+◌, ◌-◌, ◌/◌, ◌%◌, ◌^◌, ◌<◌}
use native.Mathlib.Nat.{mod-lt}
use native.Mathlib.Numerals.{add-one}
use native.Mathlib.Omega.{arith}
use borrow.Author.Tests.{eqb-true, eqb-false, ne_eqb, le-leb}
use lib.Dec.{eqb, ltb, leb}
use lib.ListN.{get_or}
use Rattle.laws.proofs.Bits.{bit_read, bit_written}
use Rattle.cells.specs.Field.{unpack, Fit}
use Rattle.cells.specs.Form.{holder_bound, outcome_in_form, head_fields_in_form, head_in_form}
use Rattle.cells.specs.Layout.{marks_width, state_width, response_width, holder_width, moved_width, marks, value, head_widths, head_values, head_at, head_from, state_in_word, holder_in, head_word, head_of}
use Rattle.cells.specs.declared.head.Head.{Head}
use Rattle.cells.specs.declared.head.Head.TheVariants.{Free, Held}
use Rattle.cells.proofs.Fields.{unpack_pack}
use Rattle.cells.proofs.Codec.{Codec, content_read, marks_read, word_injective}
use Rattle.cells.proofs.Forms.{Formed, formed, Shape, written_form, form_whole, form_range}

pub head_codec : Codec head_values head_from
head_codec = record { content_of_lem = content; marks_of = lowest }
  where
    content : (x : Head) (m : ℕ) → head_from (head_values x m) ≡ x
    content (Free q) m = refl
    content (Held q j r v) m = let back : j + 1 - 1 ≡ j = omega arith in simp (ne_eqb (j + 1) 0 (λ z. omega arith), back, bit_read v)

    lowest : (x : Head) (m : ℕ) → get_or (head_values x m) 0 0 ≡ m
    lowest (Free q) m = refl
    lowest (Held q j r v) m = refl

-- What a head in form holds: a state below s, and a holder within its bound.
abbrev pub head_in_range : ℕ → ℕ → Head → Bool
head_in_range s n (Free q) = ltb q s
head_in_range s n (Held q j r v) = ltb q s && ltb j (holder_bound n)

-- The fields of a head pass the test exactly if it is in range.
head_ranged : (s n : ℕ) (x : Head) (m : ℕ) → head_fields_in_form s n (head_values x m) ≡ head_in_range s n x
unfolding head_fields_in_form outcome_in_form
head_ranged s n (Free q) m = rw (le-leb 0 (holder_bound n) (omega arith), and-true (ltb q s))
head_ranged s n (Held q j r v) m = rw (ne_eqb (j + 1) 0 (λ z. omega arith), add-one j, and-true (ltb j (holder_bound n)))

-- Fields that pass the test are those of the head that they say.
head_again : (m q r h v : ℕ) → v < 2 → outcome_in_form h r v ≡ true → head_values (head_at q r h v) m ≡ m ∷ q ∷ r ∷ h ∷ v ∷ []
unfolding outcome_in_form
head_again m q r h v l t = at (eqb h 0) refl
  where
    at : (b : Bool) → eqb h 0 ≡ b → head_values (head_at q r h v) m ≡ m ∷ q ∷ r ∷ h ∷ v ∷ []
    at true e =
        let none : h ≡ 0 = eqb-true h 0 e in
        let quiet = (and-eq-true_iff (eqb r 0) (eqb v 0)).0 (rw e at t) in
        let silent : r ≡ 0 = eqb-true r 0 quiet.0 in
        let still : v ≡ 0 = eqb-true v 0 quiet.1 in
        simp (none, silent, still)
    at false e = let back : h - 1 + 1 ≡ h = omega (arith, eqb-false h 0 e) in simp (e, back, bit_written v l)

-- The head's form, with any widths of state, response and holder, and one bit for moved.
pub head_shape : (b c d s n : ℕ) → Shape head_values head_from (b ∷ c ∷ d ∷ moved_width ∷ []) (head_fields_in_form s n) (head_in_range s n)
unfolding head_fields_in_form unpack
head_shape b c d s n = record { codec = head_codec; ranged = head_ranged s n; again = again }
  where
    ws : List ℕ
    ws = marks_width ∷ b ∷ c ∷ d ∷ moved_width ∷ []

    again : (w : ℕ) → head_fields_in_form s n (unpack ws w) ≡ true → head_values (head_from (unpack ws w)) (marks w) ≡ unpack ws w
    again w t =
        let q : ℕ = value w % 2 ^ b in
        let r : ℕ = value w / 2 ^ b % 2 ^ c in
        let h : ℕ = value w / 2 ^ b / 2 ^ c % 2 ^ d in
        let v : ℕ = value w / 2 ^ b / 2 ^ c / 2 ^ d % 2 in
        let quiet : Bool = outcome_in_form h r v in
        head_again (marks w) q r h v (mod-lt (value w / 2 ^ b / 2 ^ c / 2 ^ d) (omega arith)) ((and-eq-true_iff (leb h (holder_bound n)) quiet).0 ((and-eq-true_iff (ltb q s) (leb h (holder_bound n) && quiet)).0 t).1).1

-- A head is read as it was written, and its word has its marks; different heads or marks have different words.
module _ (x : Head) (m : ℕ) (f : Fit head_widths (head_values x m)) where
  pub head_decode : head_of (head_word x m) ≡ x
  unfolding head_of head_word
  head_decode = content_read head_codec head_widths x m f

  pub head_state : state_in_word (head_word x m) ≡ get_or (head_values x m) 1 0
  unfolding head_word
  head_state = ap (λ vs. get_or vs 1 0) (unpack_pack head_widths (head_values x m) f)

  pub head_holder : holder_in (head_word x m) ≡ get_or (head_values x m) 3 0
  unfolding head_word
  head_holder = ap (λ vs. get_or vs 3 0) (unpack_pack head_widths (head_values x m) f)

  pub head_marks : marks (head_word x m) ≡ m
  unfolding head_word unpack
  head_marks = marks_read head_codec head_widths x m f

  pub head_injective : (y : Head) (k : ℕ) → Fit head_widths (head_values y k) → head_word x m ≡ head_word y k → (x ≡ y) × (m ≡ k)
  unfolding head_word
  head_injective y k g = word_injective head_codec head_widths x y m k f g

  -- It is in form exactly if the head is in range and the marks are those of tasks below n.
  pub head_form : (s n : ℕ) → head_in_form s n (head_word x m) ≡ (ltb m (2 ^ n) && head_in_range s n x)
  unfolding head_word head_in_form
  head_form s n = written_form (head_shape state_width response_width holder_width s n) n x m f

-- A word in form is its head with its marks, and the head is in range.
module _ (s n w : ℕ) (e : head_in_form s n w ≡ true) where
  pub head_formed : Formed head_widths (head_fields_in_form s n) n w
  unfolding head_in_form
  head_formed = formed head_widths (head_fields_in_form s n) n w e

  pub head_whole : head_word (head_of w) (marks w) ≡ w
  unfolding head_word head_of
  head_whole = form_whole (head_shape state_width response_width holder_width s n) n w head_formed

  pub head_range : head_in_range s n (head_of w) ≡ true
  unfolding head_of
  head_range = form_range (head_shape state_width response_width holder_width s n) n w head_formed
