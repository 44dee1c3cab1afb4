-- Laws of the announcement: decode after encode and back, injectivity, forms.
use mathlib.Core.Path.{◌≡◌, refl, ap}
use mathlib.Core.Bool.{Bool, true, false, ◌&&◌, and-true, and-eq-true_iff}
use mathlib.Core.List.{List, [], ◌∷◌}
use Prim.Native.Nat.{ℕ, ◌/◌, ◌%◌, ◌^◌, ◌<◌}
use native.Mathlib.Nat.{mod-lt}
use native.Mathlib.Omega.{arith}
use borrow.Author.Tests.{eqb-true}
use lib.Dec.{eqb, ltb}
use lib.ListN.{get_or}
use Rattle.laws.proofs.Bits.{bit_read, bit_written}
use Rattle.cells.specs.Field.{unpack, Fit}
use Rattle.cells.specs.Form.{payload_in_form, announcement_fields_in_form, announcement_in_form}
use Rattle.cells.specs.Layout.{marks_width, kind_width, gap_width, payload_width, moved_width, marks, value, announcement_widths, announcement_values, announcement_at, announcement_from, announcement_word, announcement_of, kind_in}
use Rattle.cells.specs.declared.announcement.Announcement.{Announcement}
use Rattle.cells.specs.declared.announcement.Announcement.TheVariants.{Empty, Operation, Response}
use Rattle.cells.proofs.Fields.{unpack_pack}
use Rattle.cells.proofs.Codec.{Codec, content_read, marks_read, word_injective}
use Rattle.cells.proofs.Forms.{Formed, formed, Shape, written_form, form_whole, form_range}

pub announcement_codec : Codec announcement_values announcement_from
announcement_codec = record { content_of_lem = content; marks_of = lowest }
  where
    content : (x : Announcement) (m : ℕ) → announcement_from (announcement_values x m) ≡ x
    content Empty m = refl
    content (Operation o) m = refl
    content (Response r v) m = ap (Response r) (bit_read v)

    lowest : (x : Announcement) (m : ℕ) → get_or (announcement_values x m) 0 0 ≡ m
    lowest Empty m = refl
    lowest (Operation o) m = refl
    lowest (Response r v) m = refl

-- What an announcement in form holds: an operation below m, any response, or nothing.
abbrev pub announcement_in_range : ℕ → Announcement → Bool
announcement_in_range m Empty = true
announcement_in_range m (Operation o) = ltb o m
announcement_in_range m (Response r v) = true

-- The fields of an announcement pass the test exactly if it is in range.
announcement_ranged : (o : ℕ) (x : Announcement) (m : ℕ) → announcement_fields_in_form o (announcement_values x m) ≡ announcement_in_range o x
unfolding announcement_fields_in_form payload_in_form
announcement_ranged o Empty m = refl
announcement_ranged o (Operation p) m = and-true (ltb p o)
announcement_ranged o (Response r v) m = refl

-- Fields that pass the test are those of the announcement that they say.
announcement_again : (o m k g p v : ℕ) → v < 2 → announcement_fields_in_form o (m ∷ k ∷ g ∷ p ∷ v ∷ []) ≡ true
    → announcement_values (announcement_at k p v) m ≡ m ∷ k ∷ g ∷ p ∷ v ∷ []
unfolding announcement_fields_in_form payload_in_form
announcement_again o m k g p v l t = at (eqb k 0) refl (eqb k 1) refl
  where
    gap : g ≡ 0
    gap = eqb-true g 0 ((and-eq-true_iff _ _).0 t).0

    carried : payload_in_form o k p v ≡ true
    carried = ((and-eq-true_iff (eqb g 0) (payload_in_form o k p v)).0 t).1

    at : (a : Bool) → eqb k 0 ≡ a → (b : Bool) → eqb k 1 ≡ b → announcement_values (announcement_at k p v) m ≡ m ∷ k ∷ g ∷ p ∷ v ∷ []
    at true e b d =
        let none : k ≡ 0 = eqb-true k 0 e in
        let quiet = (and-eq-true_iff (eqb p 0) (eqb v 0)).0 (rw e at carried) in
        let silent : p ≡ 0 = eqb-true p 0 quiet.0 in
        let still : v ≡ 0 = eqb-true v 0 quiet.1 in
        simp (none, gap, silent, still)
    at false e true d =
        let one : k ≡ 1 = eqb-true k 1 d in
        let still : v ≡ 0 = eqb-true v 0 ((and-eq-true_iff (ltb p o) (eqb v 0)).0 (rw (e, d) at carried)).1 in
        simp (one, gap, still)
    at false e false d = let two : k ≡ 2 = eqb-true k 2 (rw (e, d) at carried) in simp (two, gap, bit_written v l)

-- The announcement's form, with any widths of kind, gap and payload, and one bit for moved.
pub announcement_shape : (b c d o : ℕ) → Shape announcement_values announcement_from (b ∷ c ∷ d ∷ moved_width ∷ []) (announcement_fields_in_form o) (announcement_in_range o)
unfolding announcement_fields_in_form unpack
announcement_shape b c d o = record { codec = announcement_codec; ranged = announcement_ranged o; again = again }
  where
    ws : List ℕ
    ws = marks_width ∷ b ∷ c ∷ d ∷ moved_width ∷ []

    again : (w : ℕ) → announcement_fields_in_form o (unpack ws w) ≡ true → announcement_values (announcement_from (unpack ws w)) (marks w) ≡ unpack ws w
    again w t =
        let high : ℕ = value w / 2 ^ b / 2 ^ c / 2 ^ d in
        announcement_again o (marks w) (value w % 2 ^ b) (value w / 2 ^ b % 2 ^ c) (value w / 2 ^ b / 2 ^ c % 2 ^ d) (high % 2) (mod-lt high (omega arith)) t

-- An announcement is read as it was written, and its word has its marks; different ones have different words.
module _ (x : Announcement) (m : ℕ) (f : Fit announcement_widths (announcement_values x m)) where
  pub announcement_decode : announcement_of (announcement_word x m) ≡ x
  unfolding announcement_of announcement_word
  announcement_decode = content_read announcement_codec announcement_widths x m f

  pub announcement_kind : kind_in (announcement_word x m) ≡ get_or (announcement_values x m) 1 0
  unfolding announcement_word
  announcement_kind = ap (λ vs. get_or vs 1 0) (unpack_pack announcement_widths (announcement_values x m) f)

  pub announcement_marks : marks (announcement_word x m) ≡ m
  unfolding announcement_word unpack
  announcement_marks = marks_read announcement_codec announcement_widths x m f

  pub announcement_injective : (y : Announcement) (k : ℕ) → Fit announcement_widths (announcement_values y k) → announcement_word x m ≡ announcement_word y k → (x ≡ y) × (m ≡ k)
  unfolding announcement_word
  announcement_injective y k g = word_injective announcement_codec announcement_widths x y m k f g

  -- It is in form exactly if the announcement is in range and the marks are those of tasks below n.
  pub announcement_form : (o n : ℕ) → announcement_in_form o n (announcement_word x m) ≡ (ltb m (2 ^ n) && announcement_in_range o x)
  unfolding announcement_word announcement_in_form
  announcement_form o n = written_form (announcement_shape kind_width gap_width payload_width o) n x m f

-- A word in form is its announcement with its marks, and the announcement is in range.
module _ (o n w : ℕ) (e : announcement_in_form o n w ≡ true) where
  pub announcement_formed : Formed announcement_widths (announcement_fields_in_form o) n w
  unfolding announcement_in_form
  announcement_formed = formed announcement_widths (announcement_fields_in_form o) n w e

  pub announcement_whole : announcement_word (announcement_of w) (marks w) ≡ w
  unfolding announcement_word announcement_of
  announcement_whole = form_whole (announcement_shape kind_width gap_width payload_width o) n w announcement_formed

  pub announcement_range : announcement_in_range o (announcement_of w) ≡ true
  unfolding announcement_of
  announcement_range = form_range (announcement_shape kind_width gap_width payload_width o) n w announcement_formed
