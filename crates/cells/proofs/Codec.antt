-- Contents written into a word's fields and read again, for fields of any widths.
use mathlib.Core.Path.{◌≡◌, ap, sym, ◌∙◌}
use mathlib.Core.List.{List}
use Prim.Native.Nat.{ℕ}
use lib.ListN.{get_or}
use Rattle.cells.specs.Field.{pack, unpack, Fit}
use Rattle.cells.proofs.Fields.{unpack_pack, pack_injective}

-- The field values of a content with its marks, and the content that field values say: they say what they were made of.
pub record Codec {X : Type 0} (values : X → ℕ → List ℕ) (from : List ℕ → X) : Type 0 where
  pub content_of_lem : (x : X) (m : ℕ) → from (values x m) ≡ x
  pub marks_of : (x : X) (m : ℕ) → get_or (values x m) 0 0 ≡ m

module _ {X : Type 0} {values : X → ℕ → List ℕ} {from : List ℕ → X} (codec : Codec values from) (ws : List ℕ) where
  -- A content is read as it was written.
  pub content_read : (x : X) (m : ℕ) → Fit ws (values x m) → from (unpack ws (pack ws (values x m))) ≡ x
  content_read x m f = ap from (unpack_pack ws (values x m) f) ∙ codec.content_of_lem x m

  -- So are the marks.
  pub marks_read : (x : X) (m : ℕ) → Fit ws (values x m) → get_or (unpack ws (pack ws (values x m))) 0 0 ≡ m
  marks_read x m f = ap (λ (vs : List ℕ). get_or vs 0 0) (unpack_pack ws (values x m) f) ∙ codec.marks_of x m

  -- Different contents or marks give different words.
  pub word_injective : (x y : X) (m k : ℕ) → Fit ws (values x m) → Fit ws (values y k) → pack ws (values x m) ≡ pack ws (values y k) → (x ≡ y) × (m ≡ k)
  word_injective x y m k f g e =
      let same : values x m ≡ values y k = pack_injective ws (values x m) (values y k) f g e in (
        sym (codec.content_of_lem x m) ∙ ap from same ∙ codec.content_of_lem y k,
        sym (codec.marks_of x m) ∙ ap (λ (vs : List ℕ). get_or vs 0 0) same ∙ codec.marks_of y k,
      )
