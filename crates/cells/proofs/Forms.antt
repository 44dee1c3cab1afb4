-- Words in form, for fields of any widths above the marks and any test of the fields.
use mathlib.Core.Path.{◌≡◌, ap, sym, ◌∙◌}
use mathlib.Core.Bool.{Bool, true, ◌&&◌, and-eq-true_iff}
use mathlib.Core.List.{List, ◌∷◌}
use Prim.Native.Nat.{ℕ, ◌^◌, ◌<◌}
use borrow.Author.Tests.{lt-ltb, ltb-true}
use lib.Dec.{ltb}
use lib.ListN.{get_or}
use Rattle.cells.specs.Field.{pack, unpack, total, Fit}
use Rattle.cells.specs.Form.{marks_in_form, in_form}
use Rattle.cells.specs.Layout.{marks_width, marks}
use Rattle.cells.proofs.Codec.{Codec}
use Rattle.cells.proofs.Fields.{unpack_low, unpack_pack, pack_unpack, pack_below}

-- What a word in form has: no bits beside its fields, marks of tasks below n, and fields that pass the test.
pub record Formed (ws : List ℕ) (fields : List ℕ → Bool) (n w : ℕ) : Type 0 where
  pub small : w < 2 ^ total ws
  pub few : marks w < 2 ^ n
  pub passed : fields (unpack ws w) ≡ true

-- The test of a form, and what it says; it says no less.
module _ (ws : List ℕ) (fields : List ℕ → Bool) (n w : ℕ) where
  pub formed : in_form ws fields n w ≡ true → Formed ws fields n w
  unfolding in_form marks_in_form
  formed e =
      let first = (and-eq-true_iff (ltb w (2 ^ total ws)) (ltb (marks w) (2 ^ n) && fields (unpack ws w))).0 e in
      let second = (and-eq-true_iff (ltb (marks w) (2 ^ n)) (fields (unpack ws w))).0 first.1 in
      record { small = ltb-true w (2 ^ total ws) first.0; few = ltb-true (marks w) (2 ^ n) second.0; passed = second.1 }

  pub form_of : Formed ws fields n w → in_form ws fields n w ≡ true
  unfolding in_form marks_in_form
  form_of g = rw (lt-ltb w (2 ^ total ws) g.small, lt-ltb (marks w) (2 ^ n) g.few, g.passed)

-- What a form has to do with the contents of its words: `ws` are the widths above the marks.
pub record Shape {X : Type 0} (values : X → ℕ → List ℕ) (from : List ℕ → X) (ws : List ℕ) (fields : List ℕ → Bool) (range : X → Bool) : Type 0 where
  pub codec : Codec values from
  -- The fields of a content pass the test exactly if the content is in range.
  pub ranged : (x : X) (m : ℕ) → fields (values x m) ≡ range x
  -- Fields that pass the test are those of the content that they say.
  pub again : (w : ℕ) → fields (unpack (marks_width ∷ ws) w) ≡ true → values (from (unpack (marks_width ∷ ws) w)) (marks w) ≡ unpack (marks_width ∷ ws) w

module _ {X : Type 0} {values : X → ℕ → List ℕ} {from : List ℕ → X} {ws : List ℕ} {fields : List ℕ → Bool} {range : X → Bool} (shape : Shape values from ws fields range) (n : ℕ) where
  -- A written word is in form exactly if its marks are those of tasks below n and its content is in range.
  pub written_form : (x : X) (m : ℕ) → Fit (marks_width ∷ ws) (values x m) → in_form (marks_width ∷ ws) fields n (pack (marks_width ∷ ws) (values x m)) ≡ (ltb m (2 ^ n) && range x)
  unfolding in_form marks_in_form
  written_form x m f =
      let w : ℕ = pack (marks_width ∷ ws) (values x m) in
      let read : unpack (marks_width ∷ ws) w ≡ values x m = unpack_pack (marks_width ∷ ws) (values x m) f in
      let low : marks w ≡ m = ap (λ (us : List ℕ). get_or us 0 0) (sym (unpack_low marks_width ws w) ∙ read) ∙ shape.codec.marks_of x m in
      rw (lt-ltb w (2 ^ total (marks_width ∷ ws)) (pack_below (marks_width ∷ ws) (values x m) f), low, read, shape.ranged x m)

  -- A word in form is its content and its marks, written again.
  pub form_whole : (w : ℕ) → Formed (marks_width ∷ ws) fields n w → pack (marks_width ∷ ws) (values (from (unpack (marks_width ∷ ws) w)) (marks w)) ≡ w
  form_whole w g = ap (pack (marks_width ∷ ws)) (shape.again w g.passed) ∙ pack_unpack (marks_width ∷ ws) w g.small

  -- Its content is in range.
  pub form_range : (w : ℕ) → Formed (marks_width ∷ ws) fields n w → range (from (unpack (marks_width ∷ ws) w)) ≡ true
  form_range w g = sym (shape.ranged _ (marks w)) ∙ ap fields (shape.again w g.passed) ∙ g.passed
