-- Link and release keep the form of a word, for fields of any widths above the marks.
use mathlib.Core.Path.{◌≡◌, refl, ap, ◌∙◌}
use mathlib.Core.Bool.{Bool, true}
use mathlib.Core.List.{List, ◌∷◌}
use Prim.Native.Nat.{ℕ, ◌+◌, ◌<◌, ◌≤◌}
use native.Mathlib.Omega.{arith}
use Rattle.cells.specs.Field.{unpack, total}
use Rattle.cells.specs.Form.{in_form, head_fields_in_form, head_in_form, announcement_fields_in_form, announcement_in_form}
use Rattle.cells.specs.Layout.{marks_width, marks, value, add_mark, remove_mark}
use Rattle.cells.proofs.Fields.{unpack_low}
use Rattle.cells.proofs.Forms.{formed, form_of}
use Rattle.cells.proofs.MarkLaws.{SetsBit, adds, removes, set_below}
use Rattle.cells.proofs.WordMarks.{add_mark_lem, remove_mark_lem, set_value, set_marks}

module _ (i n w : ℕ) (below : i < n) (most : n ≤ marks_width) where
  -- The bit of task i is set or cleared in a word whose fields are tested without the marks.
  set_in_form : {c : ℕ} {f : ℕ → ℕ → ℕ} → SetsBit c f → (ws : List ℕ) (fields : List ℕ → Bool) → ((m k : ℕ) (vs : List ℕ) → fields (m ∷ vs) ≡ fields (k ∷ vs))
      → in_form (marks_width ∷ ws) fields n w ≡ true → in_form (marks_width ∷ ws) fields n (f i w) ≡ true
  unfolding total
  set_in_form {f = f} sets ws fields blind e =
      let few : i < marks_width = omega (arith, below, most) in
      let g = formed (marks_width ∷ ws) fields n w e in
      let old = ap fields (unpack_low marks_width ws w) in
      let new = ap fields (unpack_low marks_width ws (f i w)) in
      let same = ap (λ (v : ℕ). fields (marks (f i w) ∷ unpack ws v)) (set_value sets i w few) ∙ blind (marks (f i w)) (marks w) (unpack ws (value w)) in
      form_of (marks_width ∷ ws) fields n (f i w)
      (record {
        small = set_below sets i (marks_width + total ws) w (omega (arith, few)) g.small;
        few = rw (set_marks sets i w few) (set_below sets i n (marks w) below g.few);
        passed = new ∙ same ∙ rw old at g.passed;
      })

  few_task : i < marks_width
  few_task = omega (arith, below, most)

  -- A head.
  module _ (s : ℕ) (e : head_in_form s n w ≡ true) where
    head_blind : (m k : ℕ) (vs : List ℕ) → head_fields_in_form s n (m ∷ vs) ≡ head_fields_in_form s n (k ∷ vs)
    unfolding head_fields_in_form
    head_blind m k vs = refl

    pub head_linked_form : head_in_form s n (add_mark i w) ≡ true
    unfolding head_in_form
    head_linked_form = rw (add_mark_lem i w few_task) (set_in_form adds _ (head_fields_in_form s n) head_blind e)

    pub head_released_form : head_in_form s n (remove_mark i w) ≡ true
    unfolding head_in_form
    head_released_form = rw (remove_mark_lem i w few_task) (set_in_form removes _ (head_fields_in_form s n) head_blind e)

  -- An announcement.
  module _ (m : ℕ) (e : announcement_in_form m n w ≡ true) where
    announcement_blind : (j k : ℕ) (vs : List ℕ) → announcement_fields_in_form m (j ∷ vs) ≡ announcement_fields_in_form m (k ∷ vs)
    unfolding announcement_fields_in_form
    announcement_blind j k vs = refl

    pub announcement_linked_form : announcement_in_form m n (add_mark i w) ≡ true
    unfolding announcement_in_form
    announcement_linked_form = rw (add_mark_lem i w few_task) (set_in_form adds _ (announcement_fields_in_form m) announcement_blind e)

    pub announcement_released_form : announcement_in_form m n (remove_mark i w) ≡ true
    unfolding announcement_in_form
    announcement_released_form = rw (remove_mark_lem i w few_task) (set_in_form removes _ (announcement_fields_in_form m) announcement_blind e)
