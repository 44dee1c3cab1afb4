-- The image of a state.
use mathlib.Core.Path.{◌≡◌, refl, ◌∙◌}
use mathlib.Core.Bool.{true}
use mathlib.Core.List.{List, [], ◌∷◌}
use Prim.Native.Nat.{ℕ, zero, suc, ◌*◌, ◌^◌, ◌<◌, ◌≤◌}
use native.Mathlib.Omega.{arith}
use borrow.Author.Tests.{lt-ltb}
use lib.ListN.{length, get_or, set, replicate, length-replicate, get_or-replicate}
use lib.Pow.{pow_pos}
use Rattle.cells.specs.Field.{pack}
use Rattle.cells.specs.Form.{head_in_form, announcement_in_form, announcements_in_form, cells_in_form}
use Rattle.cells.specs.Image.{image, image_in}
use Rattle.cells.specs.Layout.{marks_width, state_width, head_widths, head_values, head_word, announcement_word}
use Rattle.cells.specs.Marks.{none}
use Rattle.cells.specs.declared.head.Head.TheVariants.{Free}
use Rattle.cells.specs.declared.announcement.Announcement.TheVariants.{Empty}
use Rattle.cells.proofs.AnnouncementLaws.{announcement_form}
use Rattle.cells.proofs.HeadLaws.{head_form}

-- The image is a free head and empty announcements, all without marks.
pub image_words : (n q : ℕ) → image n q ≡ head_word (Free q) none ∷ replicate n (announcement_word Empty none)
unfolding image head_word announcement_word pack
image_words n q = let e : q * 2 ^ marks_width ≡ pack head_widths (head_values (Free q) none) = omega arith in rw e

-- The word 0 is in form, as a head if there is a state, and as an announcement.
pub no_head : (s n : ℕ) → 1 ≤ s → head_in_form s n 0 ≡ true
unfolding head_word pack
no_head s n some = head_form (Free 0) none (omega arith) s n ∙ rw (lt-ltb none (2 ^ n) (pow_pos n), lt-ltb 0 s some)

pub no_announcement : (m n : ℕ) → announcement_in_form m n 0 ≡ true
unfolding announcement_word pack
no_announcement m n = announcement_form Empty none (omega arith) m n ∙ rw (lt-ltb none (2 ^ n) (pow_pos n))

-- Cells are in form if each is, the first as a head and the others as announcements.
announcements_by_each : (m n : ℕ) (ws : List ℕ) → ((k : ℕ) → k < length ws → announcement_in_form m n (get_or ws k 0) ≡ true) → announcements_in_form m n ws ≡ true
unfolding announcements_in_form
announcements_by_each m n [] each = refl
announcements_by_each m n (w ∷ ws) each = rw (each 0 (omega arith), announcements_by_each m n ws (λ k l. each (suc k) (omega arith)))

pub cells_by_each : (s m n w : ℕ) (ws : List ℕ) → head_in_form s n w ≡ true → ((k : ℕ) → k < length ws → announcement_in_form m n (get_or ws k 0) ≡ true) → cells_in_form s m n (w ∷ ws) ≡ true
unfolding cells_in_form
cells_by_each s m n w ws head each = rw (head, announcements_by_each m n ws each)

-- Every cell of the image of a state below s is in form, if states below s fit their field.
pub image_in_form : (s m n q : ℕ) → s ≤ 2 ^ state_width → q < s → cells_in_form s m n (image n q) ≡ true
unfolding announcement_word pack
image_in_form s m n q h l =
    let free : head_in_form s n (head_word (Free q) none) ≡ true = rw (head_form (Free q) none (omega arith) s n, lt-ltb none (2 ^ n) (pow_pos n), lt-ltb q s l) in
    rw (image_words n q) (cells_by_each s m n (head_word (Free q) none) (replicate n 0) free (λ k e. rw (get_or-replicate {A = ℕ} n k 0 0 (rw (length-replicate {A = ℕ} n 0) at e)) (no_announcement m n)))

-- Different states have different images.
pub image_injective : (n q q' : ℕ) → image n q ≡ image n q' → q ≡ q'
unfolding image
image_injective n q q' e = let h : q * 2 ^ marks_width ≡ q' * 2 ^ marks_width = cc in omega arith

-- Cells of 0 whose first is the state in its place are the image.
pub image_made : (k q : ℕ) → set (replicate k 0) 0 (q * 2 ^ marks_width) ≡ image_in k q
unfolding image_in image
image_made zero q = refl
image_made (suc k) q = refl

-- No cells are the image in no cells.
pub image_none : (k q : ℕ) → k ≤ 0 → replicate k 0 ≡ image_in k q
unfolding image_in
image_none zero q h = refl
image_none (suc k) q h = absurd (omega arith)
