-- Words in form that show no task: no kind in an announcement, no holder in a head, and no mark.
use mathlib.Core.Path.{◌≡◌, refl, ap, sym, ◌∙◌}
use mathlib.Core.Bool.{true, false, and-eq-true_iff}
use mathlib.Core.List.{List, [], ◌∷◌}
use Prim.Native.Nat.{ℕ, suc, ◌+◌, ◌*◌, ◌^◌, ◌<◌}
use native.Mathlib.Numerals.{add-one}
use native.Mathlib.Omega.{arith}
use lib.ListN.{length, get_or, replicate}
use Rattle.cells.specs.Field.{pack}
use Rattle.cells.specs.Form.{head_in_form, announcement_in_form, announcements_in_form, cells_in_form}
use Rattle.cells.specs.Image.{image}
use Rattle.cells.specs.Layout.{marks_width, marks, has_mark, head_word, head_of, state_in_word, holder_in, kind_in, announcement_word, announcement_of}
use Rattle.cells.specs.declared.head.Head.TheVariants.{Free}
use Rattle.cells.specs.declared.announcement.Announcement.TheVariants.{Empty}
use Rattle.cells.proofs.AnnouncementLaws.{announcement_whole}
use Rattle.cells.proofs.HeadLaws.{head_whole}
use Rattle.cells.proofs.WordMarks.{marks_none}

-- An announcement of kind 0 is its marks alone.
pub empty_word : (m n w : ℕ) → announcement_in_form m n w ≡ true → kind_in w ≡ 0 → w ≡ marks w
unfolding announcement_word announcement_of pack
empty_word m n w formed kind =
    let empty : announcement_of w ≡ Empty = rw kind in
    sym (announcement_whole m n w formed) ∙ rw empty (omega arith)

-- A head without a holder and without marks is its state alone.
free_word : (s n w : ℕ) → head_in_form s n w ≡ true → holder_in w ≡ 0 → ((t : ℕ) → has_mark t w ≡ false) → w ≡ state_in_word w * 2 ^ marks_width
unfolding head_word head_of pack
free_word s n w formed holder unmarked =
    let free : head_of w ≡ Free (state_in_word w) = rw holder in
    sym (head_whole s n w formed) ∙ rw (free, marks_none w unmarked) (omega arith)

-- Announcements of kind 0 without marks are 0.
empty_words : (m n : ℕ) (ws : List ℕ) → announcements_in_form m n ws ≡ true → ((k : ℕ) → k < length ws → kind_in (get_or ws k 0) ≡ 0)
    → ((t k : ℕ) → has_mark t (get_or ws k 0) ≡ false) → ws ≡ replicate (length ws) 0
unfolding announcements_in_form
empty_words m n [] formed kinds unmarked = refl
empty_words m n (w ∷ ws) formed kinds unmarked =
    let both = (and-eq-true_iff (announcement_in_form m n w) (announcements_in_form m n ws)).0 formed in
    let first = empty_word m n w both.0 (kinds 0 (omega arith)) ∙ marks_none w (λ t. unmarked t 0) in
    let others = empty_words m n ws both.1 (λ k l. kinds (suc k) (omega (arith, l))) (λ t k. unmarked t (suc k)) in
    λ i. first i ∷ others i

-- So n + 1 cells that show no task are the image of the state in the head.
pub untraced : (s m n : ℕ) (cells : List ℕ) → length cells ≡ n + 1 → cells_in_form s m n cells ≡ true → ((t : ℕ) → t < n → kind_in (get_or cells (t + 1) 0) ≡ 0)
    → holder_in (get_or cells 0 0) ≡ 0 → ((t k : ℕ) → has_mark t (get_or cells k 0) ≡ false) → cells ≡ image n (state_in_word (get_or cells 0 0))
unfolding cells_in_form image
untraced s m n [] long formed kinds holder unmarked = absurd (omega (arith, long))
untraced s m n (w ∷ ws) long formed kinds holder unmarked =
    let both = (and-eq-true_iff (head_in_form s n w) (announcements_in_form m n ws)).0 formed in
    let same : length ws ≡ n = omega (arith, long) in
    let first = free_word s n w both.0 holder (λ t. unmarked t 0) in
    let others = empty_words m n ws both.1 (λ k l. rw (add-one k) at (kinds k (omega (arith, l, same)))) (λ t k. unmarked t (suc k)) in
    λ i. first i ∷ (others ∙ ap (λ k. replicate k 0) same) i
