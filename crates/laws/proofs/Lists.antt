-- Parts of a list, and writing one place of it.
use mathlib.Core.Path.{◌≡◌, refl, sym, ap, subst, ◌∙◌}
use mathlib.Core.Bool.{Bool, true, false}
use mathlib.Core.List.{List, [], ◌∷◌, ◌++◌, append-nil, append_assoc}
use Prim.Native.Nat.{ℕ, zero, suc, ◌+◌, ◌-◌, ◌<◌, ◌≤◌}
use native.Mathlib.Numerals.{add-one}
use native.Mathlib.Omega.{arith}
use borrow.Author.Tests.{ltb-true, ltb-false}
use lib.Dec.{ltb}
use lib.ListN.{length, get_or, take, drop, set, replicate, length-drop, replicate-append-replicate}
use lib.Seq.{get_or-set_same, length-take-le, set_out, take_all, take_at, take-suc-set, take-suc, sets, sets-eq}

-- All that follows a place is the rest of the list.
pub to_the_end : (xs : List ℕ) (k : ℕ) → take (length xs - k) (drop k xs) ≡ drop k xs
to_the_end xs k = take_all (length xs - k) (drop k xs) (omega (arith, length-drop k xs))

-- A new front is found again in front.
pub front_taken : {A : Type 0} (k : ℕ) (new old : List A) → k ≤ length old → length new ≡ length (take k old) → take k (new ++ drop k old) ≡ new
front_taken k new old h e = take_at new (drop k old) k (e ∙ length-take-le k old h)

-- Two lists of one length that hold the same at a place do so after the same value is written there.
pub set_alike : (xs ys : List ℕ) (i v : ℕ) → length xs ≡ length ys → get_or xs i 0 ≡ get_or ys i 0 → get_or (set xs i v) i 0 ≡ get_or (set ys i v) i 0
set_alike xs ys i v l e = at (ltb i (length ys)) refl
  where
    at : (b : Bool) → ltb i (length ys) ≡ b → get_or (set xs i v) i 0 ≡ get_or (set ys i v) i 0
    at true h =
        let y : i < length ys = ltb-true i (length ys) h in
        let x : i < length xs = omega arith in
        get_or-set_same xs i v 0 x ∙ sym (get_or-set_same ys i v 0 y)
    at false h =
        let y : length ys ≤ i = ltb-false i (length ys) h in
        let x : length xs ≤ i = omega arith in
        rw (set_out xs i v x, set_out ys i v y) e

-- One place more is filled with a.
pub filled_more : (xs : List ℕ) (i a : ℕ) → i < length xs → take i xs ≡ replicate i a → take (i + 1) (set xs i a) ≡ replicate (i + 1) a
filled_more xs i a h e = rw (add-one, take-suc-set xs i a, e) (replicate-append-replicate i 1 a ∙ ap (λ (n : ℕ). replicate n a) (add-one i))

-- All k places are filled.
pub filled_all : (xs : List ℕ) (i k a : ℕ) → length xs ≤ i → i ≤ length xs → length xs ≡ k → take i xs ≡ replicate i a → xs ≡ replicate k a
filled_all xs i k a h l e f = let same : i ≡ k = omega arith in sym (take_all i xs h) ∙ f ∙ ap (λ (n : ℕ). replicate n a) same

-- A list that is written where another ends is written as one list with it.
sets_more : {A : Type 0} (l : List A) (i : ℕ) (first second : List A) → sets (sets l i first) (i + length first) second ≡ sets l i (first ++ second)
sets_more l i [] second = let z : i + 0 ≡ i = omega arith in ap (λ (k : ℕ). sets l k second) z
sets_more l i (x ∷ first) second =
    let z : i + suc (length first) ≡ suc i + length first = omega arith in
    ap (λ (k : ℕ). sets (sets (set l i x) (suc i) first) k second) z ∙ sets_more (set l i x) (suc i) first second

pub sets_then : {A : Type 0} (l : List A) (i : ℕ) (first second : List A) {j : ℕ} {once twice : List A}
    → once ≡ sets l i first → j ≡ i + length first → twice ≡ sets once j second → twice ≡ sets l i (first ++ second)
sets_then l i first second e h f = f ∙ rw (e, h) (sets_more l i first second)

-- One element more is written.
pub sets_next : {A : Type 0} (l vs : List A) (at i : ℕ) (d : A) → i < length vs → sets l at (take (i + 1) vs) ≡ set (sets l at (take i vs)) (at + i) (get_or vs i d)
sets_next l vs at i d h =
    rw (add-one, take-suc vs i d) (sym (sets_more l at (take i vs) (get_or vs i d ∷ [])) ∙ ap (λ (k : ℕ). set (sets l at (take i vs)) (at + k) (get_or vs i d)) (length-take-le i vs (omega arith)))

-- A list that is written from the start stands there, and after it the rest as it was.
pub written_over : {A : Type 0} (new old : List A) → length new ≤ length old → sets old 0 new ≡ new ++ drop (length new) old
written_over new old fits =
    let z : 0 + length new ≡ length new = omega arith in
    sets-eq new old 0 (omega arith) ∙ ap (λ (n : ℕ). new ++ drop n old) z

-- What holds of all elements, and of the value past the end: at the end of a list, of one element more, and of two lists.
module _ {A : Type 0} (P : A → Type 0) (d : A) where
  pub none_all : P d → (k : ℕ) → P (get_or [] k d)
  none_all past k = past

  pub cons_all : (x : A) (xs : List A) → P x → ((k : ℕ) → P (get_or xs k d)) → (k : ℕ) → P (get_or (x ∷ xs) k d)
  cons_all x xs first rest zero = first
  cons_all x xs first rest (suc k) = rest k

  pub append_all : (xs ys : List A) → ((k : ℕ) → P (get_or xs k d)) → ((k : ℕ) → P (get_or ys k d)) → (k : ℕ) → P (get_or (xs ++ ys) k d)
  append_all [] ys first second k = second k
  append_all (x ∷ xs) ys first second k = cons_all x (xs ++ ys) (first 0) (append_all xs ys (λ i. first (suc i)) second) k

-- What holds of the empty list, and of a list with one element more at its end, holds of every list.
pub from_the_end : {A : Type 0} (P : List A → Type 0) → P [] → ((xs : List A) (x : A) → P xs → P (xs ++ (x ∷ []))) → (xs : List A) → P xs
from_the_end P none more xs = go [] xs none
  where
    go : (done rest : List _) → P done → P (done ++ rest)
    go done [] p = subst P (sym (append-nil done)) p
    go done (x ∷ rest) p = subst P (append_assoc done (x ∷ []) rest) (go (done ++ (x ∷ [])) rest (more done x p))
