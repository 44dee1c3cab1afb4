-- A test at every number below a bound, against a test of every element of a list.
use mathlib.Core.Path.{◌≡◌, refl, sym, ap, ap₂, ◌∙◌}
use mathlib.Core.Bool.{Bool, true, ◌&&◌}
use mathlib.Core.List.{List, [], ◌∷◌}
use Prim.Native.Nat.{ℕ, zero, suc, ◌*◌, ◌+◌, ◌<◌}
use native.Mathlib.Omega.{arith}
use lib.ListN.{length, get_or, take, drop}
use Rattle.std.specs.List.{list_all}
use Rattle.std.specs.Simd.{first_chunks}
use Rattle.std.proofs.lemmas.List.{take-append-drop, drop-drop}
use Rattle.std.proofs.lemmas.List.Folds.{list_all-append}
use Rattle.std.proofs.Math.Bool.{and_assoc, and_comm}
use Rattle.laws.specs.Below.{all_below}
use Rattle.laws.proofs.Below.{all_at, all_of}

-- Two tests that agree below the bound hold at every number together.
pub all_same : (n : ℕ) (one other : ℕ → Bool) → ((k : ℕ) → k < n → one k ≡ other k) → all_below n one ≡ all_below n other
unfolding all_below
all_same zero one other same = refl
all_same (suc n) one other same = ap₂ (λ a b. a && b) (same n (omega arith)) (all_same n one other (λ k h. same k (omega arith)))

-- The numbers below a bound, the first apart.
pub all_first : (n : ℕ) (test : ℕ → Bool) → all_below (suc n) test ≡ (test 0 && all_below n (λ k. test (suc k)))
unfolding all_below
all_first zero test = refl
all_first (suc n) test =
    let late : Bool = all_below n (λ k. test (suc k)) in
    ap (λ b. test (suc n) && b) (all_first n test) ∙ sym (and_assoc (test (suc n)) (test 0) late) ∙ ap (λ b. b && late) (and_comm (test (suc n)) (test 0)) ∙ and_assoc (test 0) (test (suc n)) late

-- A test of every element of a list, by the places.
pub all_listed : {A : Type 0} (test : A → Bool) (xs : List A) (other : A) → list_all test xs ≡ all_below (length xs) (λ k. test (get_or xs k other))
unfolding all_below
all_listed test [] other = refl
all_listed test (x ∷ xs) other = ap (λ b. test x && b) (all_listed test xs other) ∙ sym (all_first (length xs) (λ k. test (get_or (x ∷ xs) k other)))

-- At one place, and from every place.
pub listed_at : {A : Type 0} (test : A → Bool) (xs : List A) (other : A) → list_all test xs ≡ true → (k : ℕ) → k < length xs → test (get_or xs k other) ≡ true
listed_at test xs other e = all_at (length xs) (λ k. test (get_or xs k other)) (sym (all_listed test xs other) ∙ e)

pub listed_of : {A : Type 0} (test : A → Bool) (xs : List A) (other : A) → ((k : ℕ) → k < length xs → test (get_or xs k other) ≡ true) → list_all test xs ≡ true
listed_of test xs other h = all_listed test xs other ∙ all_of (length xs) (λ k. test (get_or xs k other)) h

-- Chunk by chunk, and then what is left.
pub all_chunked : {A : Type 0} (test : A → Bool) (size chunks : ℕ) (xs : List A)
    → (list_all (λ chunk. list_all test chunk) (first_chunks size chunks xs) && list_all test (drop (chunks * size) xs)) ≡ list_all test xs
all_chunked test size zero xs = let none : 0 * size ≡ 0 = omega arith in ap (λ k. list_all test (drop k xs)) none
all_chunked test size (suc chunks) xs =
    let first : Bool = list_all test (take size xs) in
    let others : Bool = list_all (λ chunk. list_all test chunk) (first_chunks size chunks (drop size xs)) in
    let more : suc chunks * size ≡ size + chunks * size = omega arith in
    let behind = ap (λ k. drop k xs) more ∙ sym (drop-drop (chunks * size) size xs) in
    and_assoc first others (list_all test (drop (suc chunks * size) xs))
    ∙ ap (λ ys. first && (others && list_all test ys)) behind
    ∙ ap (λ b. first && b) (all_chunked test size chunks (drop size xs))
    ∙ sym (list_all-append test (take size xs) (drop size xs))
    ∙ ap (list_all test) (take-append-drop size xs)
