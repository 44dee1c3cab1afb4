-- A list cut into pairs.
use mathlib.Core.Path.{◌≡◌, refl, ap, ◌∙◌}
use mathlib.Core.List.{List, []}
use Prim.Native.Nat.{ℕ, zero, suc, ◌+◌, ◌*◌, ◌<◌}
use native.Mathlib.Omega.{arith}
use lib.ListN.{length, get_or, drop}
use Rattle.std.specs.Simd.{first_chunks}
use Rattle.std.proofs.lemmas.List.{get_or-drop, get_or-take}

-- A number of the pair at a place.
pub pair_word : (n : ℕ) (words : List ℕ) (place word : ℕ) → place < n → word < 2
    → get_or (get_or (first_chunks 2 n words) place []) word 0 ≡ get_or words (2 * place + word) 0
pair_word zero words place word h l = absurd (omega arith)
pair_word (suc n) words zero word h l = let first : word ≡ 2 * 0 + word = omega arith in get_or-take 2 words word 0 l ∙ ap (λ k. get_or words k 0) first
pair_word (suc n) words (suc place) word h l =
    let along : 2 + (2 * place + word) ≡ 2 * suc place + word = omega arith in
    pair_word n (drop 2 words) place word (omega arith) l ∙ get_or-drop 2 words (2 * place + word) 0 ∙ ap (λ k. get_or words k 0) along

-- The first number of the pair at a place.
pub pair_first : (n : ℕ) (words : List ℕ) (place : ℕ) → place < n → get_or (get_or (first_chunks 2 n words) place []) 0 0 ≡ get_or words (2 * place) 0
pair_first n words place h = let at : 2 * place + 0 ≡ 2 * place = omega arith in pair_word n words place 0 h (omega arith) ∙ ap (λ k. get_or words k 0) at

pub pairs_long : (n : ℕ) (words : List ℕ) → length (first_chunks 2 n words) ≡ n
pairs_long zero words = refl
pairs_long (suc n) words = ap suc (pairs_long n (drop 2 words))
