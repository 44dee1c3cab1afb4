-- The list of a function's values: its length, its elements, and one value changed.
use mathlib.Core.Path.{◌≡◌, refl, sym, ◌∙◌}
use mathlib.Core.List.{List, [], ◌∷◌, ◌++◌}
use Prim.Native.Nat.{ℕ, zero, suc, ◌<◌}
use native.Mathlib.Decide.{ℕ_discrete}
use native.Mathlib.Omega.{arith}
use lib.ListN.{length, get_or, set, replicate, length-append, length-set, length-replicate, get_or-replicate, get_or-append}
use lib.Seq.{get_or-set_same, get_or-set_other, get_or_at, ext_get_or}
use Rattle.laws.specs.Update.{update}
use Rattle.laws.proofs.Update.{update_all}
use Rattle.laws.specs.Tabulate.{tabulate}

module _ {A : Type 0} where
  pub tabulate_length : (n : ℕ) (f : ℕ → A) → length (tabulate n f) ≡ n
  unfolding tabulate
  tabulate_length zero f = refl
  tabulate_length (suc n) f = rw (length-append (tabulate n f) (f n ∷ []), tabulate_length n f) (omega arith)

  pub tabulate_at : (n : ℕ) (f : ℕ → A) (d : A) (k : ℕ) → k < n → get_or (tabulate n f) k d ≡ f k
  unfolding tabulate
  tabulate_at zero f d k h = absurd (omega arith)
  tabulate_at (suc n) f d k h = by (tabulate_at n f d k) (ℕ_discrete k n)
    where
      by : (k < n → get_or (tabulate n f) k d ≡ f k) → Dec (k ≡ n) → get_or (tabulate n f ++ (f n ∷ [])) k d ≡ f k
      by below (yes e) = rw e (get_or_at (tabulate n f) (f n) [] d n (tabulate_length n f))
      by below (no e) =
          let l : k < n = omega arith in
          get_or-append (tabulate n f) (f n ∷ []) d k (omega (arith, tabulate_length n f)) ∙ below l

  -- A list whose elements are the function's values is the list of them.
  tabulated : (d : A) (l : List A) (n : ℕ) (f : ℕ → A) → length l ≡ n → ((k : ℕ) → k < n → get_or l k d ≡ f k) → l ≡ tabulate n f
  tabulated d l n f e h =
      ext_get_or d l (tabulate n f) (e ∙ sym (tabulate_length n f)) (λ k b. let c : k < n = omega arith in h k c ∙ sym (tabulate_at n f d k c))

  pub tabulate_replicate : (n : ℕ) (x : A) → replicate n x ≡ tabulate n (λ _. x)
  tabulate_replicate n x = tabulated x (replicate n x) n (λ _. x) (length-replicate n x) (λ k b. get_or-replicate n k x x b)

-- One value changed: an encoding of each value goes along with it.
module _ {A B : Type 0} (encode : A → B) (n : ℕ) (f : ℕ → A) (j : ℕ) (x : A) (below : j < n) where
  pub tabulate_set : set (tabulate n (λ k. encode (f k))) j (encode x) ≡ tabulate n (λ k. encode (update f j x k))
  tabulate_set =
      let d : B = encode x in
      let l : List B = tabulate n (λ k. encode (f k)) in
      let long : length l ≡ n = tabulate_length n (λ k. encode (f k)) in
      tabulated d (set l j d) n (λ k. encode (update f j x k)) (length-set l j d ∙ long)
      (update_all f j x (λ k v. k < n → get_or (set l j d) k d ≡ encode v) (λ _. get_or-set_same l j d d (omega arith)) (λ k apart b. get_or-set_other l j k d d (λ z. apart (sym z)) ∙ tabulate_at n (λ k. encode (f k)) d k b))
