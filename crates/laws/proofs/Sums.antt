-- Sums of a function's first values: the change of one share, and the most that a sum can be.
use mathlib.Core.Path.{◌≡◌, sym, ◌∙◌}
use mathlib.Core.Logic.{◌≢◌, ite}
use Prim.Native.Nat.{ℕ, zero, suc, ◌+◌, ◌*◌, ◌≤◌, ◌<◌}
use native.Mathlib.Decide.{ℕ_discrete, dec_lt}
use native.Mathlib.Nat.{not-suc-le-zero}
use native.Mathlib.Omega.{arith}
use Rattle.laws.specs.Sum.{sum, but}

sum_le : (n : ℕ) (f g : ℕ → ℕ) → ((x : ℕ) → x < n → g x ≤ f x) → sum n g ≤ sum n f
sum_le zero f g h = omega arith
sum_le (suc n) f g h = omega (arith, sum_le n f g (λ x l. h x (omega arith)), h n (omega arith))

pub sum_most : (n c : ℕ) (f : ℕ → ℕ) → ((x : ℕ) → f x ≤ c) → sum n f ≤ n * c
sum_most zero c f h = omega arith
sum_most (suc n) c f h = omega (arith, sum_most n c f h, h n)

-- Every share rises by c.
sum_rise : (n c : ℕ) (f : ℕ → ℕ) → sum n (λ x. f x + c) ≡ sum n f + n * c
sum_rise zero c f = omega arith
sum_rise (suc n) c f = omega (arith, sum_rise n c f)

-- If one share gives up a and takes on b, and no other rises, then so does the sum.
pub sum_change : (n : ℕ) (f g : ℕ → ℕ) (k a b : ℕ) → k < n → ((x : ℕ) → x ≢ k → g x ≤ f x) → g k + a ≤ f k + b → sum n g + a ≤ sum n f + b
sum_change zero f g k a b l h y = absurd (not-suc-le-zero l)
sum_change (suc n) f g k a b l h y = go (λ l. sum_change n f g k a b l h y) (ℕ_discrete k n)
  where
    go : (k < n → sum n g + a ≤ sum n f + b) → Dec (k ≡ n) → sum n g + g n + a ≤ sum n f + f n + b
    go rest (yes e) =
        let last : g n + a ≤ f n + b = rw (← e) y in
        omega (arith, sum_le n f g (λ x l. h x (λ z. (let v : x ≡ n = z ∙ e in omega arith))))
    go rest (no d) = omega (arith, rest (omega arith), h n (λ z. d (sym z)))

-- ---- Sums with one share left out

but_le : (p x : ℕ) (f g : ℕ → ℕ) → (x ≢ p → g x ≤ f x) → but p g x ≤ but p f x
but_le p x f g h = go (ℕ_discrete x p)
  where
    go : (d : Dec (x ≡ p)) → ite d 0 (g x) ≤ ite d 0 (f x)
    go (yes e) = omega arith
    go (no n) = h n

module _ (n p : ℕ) (f g : ℕ → ℕ) where
  pub but_others : ((x : ℕ) → x ≢ p → g x ≤ f x) → sum n (but p g) ≤ sum n (but p f)
  but_others h = sum_le n (but p f) (but p g) (λ x _. but_le p x f g (h x))

  -- Share i gives up a; no other rises.
  pub but_change : (i a : ℕ) → i < n → ((x : ℕ) → x ≢ i → g x ≤ f x) → g i + a ≤ f i → sum n (but p g) + but p (λ _. a) i ≤ sum n (but p f)
  but_change i a l h y = omega (arith, sum_change n (but p f) (but p g) i (but p (λ _. a) i) 0 l (λ x d. but_le p x f g (λ _. h x d)) (go (ℕ_discrete i p)))
    where
      go : (d : Dec (i ≡ p)) → ite d 0 (g i) + ite d 0 a ≤ ite d 0 (f i) + 0
      go (yes e) = omega arith
      go (no d) = omega arith

  -- Share j, which may be none of the n, rises by at most b.
  pub but_rise : (j b : ℕ) → ((x : ℕ) → x ≢ j → g x ≤ f x) → g j ≤ f j + b → sum n (but p g) ≤ sum n (but p f) + but p (λ _. b) j
  but_rise j b h y = go (dec_lt j n)
    where
      at_j : (d : Dec (j ≡ p)) → ite d 0 (g j) + 0 ≤ ite d 0 (f j) + ite d 0 b
      at_j (yes e) = omega arith
      at_j (no d) = omega arith

      go : Dec (j < n) → sum n (but p g) ≤ sum n (but p f) + but p (λ _. b) j
      go (yes l) = omega (arith, sum_change n (but p f) (but p g) j 0 (but p (λ _. b) j) l (λ x d. but_le p x f g (λ _. h x d)) (at_j (ℕ_discrete j p)))
      go (no d) = omega (arith, sum_le n (but p f) (but p g) (λ x l. but_le p x f g (λ _. h x (λ z. (let v : x ≡ j = z in d (omega arith))))))

  -- Every share rises by at most c: this is at most n - 1 times c in all.
  pub but_rises : (c : ℕ) → p < n → ((x : ℕ) → g x ≤ f x + c) → sum n (but p g) + c ≤ sum n (but p f) + n * c
  but_rises c l h = omega (arith, sum_change n (λ x. but p f x + c) (but p g) p c 0 l (λ x _. at x (ℕ_discrete x p)) (own (ℕ_discrete p p)), sum_rise n c (but p f))
    where
      at : (x : ℕ) (d : Dec (x ≡ p)) → ite d 0 (g x) ≤ ite d 0 (f x) + c
      at x (yes e) = omega arith
      at x (no d) = h x

      own : (d : Dec (p ≡ p)) → ite d 0 (g p) + c ≤ ite d 0 (f p) + c + 0
      own (yes e) = omega arith
      own (no d) = absurd (d mathlib.Core.Path.refl)

pub but_at_most : (p x c : ℕ) → but p (λ _. c) x ≤ c
but_at_most p x c = go (ℕ_discrete x p)
  where
    go : (d : Dec (x ≡ p)) → ite d 0 c ≤ c
    go (yes e) = omega arith
    go (no n) = omega arith

-- A bound of all shares leaves one of them free.
pub but_most : (n p c : ℕ) (f : ℕ → ℕ) → p < n → ((x : ℕ) → f x ≤ c) → sum n (but p f) + c ≤ n * c
but_most n p c f l h = omega (arith, but_rises n p (λ _. 0) f c l (λ x. omega (arith, h x)), sum_most n 0 (but p (λ _. 0)) (λ x. but_at_most p x 0))

-- A share and all before it are at most the sum of more shares.
pub sum_before : (n : ℕ) (f : ℕ → ℕ) (k : ℕ) → k < n → sum k f + f k ≤ sum n f
sum_before zero f k h = absurd (not-suc-le-zero h)
sum_before (suc n) f k h = by (sum_before n f k) (ℕ_discrete k n)
  where
    by : (k < n → sum k f + f k ≤ sum n f) → Dec (k ≡ n) → sum k f + f k ≤ sum n f + f n
    by below (yes e) = rw e (omega arith)
    by below (no d) = omega (arith, below (omega arith))
