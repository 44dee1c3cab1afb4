-- The digits of a number, and fields one after another.
use mathlib.Core.Path.{◌≡◌, refl, ap, sym, ◌∙◌}
use mathlib.Core.Bool.{Bool, true, false}
use mathlib.Core.List.{List, [], ◌∷◌, ◌++◌, append_assoc, append-nil}
use Prim.Native.Nat.{ℕ, zero, suc, ◌+◌, ◌-◌, ◌/◌, ◌%◌, ◌^◌, ◌<◌, ◌≤◌}
use native.Mathlib.Nat.{one-le-pow, pow-succ', pow-le-pow_right}
use native.Mathlib.Numerals.{add-one}
use native.Mathlib.Omega.{arith}
use borrow.Author.Tests.{lt-ltb, le-ltb, leb-true, leb-false}
use lib.Dec.{leb}
use lib.ListN.{length, take, get_or, length-append}
use lib.Seq.{take-suc}
use Rattle.io.specs.Digits.{last_digits, hex_digit_ascii, IsDigitCount}
use Rattle.bench_lines.specs.Command.{zero_digit}
use Rattle.bench_lines.specs.Line.{decimal_in, decimal, hexadecimal, parted_in, field_of}
use Rattle.bench_lines.specs.declared.text.Base.{Base}

-- A digit below ten.
small_glyph : (d : ℕ) → d < 10 → hex_digit_ascii d ≡ zero_digit + d
small_glyph d h = rw (lt-ltb d 10 h)

-- The fewest digits of a number are its decimal text.
fewer : (k n : ℕ) → IsDigitCount 10 1 n (suc (suc k)) → (10 ≤ n) × IsDigitCount 10 1 (n / 10) (suc k)
fewer k n f =
    let e : suc (suc k) - 1 ≡ suc k = omega arith in
    let least : 10 ^ suc k ≤ n = rw e at (f.2 (omega arith)) in
    let e' : suc k - 1 ≡ k = omega arith in
    (omega (arith, one-le-pow k 10 (omega arith), pow-succ' 10 k), (omega arith, omega (arith, pow-succ' 10 (suc k)), λ _. rw e' (omega (arith, pow-succ' 10 k))))

pub decimal_digits : (k fuel n : ℕ) → k ≤ fuel → IsDigitCount 10 1 n k → last_digits 10 k n ≡ decimal_in fuel n
unfolding decimal_in
decimal_digits zero fuel n room f = absurd (omega (arith, f.0))
decimal_digits (suc k) zero n room f = absurd (omega arith)
decimal_digits (suc zero) (suc fuel) n room f =
    let h : n < 10 = f.1 in
    simp (lt-ltb n 10 h, small_glyph (n % 10) (omega arith))
decimal_digits (suc (suc k)) (suc fuel) n room f =
    let g = fewer k n f in
    simp (le-ltb n 10 g.0, small_glyph (n % 10) (omega arith), decimal_digits (suc k) fuel (n / 10) (omega arith) g.1)

-- A number below a power of the base has at most as many digits.
most_digits : (b most n k : ℕ) → 0 < b → n < b ^ most → (most < k → b ^ (k - 1) ≤ n) → k ≤ most
most_digits b most n k pos small least = at (leb k most) refl
  where
    at : (t : Bool) → leb k most ≡ t → k ≤ most
    at true e = leb-true k most e
    at false e =
        let over = leb-false k most e in
        let power : b ^ most ≤ b ^ (k - 1) = pow-le-pow_right pos (omega arith) in
        absurd (omega (arith, least over))

-- The digits of a number of 64 bits, as they are made.
pub decimal_text : (k n : ℕ) → n < 2 ^ 64 → IsDigitCount 10 1 n k → last_digits 10 k n ≡ decimal n
unfolding decimal
decimal_text k n h f = decimal_digits k 20 n (most_digits 10 20 n k (omega arith) (omega arith) (λ over. f.2 (omega arith))) f

pub hexadecimal_text : (k n : ℕ) → n < 2 ^ 64 → IsDigitCount 16 16 n k → last_digits 16 k n ≡ hexadecimal n
unfolding hexadecimal
hexadecimal_text k n h f =
    let most = most_digits 16 16 n k (omega arith) (omega arith) (λ over. f.2 over) in
    let e : k ≡ 16 = omega (arith, f.0) in
    ap (λ (j : ℕ). last_digits 16 j n) e

digits_length : (b k n : ℕ) → length (last_digits b k n) ≡ k
digits_length b zero n = refl
digits_length b (suc k) n = omega (arith, length-append (last_digits b k (n / b)) (hex_digit_ascii (n % b) ∷ []), digits_length b k (n / b))

-- A word has 16 digits.
pub hexadecimal_most : (n : ℕ) → length (hexadecimal n) ≡ 16
unfolding hexadecimal
hexadecimal_most n = digits_length 16 16 n

parted_append : (base : Base) (xs ys : List ℕ) → parted_in base (xs ++ ys) ≡ parted_in base xs ++ parted_in base ys
unfolding parted_in
parted_append base [] ys = refl
parted_append base (x ∷ xs) ys = rw (parted_append base xs ys) (sym (append_assoc (field_of base x) (parted_in base xs) (parted_in base ys)))

-- One field more.
pub fields_more : (base : Base) (before values : List ℕ) (i : ℕ) → i < length values
    → (before ++ parted_in base (take i values)) ++ field_of base (get_or values i 0) ≡ before ++ parted_in base (take (i + 1) values)
unfolding parted_in
fields_more base before values i h =
    let more : parted_in base (take (i + 1) values) ≡ parted_in base (take i values) ++ field_of base (get_or values i 0) =
    rw (add-one, take-suc values i 0) (parted_append base (take i values) (get_or values i 0 ∷ []) ∙ rw append-nil) in
    rw more (append_assoc before (parted_in base (take i values)) (field_of base (get_or values i 0)))
