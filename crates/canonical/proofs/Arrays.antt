-- What the writer reads in the arrays of the order, at every place and for every state.
use mathlib.Core.Path.{◌≡◌, refl, sym, ap, ◌∙◌}
use mathlib.Core.List.{List, [], ◌∷◌, ◌++◌}
use Prim.Native.Nat.{ℕ, zero, suc, ◌+◌, ◌-◌, ◌%◌, ◌<◌, ◌≤◌, min}
use native.Mathlib.Decide.{dec_lt}
use native.Mathlib.Omega.{arith}
use lib.ListN.{length, get_or, replicate, get_or-eq_default}
use Rattle.table.specs.declared.Shape.{Shape}
use Rattle.table.specs.Layout.{most_states}
use Rattle.reach.specs.Order.{place_in, order_of}
use Rattle.reach.specs.Reached.{number_in, order_words, number_words, Distinct}
use Rattle.reach.proofs.Places.{place_bound, place_holds}
use Rattle.reach.proofs.Meeting.{distinct_few}
use Rattle.reach.proofs.Turns.{order_distinct}
use Rattle.reach.proofs.Words.{number_listed, number_none, number_words_length, number_words_at}
use Rattle.canonical.specs.Canonical.{Numbered}

-- ---- The arrays of a list

zeros : (n place : ℕ) → ◌≡◌ {A = ℕ} (get_or (replicate n 0) place 0) 0
zeros zero place = refl
zeros (suc n) zero = refl
zeros (suc n) (suc place) = zeros n place

-- Behind the list stands what is read past its end.
behind : (list : List ℕ) (n place : ℕ) → get_or (list ++ replicate n 0) place 0 ≡ get_or list place 0
behind [] n place = zeros n place
behind (first ∷ rest) n zero = refl
behind (first ∷ rest) n (suc place) = behind rest n place

order_words_read : (list : List ℕ) (place : ℕ) → get_or (order_words list) place 0 ≡ get_or list place 0
unfolding order_words
order_words_read list place = behind list (most_states - length list) place

module _ (list : List ℕ) (distinct : Distinct list) (state : ℕ) where
  -- A state past the array isn't in the list.
  past : most_states ≤ state → place_in list state ≡ length list
  past large = by (dec_lt (place_in list state) (length list))
    where
      by : Dec (place_in list state < length list) → place_in list state ≡ length list
      by (yes h) = absurd (omega (arith, place_holds state list h, distinct.small (place_in list state) h))
      by (no n) = omega (arith, place_bound state list)

  number_words_read : get_or (number_words list) state 0 ≡ number_in list state
  number_words_read = by (dec_lt state most_states)
    where
      by : Dec (state < most_states) → get_or (number_words list) state 0 ≡ number_in list state
      by (yes h) = number_words_at list state h
      by (no n) =
          get_or-eq_default (number_words list) 0 (omega (arith, number_words_length list)) ∙ sym (number_none list state (past (omega arith)))

-- ---- The arrays of the order

module _ {file : List ℕ} {shape : Shape} {order number : List ℕ} (n : Numbered file shape order number) where
  abbrev list : List ℕ
  list = order_of file shape

  pub few : length list ≤ most_states
  few = let distinct = order_distinct file shape in distinct_few most_states list distinct.small distinct.once

  -- The state at a place, and past the arrays there is none.
  pub state_at : (place : ℕ) → get_or order place 0 ≡ get_or list place 0
  state_at place = ap (λ (l : List ℕ). get_or l place 0) n.order_is ∙ order_words_read list place

  pub state_past : (place : ℕ) → most_states ≤ place → 0 ≡ get_or list place 0
  state_past place h = sym (get_or-eq_default list 0 (omega (arith, few)))

  number_at : (state : ℕ) → get_or number state 0 ≡ number_in list state
  number_at state = ap (λ (l : List ℕ). get_or l state 0) n.number_is ∙ number_words_read list (order_distinct file shape) state

  -- The place of a state is one less than its number; a state that isn't in the order has the number 0.
  pub place_at : {word : ℕ} (state : ℕ) → word ≡ get_or number state 0 → min ((word + 65535) % 65536) (length list) ≡ place_in list state
  place_at {word} state read = by (dec_lt (place_in list state) (length list))
    where
      by : Dec (place_in list state < length list) → min ((word + 65535) % 65536) (length list) ≡ place_in list state
      by (yes h) = omega (arith, read, number_at state, number_listed list state h, few)
      by (no n) =
          let last : place_in list state ≡ length list = omega (arith, place_bound state list) in
          omega (arith, read, number_at state, number_none list state last, few)
