-- The two arrays that keep a list of states, and what they are when a state is put at its end.
use mathlib.Core.Path.{◌≡◌, refl, sym, ap, subst, ◌∙◌}
use mathlib.Core.Bool.{and-false}
use mathlib.Core.List.{List, [], ◌∷◌, ◌++◌}
use Prim.Native.Nat.{ℕ, zero, suc, ◌+◌, ◌-◌, ◌<◌, ◌≤◌}
use native.Mathlib.Decide.{dec_lt, ℕ_discrete}
use native.Mathlib.Omega.{arith}
use borrow.Author.Tests.{lt-ltb, le-ltb, eq-eqb, ne_eqb}
use lib.ListN.{length, get_or, take, set, replicate, length-append, length-set, length-replicate, get_or-append}
use lib.Seq.{take-append_seam, append_snoc, set-append_seam, get_or-set_same, get_or-set_other, ext_get_or}
use Rattle.laws.proofs.Tabulate.{tabulate_length, tabulate_at, tabulate_replicate}
use Rattle.table.specs.declared.Shape.{Shape}
use Rattle.table.specs.Layout.{most_states}
use Rattle.reach.specs.Order.{place_in, meet}
use Rattle.reach.specs.declared.Reached.{Reached}
use Rattle.reach.specs.Reached.{number_in, order_words, number_words, reached_as, reached_of, reached_into, Distinct, Keeps, Kept}
use Rattle.reach.proofs.Places.{place_bound, place_kept, place_behind, place_last}
use Rattle.reach.proofs.Meeting.{longer, none_distinct, distinct_few, distinct_room, meet_new}

-- ---- The number of a state

module _ (order : List ℕ) (state : ℕ) where
  pub number_listed : place_in order state < length order → number_in order state ≡ suc (place_in order state)
  number_listed h = rw (lt-ltb _ _ h)

  pub number_none : place_in order state ≡ length order → number_in order state ≡ 0
  number_none e = rw (le-ltb (place_in order state) (length order) (omega arith))

  -- A state without a number isn't in the list.
  pub none_fresh : number_in order state ≡ 0 → place_in order state ≡ length order
  none_fresh e = by (dec_lt (place_in order state) (length order))
    where
      by : Dec (place_in order state < length order) → place_in order state ≡ length order
      by (yes h) = absurd (omega (arith, e, number_listed h))
      by (no n) = omega (arith, place_bound state order)

  pub some_listed : (number_in order state ≡ 0 → ⊥) → place_in order state < length order
  some_listed other = by (dec_lt (place_in order state) (length order))
    where
      by : Dec (place_in order state < length order) → place_in order state < length order
      by (yes h) = h
      by (no n) = absurd (other (number_none (omega (arith, place_bound state order))))

-- One state more gives a number to that state alone.
module _ (order : List ℕ) (new state : ℕ) where
  number_kept : (state ≡ new → ⊥) → number_in (order ++ (new ∷ [])) state ≡ number_in order state
  number_kept other = by (dec_lt (place_in order state) (length order))
    where
      by : Dec (place_in order state < length order) → number_in (order ++ (new ∷ [])) state ≡ number_in order state
      by (yes h) =
          let kept = place_kept state order (new ∷ []) h in
          number_listed (order ++ (new ∷ [])) state (omega (arith, kept, longer order new)) ∙ ap suc kept ∙ sym (number_listed order state h)
      by (no n) =
          let none : place_in order state ≡ length order = omega (arith, place_bound state order) in
          let alone : place_in (new ∷ []) state ≡ 1 = rw (ne_eqb new state (λ e. other (sym e))) in
          number_none (order ++ (new ∷ [])) state (omega (arith, place_behind state order (new ∷ []) none, alone, longer order new)) ∙ sym (number_none order state none)

-- ---- The arrays

module _ (order : List ℕ) where
  pub order_words_take : take (length order) (order_words order) ≡ order
  unfolding order_words
  order_words_take = take-append_seam order (replicate (most_states - length order) 0)

  pub order_words_length : length order ≤ most_states → length (order_words order) ≡ most_states
  unfolding order_words
  order_words_length few = omega (arith, length-append order (replicate (most_states - length order) 0), length-replicate (most_states - length order) (zero))

  pub order_words_at : (place : ℕ) → place < length order → get_or (order_words order) place 0 ≡ get_or order place 0
  unfolding order_words
  order_words_at place h = get_or-append order (replicate (most_states - length order) 0) 0 place h

  pub number_words_length : length (number_words order) ≡ most_states
  unfolding number_words
  number_words_length = tabulate_length most_states (number_in order)

  pub number_words_at : (state : ℕ) → state < most_states → get_or (number_words order) state 0 ≡ number_in order state
  unfolding number_words
  number_words_at state h = tabulate_at most_states (number_in order) 0 state h

-- One state more.
module _ (order : List ℕ) (state : ℕ) where
  pub order_words_more : length order < most_states → set (order_words order) (length order) state ≡ order_words (order ++ (state ∷ []))
  unfolding order_words
  order_words_more h =
      let left : ℕ = most_states - length (order ++ (state ∷ [])) in
      let one : most_states - length order ≡ suc left = omega (arith, longer order state) in
      ap (λ (k : ℕ). set (order ++ replicate k 0) (length order) state) one ∙ set-append_seam order 0 (replicate left 0) state ∙ sym (append_snoc order state (replicate left 0))

  pub number_words_more : place_in order state ≡ length order → state < most_states → set (number_words order) state (length order + 1) ≡ number_words (order ++ (state ∷ []))
  number_words_more fresh small =
      let long = length-set (number_words order) state (length order + 1) ∙ number_words_length order in
      ext_get_or 0 (set (number_words order) state (length order + 1)) (number_words (order ++ (state ∷ []))) (long ∙ sym (number_words_length (order ++ (state ∷ []))))
      (λ k h. let b : k < most_states = omega (arith, h, long) in by k b (ℕ_discrete k state) ∙ sym (number_words_at (order ++ (state ∷ [])) k b))
    where
      by : (k : ℕ) → k < most_states → Dec (k ≡ state) → get_or (set (number_words order) state (length order + 1)) k 0 ≡ number_in (order ++ (state ∷ [])) k
      by k b (yes e) =
          let last = place_last state order fresh in
          let one : length order + 1 ≡ suc (length order) = omega arith in
          rw e (get_or-set_same (number_words order) state (length order + 1) 0 (omega (arith, number_words_length order)) ∙ one ∙ ap suc (sym last) ∙ sym (number_listed (order ++ (state ∷ [])) state (omega (arith, last, longer order state))))
      by k b (no n) = get_or-set_other (number_words order) state k (length order + 1) 0 n ∙ number_words_at order k b ∙ sym (number_kept order state k n)

-- ---- Arrays that keep a list

module _ {list order number : List ℕ} {count : ℕ} (keeps : Keeps list order number count) where
  pub list_kept : take count order ≡ list
  list_kept = rw (keeps.order_is, keeps.count_is) (order_words_take list)

  pub keeps_kept : Distinct list → Kept order number count
  keeps_kept distinct = record { distinct = subst Distinct (sym list_kept) distinct; keeps = subst (λ x. Keeps x order number count) (sym list_kept) keeps }

  pub keeps_same : {other : List ℕ} → other ≡ list → Keeps other order number count
  keeps_same e = subst (λ x. Keeps x order number count) (sym e) keeps

-- As one value.
pub keeps_reached : {list order number : List ℕ} {count : ℕ} → Keeps list order number count → ◌≡◌ {A = Reached} (record { order = order; number = number; count = count }) (reached_as list)
keeps_reached keeps = rw (keeps.order_is, keeps.number_is, keeps.count_is)

-- What can be read of arrays that keep a list without a state twice.
module _ {order number : List ℕ} {count : ℕ} (kept : Kept order number count) where
  abbrev list : List ℕ
  list = take count order

  pub kept_few : count ≤ most_states
  kept_few = omega (arith, kept.keeps.count_is, distinct_few most_states list kept.distinct.small kept.distinct.once)

  pub kept_order_long : length order ≡ most_states
  kept_order_long = ap length kept.keeps.order_is ∙ order_words_length list (omega (arith, kept.keeps.count_is, kept_few))

  pub kept_number_long : length number ≡ most_states
  kept_number_long = ap length kept.keeps.number_is ∙ number_words_length list

  module _ (state : ℕ) (small : state < most_states) where
    pub kept_number : get_or number state 0 ≡ number_in list state
    kept_number = ap (λ (l : List ℕ). get_or l state 0) kept.keeps.number_is ∙ number_words_at list state small

    module _ (none : get_or number state 0 ≡ 0) where
      fresh : place_in list state ≡ length list
      fresh = none_fresh list state (sym kept_number ∙ none)

      pub kept_room : count < most_states
      kept_room = omega (arith, kept.keeps.count_is, distinct_room list state kept.distinct fresh small)

      -- A state without a number is put at the end, and gets the next number.
      pub kept_more : Keeps (meet list state) (set order count state) (set number state (count + 1)) (count + 1)
      kept_more =
          let e = kept.keeps.count_is in
          let room : length list < most_states = omega (arith, e, kept_room) in
          subst (λ x. Keeps x (set order count state) (set number state (count + 1)) (count + 1)) (sym (meet_new list state fresh small))
          (record {
            order_is = cong_set order (order_words list) count (length list) state kept.keeps.order_is e ∙ order_words_more list state room;
            number_is = ap (λ (l : List ℕ). set l state (count + 1)) kept.keeps.number_is ∙ ap (λ (k : ℕ). set (number_words list) state (k + 1)) e ∙ number_words_more list state fresh small;
            count_is = ap (λ (k : ℕ). k + 1) e ∙ sym (longer list state);
          })
        where
          cong_set : (xs ys : List ℕ) (i j v : ℕ) → xs ≡ ys → i ≡ j → set xs i v ≡ set ys j v
          cong_set xs ys i j v p q = rw (p, q)

-- Arrays of 0 keep the empty list.
pub none_kept : Kept (replicate most_states 0) (replicate most_states 0) 0
unfolding order_words number_words
none_kept = record { distinct = none_distinct; keeps = record { order_is = refl; number_is = tabulate_replicate most_states 0; count_is = refl } }

pub cleared_kept : {order number : List ℕ} (long also : ℕ) → order ≡ replicate long 0 → number ≡ replicate also 0 → long ≡ most_states → also ≡ most_states → Kept order number 0
cleared_kept {order} {number} long also e f k l =
    let zero_order : order ≡ replicate most_states 0 = e ∙ ap (λ (n : ℕ). replicate n 0) k in
    let zero_number : number ≡ replicate most_states 0 = f ∙ ap (λ (n : ℕ). replicate n 0) l in
    subst (λ x. Kept x number 0) (sym zero_order) (subst (λ x. Kept (replicate most_states 0) x 0) (sym zero_number) none_kept)

-- What a search into lent arrays comes to: they stay as they were if one has another length, and are filled otherwise.
module _ (file : List ℕ) (shape : Shape) (order number : List ℕ) where
  pub into_other_order : (length order ≡ most_states → ⊥) → reached_into file shape order number ≡ record { order = order; number = number; count = 0 }
  unfolding reached_into
  into_other_order other = simp (ne_eqb _ _ other)

  pub into_other_number : (length number ≡ most_states → ⊥) → reached_into file shape order number ≡ record { order = order; number = number; count = 0 }
  unfolding reached_into
  into_other_number other = simp (ne_eqb _ _ other, and-false)

  pub into_both : length order ≡ most_states → length number ≡ most_states → reached_into file shape order number ≡ reached_of file shape
  unfolding reached_into
  into_both long also = simp (eq-eqb _ _ long, eq-eqb _ _ also)
