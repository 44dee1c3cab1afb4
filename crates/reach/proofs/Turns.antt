-- The turns of the states: after a turn for every place, every entry of a state in the list has been looked at.
use mathlib.Core.Path.{◌≡◌, refl, sym, ap, subst, ◌∙◌}
use mathlib.Core.Logic.{inl, inr}
use mathlib.Core.List.{List, [], ◌∷◌}
use Prim.Native.Nat.{ℕ, zero, suc, ◌+◌, ◌-◌, ◌<◌, ◌≤◌}
use native.Mathlib.Decide.{dec_lt}
use native.Mathlib.Omega.{arith}
use borrow.Author.Tests.{eq-eqb, lt-ltb, le-ltb, lt-leb}
use lib.ListN.{length, get_or}
use Rattle.table.specs.declared.Shape.{Shape}
use Rattle.table.specs.Layout.{most_states}
use Rattle.reach.specs.Walk.{next_of, Reachable}
use Rattle.reach.specs.Order.{place_in, meet, meet_next, turn, turns, order_of}
use Rattle.reach.specs.Statement.{Before}
use Rattle.reach.specs.Reached.{Distinct}
use Rattle.reach.proofs.Meeting.{none_distinct, distinct_few, meet_distinct}
use Rattle.reach.proofs.Search.{Closed, Searched, searched_at, start_reached, meet_searched, meet_keeps}

module _ (file : List ℕ) (shape : Shape) where
  -- ---- The definitions, step by step

  pub meet_next_zero : (state : ℕ) (order : List ℕ) → meet_next file shape state 0 order ≡ order
  unfolding meet_next
  meet_next_zero state order = refl

  pub meet_next_suc : (state operation : ℕ) (order : List ℕ) → meet_next file shape state (suc operation) order ≡ meet (meet_next file shape state operation order) (next_of file shape state operation)
  unfolding meet_next
  meet_next_suc state operation order = refl

  pub turn_taken : (order : List ℕ) (place : ℕ) → place < length order → turn file shape order place ≡ meet_next file shape (get_or order place 0) shape.operations order
  unfolding turn
  turn_taken order place h = simp (lt-ltb _ _ h)

  pub turn_past : (order : List ℕ) (place : ℕ) → length order ≤ place → turn file shape order place ≡ order
  unfolding turn
  turn_past order place h = simp (le-ltb place (length order) h)

  pub turns_zero : turns file shape 0 ≡ meet [] shape.start
  unfolding turns
  turns_zero = refl

  pub turns_suc : (place : ℕ) → turns file shape (suc place) ≡ turn file shape (turns file shape place) place
  unfolding turns
  turns_suc place = refl

  pub order_is : order_of file shape ≡ turns file shape most_states
  unfolding order_of
  order_is = refl

  -- ---- No state twice, whatever the table

  pub next_distinct : (state operation : ℕ) (order : List ℕ) → Distinct order → Distinct (meet_next file shape state operation order)
  next_distinct state zero order distinct = subst Distinct (sym (meet_next_zero state order)) distinct
  next_distinct state (suc operation) order distinct =
      subst Distinct (sym (meet_next_suc state operation order)) (meet_distinct (meet_next file shape state operation order) (next_of file shape state operation) (next_distinct state operation order distinct))

  turn_distinct : (order : List ℕ) (place : ℕ) → Distinct order → Distinct (turn file shape order place)
  turn_distinct order place distinct = by (dec_lt place (length order))
    where
      by : Dec (place < length order) → Distinct (turn file shape order place)
      by (yes h) = subst Distinct (sym (turn_taken order place h)) (next_distinct (get_or order place 0) shape.operations order distinct)
      by (no n) = subst Distinct (sym (turn_past order place (omega arith))) distinct

  pub turns_distinct : (place : ℕ) → Distinct (turns file shape place)
  turns_distinct zero = subst Distinct (sym turns_zero) (meet_distinct [] shape.start none_distinct)
  turns_distinct (suc place) = subst Distinct (sym (turns_suc place)) (turn_distinct (turns file shape place) place (turns_distinct place))

  pub order_distinct : Distinct (order_of file shape)
  order_distinct = subst Distinct (sym order_is) (turns_distinct _)

  -- Past the list's end no turn changes it.
  pub turns_past : (place more : ℕ) → length (turns file shape place) ≤ place → turns file shape (more + place) ≡ turns file shape place
  turns_past place zero h = ap (turns file shape) (omega arith)
  turns_past place (suc more) h =
      let before = turns_past place more h in
      let one : suc more + place ≡ suc (more + place) = omega arith in
      ap (turns file shape) one ∙ turns_suc (more + place) ∙ turn_past (turns file shape (more + place)) (more + place) (omega (arith, ap length before)) ∙ before

  pub order_past : (place : ℕ) → length (turns file shape place) ≤ place → place ≤ most_states → order_of file shape ≡ turns file shape place
  order_past place h few =
      let all : most_states ≡ most_states - place + place = omega arith in
      order_is ∙ ap (turns file shape) all ∙ turns_past place (most_states - place) h

  -- ---- What has been looked at

  module _ (closed : Closed file shape) where
    -- The list while the state at a place has its turn.
    record Turning (order : List ℕ) (place operation : ℕ) (list : List ℕ) : Type 0 where
      searched : Searched file shape list place operation
      here : place < length list
      same : get_or list place 0 ≡ get_or order place 0

    turning : (order : List ℕ) (place operation : ℕ) → Searched file shape order place 0 → place < length order → operation ≤ shape.operations
        → Turning order place operation (meet_next file shape (get_or order place 0) operation order)
    turning order place zero s h l = subst (Turning order place 0) (sym (meet_next_zero (get_or order place 0) order)) (record { searched = s; here = h; same = refl })
    turning order place (suc operation) s h l =
        let before = turning order place operation s h (omega arith) in
        let list : List ℕ = meet_next file shape (get_or order place 0) operation order in
        let keeps = meet_keeps file shape closed list place operation before.searched before.here l place before.here in
        let met : Turning order place (suc operation) (meet list (next_of file shape (get_or list place 0) operation)) = record { searched = meet_searched file shape closed list place operation before.searched before.here l; here = keeps.0; same = keeps.1 ∙ before.same } in
        subst (Turning order place (suc operation)) (ap (λ (q : ℕ). meet list (next_of file shape q operation)) before.same ∙ sym (meet_next_suc (get_or order place 0) operation order)) met

    -- After a turn all entries of its state have been looked at.
    turn_searched : (order : List ℕ) (place : ℕ) → Searched file shape order place 0 → Searched file shape (turn file shape order place) (suc place) 0
    turn_searched order place s = by (dec_lt place (length order))
      where
        by : Dec (place < length order) → Searched file shape (turn file shape order place) (suc place) 0
        by (yes h) =
            let after = (turning order place shape.operations s h (omega arith)).searched in
            subst (λ x. Searched file shape x (suc place) 0) (sym (turn_taken order place h)) (searched_at file shape (suc place) 0 after (λ i o b h k. after.passed i o (earlier b k) h k))
          where
            earlier : {i o : ℕ} → Before i o (suc place) 0 → o < shape.operations → Before i o place shape.operations
            earlier {i} {o} (inl h) k = or (dec_lt i place)
              where
                or : Dec (i < place) → Before i o place shape.operations
                or (yes l) = inl l
                or (no n) = inr (omega arith, k)
            earlier (inr (_, h)) k = absurd (omega arith)
        by (no n) =
            subst (λ x. Searched file shape x (suc place) 0) (sym (turn_past order place (omega arith))) (searched_at file shape (suc place) 0 s (λ i o _ h k. s.passed i o (inl (omega arith)) h k))

    -- At first the list has the start state alone.
    first_searched : Searched file shape (shape.start ∷ []) 0 0
    first_searched =
        record {
          some = omega arith;
          start = refl;
          within = λ i h. only (λ _ q. q < shape.states) closed.start_below i h;
          once = λ i h. only (λ i q. place_in (shape.start ∷ []) q ≡ i) (rw (eq-eqb shape.start shape.start refl)) i h;
          reached = λ i h. only (λ _ q. Reachable file shape q) (start_reached file shape) i h;
          passed = λ i o b. absurd (nothing b);
          met = λ i h l. absurd (omega arith);
        }
      where
        only : (P : ℕ → ℕ → Type 0) → P 0 shape.start → (i : ℕ) → i < 1 → P i (get_or (shape.start ∷ []) i 0)
        only P p zero h = p
        only P p (suc i) h = absurd (omega arith)

        nothing : {i o : ℕ} → Before i o 0 0 → ⊥
        nothing (inl h) = omega arith
        nothing (inr (_, h)) = omega arith

    start_met : meet [] shape.start ≡ shape.start ∷ []
    unfolding meet
    start_met = let small : shape.start < most_states = omega (arith, closed.start_below, closed.few) in simp (lt-leb _ _ small)

    turns_searched : (place : ℕ) → Searched file shape (turns file shape place) place 0
    turns_searched zero = subst (λ x. Searched file shape x 0 0) (sym (turns_zero ∙ start_met)) first_searched
    turns_searched (suc place) = subst (λ x. Searched file shape x (suc place) 0) (sym (turns_suc place)) (turn_searched (turns file shape place) place (turns_searched place))

    pub order_searched : Searched file shape (order_of file shape) most_states 0
    order_searched = subst (λ x. Searched file shape x most_states 0) (sym order_is) (turns_searched most_states)

    pub order_few : length (order_of file shape) ≤ shape.states
    order_few = distinct_few shape.states (order_of file shape) order_searched.within order_searched.once

    -- Every state that follows one of the list is in the list.
    pub order_closed : (place operation : ℕ) → place < length (order_of file shape) → operation < shape.operations
        → place_in (order_of file shape) (next_of file shape (get_or (order_of file shape) place 0) operation) < length (order_of file shape)
    order_closed place operation h l = order_searched.passed place operation (inl (omega (arith, order_few, closed.few))) h l
