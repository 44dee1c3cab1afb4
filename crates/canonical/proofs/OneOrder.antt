-- Two tables that are the same object are searched in step: the order of one, renumbered, is the order of the other.
use mathlib.Core.Path.{◌≡◌, refl, sym, ap, subst, ◌∙◌}
use mathlib.Core.Bool.{cond}
use mathlib.Core.List.{List, [], ◌∷◌, map, map-append}
use Prim.Native.Nat.{ℕ, zero, suc, ◌<◌, ◌≤◌}
use native.Mathlib.Decide.{dec_lt, ℕ_discrete}
use native.Mathlib.Omega.{arith}
use borrow.Author.Tests.{eq-eqb, ne_eqb}
use lib.Dec.{eqb}
use lib.ListN.{length, get_or, length-map}
use Rattle.table.specs.File.{shape_of}
use Rattle.table.specs.Layout.{most_states}
use Rattle.reach.specs.Order.{place_in, meet, meet_next, turn, turns, order_of}
use Rattle.reach.proofs.Meeting.{Meeting, known, no_state, new, meeting, meet_known, meet_new, each_place}
use Rattle.reach.proofs.Search.{Closed, start_reached, next_reached}
use Rattle.reach.proofs.Turns.{meet_next_zero, meet_next_suc, turn_taken, turn_past, turns_zero, turns_suc, order_is}
use Rattle.reach.proofs.Ordered.{reachable_below}
use Rattle.canonical.specs.Same.{operations_of, start_state_of, next_in, ReachableIn, Same}

-- ---- Lists renumbered

module _ (f : ℕ → ℕ) where
  pub map_at : (xs : List ℕ) (i : ℕ) → i < length xs → get_or (map f xs) i 0 ≡ f (get_or xs i 0)
  map_at [] i h = absurd (omega arith)
  map_at (x ∷ xs) zero h = refl
  map_at (x ∷ xs) (suc i) h = map_at xs i (omega arith)

  -- Where no other state of the list gets its number, a state keeps its place.
  map_place : (xs : List ℕ) (q : ℕ) → ((i : ℕ) → i < length xs → f (get_or xs i 0) ≡ f q → get_or xs i 0 ≡ q) → place_in (map f xs) (f q) ≡ place_in xs q
  map_place [] q apart = refl
  map_place (x ∷ xs) q apart = by (ℕ_discrete x q) (map_place xs q (λ i h. apart (suc i) (omega arith)))
    where
      by : Dec (x ≡ q) → place_in (map f xs) (f q) ≡ place_in xs q → cond (eqb (f x) (f q)) 0 (suc (place_in (map f xs) (f q))) ≡ cond (eqb x q) 0 (suc (place_in xs q))
      by (yes e) _ = rw (eq-eqb (f x) (f q) (ap f e), eq-eqb x q e)
      by (no n) later = rw (ne_eqb (f x) (f q) (λ e. n (apart 0 (omega arith) e)), ne_eqb x q n, later)

-- ---- In step

module _ {one other : List ℕ} (closed : Closed one (shape_of one)) (other_closed : Closed other (shape_of other)) (s : Same one other) where
  -- All states of a list can be reached.
  abbrev AllReached : List ℕ → Type 0
  AllReached list = (i : ℕ) → i < length list → ReachableIn one (get_or list i 0)

  pub place_same : (list : List ℕ) (q : ℕ) → AllReached list → ReachableIn one q → place_in (map s.to list) (s.to q) ≡ place_in list q
  place_same list q all r = map_place s.to list q (λ i h e. sym (s.from_to (get_or list i 0) (all i h)) ∙ ap s.from e ∙ s.from_to q r)

  meet_same : (list : List ℕ) (q : ℕ) → AllReached list → ReachableIn one q → map s.to (meet list q) ≡ meet (map s.to list) (s.to q)
  meet_same list q all r = by (meeting list q)
    where
      by : Meeting list q → map s.to (meet list q) ≡ meet (map s.to list) (s.to q)
      by (known h e) = ap (map s.to) e ∙ sym (meet_known (map s.to list) (s.to q) (omega (arith, h, place_same list q all r, length-map list s.to)))
      by (no_state large e) = absurd (omega (arith, large, reachable_below one (shape_of one) closed q r, closed.few))
      by (new fresh _ e) =
          ap (map s.to) e ∙ map-append s.to list (q ∷ [])
          ∙ sym (meet_new (map s.to list) (s.to q) (place_same list q all r ∙ fresh ∙ sym (length-map list s.to)) (omega (arith, reachable_below other (shape_of other) other_closed (s.to q) (s.reached q r), other_closed.few)))

  meet_reached : (list : List ℕ) (q : ℕ) → AllReached list → ReachableIn one q → AllReached (meet list q)
  meet_reached list q all r = by (meeting list q)
    where
      by : Meeting list q → AllReached (meet list q)
      by (known _ e) = subst AllReached (sym e) all
      by (no_state _ e) = subst AllReached (sym e) all
      by (new _ _ e) = subst AllReached (sym e) (each_place list q (λ _ x. ReachableIn one x) all r)

  -- One list renumbered is the other, and all its states can be reached.
  pub record InStep (list renumbered : List ℕ) : Type 0 where
    pub all : AllReached list
    pub same : map s.to list ≡ renumbered

  next_in_step : (state operation : ℕ) {list renumbered : List ℕ} → ReachableIn one state → operation ≤ operations_of one → InStep list renumbered
      → InStep (meet_next one (shape_of one) state operation list) (meet_next other (shape_of other) (s.to state) operation renumbered)
  next_in_step state zero {list} {renumbered} r l step =
      record {
        all = subst AllReached (sym (meet_next_zero one (shape_of one) state list)) step.all;
        same = ap (map s.to) (meet_next_zero one (shape_of one) state list) ∙ step.same ∙ sym (meet_next_zero other (shape_of other) (s.to state) renumbered);
      }
  next_in_step state (suc operation) {list} {renumbered} r l step =
      let before = next_in_step state operation r (omega arith) step in
      let met : List ℕ = meet_next one (shape_of one) state operation list in
      let next : ℕ = next_in one state operation in
      let known_next = next_reached one (shape_of one) state operation r l in
      let shown = meet_next_suc one (shape_of one) state operation list in
      record {
        all = subst AllReached (sym shown) (meet_reached met next before.all known_next);
        same =
            ap (map s.to) shown
            ∙ meet_same met next before.all known_next
            ∙ ap (λ (x : List ℕ). meet x (s.to next)) before.same
            ∙ ap (meet (meet_next other (shape_of other) (s.to state) operation renumbered)) (s.next state operation r l)
            ∙ sym (meet_next_suc other (shape_of other) (s.to state) operation renumbered);
      }

  turn_in_step : (list : List ℕ) (place : ℕ) → AllReached list → InStep (turn one (shape_of one) list place) (turn other (shape_of other) (map s.to list) place)
  turn_in_step list place all = by (dec_lt place (length list))
    where
      by : Dec (place < length list) → InStep (turn one (shape_of one) list place) (turn other (shape_of other) (map s.to list) place)
      by (yes h) =
          let state : ℕ = get_or list place 0 in
          let step = next_in_step state (operations_of one) {list = list} {renumbered = map s.to list} (all place h) (omega arith) (record { all = all; same = refl }) in
          let shown = turn_taken one (shape_of one) list place h in
          record {
            all = subst AllReached (sym shown) step.all;
            same =
                ap (map s.to) shown ∙ step.same
                ∙ ap (λ (k : ℕ). meet_next other (shape_of other) (s.to state) k (map s.to list)) s.operations
                ∙ ap (λ (q : ℕ). meet_next other (shape_of other) q (operations_of other) (map s.to list)) (sym (map_at s.to list place h))
                ∙ sym (turn_taken other (shape_of other) (map s.to list) place (omega (arith, h, length-map list s.to)));
          }
      by (no n) =
          let shown = turn_past one (shape_of one) list place (omega arith) in
          record {
            all = subst AllReached (sym shown) all;
            same = ap (map s.to) shown ∙ sym (turn_past other (shape_of other) (map s.to list) place (omega (arith, length-map list s.to)));
          }

  turns_in_step : (place : ℕ) → InStep (turns one (shape_of one) place) (turns other (shape_of other) place)
  turns_in_step zero =
      let r = start_reached one (shape_of one) in
      let nothing : AllReached [] = λ i h. absurd (omega arith) in
      record {
        all = subst AllReached (sym (turns_zero one (shape_of one))) (meet_reached [] (start_state_of one) nothing r);
        same = ap (map s.to) (turns_zero one (shape_of one)) ∙ meet_same [] (start_state_of one) nothing r ∙ ap (meet []) s.start ∙ sym (turns_zero other (shape_of other));
      }
  turns_in_step (suc place) =
      let before = turns_in_step place in
      let list : List ℕ = turns one (shape_of one) place in
      let step = turn_in_step list place before.all in
      let shown = turns_suc one (shape_of one) place in
      record {
        all = subst AllReached (sym shown) step.all;
        same = ap (map s.to) shown ∙ step.same ∙ ap (λ (x : List ℕ). turn other (shape_of other) x place) before.same ∙ sym (turns_suc other (shape_of other) place);
      }

  pub order_in_step : InStep (order_of one (shape_of one)) (order_of other (shape_of other))
  order_in_step =
      let step = turns_in_step most_states in
      record {
        all = subst AllReached (sym (order_is one (shape_of one))) step.all;
        same = ap (map s.to) (order_is one (shape_of one)) ∙ step.same ∙ sym (order_is other (shape_of other));
      }
