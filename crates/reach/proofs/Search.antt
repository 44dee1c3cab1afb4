-- The search turn by turn: what holds of the list when all entries before a place and an operation have been looked at.
use mathlib.Core.Path.{◌≡◌, refl, sym, ap, subst, ◌∙◌}
use mathlib.Core.Logic.{inl, inr}
use mathlib.Core.List.{List, [], ◌∷◌, ◌++◌}
use Prim.Native.Nat.{ℕ, suc, ◌<◌, ◌≤◌}
use native.Mathlib.Decide.{ℕ_discrete}
use native.Mathlib.Omega.{arith}
use lib.ListN.{length, get_or, get_or-append}
use lib.Seq.{get_or-append_seam}
use Rattle.table.specs.declared.Shape.{Shape}
use Rattle.table.specs.Layout.{most_states}
use Rattle.table.specs.Statement.{AllInRange}
use Rattle.reach.specs.Walk.{next_of, walk, AllBelow, none, more, Reachable}
use Rattle.reach.specs.Order.{place_in, meet}
use Rattle.reach.specs.Statement.{Before, MetFirst}
use Rattle.reach.proofs.Places.{place_holds, place_kept, place_last}
use Rattle.reach.proofs.Meeting.{Meeting, known, no_state, new, meeting, longer, each_place}

-- What the search needs of a table: its operations lead from its states to its states.
pub record Closed (file : List ℕ) (shape : Shape) : Type 0 where
  pub few : shape.states ≤ most_states
  pub start_below : shape.start < shape.states
  pub next_below : AllInRange file shape

module _ (file : List ℕ) (shape : Shape) where
  -- A walk goes on by one operation.
  pub walk_more : (state : ℕ) (by : List ℕ) (operation : ℕ) → walk file shape state (by ++ (operation ∷ [])) ≡ next_of file shape (walk file shape state by) operation
  walk_more state [] operation = refl
  walk_more state (first ∷ rest) operation = walk_more (next_of file shape state first) rest operation

  below_more : {by : List ℕ} {operation : ℕ} → AllBelow shape.operations by → operation < shape.operations → AllBelow shape.operations (by ++ (operation ∷ []))
  below_more none h = more h none
  below_more (more l rest) h = more l (below_more rest h)

  -- The start state can be reached, and what follows a state that can be reached.
  pub start_reached : Reachable file shape shape.start
  start_reached = record { by = []; known = none; arrives = refl }

  pub next_reached : (state operation : ℕ) → Reachable file shape state → operation < shape.operations → Reachable file shape (next_of file shape state operation)
  next_reached state operation r h =
      record {
        by = r.by ++ (operation ∷ []);
        known = below_more r.known h;
        arrives = walk_more shape.start r.by operation ∙ ap (λ (q : ℕ). next_of file shape q operation) r.arrives;
      }

  -- All entries before that of a place and an operation have been looked at.
  pub record Searched (order : List ℕ) (place operation : ℕ) : Type 0 where
    pub some : 0 < length order
    pub start : get_or order 0 0 ≡ shape.start
    pub within : (i : ℕ) → i < length order → get_or order i 0 < shape.states
    pub once : (i : ℕ) → i < length order → place_in order (get_or order i 0) ≡ i
    pub reached : (i : ℕ) → i < length order → Reachable file shape (get_or order i 0)
    pub passed : (i o : ℕ) → Before i o place operation → i < length order → o < shape.operations → place_in order (next_of file shape (get_or order i 0) o) < length order
    pub met : (i : ℕ) → 0 < i → i < length order → MetFirst file shape order i

  -- What was passed may be said of another place and operation with the same entries before it.
  pub searched_at : {order : List ℕ} {place operation : ℕ} (p o : ℕ) → Searched order place operation
      → ((i k : ℕ) → Before i k p o → i < length order → k < shape.operations → place_in order (next_of file shape (get_or order i 0) k) < length order) → Searched order p o
  searched_at p o s passed =
      record { some = s.some; start = s.start; within = s.within; once = s.once; reached = s.reached; passed = passed; met = s.met }

  module _ (order : List ℕ) (state : ℕ) where
    kept : (i : ℕ) → i < length order → get_or (order ++ (state ∷ [])) i 0 ≡ get_or order i 0
    kept i h = get_or-append order (state ∷ []) 0 i h

    -- What was met first in the list is so in a longer one.
    met_kept : (i : ℕ) → i < length order → MetFirst file shape order i → MetFirst file shape (order ++ (state ∷ [])) i
    met_kept i h m =
        let from_below : m.from < i = m.from_before in
        record {
          from = m.from;
          operation = m.operation;
          from_before = m.from_before;
          known = m.known;
          leads = ap (λ (q : ℕ). next_of file shape q m.operation) (kept m.from (omega arith)) ∙ m.leads ∙ sym (kept i h);
          first = λ j o b l.
              let found = m.first j o b l in
              let lower_below : found.0 < i = found.1 in
              (found.0, found.1, kept found.0 (omega arith) ∙ found.2 ∙ ap (λ (q : ℕ). next_of file shape q o) (sym (kept j (omega (arith, earlier b)))));
        }
      where
        earlier : {j o p k : ℕ} → Before j o p k → j ≤ p
        earlier (inl h) = omega arith
        earlier (inr (e, _)) = omega arith

  -- ---- One entry more

  module _ (closed : Closed file shape) (order : List ℕ) (place operation : ℕ) (s : Searched order place operation) (here : place < length order) (l : operation < shape.operations) where
    abbrev next : ℕ
    next = next_of file shape (get_or order place 0) operation

    next_small : next < shape.states
    next_small = closed.next_below (get_or order place 0) operation (s.within place here) l

    -- An entry before the next one is an earlier one or this one.
    split : (P : ℕ → ℕ → Type 0) → ((i o : ℕ) → Before i o place operation → P i o) → P place operation → (i o : ℕ) → Before i o place (suc operation) → P i o
    split P earlier this i o (inl h) = earlier i o (inl h)
    split P earlier this i o (inr (e, h)) = by (ℕ_discrete operation o)
      where
        by : Dec (operation ≡ o) → P i o
        by (yes same) = subst (λ k. P k o) (sym e) (subst (P place) same this)
        by (no other) = earlier i o (inr (e, omega arith))

    before_here : {i o : ℕ} → Before i o place operation → i < length order
    before_here (inl h) = omega arith
    before_here (inr (e, _)) = omega arith

    known_searched : place_in order next < length order → Searched order place (suc operation)
    known_searched h =
        searched_at place (suc operation) s
        (split (λ i o. i < length order → o < shape.operations → place_in order (next_of file shape (get_or order i 0) o) < length order) s.passed (λ _ _. h))

    module _ (fresh : place_in order next ≡ length order) where
      abbrev more_order : List ℕ
      more_order = order ++ (next ∷ [])

      -- It is met first by this entry.
      new_met : MetFirst file shape more_order (length order)
      new_met =
          record {
            from = place;
            operation = operation;
            from_before = here;
            known = l;
            leads = ap (λ (q : ℕ). next_of file shape q operation) (kept order next place here) ∙ sym (get_or-append_seam order next [] 0);
            first = λ i o b k. earlier i o b k (before_here b);
          }
        where
          earlier : (i o : ℕ) → Before i o place operation → o < shape.operations → i < length order
              → (lower : ℕ) × (lower < length order) × (get_or more_order lower 0 ≡ next_of file shape (get_or more_order i 0) o)
          earlier i o b k h =
              let q : ℕ = next_of file shape (get_or order i 0) o in
              let below = s.passed i o b h k in
              (place_in order q, below, kept order next (place_in order q) below ∙ place_holds q order below ∙ ap (λ (x : ℕ). next_of file shape x o) (sym (kept order next i h)))

      -- What was passed is in the longer list, and so is this state.
      new_passed : (i o : ℕ) → Before i o place (suc operation) → i < length more_order → o < shape.operations → place_in more_order (next_of file shape (get_or more_order i 0) o) < length more_order
      new_passed i o b _ k =
          split (λ i o. o < shape.operations → place_in more_order (next_of file shape (get_or more_order i 0) o) < length more_order)
          (λ i o b k. earlier i o (s.passed i o b (before_here b) k) (before_here b))
          (λ _. rw (kept order next place here, place_last next order fresh) (omega (arith, longer order next)))
          i o b k
        where
          earlier : (i o : ℕ) → place_in order (next_of file shape (get_or order i 0) o) < length order → i < length order → place_in more_order (next_of file shape (get_or more_order i 0) o) < length more_order
          earlier i o below h = rw (kept order next i h, place_kept (next_of file shape (get_or order i 0) o) order (next ∷ []) below) (omega (arith, longer order next))

      new_searched : Searched more_order place (suc operation)
      new_searched =
          record {
            some = omega (arith, longer order next);
            start = kept order next 0 s.some ∙ s.start;
            within = each_place order next (λ _ q. q < shape.states) s.within next_small;
            once = each_place order next (λ i q. place_in more_order q ≡ i) (λ i h. let at = s.once i h in place_kept (get_or order i 0) order (next ∷ []) (omega (arith, at)) ∙ at) (place_last next order fresh);
            reached = each_place order next (λ _ q. Reachable file shape q) s.reached (next_reached _ operation (s.reached place here) l);
            passed = new_passed;
            met = λ i h b. each_place order next (λ i _. 0 < i → MetFirst file shape more_order i) (λ i b h. met_kept order next i b (s.met i h b)) (λ _. new_met) i b h;
          }

    pub meet_searched : Searched (meet order next) place (suc operation)
    meet_searched = by (meeting order next)
      where
        by : Meeting order next → Searched (meet order next) place (suc operation)
        by (known h e) = subst (λ x. Searched x place (suc operation)) (sym e) (known_searched h)
        by (no_state large e) = absurd (omega (arith, next_small, closed.few))
        by (new fresh _ e) = subst (λ x. Searched x place (suc operation)) (sym e) (new_searched fresh)

    pub meet_keeps : (i : ℕ) → i < length order → (i < length (meet order next)) × (get_or (meet order next) i 0 ≡ get_or order i 0)
    meet_keeps i h = by (meeting order next)
      where
        Keeps : List ℕ → Type 0
        Keeps x = (i < length x) × (get_or x i 0 ≡ get_or order i 0)

        by : Meeting order next → Keeps (meet order next)
        by (known _ e) = subst Keeps (sym e) (h, refl)
        by (no_state _ e) = subst Keeps (sym e) (h, refl)
        by (new _ _ e) = subst Keeps (sym e) (omega (arith, longer order next), kept order next i h)
