-- A state is met: what the list is then, and that it keeps its states apart.
use mathlib.Core.Path.{◌≡◌, sym, ap, subst, ◌∙◌}
use mathlib.Core.List.{List, [], ◌∷◌, ◌++◌}
use Prim.Native.Nat.{ℕ, ◌+◌, ◌<◌, ◌≤◌}
use native.Mathlib.Decide.{dec_lt}
use native.Mathlib.Omega.{arith}
use borrow.Author.Tests.{lt-ltb, le-ltb, le-leb, lt-leb}
use lib.ListN.{length, get_or, length-append, get_or-append}
use lib.Seq.{get_or-append_seam}
use Rattle.table.specs.Layout.{most_states}
use Rattle.reach.specs.Order.{place_in, meet}
use Rattle.reach.specs.Reached.{Distinct}
use Rattle.reach.proofs.AtMost.{at_most}
use Rattle.reach.proofs.Places.{place_bound, place_kept, place_last}

-- ---- One state more

module _ (order : List ℕ) (state : ℕ) where
  pub longer : length (order ++ (state ∷ [])) ≡ length order + 1
  longer = length-append order (state ∷ [])

  -- Every place of the list is kept, and the last one is the state's.
  pub each_place : (P : ℕ → ℕ → Type 0) → ((place : ℕ) → place < length order → P place (get_or order place 0)) → P (length order) state
      → (place : ℕ) → place < length (order ++ (state ∷ [])) → P place (get_or (order ++ (state ∷ [])) place 0)
  each_place P before last place h = by (dec_lt place (length order))
    where
      by : Dec (place < length order) → P place (get_or (order ++ (state ∷ [])) place 0)
      by (yes l) = subst (P place) (sym (get_or-append order (state ∷ []) 0 place l)) (before place l)
      by (no n) =
          let here : length order ≡ place = omega (arith, longer) in
          subst (λ k. P k (get_or (order ++ (state ∷ [])) k 0)) here (subst (P (length order)) (sym (get_or-append_seam order state [] 0)) last)

-- ---- A state that is met

-- The ways to meet a state: it is in the list already, it is no state of any table, or it is put at the end.
pub data Meeting (order : List ℕ) (state : ℕ) : Type 0 where
  known : place_in order state < length order → meet order state ≡ order → Meeting order state
  no_state : most_states ≤ state → meet order state ≡ order → Meeting order state
  new : place_in order state ≡ length order → state < most_states → meet order state ≡ order ++ (state ∷ []) → Meeting order state

pub meeting : (order : List ℕ) (state : ℕ) → Meeting order state
unfolding meet
meeting order state = by (dec_lt (place_in order state) (length order)) (dec_lt state most_states)
  where
    by : Dec (place_in order state < length order) → Dec (state < most_states) → Meeting order state
    by (yes h) small = known h (simp (lt-ltb _ _ h))
    by (no n) (yes small) = new (omega (arith, place_bound state order)) small (simp (le-ltb (place_in order state) (length order) (omega arith), lt-leb _ _ small))
    by (no n) (no large) = no_state (omega arith) (simp (le-ltb (place_in order state) (length order) (omega arith), le-leb most_states state (omega arith)))

-- ---- Lists that keep their states apart

pub none_distinct : Distinct []
none_distinct = record { small = λ place h. absurd (omega arith); once = λ place h. absurd (omega arith) }

-- There are at most as many as states.
pub distinct_few : (bound : ℕ) (order : List ℕ) → ((place : ℕ) → place < length order → get_or order place 0 < bound)
    → ((place : ℕ) → place < length order → place_in order (get_or order place 0) ≡ place) → length order ≤ bound
distinct_few bound order small once =
    at_most bound (length order) (λ place. get_or order place 0)
    (record { small = small; apart = λ i j h l e. sym (once i h) ∙ ap (place_in order) e ∙ once j l })

pub distinct_more : (order : List ℕ) (state : ℕ) → Distinct order → place_in order state ≡ length order → state < most_states → Distinct (order ++ (state ∷ []))
distinct_more order state distinct fresh small =
    record {
      small = each_place order state (λ _ q. q < most_states) distinct.small small;
      once = each_place order state (λ place q. place_in (order ++ (state ∷ [])) q ≡ place) (λ place h. let at = distinct.once place h in place_kept (get_or order place 0) order (state ∷ []) (omega (arith, at)) ∙ at) (place_last state order fresh);
    }

-- There is room for one more.
pub distinct_room : (order : List ℕ) (state : ℕ) → Distinct order → place_in order state ≡ length order → state < most_states → length order < most_states
distinct_room order state distinct fresh small =
    let all = distinct_more order state distinct fresh small in
    omega (arith, distinct_few most_states (order ++ (state ∷ [])) all.small all.once, longer order state)

pub meet_distinct : (order : List ℕ) (state : ℕ) → Distinct order → Distinct (meet order state)
meet_distinct order state distinct = by (meeting order state)
  where
    by : Meeting order state → Distinct (meet order state)
    by (known _ e) = subst Distinct (sym e) distinct
    by (no_state _ e) = subst Distinct (sym e) distinct
    by (new fresh small e) = subst Distinct (sym e) (distinct_more order state distinct fresh small)

-- A number that is no state of any table changes nothing, nor does a state of the list; another one is put at the end.
module _ (order : List ℕ) (state : ℕ) where
  pub meet_no_state : most_states ≤ state → meet order state ≡ order
  meet_no_state large = by (meeting order state)
    where
      by : Meeting order state → meet order state ≡ order
      by (known _ e) = e
      by (no_state _ e) = e
      by (new _ small _) = absurd (omega arith)

  pub meet_known : place_in order state < length order → meet order state ≡ order
  meet_known h = by (meeting order state)
    where
      by : Meeting order state → meet order state ≡ order
      by (known _ e) = e
      by (no_state _ e) = e
      by (new fresh _ _) = absurd (omega arith)

  pub meet_new : place_in order state ≡ length order → state < most_states → meet order state ≡ order ++ (state ∷ [])
  meet_new fresh small = by (meeting order state)
    where
      by : Meeting order state → meet order state ≡ order ++ (state ∷ [])
      by (known h _) = absurd (omega arith)
      by (no_state large _) = absurd (omega arith)
      by (new _ _ e) = e
