-- What the arrays of the search say of an accepted table.
use Rattle.std.specs.Prelude.{Ok}
use mathlib.Core.Path.{◌≡◌, sym, ap, subst, ◌∙◌}
use mathlib.Core.Logic.{◌↔◌}
use mathlib.Core.List.{List}
use Prim.Native.Nat.{ℕ, ◌+◌, ◌<◌}
use native.Mathlib.Omega.{arith}
use lib.ListN.{length, get_or}
use Rattle.table.specs.declared.Shape.{Shape}
use Rattle.table.specs.Layout.{most_states}
use Rattle.table.specs.Check.{check_of}
use Rattle.reach.specs.Walk.{Reachable}
use Rattle.reach.specs.Order.{place_in, order_of}
use Rattle.reach.specs.Reached.{number_in, order_words, number_words, reached_of}
use Rattle.reach.specs.Statement.{FirstMeeting, Found, AcceptedFound}
use Rattle.reach.proofs.Places.{place_holds}
use Rattle.reach.proofs.Search.{Closed}
use Rattle.reach.proofs.Words.{order_words_take, order_words_at, number_words_at, number_listed, some_listed, into_both}
use Rattle.reach.proofs.Ordered.{accepted_closed, reachable_listed, listed_reachable, order_once, reachable_below, first_meeting}

module _ (file : List ℕ) (shape : Shape) (accepted : check_of file ≡ Ok shape) where
  abbrev list : List ℕ
  list = order_of file shape

  held : Closed file shape
  held = accepted_closed file shape accepted

  numbered : (state : ℕ) → state < most_states → (0 < get_or (number_words list) state 0) ↔ Reachable file shape state
  numbered state small =
      let at = number_words_at list state small in
      (λ h. subst (Reachable file shape) (place_holds state list (known h at)) (listed_reachable file shape held (place_in list state) (known h at)), λ r. let l = number_listed list state (reachable_listed file shape held state r) in omega (arith, at, l))
    where
      known : 0 < get_or (number_words list) state 0 → get_or (number_words list) state 0 ≡ number_in list state → place_in list state < length list
      known h at = some_listed list state (λ z. omega (arith, h, at, z))

  place_held : (place : ℕ) → place < length list → get_or (number_words list) (get_or (order_words list) place 0) 0 ≡ place + 1
  place_held place h =
      let state : ℕ = get_or list place 0 in
      let once = order_once file shape held place h in
      let small : state < most_states = omega (arith, reachable_below file shape held state (listed_reachable file shape held place h), held.few) in
      ap (λ (q : ℕ). get_or (number_words list) q 0) (order_words_at list place h) ∙ number_words_at list state small ∙ omega (arith, number_listed list state (omega (arith, once, h)), once)

  by_value : Found file shape (reached_of file shape)
  by_value =
      let front = order_words_take list in
      record {
        listed = subst (FirstMeeting file shape) (sym front) (first_meeting file shape held);
        long = ap length front;
        numbered = numbered;
        place = place_held;
      }

pub accepted_found : AcceptedFound
accepted_found file shape accepted =
    let found = by_value file shape accepted in
    (found, λ order number long also. subst (Found file shape) (sym (into_both file shape order number long also)) found)
