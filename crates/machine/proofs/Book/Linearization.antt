-- Linearizability: the order of a kept book linearizes the history that it was kept along.
use mathlib.Core.Path.{◌≡◌, refl, sym, ◌∙◌, ap}
use mathlib.Core.List.{List, [], ◌∷◌, ◌++◌, append-nil, append_assoc}
use Prim.Native.Nat.{ℕ}
use native.Mathlib.Omega.{arith}
use lib.ListN.{length, length-append}
use Rattle.laws.proofs.Places.{at_bound, at_next}
use Rattle.machine.specs.Object.{Object}
use Rattle.machine.specs.Calls.{Event}
use Rattle.machine.specs.Book.{Book, blank, Kept, rest, then}
use Rattle.machine.specs.History.{Linearizes}
use Rattle.machine.proofs.Book.Agreement.{AgreesWithBook, blank_agrees, entries, booked}

-- A book that agrees with the first events of a history es agrees with all of it when it is kept along the rest.
agrees_along : (b : Object) (q : ℕ) (es : List Event) {n : ℕ} (first : List Event) {p : ℕ} {k k' : Book} {fs : List Event}
    → Kept b n p k fs k' → es ≡ first ++ fs → p ≡ length first → AgreesWithBook b q es p k → AgreesWithBook b q es (length es) k'
agrees_along b q es first rest e l g = rw (ap length e ∙ ap length (append-nil first) ∙ sym l) g
agrees_along b q es first (then {place = p} {e = v} {es = fs} s f) e l g =
    agrees_along b q es (first ++ (v ∷ [])) f (e ∙ sym (append_assoc first (v ∷ []) fs)) (omega (arith, l, length-append first (v ∷ [])))
    (booked b q es p s.between (entries b q es p s.entering g) s.booking (rw (e, l) (at_next first v fs)))

-- A kept book agrees with its history; so its state is the one that replay of its order leads to.
pub kept_agrees : (b : Object) (n q : ℕ) (es : List Event) (k : Book) → Kept b n 0 (blank q) es k → AgreesWithBook b q es (length es) k
kept_agrees b n q es k f = agrees_along b q es [] f refl refl (blank_agrees b q es)

-- The order of a kept book linearizes its history.
pub linearizable : (b : Object) (n q : ℕ) (es : List Event) (k : Book) → Kept b n 0 (blank q) es k → Linearizes b q es k.order
linearizable b n q es k f =
    let g = kept_agrees b n q es k f in
    record {
      only = λ i x a. (g.only i x a).0;
      once = g.once;
      every = λ x p r u v. g.every x p r u v (at_bound v.event);
      real_time = λ x y p r i j u v. g.real_time x y p r i j u v (at_bound v.event);
    }
