-- Two lists of the states that can be reached, each state where it is met first, are one list.
use mathlib.Core.Path.{◌≡◌, refl, sym, ap, ◌∙◌}
use mathlib.Core.Logic.{inl, inr}
use mathlib.Core.List.{List}
use Prim.Native.Nat.{ℕ, zero, suc, ◌<◌, ◌≤◌}
use native.Mathlib.Decide.{dec_lt, ℕ_discrete}
use native.Mathlib.Omega.{arith}
use lib.ListN.{length, get_or}
use lib.Seq.{ext_get_or}
use Rattle.table.specs.declared.Shape.{Shape}
use Rattle.reach.specs.Walk.{next_of}
use Rattle.reach.specs.Statement.{Before, MetFirst, FirstMeeting}

-- Two lists have the same states below a place.
abbrev Agree : (one other : List ℕ) (place : ℕ) → Type 0
Agree one other place = (i : ℕ) → i < place → get_or one i 0 ≡ get_or other i 0

module _ (file : List ℕ) (shape : Shape) where
  -- Neither list meets the state at the next place by an earlier entry than the other.
  not_before : (one other : List ℕ) (place : ℕ) → FirstMeeting file shape one → Agree one other place → place < length one
      → (a : MetFirst file shape one place) (b : MetFirst file shape other place) → Before a.from a.operation b.from b.operation → ⊥
  not_before one other place of_kind agree h a b before =
      let found = b.first a.from a.operation before a.known in
      let lower : ℕ = found.0 in
      let below : lower < place = found.1 in
      let same : get_or one lower 0 ≡ get_or one place 0 = agree lower below ∙ found.2 ∙ ap (λ (q : ℕ). next_of file shape q a.operation) (sym (agree a.from a.from_before)) ∙ a.leads in
      let at : lower ≡ place = of_kind.once lower place (omega arith) h same in
      omega arith

  module _ (one other : List ℕ) (first : FirstMeeting file shape one) (second : FirstMeeting file shape other) where
    met_same : (place : ℕ) → Agree one other place → place < length one → place < length other → MetFirst file shape one place → MetFirst file shape other place → get_or one place 0 ≡ get_or other place 0
    met_same place agree h l a b = by (dec_lt a.from b.from) (dec_lt b.from a.from) (dec_lt a.operation b.operation) (dec_lt b.operation a.operation)
      where
        by : Dec (a.from < b.from) → Dec (b.from < a.from) → Dec (a.operation < b.operation) → Dec (b.operation < a.operation) → get_or one place 0 ≡ get_or other place 0
        by (yes x) _ _ _ = absurd (not_before one other place first agree h a b (inl x))
        by (no x) (yes y) _ _ = absurd (not_before other one place second (λ i x. sym (agree i x)) l b a (inl y))
        by (no x) (no y) (yes z) _ = absurd (not_before one other place first agree h a b (inr (omega arith, z)))
        by (no x) (no y) (no z) (yes w) = absurd (not_before other one place second (λ i x. sym (agree i x)) l b a (inr (omega arith, w)))
        by (no x) (no y) (no z) (no w) =
            let from : a.from ≡ b.from = omega arith in
            let operation : a.operation ≡ b.operation = omega arith in
            sym a.leads
            ∙ ap (λ (q : ℕ). next_of file shape q a.operation) (agree a.from a.from_before ∙ ap (λ (i : ℕ). get_or other i 0) from)
            ∙ ap (next_of file shape (get_or other b.from 0)) operation
            ∙ b.leads

    state_same : (place : ℕ) → Agree one other place → place < length one → place < length other → get_or one place 0 ≡ get_or other place 0
    state_same zero agree h l = first.start ∙ sym second.start
    state_same (suc place) agree h l = met_same (suc place) agree h l (first.met (suc place) (omega arith) h) (second.met (suc place) (omega arith) l)

    pub agree_all : (place : ℕ) → place ≤ length one → place ≤ length other → Agree one other place
    agree_all zero h l i b = absurd (omega arith)
    agree_all (suc place) h l i b = by (agree_all place (omega arith) (omega arith)) (ℕ_discrete place i)
      where
        by : Agree one other place → Dec (place ≡ i) → get_or one i 0 ≡ get_or other i 0
        by agree (yes e) = rw (← e) (state_same place agree h l)
        by agree (no n) = agree i (omega arith)

  -- The other list isn't shorter: the state past its end would be in it.
  not_shorter : (one other : List ℕ) → FirstMeeting file shape one → FirstMeeting file shape other → length one ≤ length other
  not_shorter one other first second = by (dec_lt (length other) (length one))
    where
      by : Dec (length other < length one) → length one ≤ length other
      by (no n) = omega arith
      by (yes h) =
          let end : ℕ = length other in
          let agree = agree_all one other first second end (omega arith) (omega arith) in
          let found = (second.exactly (get_or one end 0)).1 ((first.exactly (get_or one end 0)).0 (record { place = end; below = h; is = refl })) in
          let below : found.place < end = found.below in
          let at : found.place ≡ end = first.once found.place end (omega arith) h (agree found.place below ∙ found.is) in
          absurd (omega arith)

  pub one_list : (one other : List ℕ) → FirstMeeting file shape one → FirstMeeting file shape other → one ≡ other
  one_list one other first second =
      let long : length one ≡ length other = omega (arith, not_shorter one other first second, not_shorter other one second first) in
      ext_get_or 0 one other long (agree_all one other first second (length one) (omega arith) (omega arith))
