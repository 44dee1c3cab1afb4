-- What every book has that meets the demand: it is kept along the history, its state is the one that replay of its order reaches, and
-- its operations are the object's.
use mathlib.Core.Path.{◌≡◌, refl, subst}
use mathlib.Core.List.{List, [], ◌∷◌, ◌++◌}
use Prim.Native.Nat.{ℕ, suc, ◌+◌, ◌<◌}
use native.Mathlib.Omega.{arith}
use lib.ListN.{length, length-append}
use Rattle.laws.specs.Places.{At, here, later}
use Rattle.laws.proofs.Clash.{never}
use Rattle.laws.proofs.Lists.{from_the_end}
use Rattle.machine.specs.Object.{Object}
use Rattle.machine.specs.Calls.{Call, Begin, Answer, Begun, Event}
use Rattle.machine.specs.Book.{Operation, Book, blank, Booking, begun, begin_task, begin_operation, begin_pending, running_waiting, running_done, ended, step_task, step_idle, Legal, Kept, rest, then}
use Rattle.machine.specs.History.{reached}
use Rattle.machine.specs.Demand.{Shown, Demand}
use Rattle.machine.proofs.Book.Linearization.{kept_agrees}

module _ {b : Object} {n : ℕ} where
  -- One legal step more.
  kept_more : {place : ℕ} {k k' k'' : Book} {e : Event} {es : List Event} → Kept b n place k es k' → Legal b n (place + length es) e k' k'' → Kept b n place k (es ++ (e ∷ [])) k''
  kept_more {place} {k} {k'' = k''} {e} rest l = let same : place + 0 ≡ place = omega arith in then (subst (λ (p : ℕ). Legal b n p e k k'') same l) rest
  kept_more {place} {k' = k'} {k'' = k''} {e} (then {es = es} first f) l =
      let next : place + suc (length es) ≡ suc place + length es = omega arith in
      then first (kept_more f (subst (λ (p : ℕ). Legal b n p e k' k'') next l))

  -- A begin that is booked as accepted names an operation of the object.
  booked_below : {place : ℕ} {k k' : Book} {c : Call} {a : Answer} → Booking b n place k c a k' → (t o : ℕ) → c ≡ Begin t o → a ≡ Begun → o < b.operations
  booked_below (begun {o = o'} h l p) t o e f = let same : o' ≡ o = cc e in rw (← same) l
  booked_below (begin_task h) t o e f = never cc
  booked_below (begin_operation h l) t o e f = never cc
  booked_below (begin_pending h l p) t o e f = never cc
  booked_below (running_waiting h p) t o e f = never cc
  booked_below (running_done h p) t o e f = never cc
  booked_below (ended h p) t o e f = never cc
  booked_below (step_task h) t o e f = never cc
  booked_below (step_idle h p) t o e f = never cc

  kept_below : {place : ℕ} {k k' : Book} {es : List Event} → Kept b n place k es k' → {i t o : ℕ} → At es i (record { call = Begin t o; answer = Begun }) → o < b.operations
  kept_below rest a = elim a [ ]
  kept_below (then l f) here = booked_below l.booking _ _ refl refl
  kept_below (then l f) (later a) = kept_below f a

module _ {b : Object} {n q ceiling : ℕ} {C : Type 0} {image : ℕ → C} {Print : C → List Event → List Operation → Type 0} {run : Shown C} (d : Demand b n q ceiling image Print run) where
  kept : (xs : List Call) → (length (run.history xs) ≡ length xs) × Kept b n 0 (blank q) (run.history xs) (d.book xs)
  kept = from_the_end (λ xs. (length (run.history xs) ≡ length xs) × Kept b n 0 (blank q) (run.history xs) (d.book xs)) (rw (d.begins, d.first) (refl, rest)) more
    where
      more : (xs : List Call) (x : Call) → (length (run.history xs) ≡ length xs) × Kept b n 0 (blank q) (run.history xs) (d.book xs)
          → (length (run.history (xs ++ (x ∷ []))) ≡ length (xs ++ (x ∷ []))) × Kept b n 0 (blank q) (run.history (xs ++ (x ∷ []))) (d.book (xs ++ (x ∷ [])))
      more xs x (long, k) =
          let e : Event = record { call = x; answer = run.answer xs x } in
          let at : length xs ≡ 0 + length (run.history xs) = omega arith in
          let l = subst (λ (p : ℕ). Legal b n p e (d.book xs) (d.book (xs ++ (x ∷ [])))) at (d.legal xs x) in
          rw (d.told xs x) (omega (arith, length-append (run.history xs) (e ∷ []), length-append xs (x ∷ [])), kept_more k l)

  pub state_replayed : (xs : List Call) → (d.book xs).state ≡ reached b q (d.book xs).order
  state_replayed xs = (kept_agrees b n q _ _ (kept xs).1).state

  pub order_below : (xs : List Call) (i : ℕ) (x : Operation) → At (d.book xs).order i x → x.operation < b.operations
  order_below xs i x at = kept_below (kept xs).1 ((d.linearizes xs).only i x at)
