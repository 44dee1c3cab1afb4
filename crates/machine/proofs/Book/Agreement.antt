-- The invariant between the events so far and the book, and that entries and bookings keep it. Linearizability follows from it.
use mathlib.Core.Path.{◌≡◌, refl, sym, ◌∙◌, ap}
use mathlib.Core.Bool.{Bool, true, false}
use mathlib.Core.Logic.{◌≢◌, inl, inr}
use mathlib.Core.List.{List, [], ◌∷◌, ◌++◌}
use Prim.Native.Nat.{ℕ, suc, ◌<◌}
use native.Mathlib.Decide.{ℕ_discrete}
use native.Mathlib.Omega.{arith}
use lib.ListN.{length}
use Rattle.laws.specs.Update.{update}
use Rattle.laws.specs.Places.{At}
use Rattle.laws.proofs.Clash.{clash}
use Rattle.laws.proofs.Update.{update_all}
use Rattle.laws.proofs.Places.{at_same, at_bound, at_none, at_extended, at_next, Either, at_either}
use Rattle.machine.specs.Outcome.{Outcome}
use Rattle.machine.specs.Object.{Object}
use Rattle.machine.specs.Calls.{Call, Begin, Step, Answer, Begun, Running, Ended, Refused, Event}
use Rattle.machine.specs.Book.{Operation, Page, Idle, Waiting, Done, Book, blank, turned, entered, Entering, none, enter, Booking, begun, begin_task, begin_operation, begin_pending, running_waiting, running_done, ended, step_task, step_idle}
use Rattle.machine.specs.History.{Begins, Ends, replayed, reached}
use Rattle.machine.proofs.Book.Replay.{reached_next, replayed_next, replayed_before}

-- ---- The invariant, over the whole history es and the number p of its events that are booked

-- The operation y is open before place p: begun, and no *ended* of its task since.
pub record OpenBefore (es : List Event) (p : ℕ) (y : Operation) : Type 0 where
  pub begins : Begins es y
  pub before : y.place < p
  pub unended : (i : ℕ) (r : Outcome) (s : ℕ) → y.place < i → i < p → At es i (record { call = Step y.task; answer = Ended r s }) → ⊥

-- The operation y stands in an order, and replay gives it the outcome r.
abbrev pub Answered : Object → ℕ → List Operation → Operation → Outcome → Type 0
Answered b q order y r = (i : ℕ) × At order i y × (replayed b q order i ≡ r)

-- The operation x of task t is not in the order, and no other operation of t is open.
pub record Awaits (es : List Event) (p : ℕ) (order : List Operation) (t : ℕ) (x : Operation) : Type 0 where
  pub begins : Begins es x
  pub before : x.place < p
  pub own : x.task ≡ t
  pub sole : (y : Operation) → y.task ≡ t → OpenBefore es p y → y ≡ x
  pub fresh : (i : ℕ) (y : Operation) → At order i y → y.place ≢ x.place

-- What the page of task t says of its open operations: none, one that is awaited, or answered with the outcome on the page.
abbrev pub Fits : Object → ℕ → List Event → ℕ → List Operation → ℕ → Page → Type 0
Fits b q es p order t Idle = (y : Operation) → y.task ≡ t → OpenBefore es p y → ⊥
Fits b q es p order t (Waiting x s) = Awaits es p order t x
Fits b q es p order t (Done r s) = (y : Operation) → y.task ≡ t → OpenBefore es p y → Answered b q order y r

-- The book agrees with the events before place p.
pub record AgreesWithBook (b : Object) (q : ℕ) (es : List Event) (p : ℕ) (k : Book) : Type 0 where
  pub state : k.state ≡ reached b q k.order
  pub only : (i : ℕ) (x : Operation) → At k.order i x → Begins es x × (x.place < p)
  pub once : (i j : ℕ) (x y : Operation) → At k.order i x → At k.order j y → x.place ≡ y.place → i ≡ j
  pub every : (x : Operation) (c : ℕ) (r : Outcome) → Begins es x → Ends es x c r → c < p → Answered b q k.order x r
  pub real_time : (x y : Operation) (c : ℕ) (r : Outcome) (i j : ℕ) → Begins es x → Ends es x c r → c < p → c < y.place → At k.order i x → At k.order j y → i < j
  pub pages : (t : ℕ) → Fits b q es p k.order t (k.page t)

-- An operation is known by the place of its begin call.
pub same_place : (es : List Event) (x y : Operation) → Begins es x → Begins es y → x.place ≡ y.place → x ≡ y
same_place es x y u v e = λ i. record { place = e i; task = task i; operation = operation i }
  where
    calls : Begin x.task x.operation ≡ Begin y.task y.operation
    calls = ap (λ v. v.call) (at_same (rw e at u) v)

    task : x.task ≡ y.task
    task = cc calls

    operation : x.operation ≡ y.operation
    operation = cc calls

-- Whether an answer opens an operation, and whether it closes one.
abbrev opens : Answer → Bool
opens Begun = true
opens Running = false
opens (Ended r s) = false
opens (Refused c) = false

abbrev closes : Answer → Bool
closes Begun = false
closes Running = false
closes (Ended r s) = true
closes (Refused c) = false

module _ (b : Object) (q : ℕ) (es : List Event) where
  -- The blank book agrees with no events.
  pub blank_agrees : AgreesWithBook b q es 0 (blank q)
  blank_agrees = record {
    state = refl;
    only = λ i x a. absurd (at_none a);
    once = λ i j x y a. absurd (at_none a);
    every = λ x c r u v l. absurd (omega (arith, l));
    real_time = λ x y c r i j u v l. omega (arith, l);
    pages = λ t y _ o. omega (arith, o.before);
  }

  -- ---- An entry

  module _ (p : ℕ) (order : List Operation) (t : ℕ) (x : Operation) (w : Awaits es p order t x) where
    -- An answered operation stays answered in the longer order.
    answered_extended : (y : Operation) (r : Outcome) → Answered b q order y r → Answered b q (order ++ (x ∷ [])) y r
    answered_extended y r a = (a.0, at_extended (x ∷ []) a.1, replayed_before b x q a.1 ∙ a.2)

    -- Operations that wait for different tasks have different places.
    apart : (t' : ℕ) (z : Operation) → t ≢ t' → Awaits es p order t' z → x.place ≢ z.place
    apart t' z n f e = n (sym w.own ∙ ap (λ o. o.task) (same_place es x z w.begins f.begins e) ∙ f.own)

    -- The pages of the other tasks stay right.
    fits_others : (t' : ℕ) → t ≢ t' → (page : Page) → Fits b q es p order t' page → Fits b q es p (order ++ (x ∷ [])) t' page
    fits_others t' n Idle f = f
    fits_others t' n (Waiting z s) f =
        record { begins = f.begins; before = f.before; own = f.own; sole = f.sole; fresh = λ i y a. fresh i y (at_either order x a) }
      where
        fresh : (i : ℕ) (y : Operation) → Either order x i y → y.place ≢ z.place
        fresh i y (inl a) = f.fresh i y a
        fresh i y (inr e) = λ d. apart t' z n f (sym (ap (λ o. o.place) e.1) ∙ d)
    fits_others t' n (Done r s) f = λ y e o. answered_extended y r (f y e o)

    -- The page of the entered task is right.
    fits_entered : (s : ℕ) → Fits b q es p (order ++ (x ∷ [])) t (Done (b.outcome (reached b q order) x.operation) s)
    fits_entered s y e o = rw (w.sole y e o) (length order, at_next order x [], replayed_next b x q order)

  -- The entry of a waiting task keeps the agreement.
  entry : (p : ℕ) (k : Book) (t : ℕ) (x : Operation) (s : ℕ) → k.page t ≡ Waiting x s → AgreesWithBook b q es p k → AgreesWithBook b q es p (entered b t x s k)
  entry p k t x s e g =
      record {
        state = ap (λ z. b.next z x.operation) g.state ∙ sym (reached_next b x q k.order);
        only = λ i y a. only i y (at_either k.order x a);
        once = λ i j y z a c d. once i j y z d (at_either k.order x a) (at_either k.order x c);
        every = λ y c r u v l. answered_extended p k.order t x w y r (g.every y c r u v l);
        real_time = λ y z c r i j u v l m a d. real_time y z c r i j u v l m (at_either k.order x a) (at_either k.order x d);
        pages = update_all k.page t (Done (b.outcome k.state x.operation) s) (Fits b q es p (k.order ++ (x ∷ [])))
            (rw g.state (fits_entered p k.order t x w s))
            (λ t' n. fits_others p k.order t x w t' n (k.page t') (g.pages t'));
      }
    where
      w : Awaits es p k.order t x
      w = rw e at (g.pages t)

      only : (i : ℕ) (y : Operation) → Either k.order x i y → Begins es y × (y.place < p)
      only i y (inl a) = g.only i y a
      only i y (inr d) = rw d.1 (w.begins, w.before)

      once : (i j : ℕ) (y z : Operation) → y.place ≡ z.place → Either k.order x i y → Either k.order x j z → i ≡ j
      once i j y z d (inl a) (inl c) = g.once i j y z a c d
      once i j y z d (inl a) (inr c) = absurd (w.fresh i y a (d ∙ ap (λ o. o.place) c.1))
      once i j y z d (inr a) (inl c) = absurd (w.fresh j z c (sym d ∙ ap (λ o. o.place) a.1))
      once i j y z d (inr a) (inr c) = a.0 ∙ sym c.0

      -- What ended stands in the order already, so that only the later of the two can be x.
      real_time : (y z : Operation) (c : ℕ) (r : Outcome) (i j : ℕ) → Begins es y → Ends es y c r → c < p → c < z.place → Either k.order x i y → Either k.order x j z → i < j
      real_time y z c r i j u v l m (inl a) (inl d) = g.real_time y z c r i j u v l m a d
      real_time y z c r i j u v l m (inl a) (inr d) = omega (arith, at_bound a, d.0)
      real_time y z c r i j u v l m (inr a) d = let f = g.every y c r u v l in absurd (w.fresh f.0 y f.1 (ap (λ o. o.place) a.1))

  pub entries : (p : ℕ) {k k' : Book} → Entering b k k' → AgreesWithBook b q es p k → AgreesWithBook b q es p k'
  entries p none g = g
  entries p (enter {k = k} t x s e f) g = entries p f (entry p k t x s e g)

  -- ---- A booking

  -- An operation begins at a place only with the answer *begun*, and ends only with the answer *ended*.
  unbegun : (p : ℕ) {e : Event} → At es p e → opens e.answer ≡ false → (y : Operation) → Begins es y → y.place ≢ p
  unbegun p v n y u d = clash (ap (λ z. opens z.answer) (at_same v (rw d at u))) n

  unended : (p : ℕ) {e : Event} → At es p e → closes e.answer ≡ false → (x : Operation) (r : Outcome) → Ends es x p r → ⊥
  unended p v n x r u = clash (ap (λ z. closes z.answer) (at_same v u.event)) n

  -- An operation that is open after the event at place p was open before it, if it did not begin there.
  open_before : (p : ℕ) (y : Operation) → y.place ≢ p → OpenBefore es (suc p) y → OpenBefore es p y
  open_before p y n o =
      record {
        begins = o.begins;
        before = omega (arith, n, o.before);
        unended = λ i r s l m a. o.unended i r s l (omega (arith, m)) a;
      }

  module _ (p : ℕ) (k : Book) (g : AgreesWithBook b q es p k) where
    -- The page of a task stays right at an event at which no operation of the task begins.
    fits_still : (t : ℕ) → ((y : Operation) → y.task ≡ t → Begins es y → y.place ≢ p) → (page : Page) → Fits b q es p k.order t page → Fits b q es (suc p) k.order t page
    fits_still t n page f = go page f
      where
        back : (y : Operation) → y.task ≡ t → OpenBefore es (suc p) y → OpenBefore es p y
        back y e o = open_before p y (n y e o.begins) o

        go : (page : Page) → Fits b q es p k.order t page → Fits b q es (suc p) k.order t page
        go Idle f = λ y e o. f y e (back y e o)
        go (Waiting x s) f = record { begins = f.begins; before = omega (arith, f.before); own = f.own; sole = λ y e o. f.sole y e (back y e o); fresh = f.fresh }
        go (Done r s) f = λ y e o. f y e (back y e o)

    -- The book with other pages agrees with one event more, if the pages are right, and if what ends there is answered.
    passed : (page : ℕ → Page) → ((t : ℕ) → Fits b q es (suc p) k.order t (page t))
        → ((x : Operation) (r : Outcome) → Begins es x → Ends es x p r → Answered b q k.order x r)
        → AgreesWithBook b q es (suc p) (record { state = k.state; order = k.order; page = page })
    passed page f h =
        record {
          state = g.state;
          only = λ i x a. ((g.only i x a).0, omega (arith, (g.only i x a).1));
          once = g.once;
          every = λ x c r u v l. every x c r u v l (ℕ_discrete c p);
          real_time = λ x y c r i j u v l m a d. g.real_time x y c r i j u v (omega (arith, m, (g.only j y d).1)) m a d;
          pages = f;
        }
      where
        every : (x : Operation) (c : ℕ) (r : Outcome) → Begins es x → Ends es x c r → c < suc p → Dec (c ≡ p) → Answered b q k.order x r
        every x c r u v l (yes e) = h x r u (rw e at v)
        every x c r u v l (no n) = g.every x c r u v (omega arith)

    -- An event at which no operation begins or ends.
    quiet : {e : Event} → At es p e → opens e.answer ≡ false → closes e.answer ≡ false → (page : ℕ → Page)
        → ((t : ℕ) → Fits b q es p k.order t (page t)) → AgreesWithBook b q es (suc p) (record { state = k.state; order = k.order; page = page })
    quiet v m n page f = passed page (λ t. fits_still t (λ y _ u. unbegun p v m y u) (page t) (f t)) (λ x r _ u. absurd (unended p v n x r u))

    -- One page with another that says the same.
    fits_turned : (t : ℕ) (page : Page) → Fits b q es p k.order t page → (t' : ℕ) → Fits b q es p k.order t' (update k.page t page t')
    fits_turned t page f = update_all k.page t page (Fits b q es p k.order) f (λ t' _. g.pages t')

    -- The begin of an operation of an idle task.
    opening : (t o : ℕ) → At es p (record { call = Begin t o; answer = Begun }) → k.page t ≡ Idle → AgreesWithBook b q es (suc p) (turned t (Waiting (record { place = p; task = t; operation = o }) 0) k)
    opening t o v e = passed (update k.page t (Waiting x 0)) (update_all k.page t (Waiting x 0) (Fits b q es (suc p) k.order) awaits others) (λ y r _ u. absurd (unended p v refl y r u))
      where
        x : Operation
        x = record { place = p; task = t; operation = o }

        idle : (y : Operation) → y.task ≡ t → OpenBefore es p y → ⊥
        idle = rw e at (g.pages t)

        sole : (y : Operation) → y.task ≡ t → OpenBefore es (suc p) y → Dec (y.place ≡ p) → y ≡ x
        sole y d u (yes l) = same_place es y x u.begins v l
        sole y d u (no n) = absurd (idle y d (open_before p y n u))

        awaits : Awaits es (suc p) k.order t x
        awaits = record {
          begins = v;
          before = omega arith;
          own = refl;
          sole = λ y d u. sole y d u (ℕ_discrete y.place p);
          fresh = λ i y a. omega (arith, (g.only i y a).1);
        }

        others : (t' : ℕ) → t ≢ t' → Fits b q es (suc p) k.order t' (k.page t')
        others t' n = fits_still t' (λ y d u l. n (sym (ap (λ z. z.task) (same_place es y x u v l)) ∙ d)) (k.page t') (g.pages t')

    -- The end of an operation of a task that is done.
    closing : (t : ℕ) (r : Outcome) (s steps : ℕ) → At es p (record { call = Step t; answer = Ended r steps }) → k.page t ≡ Done r s → AgreesWithBook b q es (suc p) (turned t Idle k)
    closing t r s steps v e = passed (update k.page t Idle) (update_all k.page t Idle (Fits b q es (suc p) k.order) idle others) answered
      where
        began : (y : Operation) → Begins es y → y.place ≢ p
        began = unbegun p v refl

        done : (y : Operation) → y.task ≡ t → OpenBefore es p y → Answered b q k.order y r
        done = rw e at (g.pages t)

        idle : (y : Operation) → y.task ≡ t → OpenBefore es (suc p) y → ⊥
        idle y d u = u.unended p r steps (open_before p y (began y u.begins) u).before (omega arith) (rw d v)

        others : (t' : ℕ) → t ≢ t' → Fits b q es (suc p) k.order t' (k.page t')
        others t' _ = fits_still t' (λ y _ u. began y u) (k.page t') (g.pages t')

        answered : (x : Operation) (r' : Outcome) → Begins es x → Ends es x p r' → Answered b q k.order x r'
        answered x r' u w = rw outcome (done x task (record { begins = u; before = w.later; unended = w.first }))
          where
            calls : Step x.task ≡ Step t
            calls = ap (λ z. z.call) (at_same w.event v)

            answers : Ended r' w.steps ≡ Ended r steps
            answers = ap (λ z. z.answer) (at_same w.event v)

            task : x.task ≡ t
            task = cc calls

            outcome : r' ≡ r
            outcome = cc answers

    -- The booking of an event keeps the agreement.
    pub booked : {n : ℕ} {c : Call} {a : Answer} {k' : Book} → Booking b n p k c a k' → At es p (record { call = c; answer = a }) → AgreesWithBook b q es (suc p) k'
    booked (begun {t = t} {o = o} _ _ e) v = opening t o v e
    booked (begin_task _) v = quiet v refl refl k.page g.pages
    booked (begin_operation _ _) v = quiet v refl refl k.page g.pages
    booked (begin_pending _ _ _) v = quiet v refl refl k.page g.pages
    booked (running_waiting {t = t} {s = s} {x = x} _ e) v =
        quiet v refl refl (update k.page t (Waiting x (suc s))) (fits_turned t (Waiting x (suc s)) (rw e at (g.pages t)))
    booked (running_done {t = t} {r = r} {s = s} _ e) v =
        quiet v refl refl (update k.page t (Done r (suc s))) (fits_turned t (Done r (suc s)) (rw e at (g.pages t)))
    booked (ended {t = t} {r = r} {s = s} _ e) v = closing t r s (suc s) v e
    booked (step_task _) v = quiet v refl refl k.page g.pages
    booked (step_idle _ _) v = quiet v refl refl k.page g.pages
