-- Every call is booked: its entries and its booking are a legal step of the plain book, and the book stays related to the configuration.
use mathlib.Core.Path.{◌≡◌, refl, sym, ◌∙◌, ap}
use mathlib.Core.Bool.{Bool, true, false, cond}
use mathlib.Core.Logic.{◌≢◌, ite}
use Prim.Native.Nat.{ℕ, suc, ◌<◌}
use native.Mathlib.Omega.{arith}
use native.Mathlib.Decide.{ℕ_discrete}
use borrow.Author.Tests.{lt-ltb, le-ltb}
use Rattle.laws.specs.Update.{update}
use Rattle.laws.proofs.Clash.{clash, never}
use Rattle.laws.proofs.Update.{update_all, update_same, update_other}
use Rattle.machine.specs.Object.{Object}
use Rattle.machine.specs.Memory.{HeadValue, Free, Held, Content, Empty, Op, Resp, Memory}
use Rattle.machine.specs.Machine.{Phase, Idle, Task, Next, Go, Turn, End, advance}
use Rattle.machine.specs.Kind.{Kind, Off, Reading, Opening, Looping, Exiting, Retracting, kind, off}
use Rattle.machine.specs.Run.{Config, Served, first_phase, answer_of, serve}
use Rattle.machine.specs.Calls.{Call, Begin, Step, Running}
use Rattle.machine.specs.Run.{begun as began}
use Rattle.machine.specs.Invariant.{Safe}
use Rattle.machine.specs.Form.{Formed}
use Rattle.machine.specs.Book.{Book, Page, Waiting, Done, turned, Entering, none, Booking, begun, begin_task, begin_operation, begin_pending, running_waiting, running_done, ended, step_task, step_idle, Legal}
use Rattle.machine.specs.Keeping.{enter_by, enter_for, counted, booked, keep}
use Rattle.machine.proofs.Steps.Effect.{Effect, effect}
use Rattle.machine.proofs.Steps.Successor.{moved, Steps}
use Rattle.machine.proofs.Steps.Calls.{Serving, begins, moves, serving, begin_task as task_unknown, begin_operation as operation_unknown, begin_pending as still_pending, step_task as no_task, step_idle as no_operation}
use Rattle.machine.proofs.Book.Related.{Standing, Out, Waits, Answered, by_head, standing, stands_at, Shows, Paged, Related, shows_same, page_by}
use Rattle.machine.proofs.Book.Entries.{with_cells}
use Rattle.machine.proofs.Book.BeforeBooking.{Runs, BeforeBooking, entries_legal, before_booking}

-- ---- Pages

-- Whether a task has an operation, by its standing.
abbrev present : Standing → Bool
present Out = false
present Waits = true
present (Answered r) = true

head_present : (h : HeadValue) (t : ℕ) → present (by_head h t) ≡ true
head_present (Free q) t = refl
head_present (Held q j r) t = go (ℕ_discrete j t)
  where
    go : (d : Dec (j ≡ t)) → present (ite d (Answered r) Waits) ≡ true
    go (yes _) = refl
    go (no _) = refl

pending_present : (d : Kind) (a : Content) (h : HeadValue) (t : ℕ) → off d ≡ false → present (standing d a h t) ≡ true
pending_present Off a h t p = clash refl p
pending_present Reading a h t p = refl
pending_present Opening a h t p = refl
pending_present Looping Empty h t p = refl
pending_present Looping (Op x) h t p = head_present h t
pending_present Looping (Resp v) h t p = refl
pending_present (Exiting v) a h t p = refl
pending_present (Retracting v) a h t p = refl

present_page : (s : Standing) (t o c : ℕ) (p : Page) → present s ≡ true → Shows s t o c p → p ≡ Page.Idle → ⊥
present_page Out t o c p n y e = clash n refl
present_page Waits t o c p n (place, y) e = never cc
present_page (Answered r) t o c p n y e = never cc

-- One more step on a page.
shows_counted : (s : Standing) (t o c : ℕ) (p : Page) → Shows s t o c p → Shows s t o (suc c) (counted p)
shows_counted Out t o c p y = ap counted y
shows_counted Waits t o c p (place, y) = (place, ap counted y)
shows_counted (Answered r) t o c p y = ap counted y

-- A task that begins waits, whatever its first phase.
begins_waiting : (m : Memory) (t : ℕ) (d : Bool) → stands_at m t (kind (first_phase d)) ≡ Waits
begins_waiting m t true = refl
begins_waiting m t false = refl

-- The record and the page of one task change.
pages_changed : (m : Memory) (c : Config) (k : Book) (i : ℕ) (x : Task) (p : Page) → Paged m i x p → ((t : ℕ) → i ≢ t → Paged m t (c.task t) (k.page t))
    → (t : ℕ) → Paged m t (update c.task i x t) (update k.page i p t)
pages_changed m c k i x p own others =
    update_all c.task i x (λ t (y : Task). Paged m t y (update k.page i p t)) (rw (update_same k.page i p) own) (λ t d. rw (update_other k.page i p t d) (others t d))

-- ---- Calls

-- The call x at a place, served with s over the configuration c, is booked in k.
pub record Books (b : Object) (n place : ℕ) (x : Call) (c : Config) (k : Book) (s : Served) : Type 0 where
  pub legal : Legal b n place (record { call = x; answer = s.answer }) k (booked place x s.answer (enter_for b n x c k))
  pub related : Related s.config (booked place x s.answer (enter_for b n x c k))

module _ (c : Config) (k : Book) (rel : Related c k) (i : ℕ) where
  pending_page : off (kind (c.task i).phase) ≡ false → k.page i ≡ Page.Idle → ⊥
  pending_page p e = present_page (stands_at c.memory i (kind (c.task i).phase)) i _ _ (k.page i) (pending_present (kind (c.task i).phase) _ _ i p) (rel.page i) e

module _ (b : Object) (n place : ℕ) (c : Config) where
  -- The booking of a step of task i in the book l that leads to y, over the new cells m.
  record BooksStep (m : Memory) (i : ℕ) (l : Book) (y : Next) : Type 0 where
    booking : Booking b n place l (Step i) (answer_of (c.task i).steps y) (booked place (Step i) (answer_of (c.task i).steps y) l)
    related : Related (record { memory = m; task = update c.task i (advance n (c.task i) y) }) (booked place (Step i) (answer_of (c.task i).steps y) l)

  module _ (m : Memory) (i : ℕ) (l : Book) (below : i < n) where
    -- A step that runs: one more on the page.
    booking_runs : (p : Page) → l.page i ≡ p → (p ≡ Page.Idle → ⊥) → Booking b n place l (Step i) Running (turned i (counted p) l)
    booking_runs Page.Idle e z = absurd (z refl)
    booking_runs (Waiting x s) e z = running_waiting below e
    booking_runs (Done r s) e z = running_done below e

    books_runs : {f : Phase} → off (kind (c.task i).phase) ≡ false → Runs c m i l f → Booking b n place l (Step i) Running (turned i (counted (l.page i)) l)
    books_runs p u = booking_runs (l.page i) refl (pending_page (with_cells c m) l u.related i p)

    related_runs : {f : Phase} (p : ℕ) → Runs c m i l f
        → Related (record { memory = m; task = update c.task i (record { phase = f; operation = (c.task i).operation; priority = p; steps = suc (c.task i).steps }) }) (turned i (counted (l.page i)) l)
    related_runs {f} p u = record { state = u.related.state; page = pages_changed m c l i _ _ own (λ t _. u.related.page t) }
      where
        counts : Shows (stands_at m i (kind (c.task i).phase)) i (c.task i).operation (suc (c.task i).steps) (counted (l.page i))
        counts = shows_counted (stands_at m i (kind (c.task i).phase)) i (c.task i).operation (c.task i).steps (l.page i) (u.related.page i)

        own : Shows (stands_at m i (kind f)) i (c.task i).operation (suc (c.task i).steps) (counted (l.page i))
        own = shows_same (sym u.stands) i (c.task i).operation (suc (c.task i).steps) (counted (l.page i)) counts

    books_step : (y : Next) → off (kind (c.task i).phase) ≡ false → BeforeBooking c m i l y → BooksStep m i l y
    books_step (Go f) p u = record { booking = books_runs p u; related = related_runs _ u }
    books_step (Turn f) p u = record { booking = books_runs p u; related = related_runs _ u }
    books_step (End v) p u = record { booking = ended below u.page; related = record { state = u.state; page = pages_changed m c l i _ _ refl u.others } }

module _ (b : Object) (n place : ℕ) (c : Config) (k : Book) (rel : Related c k) where
  -- The entries lead to the book l, in which the call is booked.
  books_through : {x : Call} {s : Served} {l : Book} → enter_for b n x c k ≡ l → Entering b k l → Booking b n place l x s.answer (booked place x s.answer l) → Related s.config (booked place x s.answer l)
      → Books b n place x c k s
  books_through {x} {s} {l} e f u r = record { legal = record { between = l; entering = f; booking = rw e u }; related = rw e r }

  books_begun : {i o : ℕ} → i < n → o < b.operations → (c.task i).phase ≡ Idle → Books b n place (Begin i o) c k (began b i o c)
  books_begun {i} {o} h l e = books_through refl none (begun h l (page_by rel i e)) (record { state = rel.state; page = pages_changed c.memory c k i _ _ own (λ t _. rel.page t) })
    where
      first : Page
      first = Waiting (record { place = place; task = i; operation = o }) 0

      own : Paged c.memory i (record { phase = first_phase (b.changing o); operation = o; priority = (c.task i).priority; steps = 0 }) first
      own = shows_same (sym (begins_waiting c.memory i (b.changing o))) i o 0 first (place, refl)

  -- The entries before a step: by the task's phase, and none for a number that is no task's.
  enters_below : {i : ℕ} → i < n → enter_for b n (Step i) c k ≡ enter_by b c.memory i (c.task i).phase k
  enters_below {i} h = ap (λ (t : Bool). cond t (enter_by b c.memory i (c.task i).phase k) k) (lt-ltb i n h)

  enters_beyond : {i : ℕ} → (i < n → ⊥) → enter_for b n (Step i) c k ≡ k
  enters_beyond {i} h = ap (λ (t : Bool). cond t (enter_by b c.memory i (c.task i).phase k) k) (le-ltb i n (omega arith))

  enters_idle : {i : ℕ} → i < n → (c.task i).phase ≡ Idle → enter_for b n (Step i) c k ≡ k
  enters_idle {i} h e = enters_below h ∙ ap (λ (f : Phase). enter_by b c.memory i f k) e

  module _ (safe : Safe c) (formed : Formed b n c) where
    books_moved : {i : ℕ} {e : Effect} {y : Next} → i < n → off (kind (c.task i).phase) ≡ false → Steps b i c e y
        → Books b n place (Step i) c k (record { config = moved n i c e y; answer = answer_of (c.task i).steps y })
    books_moved {i} {e} {y} h p v =
        let z = books_step b n place c (effect i e c.memory) i _ h y p (before_booking b c k i rel safe formed h p v) in
        books_through (enters_below h) (entries_legal b c k i v) z.booking z.related

    books : {x : Call} {s : Served} → Serving b n c x s → Books b n place x c k s
    books (begins h l e) = books_begun h l e
    books (task_unknown h) = books_through refl none (begin_task h) rel
    books (operation_unknown h l) = books_through refl none (begin_operation h l) rel
    books (still_pending {i = i} h l e) = books_through refl none (begin_pending h l (pending_page c k rel i e)) rel
    books (moves h e v) = books_moved h e v
    books (no_task h) = books_through (enters_beyond h) none (step_task h) rel
    books (no_operation {i = i} h e) = books_through (enters_idle h e) none (step_idle h (page_by rel i e)) rel

    -- The call x at a place is a legal step of the book, and leaves it related.
    pub legal_serve : (x : Call) → Legal b n place (record { call = x; answer = (serve b n x c).answer }) k (keep b n place x c k)
    legal_serve x = (books (serving b n c x)).legal

    pub related_serve : (x : Call) → Related (serve b n x c).config (keep b n place x c k)
    related_serve x = (books (serving b n c x)).related
