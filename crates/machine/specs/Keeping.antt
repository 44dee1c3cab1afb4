-- The machine's own way to keep the plain book: who is entered before which call. It is a function of the run so far.
use Rattle.std.specs.Prelude.{cond, List, [], ◌∷◌, ℕ, suc, ltb}
use Rattle.laws.specs.Decision.{decided}
use Rattle.machine.specs.Object.{Object}
use Rattle.machine.specs.Memory.{Memory, head_dec}
use Rattle.machine.specs.Machine.{Phase, Idle, ReadOnly, Announce, Poll, LoadHead, LinkHead, LoadPriority, LoadOwn, Apply, ReloadApply, LoadHelped, LinkHelped, Validate, HandOver, ReloadHandOver, Release, ReloadRelease, ClearHead, ReloadClear, LoadExit, LinkExit, ClearExit, ReleaseExit, Retract}
use Rattle.machine.specs.Run.{Config, start, serve}
use Rattle.machine.specs.Calls.{Call, Begin, Step, Answer, Begun, Running, Ended, Refused}
use Rattle.machine.specs.Book.{Book, Page, Waiting, Done, blank, turned, entered}

-- A task is entered if it waits.
abbrev pub enter_page : Object → ℕ → Page → Book → Book
enter_page b t Page.Idle k = k
enter_page b t (Waiting x s) k = entered b t x s k
enter_page b t (Done r s) k = k

abbrev pub enter : Object → ℕ → Book → Book
enter b t k = enter_page b t (k.page t) k

-- Before a step of task i: the task itself if it only reads; task j if the swap that applies its operation will succeed;
-- nobody otherwise.
abbrev pub enter_by : Object → Memory → ℕ → Phase → Book → Book
enter_by b m i Idle k = k
enter_by b m i ReadOnly k = enter b i k
enter_by b m i Announce k = k
enter_by b m i Poll k = k
enter_by b m i LoadHead k = k
enter_by b m i (LinkHead h) k = k
enter_by b m i (LoadPriority h) k = k
enter_by b m i (LoadOwn h) k = k
enter_by b m i (Apply h j o) k = cond (decided (head_dec m.head h)) (enter b j k) k
enter_by b m i (ReloadApply h j o) k = k
enter_by b m i (LoadHelped h j) k = k
enter_by b m i (LinkHelped h j a) k = k
enter_by b m i (Validate h j a) k = k
enter_by b m i (HandOver h j a) k = k
enter_by b m i (ReloadHandOver h j a) k = k
enter_by b m i (Release h j a) k = k
enter_by b m i (ReloadRelease h j a) k = k
enter_by b m i (ClearHead h j) k = k
enter_by b m i (ReloadClear h j) k = k
enter_by b m i (LoadExit v) k = k
enter_by b m i (LinkExit h v) k = k
enter_by b m i (ClearExit h v) k = k
enter_by b m i (ReleaseExit h v) k = k
enter_by b m i (Retract v) k = k

abbrev pub enter_for : Object → ℕ → Call → Config → Book → Book
enter_for b n (Begin i o) c k = k
enter_for b n (Step i) c k = cond (ltb i n) (enter_by b c.memory i (c.task i).phase k) k

-- One more step on a page.
abbrev pub counted : Page → Page
counted Page.Idle = Page.Idle
counted (Waiting x s) = Waiting x (suc s)
counted (Done r s) = Done r (suc s)

-- The call at a place is booked with its answer.
abbrev pub booked : ℕ → Call → Answer → Book → Book
booked place (Begin t o) Begun k = turned t (Waiting (record { place = place; task = t; operation = o }) 0) k
booked place (Begin t o) Running k = k
booked place (Begin t o) (Ended r s) k = k
booked place (Begin t o) (Refused x) k = k
booked place (Step t) Begun k = k
booked place (Step t) Running k = turned t (counted (k.page t)) k
booked place (Step t) (Ended r s) k = turned t Page.Idle k
booked place (Step t) (Refused x) k = k

-- The book after one call, and after a list of calls.
abbrev pub keep : Object → (n place : ℕ) → Call → Config → Book → Book
keep b n place x c k = booked place x (serve b n x c).answer (enter_for b n x c k)

abbrev pub book_after : Object → (n place : ℕ) → List Call → Config → Book → Book
book_after b n place [] c k = k
book_after b n place (x ∷ xs) c k = book_after b n (suc place) xs (serve b n x c).config (keep b n place x c k)

-- The book after a list of calls from the start in state q.
abbrev pub book_of : Object → (n q : ℕ) → List Call → Book
book_of b n q xs = book_after b n 0 xs (start q) (blank q)
