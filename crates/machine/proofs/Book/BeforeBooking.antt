-- The book of a step between the entries and the booking: a task that goes on stands as before, and one that ends has its outcome.
use mathlib.Core.Path.{◌≡◌, refl, sym, ◌∙◌, ap}
use mathlib.Core.Bool.{false}
use mathlib.Core.Logic.{◌≢◌}
use Prim.Native.Nat.{ℕ, ◌<◌}
use Rattle.laws.proofs.Clash.{clash}
use Rattle.laws.proofs.Update.{update_same, everywhere}
use Rattle.machine.specs.Outcome.{Outcome}
use Rattle.machine.specs.Object.{Object}
use Rattle.machine.specs.Lawful.{Opens}
use Rattle.machine.specs.Memory.{Content, Cell, Memory, state_of}
use Rattle.machine.specs.Machine.{Phase, ReadOnly, Announce, Poll, Next, Go, Turn, End}
use Rattle.machine.specs.Kind.{Looping, kind, off}
use Rattle.machine.specs.Run.{Config}
use Rattle.machine.specs.Invariant.{head_value, content, Safe}
use Rattle.machine.specs.Form.{OperationFormed, Formed}
use Rattle.machine.specs.Book.{Book, Done, Entering, none}
use Rattle.machine.specs.Keeping.{enter, enter_by}
use Rattle.machine.proofs.Steps.Effect.{Effect, Unchanged, Linked, Released, Cleared, Retracted, Applied, LinkedAt, ReleasedAt, HandedOver, Announced, effect, Allowed}
use Rattle.machine.proofs.Steps.Successor.{Steps}
use Rattle.machine.proofs.Invariant.Guarantee.{allowed}
use Rattle.machine.proofs.Invariant.Ranges.{state_good}
use Rattle.machine.proofs.Book.Related.{Waits, by_content, stands_at, Paged, Related, shows_same, page_by, Aside, stands_aside, not_held}
use Rattle.machine.proofs.Book.Progress.{Onward, Progress, idles, reads, announces, applies, continues, retracts, progress, enters_reader, enters_applied}
use Rattle.machine.proofs.Book.Entries.{with_cells, enter_legal, enter_other, EnteredAs, enters_as, page_aside, related_applied}

-- The step of task i goes on to the phase f: over the new cells m every page is right by the old records, and the task
-- stands the same by its new phase.
pub record Runs (c : Config) (m : Memory) (i : ℕ) (k : Book) (f : Phase) : Type 0 where
  pub related : Related (with_cells c m) k
  pub stands : stands_at m i (kind f) ≡ stands_at m i (kind (c.task i).phase)

-- The step of task i ends with the outcome v: the task has been entered with it.
pub record EndsBooked (c : Config) (m : Memory) (i : ℕ) (k : Book) (v : Outcome) : Type 0 where
  pub state : k.state ≡ state_of (head_value m)
  pub others : (t : ℕ) → i ≢ t → Paged m t (c.task t) (k.page t)
  pub page : k.page i ≡ Done v (c.task i).steps

abbrev pub BeforeBooking : Config → Memory → ℕ → Book → Next → Type 0
BeforeBooking c m i k (Go f) = Runs c m i k f
BeforeBooking c m i k (Turn f) = Runs c m i k f
BeforeBooking c m i k (End v) = EndsBooked c m i k v

-- An effect that is nobody's matter leaves the head's state.
state_aside : (m : Memory) (i : ℕ) (e : Effect) → ((s t : ℕ) → Aside s t e) → state_of (head_value (effect i e m)) ≡ state_of (head_value m)
state_aside m i Unchanged n = refl
state_aside m i Linked n = refl
state_aside m i Released n = refl
state_aside m i Cleared n = refl
state_aside m i Retracted n = refl
state_aside m i (Applied q j r) n = absurd (n 0 j refl)
state_aside m i (LinkedAt j) n = refl
state_aside m i (ReleasedAt j) n = refl
state_aside m i (HandedOver j r) n = refl
state_aside m i (Announced o) n = refl

module _ (b : Object) (c : Config) (k : Book) (i : ℕ) where
  -- Before a step only waiting tasks are entered.
  entries_by : {f : Phase} {e : Effect} {y : Next} → Progress b c.memory i (c.task i).operation f e y → Entering b k (enter_by b c.memory i f k)
  entries_by idles = none
  entries_by reads = rw (enters_reader b c.memory i k) (enter_legal b i k)
  entries_by announces = none
  entries_by (applies {h} {j} {o} e) = rw (enters_applied b c.memory i h j o k e) (enter_legal b j k)
  entries_by (continues _ _ n) = rw (n k) none
  entries_by retracts = none

  pub entries_legal : {e : Effect} {y : Next} → Steps b i c e y → Entering b k (enter_by b c.memory i (c.task i).phase k)
  entries_legal v = entries_by (progress b c.memory i (c.task i).priority (c.task i).operation v)

  module _ (rel : Related c k) where
    -- A reader takes effect in the very step that ends it. It keeps the state.
    before_booking_reads : (c.task i).phase ≡ ReadOnly → Opens b (state_of (head_value c.memory)) → (c.task i).operation < b.operations → b.changing (c.task i).operation ≡ false
        → EndsBooked c c.memory i (enter b i k) (b.outcome (state_of (head_value c.memory)) (c.task i).operation)
    before_booking_reads z g h d = record {
      state = done.state ∙ ap (λ q. b.next q o) rel.state ∙ g.lawful.still _ o g.good h d;
      others = λ t d. rw (enter_other b i t k d) (rel.page t);
      page = done.page ∙ ap (λ q. Done (b.outcome q o) (c.task i).steps) rel.state;
    }
      where
        o : ℕ
        o = (c.task i).operation

        done : EnteredAs b i o (c.task i).steps k
        done = enters_as b i o (c.task i).steps k (page_by rel i z)

    -- An announced operation waits as before.
    before_booking_announces : (o : ℕ) → (c.task i).phase ≡ Announce → Allowed b c.memory i (Announced o) → Runs c (effect i (Announced o) c.memory) i k Poll
    before_booking_announces o z u = record { related = record { state = rel.state; page = everywhere _ i own (page_aside b c k i rel (Announced o) u) }; stands = waits ∙ sym opening }
      where
        m : Memory
        m = effect i (Announced o) c.memory

        waits : stands_at m i Looping ≡ Waits
        waits = ap (λ (a : Cell Content). by_content a.value (head_value m) i) (update_same c.memory.announcement i _) ∙ not_held (head_value m) i u.1

        opening : stands_at m i (kind (c.task i).phase) ≡ Waits
        opening = ap (λ (f : Phase). stands_at m i (kind f)) z

        own : Paged m i (c.task i) (k.page i)
        own = shows_same (sym opening) i (c.task i).operation (c.task i).steps (k.page i) (page_by rel i z)

    before_booking_applies : (q j : ℕ) (r : Outcome) {f : Phase} → (c.task i).phase ≡ f → kind f ≡ Looping → Safe c → Allowed b c.memory i (Applied q j r) → Runs c (effect i (Applied q j r) c.memory) i (enter b j k) Poll
    before_booking_applies q j r z l safe u = record {
      related = related_applied b c k i rel safe q j r u;
      stands = sym (ap (λ (f : Phase). stands_at (effect i (Applied q j r) c.memory) i (kind f)) z ∙ ap (stands_at (effect i (Applied q j r) c.memory) i) l);
    }

    before_booking_continues : {f : Phase} (e : Effect) (f' : Phase) → (c.task i).phase ≡ f → Allowed b c.memory i e → Onward (content c.memory i) i (kind f) (kind f') → ((s t : ℕ) → Aside s t e)
        → Runs c (effect i e c.memory) i k f'
    before_booking_continues {f} e f' z u o s = record {
      related = record { state = rel.state ∙ sym (state_aside c.memory i e s); page = λ t. page_aside b c k i rel e u t (s i t) };
      stands = aside f' ∙ o.2 (head_value c.memory) ∙ sym (aside f) ∙ sym (ap (λ (g : Phase). stands_at (effect i e c.memory) i (kind g)) z);
    }
      where
        aside : (g : Phase) → stands_at (effect i e c.memory) i (kind g) ≡ stands_at c.memory i (kind g)
        aside g = stands_aside b c.memory i i e u (s i i) (kind g)

    -- A step by its phase f, if its effect is allowed and a reader's operation is reading.
    before_booking_by : {f : Phase} {e : Effect} {y : Next} → Progress b c.memory i (c.task i).operation f e y → (c.task i).phase ≡ f → off (kind f) ≡ false
        → Safe c → Allowed b c.memory i e → Opens b (state_of (head_value c.memory)) → OperationFormed b (kind f) (c.task i).operation (c.task i).steps
        → BeforeBooking c (effect i e c.memory) i (enter_by b c.memory i f k) y
    before_booking_by idles z p safe u g r = clash refl p
    before_booking_by reads z p safe u g r = rw (enters_reader b c.memory i k) (before_booking_reads z g r.0 r.1)
    before_booking_by announces z p safe u g r = before_booking_announces (c.task i).operation z u
    before_booking_by (applies {h} {j} {o} e) z p safe u g r = rw (enters_applied b c.memory i h j o k e) (before_booking_applies _ j _ z refl safe u)
    before_booking_by (continues {f' = f'} {e = e} o s n) z p safe u g r = rw (n k) (before_booking_continues e f' z u o s)
    before_booking_by retracts z p safe u g r = record { state = rel.state; others = λ t d. page_aside b c k i rel Retracted u t d; page = page_by rel i z }

    -- Every step of a task with an operation pending.
    pub before_booking : {n : ℕ} {e : Effect} {y : Next} → Safe c → Formed b n c → i < n → off (kind (c.task i).phase) ≡ false → Steps b i c e y
        → BeforeBooking c (effect i e c.memory) i (enter_by b c.memory i (c.task i).phase k) y
    before_booking {n} safe formed h p v =
        before_booking_by (progress b c.memory i (c.task i).priority (c.task i).operation v) refl p safe
        (allowed b c.memory i (c.task i).priority (c.task i).operation safe.holder v (safe.each i))
        (record { lawful = formed.lawful; good = state_good b n (head_value c.memory) formed.memory.head.value }) (formed.task i h).operation
