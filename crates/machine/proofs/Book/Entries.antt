-- The entries before a step: they are legal, and the book that they lead to shows over the changed cells where the tasks stand.
use mathlib.Core.Path.{◌≡◌, refl, sym, ◌∙◌, ap}
use mathlib.Core.Logic.{◌≢◌, if_pos}
use Prim.Native.Nat.{ℕ}
use native.Mathlib.Decide.{ℕ_discrete}
use Rattle.laws.proofs.Update.{update_same, update_other, everywhere}
use Rattle.machine.specs.Outcome.{Outcome}
use Rattle.machine.specs.Object.{Object}
use Rattle.machine.specs.Memory.{HeadValue, Held, Content, Op, Memory, state_of}
use Rattle.machine.specs.Kind.{Kind, Off, Reading, Opening, Looping, Exiting, Retracting, kind}
use Rattle.machine.specs.Run.{Config}
use Rattle.machine.specs.Invariant.{head_value, content, OwnContent, Safe}
use Rattle.machine.specs.Book.{Operation, Book, Page, Waiting, Done, entered, Entering, none, enter as enters}
use Rattle.machine.specs.Keeping.{enter, enter_page}
use Rattle.machine.proofs.Steps.Effect.{Effect, Applied, effect, Allowed}
use Rattle.machine.proofs.Book.Related.{Waits, Answered, by_head, by_content, standing, Shows, Paged, Related, shows_same, Aside, stands_aside}

-- The configuration with other cells.
abbrev pub with_cells : Config → Memory → Config
with_cells c m = record { memory = m; task = c.task }

module _ (b : Object) where
  -- A task is entered only if it waits.
  pub enter_legal : (t : ℕ) (k : Book) → Entering b k (enter b t k)
  enter_legal t k = go (k.page t) refl
    where
      go : (p : Page) → k.page t ≡ p → Entering b k (enter_page b t p k)
      go Page.Idle e = none
      go (Waiting x s) e = enters t x s e none
      go (Done r s) e = none

  pub enter_waiting : (t : ℕ) (k : Book) {x : Operation} {s : ℕ} → k.page t ≡ Waiting x s → enter b t k ≡ entered b t x s k
  enter_waiting t k e = ap (λ (p : Page). enter_page b t p k) e

  -- The pages of other tasks stay.
  pub enter_other : (j t : ℕ) (k : Book) → j ≢ t → (enter b j k).page t ≡ k.page t
  enter_other j t k n = go (k.page j)
    where
      go : (p : Page) → (enter_page b j p k).page t ≡ k.page t
      go Page.Idle = refl
      go (Waiting x s) = update_other k.page j _ t n
      go (Done r s) = refl

  -- What a task that waits has on its page after it is entered, and the state then.
  pub record EnteredAs (t o s : ℕ) (k : Book) : Type 0 where
    pub page : (enter b t k).page t ≡ Done (b.outcome k.state o) s
    pub state : (enter b t k).state ≡ b.next k.state o

  pub enters_as : (t o s : ℕ) (k : Book) → Shows Waits t o s (k.page t) → EnteredAs t o s k
  enters_as t o s k (place, e) = record {
    page = ap (λ (x : Book). x.page t) (enter_waiting t k e) ∙ update_same k.page t _;
    state = ap (λ (x : Book). x.state) (enter_waiting t k e);
  }

-- A task whose announcement holds an operation is at work on it.
pub op_loops : (a : Content) (x o : ℕ) (d : Kind) → a ≡ Op x → OwnContent a o d → (d ≡ Looping) × (x ≡ o)
op_loops a x o Off e y = (cc, cc)
op_loops a x o Reading e y = (cc, cc)
op_loops a x o Opening e y = (cc, cc)
op_loops a x o Looping e y = (refl, rw e at y)
op_loops a x o (Exiting v) e y = (cc, cc)
op_loops a x o (Retracting v) e y = (cc, cc)

module _ (b : Object) (c : Config) (k : Book) (i : ℕ) (rel : Related c k) where
  -- A page that shows the standing before an effect shows it after one that is no matter of its task.
  pub page_aside : (e : Effect) → Allowed b c.memory i e → (t : ℕ) → Aside i t e → Paged (effect i e c.memory) t (c.task t) (k.page t)
  page_aside e u t n = shows_same (sym (stands_aside b c.memory i t e u n (kind (c.task t).phase))) t (c.task t).operation (c.task t).steps (k.page t) (rel.page t)

  -- The operation of task j is applied: the task is entered.
  pub related_applied : Safe c → (q j : ℕ) (r : Outcome) → Allowed b c.memory i (Applied q j r) → Related (with_cells c (effect i (Applied q j r) c.memory)) (enter b j k)
  related_applied safe q j r (a, x, free, op, next, outcome) = record { state = done.state ∙ reached; page = everywhere _ j own others }
    where
      m : Memory
      m = c.memory

      o : ℕ
      o = (c.task j).operation

      work : (kind (c.task j).phase ≡ Looping) × (x ≡ o)
      work = op_loops (content m j) x o (kind (c.task j).phase) op (safe.each j).own

      stood : (h : HeadValue) → standing (kind (c.task j).phase) (content m j) h j ≡ by_head h j
      stood h = ap (λ (d : Kind). standing d (content m j) h j) work.0 ∙ ap (λ (y : Content). by_content y h j) op

      done : EnteredAs b j o (c.task j).steps k
      done = enters_as b j o (c.task j).steps k (shows_same (stood (head_value m) ∙ ap (λ (h : HeadValue). by_head h j) free) j o (c.task j).steps (k.page j) (rel.page j))

      base : k.state ≡ a
      base = rel.state ∙ ap state_of free

      reached : b.next k.state o ≡ q
      reached = rw (base, ← work.1) (sym next)

      own : Paged (effect i (Applied q j r) m) j (c.task j) ((enter b j k).page j)
      own = shows_same (sym (stood (Held q j r) ∙ if_pos (ℕ_discrete j j) refl (Answered r) Waits)) j o (c.task j).steps ((enter b j k).page j) (done.page ∙ rw (base, ← work.1, ← outcome) refl)

      others : (t : ℕ) → j ≢ t → Paged (effect i (Applied q j r) m) t (c.task t) ((enter b j k).page t)
      others t d = rw (enter_other b j t k d) (page_aside (Applied q j r) (a, x, free, op, next, outcome) t d)
