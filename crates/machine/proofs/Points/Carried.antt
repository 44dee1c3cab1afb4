-- At every point of a run: an outcome that the cells hold for a task is that of its open operation, by replay of the order.
use mathlib.Core.Path.{◌≡◌, refl, ap, ◌∙◌}
use mathlib.Core.Logic.{if_pos}
use mathlib.Core.List.{List}
use Prim.Native.Nat.{ℕ}
use native.Mathlib.Decide.{ℕ_discrete}
use Rattle.laws.proofs.Clash.{never}
use Rattle.machine.specs.Outcome.{Outcome}
use Rattle.machine.specs.Object.{Object}
use Rattle.machine.specs.Lawful.{Opens}
use Rattle.machine.specs.Memory.{HeadValue, Held, Content, Empty, Op, Resp, Memory}
use Rattle.machine.specs.Kind.{Kind, Off, Reading, Opening, Looping, Exiting, Retracting, kind}
use Rattle.machine.specs.Run.{Config, start, run, history}
use Rattle.machine.specs.Calls.{Call, Event}
use Rattle.machine.specs.Book.{Operation, Book, Done}
use Rattle.machine.specs.History.{Open}
use Rattle.machine.specs.Invariant.{head_value, content, Agrees, OwnContent}
use Rattle.machine.specs.Keeping.{book_of}
use Rattle.machine.proofs.Book.Related.{Waits, Answered, standing, shows_same}
use Rattle.machine.proofs.Book.Agreement as agreement
use Rattle.machine.proofs.Book.Linearization.{kept_agrees}
use Rattle.machine.proofs.Book.Keeping.{Sound, sound, kept}
use Rattle.machine.proofs.Points.Pending.{pending_is}
use Rattle.machine.proofs.Points.NoTrace.{announces_changing}
use Rattle.machine.proofs.Points.Opened.{pending_open, open_whole}

-- The cells hold the outcome r for task j: in the head that it holds, or in its announcement.
pub data Holds (m : Memory) (j : ℕ) (r : Outcome) : Type 0 where
  in_head : {q : ℕ} → head_value m ≡ Held q j r → Holds m j r
  in_announcement : content m j ≡ Resp r → Holds m j r

-- A task whose announcement has its outcome stands answered with it, and so does the head's holder.
module _ (j : ℕ) (r : Outcome) where
  content_stands : (d : Kind) (a : Content) (o : ℕ) (h : HeadValue) → OwnContent a o d → a ≡ Resp r → standing d a h j ≡ Answered r
  content_stands Off a o h w e = never cc
  content_stands Reading a o h w e = never cc
  content_stands Opening a o h w e = never cc
  content_stands Looping a o h w e = rw e refl
  content_stands (Exiting v) a o h w e = let same : v ≡ r = cc in ap Answered same
  content_stands (Retracting v) a o h w e = let same : v ≡ r = cc in ap Answered same

  waiting_stands : (d : Kind) (x o q : ℕ) → OwnContent (Op x) o d → standing d (Op x) (Held q j r) j ≡ Answered r
  waiting_stands Off x o q w = never cc
  waiting_stands Reading x o q w = never cc
  waiting_stands Opening x o q w = never cc
  waiting_stands Looping x o q w = if_pos (ℕ_discrete j j) refl (Answered r) Waits
  waiting_stands (Exiting v) x o q w = never cc
  waiting_stands (Retracting v) x o q w = never cc

  holder_stands : (d : Kind) (a : Content) (o q : ℕ) → OwnContent a o d → Agrees a r → standing d a (Held q j r) j ≡ Answered r
  holder_stands d Empty o q w y = absurd y
  holder_stands d (Op x) o q w y = waiting_stands d x o q w
  holder_stands d (Resp v) o q w y = content_stands d (Resp v) o (Held q j r) w (ap Resp y)

  -- Neither announcement is empty.
  agrees_some : (a : Content) → Agrees a r → a ≡ Empty → ⊥
  agrees_some Empty y e = y
  agrees_some (Op x) y e = never cc
  agrees_some (Resp v) y e = never cc

  module _ (b : Object) (n : ℕ) {c : Config} {k : Book} (s : Sound b n c k) where
    own : OwnContent (content c.memory j) (c.task j).operation (kind (c.task j).phase)
    own = (s.safe.each j).own

    stands : Holds c.memory j r → standing (kind (c.task j).phase) (content c.memory j) (head_value c.memory) j ≡ Answered r
    stands (in_head {q = q} e) = rw e (holder_stands (kind (c.task j).phase) (content c.memory j) (c.task j).operation q own (s.safe.holder j q r e))
    stands (in_announcement e) = content_stands (kind (c.task j).phase) (content c.memory j) (c.task j).operation (head_value c.memory) own e

    some : Holds c.memory j r → content c.memory j ≡ Empty → ⊥
    some (in_head {q = q} e) f = agrees_some (content c.memory j) (s.safe.holder j q r e) f
    some (in_announcement e) f = never cc

    -- Its page is done with that outcome.
    done : Holds c.memory j r → k.page j ≡ Done r (c.task j).steps
    done h = shows_same (stands h) j (c.task j).operation (c.task j).steps (k.page j) (s.related.page j)

pub carried : (b : Object) (n q : ℕ) → Opens b q → (xs : List Call) (j : ℕ) (r : Outcome) → Holds (run b n xs (start q)).memory j r
    → (x : Operation) × (x.task ≡ j) × Open (history b n xs (start q)) x × agreement.Answered b q (book_of b n q xs).order x r
carried b n q good xs j r h =
    let s = sound b n q good xs in
    let es : List Event = history b n xs (start q) in
    let pends = (announces_changing b n _ s.safe s.formed j (some j r b n s h)).0 in
    let (x, own, was) = pending_open es j _ _ (pending_is b n xs q j ∙ pends) in
    let page = (kept_agrees b n q _ _ (kept b n q good xs)).pages j in
    (x, own, open_whole es x was, (rw (done j r b n s h) at page) x own was)
