-- At a point of rest the cells are the image of the book's state: they tell the state, and nothing of how it came about.
use mathlib.Core.Path.{◌≡◌, refl, sym, ◌∙◌, ap}
use mathlib.Core.List.{List}
use mathlib.Core.Logic.{◌↔◌}
use Prim.Native.Nat.{ℕ}
use Rattle.cells.proofs.MarkLaws.{none_has}
use Rattle.machine.specs.Object.{Object}
use Rattle.machine.specs.Lawful.{Opens}
use Rattle.machine.specs.Memory.{HeadValue, Free, Held, Memory, state_of, image}
use Rattle.machine.specs.Run.{start, run, history}
use Rattle.machine.specs.Calls.{Call}
use Rattle.machine.specs.History.{Quiet, Rest}
use Rattle.machine.specs.Invariant.{head_value, HolderAnnounces}
use Rattle.machine.proofs.Points.Pending.{pending_of, pending_is}
use Rattle.machine.proofs.Points.NoTrace.{NoTrace, no_trace}
use Rattle.machine.proofs.Book.Keeping.{Sound, sound}
use Rattle.machine.specs.Keeping.{book_of}

-- Cells in which no task leaves a trace are an image.
no_traces : (m : Memory) → ((t : ℕ) → NoTrace m t) → ((t : ℕ) → HolderAnnounces m t) → m ≡ image (state_of (head_value m))
no_traces m y g = λ i. record {
  head = record { value = free (head_value m) refl i; marks = none_has m.head.marks (λ t. (y t).head) i };
  announcement = λ j. record { value = (y j).empty i; marks = none_has (m.announcement j).marks (λ t. (y t).marks j) i };
}
  where
    -- A holder would have announced.
    free : (v : HeadValue) → head_value m ≡ v → v ≡ Free (state_of v)
    free (Free q) e = refl
    free (Held q j r) e = absurd (rw (y j).empty at (g j q r e))

module _ (b : Object) (n q : ℕ) (good : Opens b q) (xs : List Call) where
  pub rest_image : Rest b (history b n xs (start q)) → (run b n xs (start q)).memory ≡ image (book_of b n q xs).state
  rest_image r = no_traces _ (λ t. no_trace b n _ s.safe s.formed t (reads t)) s.safe.holder ∙ ap image (sym s.related.state)
    where
      s : Sound b n (run b n xs (start q)) (book_of b n q xs)
      s = sound b n q good xs

      reads : (t : ℕ) → Quiet b (pending_of ((run b n xs (start q)).task t))
      reads t = rw (pending_is b n xs q t) at (r t)

-- Two points of rest, of two lists and even of two objects: the cells are equal exactly if the states are.
pub history_independent : (b b' : Object) (n n' q q' : ℕ) → Opens b q → Opens b' q' → (xs xs' : List Call)
    → Rest b (history b n xs (start q)) → Rest b' (history b' n' xs' (start q'))
    → ((run b n xs (start q)).memory ≡ (run b' n' xs' (start q')).memory) ↔ ((book_of b n q xs).state ≡ (book_of b' n' q' xs').state)
history_independent b b' n n' q q' g g' xs xs' r r' = (λ e. ap (λ (m : Memory). state_of (head_value m)) (sym i ∙ e ∙ i'), λ e. i ∙ ap image e ∙ sym i')
  where
    i : (run b n xs (start q)).memory ≡ image (book_of b n q xs).state
    i = rest_image b n q g xs r

    i' : (run b' n' xs' (start q')).memory ≡ image (book_of b' n' q' xs').state
    i' = rest_image b' n' q' g' xs' r'
