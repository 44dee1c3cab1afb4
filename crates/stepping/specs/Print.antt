-- What may be read in a print of the cells at any point of a run, at work too. The words are read by their fields alone.
use Rattle.std.specs.Prelude.{◌≡◌, true, false, List, ℕ, ◌+◌, ◌<◌, length, get_or}
use Rattle.cells.specs.Form.{cells_in_form}
use Rattle.cells.specs.Image.{image}
use Rattle.cells.specs.Layout.{has_mark, state_in_word, holder_in, kind_in}
use Rattle.machine.specs.Object.{Object}
use Rattle.machine.specs.Calls.{Event}
use Rattle.machine.specs.Book.{Operation}
use Rattle.machine.specs.History.{pending, Quiet, Changes, Rest, reached}

-- The kind in the announcement of task t is 0.
abbrev pub EmptyAt : List ℕ → ℕ → Type 0
EmptyAt cells t = kind_in (get_or cells (t + 1) 0) ≡ 0

-- The cells of n tasks over the object b, with the history es and the order so far, from the start in state q. A task is quiet, with no
-- changing operation pending, by the calls and answers alone.
pub record Print (b : Object) (n q : ℕ) (cells : List ℕ) (es : List Event) (order : List Operation) : Type 0 where
  -- The announcement of a quiet task has kind 0.
  pub kind : (t : ℕ) → Quiet b (pending es t) → EmptyAt cells t
  -- No cell has a mark of a quiet task.
  pub mark : (t k : ℕ) → Quiet b (pending es t) → has_mark t (get_or cells k 0) ≡ false
  -- The head's holder, if any, is one of the n tasks, and has a changing operation pending.
  pub holder : (j : ℕ) → holder_in (get_or cells 0 0) ≡ j + 1 → (j < n) × Changes b (pending es j)
  -- The head's state is the one that the order has reached.
  pub state : state_in_word (get_or cells 0 0) ≡ reached b q order

-- The cells show task t: its announcement has another kind than 0, a mark of it stands in some cell, or it holds the head.
pub data Shows (cells : List ℕ) (t : ℕ) : Type 0 where
  announced : (EmptyAt cells t → ⊥) → Shows cells t
  marked : (k : ℕ) → has_mark t (get_or cells k 0) ≡ true → Shows cells t
  holds : holder_in (get_or cells 0 0) ≡ t + 1 → Shows cells t

-- From a print alone: at a point of rest n + 1 cells in form, with s states and m operations, are the image of the state that the
-- order has reached.
abbrev pub PrintAtRest : (b : Object) (s m n q : ℕ) → List ℕ → List Event → List Operation → Type 0
PrintAtRest b s m n q cells es order =
    Print b n q cells es order → length cells ≡ n + 1 → cells_in_form s m n cells ≡ true → Rest b es → cells ≡ image n (reached b q order)
