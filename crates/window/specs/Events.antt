-- Runs with windows: bytes that are written, window calls and direct calls, in any order, and the direct calls that they come to.
use Rattle.std.specs.Prelude.{List, [], ◌∷◌, ◌++◌, ℕ, length, set}
use Rattle.machine.specs.Calls.{Call, Begin, Step}
use Rattle.stepping.specs.Runs.{Store, serve_of}
use Rattle.window.specs.Serve.{Asked, Settled, Begins, Steps, asked_of, window_of}

-- A byte is written at a place of the windows, a window call is made for a task, or a direct call of begin or step.
pub data WindowEvent : Type 0 where
  Written : (place byte : ℕ) → WindowEvent
  Served : (task : ℕ) → WindowEvent
  Direct : (call : Call) → WindowEvent

-- What the events hand on: the cells and the row, and the windows.
pub record WindowStore : Type 0 where
  pub store : Store
  pub windows : List ℕ

-- Windows beside the cells and the row that a run opens with.
abbrev pub opened : Store → List ℕ → WindowStore
opened s windows = record { store = s; windows = windows }

-- What an event leaves.
abbrev pub happen : List ℕ → WindowEvent → WindowStore → WindowStore
happen file (Written place byte) l = record { store = l.store; windows = set l.windows place byte }
happen file (Served t) l =
    let out = window_of file l.store.cells l.store.row l.windows t in
    record { store = record { cells = out.cells; row = out.row }; windows = out.windows }
happen file (Direct x) l = record { store = (serve_of file x l.store).store; windows = l.windows }

-- What a list of events leaves.
abbrev pub after : List ℕ → List WindowEvent → WindowStore → WindowStore
after file [] l = l
after file (e ∷ es) l = after file es (happen file e l)

-- The direct call that a window call makes, if it makes one.
abbrev pub call_by : ℕ → Asked → List Call
call_by t (Settled answer windows) = []
call_by t (Begins operation) = Begin t operation ∷ []
call_by t Steps = Step t ∷ []

-- The direct calls that an event comes to.
abbrev pub call_at : WindowEvent → WindowStore → List Call
call_at (Written place byte) l = []
call_at (Served t) l = call_by t (asked_of l.windows (length l.store.row) t)
call_at (Direct x) l = x ∷ []

-- The direct calls that a list of events comes to.
abbrev pub calls_of : List ℕ → List WindowEvent → WindowStore → List Call
calls_of file [] l = []
calls_of file (e ∷ es) l = call_at e l ++ calls_of file es (happen file e l)
