-- Calls that stand between those of a run: refused ones, and those on other memory, leave the run as it is.
use Rattle.std.specs.Prelude.{Result, Ok, Err, ⊤}
use mathlib.Core.Path.{◌≡◌, refl, sym, ◌∙◌, ap}
use mathlib.Core.List.{List, ◌∷◌, map}
use Prim.Native.Nat.{ℕ}
use Rattle.laws.proofs.Update.{update_same, update_other, update_held}
use Rattle.laws.proofs.Clash.{never}
use Rattle.refusal.specs.declared.Refusal.{Refusal}
use Rattle.machine.specs.Calls.{Call, Answer, Event}
use Rattle.records.specs.declared.record.Task.{Task}
use Rattle.stepping.specs.Call.{begin_said, step_said, StartOutcome}
use Rattle.stepping.specs.Runs.{Store, serve_of, run_of, history_of}
use Rattle.stepping.specs.Lent as lent
use Rattle.stepping.specs.Lent.{Memory, Places, store_at, LentCall, Says, start_answered, serve_lent, OfRun, IsRefused, Apart, done, own, refused, apart, SameRun}
use Rattle.stepping.specs.Statement.{Between, OpensNext}
use Rattle.stepping.proofs.Refused.{refused_start, refused_begin_row, refused_step_row}
use Rattle.stepping.specs.declared.answer.Progress.{Progress}
use Rattle.stepping.specs.declared.answer.Progress.TheVariants as progress

-- What a run hands on, from two equations.
pub store_same : {cells cells' : List ℕ} {row row' : List Task} → cells ≡ cells' → row ≡ row' → ◌≡◌ {A = Store} (record { cells = cells; row = row }) (record { cells = cells'; row = row' })
store_same e f k = record { cells = e k; row = f k }

-- ---- One call

-- The cause of an answer that is refused.
start_cause : (a : Result ⊤ Refusal) → IsRefused (start_answered a) → (c : Refusal) × (a ≡ Err c)
start_cause (Ok tt) r = absurd r
start_cause (Err c) r = (c, refl)

begin_cause : (a : Result ⊤ Refusal) → IsRefused (Says (begin_said a)) → (c : Refusal) × (a ≡ Err c)
begin_cause (Ok tt) r = absurd r
begin_cause (Err c) r = (c, refl)

step_cause : (a : Result Progress Refusal) → IsRefused (Says (step_said a)) → (c : Refusal) × (a ≡ Err c)
step_cause (Ok progress.Running) r = absurd r
step_cause (Ok (progress.Ended x v k)) r = absurd r
step_cause (Err c) r = (c, refl)

module _ (p : Places) (m : Memory) where
  -- A refused call leaves the cells and the row of the run.
  refused_keeps : (x : LentCall) → IsRefused (serve_lent x m).answer → store_at p (serve_lent x m).memory ≡ store_at p m
  refused_keeps (lent.LentStart at) r =
      let (c, e) = start_cause _ r in
      let same = refused_start (m.cells at.cells) (m.row at.row) (m.table at.table) c e in
      store_same
      (update_held m.cells at.cells _ (ap (λ (out : StartOutcome). out.cells) same) p.cells)
      (update_held m.row at.row _ (ap (λ (out : StartOutcome). out.row) same) p.row)
  refused_keeps (lent.LentBegin table row i o) r =
      let (c, e) = begin_cause _ r in
      store_same refl (update_held m.row row _ (refused_begin_row (m.table table) (m.row row) i o c e) p.row)
  refused_keeps (lent.LentStep at i) r =
      let (c, e) = step_cause _ r in
      let (row, cells) = refused_step_row (m.table at.table) (m.row at.row) i (m.cells at.cells) c e in
      store_same (update_held m.cells at.cells _ cells p.cells) (update_held m.row at.row _ row p.row)

  -- A call on other memory leaves them too.
  apart_keeps : (x : LentCall) → Apart p x → store_at p (serve_lent x m).memory ≡ store_at p m
  apart_keeps (lent.LentStart at) (c, r) = store_same (update_other m.cells at.cells _ p.cells c) (update_other m.row at.row _ p.row r)
  apart_keeps (lent.LentBegin table row i o) r = store_same refl (update_other m.row row _ p.row r)
  apart_keeps (lent.LentStep at i) (c, r) = store_same (update_other m.cells at.cells _ p.cells c) (update_other m.row at.row _ p.row r)

  -- No call writes a table.
  tables_stay : (x : LentCall) → (serve_lent x m).memory.table ≡ m.table
  tables_stay (lent.LentStart at) = refl
  tables_stay (lent.LentBegin table row i o) = refl
  tables_stay (lent.LentStep at i) = refl

  -- A call of the run does what it does in the run.
  own_serves : {x : LentCall} {y : Call} → OfRun p x y
      → (store_at p (serve_lent x m).memory ≡ (serve_of (m.table p.table) y (store_at p m)).store) × ((serve_lent x m).answer ≡ Says (serve_of (m.table p.table) y (store_at p m)).answer)
  own_serves lent.begin = (store_same refl (update_same m.row p.row _), refl)
  own_serves lent.step = (store_same (update_same m.cells p.cells _) (update_same m.row p.row _), refl)

-- ---- A list of calls

-- The same calls over an equal table, from an equal store.
history_same : {file file' : List ℕ} {s s' : Store} (xs : List Call) → file ≡ file' → s ≡ s' → history_of file xs s ≡ history_of file' xs s'
history_same xs e f k = history_of (e k) xs (f k)

run_same : {file file' : List ℕ} {s s' : Store} (xs : List Call) → file ≡ file' → s ≡ s' → run_of file xs s ≡ run_of file' xs s'
run_same xs e f k = run_of (e k) xs (f k)

-- A list that goes on from an equal store over equal tables is the same run.
goes_on : (p : Places) {m m₁ m' : Memory} {es : List Event} → store_at p m₁ ≡ store_at p m → m₁.table ≡ m.table → SameRun p m₁ es m' → SameRun p m es m'
goes_on p {es = es} e t z = record {
  history = z.history ∙ history_same (map (λ x. x.call) es) (ap (λ f. f p.table) t) e;
  store = z.store ∙ run_same (map (λ x. x.call) es) (ap (λ f. f p.table) t) e;
  table = z.table ∙ t;
}

says_same : {a b : Answer} → Says a ≡ Says b → a ≡ b
says_same e = cc

pub between : (p : Places) → Between p
between p m m' xs es done = record { history = refl; store = refl; table = refl }
between p m m' xs es (refused {x = x} r more) = goes_on p (refused_keeps p m x r) (tables_stay p m x) (between p _ _ _ _ more)
between p m m' xs es (apart {x = x} r more) = goes_on p (apart_keeps p m x r) (tables_stay p m x) (between p _ _ _ _ more)
between p m m' xs es (own {x = x} {y = y} {a = a} {es = more_es} r said more) =
    let z = between p _ _ _ more_es more in
    let (store, answer) = own_serves p m r in
    let ys = map (λ e. e.call) more_es in
    let table = ap (λ f. f p.table) (tables_stay p m x) in
    let same : a ≡ (serve_of (m.table p.table) y (store_at p m)).answer = says_same (sym said ∙ answer) in
    record {
      history = λ k. record { call = y; answer = same k } ∷ (z.history ∙ history_same ys table store) k;
      store = z.store ∙ run_same ys table store;
      table = z.table ∙ tables_stay p m x;
    }

-- ---- The next run

opened : (a : Result ⊤ Refusal) → start_answered a ≡ lent.RunOpened → a ≡ (Ok tt)
opened (Ok tt) e = refl
opened (Err c) e = never cc

pub opens_next : (p : Places) → OpensNext p
opens_next p m e = (opened _ e, store_same (update_same m.cells p.cells _) (update_same m.row p.row _))
