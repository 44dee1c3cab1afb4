-- At every point of a run, at work too: what the cells show of the tasks and of the state.
use mathlib.Core.Path.{◌≡◌, refl, sym, ◌∙◌}
use mathlib.Core.Bool.{true, false}
use mathlib.Core.List.{List}
use Prim.Native.Nat.{ℕ, suc}
use native.Mathlib.Omega.{arith}
use Rattle.laws.proofs.Clash.{clash}
use Rattle.machine.specs.Object.{Object}
use Rattle.machine.specs.Lawful.{Opens}
use Rattle.machine.specs.Memory.{Empty}
use Rattle.machine.specs.Kind.{Kind, Off, Reading, Opening, Looping, Exiting, Retracting, kind, off}
use Rattle.machine.specs.Run.{start, run, history}
use Rattle.machine.specs.Calls.{Call}
use Rattle.machine.specs.History.{Quiet, Pends, pending}
use Rattle.machine.specs.Invariant.{content}
use Rattle.machine.specs.Form.{OperationFormed}
use Rattle.machine.proofs.Book.Progress.{announced}
use Rattle.machine.proofs.Points.Pending.{pending_is}
use Rattle.machine.proofs.Points.NoTrace.{NoTrace, no_trace, holder_works}
use Rattle.machine.proofs.Points.OwnSteps.{announced_content, own_record}
use Rattle.machine.proofs.Book.Keeping.{Sound, sound, state_reached}
use Rattle.machine.specs.Keeping.{book_of}
use Rattle.machine.specs.Points.{MidWork}

pub mid_work : (b : Object) (n q : ℕ) → Opens b q → (xs : List Call) → MidWork b q (run b n xs (start q)).memory (history b n xs (start q)) (book_of b n q xs).order
mid_work b n q good xs = record {
  empty = λ t r. (trace t r).empty;
  head_mark = λ t r. (trace t r).head;
  announcement_mark = λ t j r. (trace t r).marks j;
  holder = λ p j r e. let (f, g) = holder_works b n _ s.safe s.formed p j r e in rw (pending_is b n xs q j, f) g;
  state = sym s.related.state ∙ state_reached b n q good xs;
}
  where
    s : Sound b n (run b n xs (start q)) (book_of b n q xs)
    s = sound b n q good xs

    trace : (t : ℕ) → Quiet b (pending (history b n xs (start q)) t) → NoTrace (run b n xs (start q)).memory t
    trace t r = no_trace b n _ s.safe s.formed t (rw (pending_is b n xs q t) at r)

-- An operation that has made a step has announced itself, and stays announced.
stepped_announced : (b : Object) (d : Kind) (o s k : ℕ) → off d ≡ false → OperationFormed b d o s → s ≡ suc k → announced d ≡ true
stepped_announced b Off o s k e y z = clash refl e
stepped_announced b Reading o s k e y z = absurd (omega (arith, y.2, z))
stepped_announced b Opening o s k e y z = absurd (omega (arith, y.2, z))
stepped_announced b Looping o s k e y z = refl
stepped_announced b (Exiting v) o s k e y z = refl
stepped_announced b (Retracting v) o s k e y z = refl

pub stays_announced : (b : Object) (n q : ℕ) → Opens b q → (xs : List Call) (t o k : ℕ) → pending (history b n xs (start q)) t ≡ Pends o (suc k)
    → content (run b n xs (start q)).memory t ≡ Empty → ⊥
stays_announced b n q good xs t o k e =
    let s = sound b n q good xs in
    let c = run b n xs (start q) in
    let r = own_record b n c s.formed t o (suc k) (sym (pending_is b n xs q t) ∙ e) in
    let works = stepped_announced b (kind (c.task t).phase) _ _ k r.works (s.formed.task t r.below).operation r.steps in
    announced_content (kind (c.task t).phase) (content c.memory t) _ works (s.safe.each t).own
