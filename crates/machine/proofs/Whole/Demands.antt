-- The abstract machine meets the demand, for every number of tasks and every good start state.
use mathlib.Core.Path.{◌≡◌, refl, sym, ◌∙◌, ap}
use mathlib.Core.List.{List, [], ◌∷◌, ◌++◌}
use Prim.Native.Nat.{ℕ, ◌≤◌, ◌<◌}
use native.Mathlib.Nat.{zero-add}
use native.Mathlib.Omega.{arith}
use lib.ListN.{length}
use Rattle.laws.proofs.Clash.{clash}
use Rattle.machine.specs.Object.{Object}
use Rattle.machine.specs.Lawful.{Opens}
use Rattle.machine.specs.Memory.{image}
use Rattle.machine.specs.Run.{start, serve, run, history, machine_shows}
use Rattle.machine.specs.Calls.{Call}
use Rattle.machine.specs.Book.{Legal}
use Rattle.machine.specs.History.{Pends, pending}
use Rattle.machine.specs.Demand.{Demand}
use Rattle.machine.specs.Kind.{off}
use Rattle.machine.specs.Points.{MidWork}
use Rattle.machine.specs.Potential.{bound}
use Rattle.machine.proofs.Book.Booked.{legal_serve}
use Rattle.machine.proofs.Book.Keeping.{history_append, book_grows, sound, run_linearizable, order_stands}
use Rattle.machine.proofs.Points.Rest.{rest_image}
use Rattle.machine.proofs.Points.MidWork.{mid_work}
use Rattle.machine.proofs.Points.OwnSteps.{own_record, next_step}
use Rattle.machine.proofs.Points.Pending.{pending_is}
use Rattle.machine.proofs.Whole.WaitFree.{pending_steps}
use Rattle.machine.specs.Keeping.{book_of}

module _ (b : Object) (n q : ℕ) (good : Opens b q) where
  -- Each call with its answer is a legal step of the book.
  pub legal : (xs : List Call) (x : Call) → Legal b n (length xs) (record { call = x; answer = (serve b n x (run b n xs (start q))).answer }) (book_of b n q xs) (book_of b n q (xs ++ (x ∷ [])))
  legal xs x =
      let s = sound b n q good xs in
      rw (book_grows b n 0 xs (x ∷ []) (start q) _, zero-add) (legal_serve b n (length xs) _ _ s.related s.safe s.formed x)

  -- The own steps of a pending operation, by the history.
  pub below : (ceiling : ℕ) → bound n ≤ ceiling → (xs : List Call) (t o s : ℕ) → pending (history b n xs (start q)) t ≡ Pends o s → s < ceiling
  below ceiling h xs t o s e =
      let r = own_record b n (run b n xs (start q)) (sound b n q good xs).formed t o s (sym (pending_is b n xs q t) ∙ e) in
      omega (arith, h, pending_steps b n q good xs t r.below (λ z. clash (ap off z) r.works), r.steps)

  -- Demands 2 and 3, with any ceiling that the proved bound doesn't pass.
  unfoldable pub demand : (ceiling : ℕ) → bound n ≤ ceiling → Demand b n q ceiling image (MidWork b q) (machine_shows b n q)
  demand ceiling h = record {
    begins = refl;
    told = λ xs x. history_append b n xs (x ∷ []) (start q);
    book = book_of b n q;
    first = refl;
    legal = legal;
    grows = order_stands b n q good;
    linearizes = run_linearizable b n q good;
    rest = rest_image b n q good;
    prints = mid_work b n q good;
    accepted = λ xs t o s e. (next_step b n q good xs t o s e).accepted;
    below = below ceiling h;
    count = λ xs t o s r k e. (next_step b n q good xs t o s e).count r k;
  }
