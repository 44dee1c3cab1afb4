-- The plain book is kept along every list of calls, by a function of the calls so far; what it holds stands when the list goes on.
use mathlib.Core.Path.{◌≡◌, refl, ◌∙◌, ap}
use mathlib.Core.List.{List, [], ◌∷◌, ◌++◌}
use Prim.Native.Nat.{ℕ, suc, ◌+◌}
use native.Mathlib.Nat.{add-zero}
use native.Mathlib.Omega.{arith}
use lib.ListN.{length}
use Rattle.machine.specs.Object.{Object}
use Rattle.machine.specs.Lawful.{Opens}
use Rattle.machine.specs.Run.{Config, start, serve, run, history}
use Rattle.machine.specs.Calls.{Call, Event}
use Rattle.machine.specs.Invariant.{Safe}
use Rattle.machine.specs.Form.{Formed}
use Rattle.machine.specs.Book.{Book, blank, Kept, rest, then}
use Rattle.machine.specs.History.{Linearizes, reached}
use Rattle.machine.specs.Keeping.{keep, book_after, book_of}
use Rattle.machine.proofs.Invariant.Safety.{safe_start, safe_serve}
use Rattle.machine.proofs.Invariant.Ranges.{formed_start, formed_serve}
use Rattle.machine.proofs.Book.Order.{Extends, order_grows}
use Rattle.machine.proofs.Book.Linearization.{kept_agrees, linearizable}
use Rattle.machine.proofs.Book.Related.{Related, related_start}
use Rattle.machine.proofs.Book.Booked.{legal_serve, related_serve}

-- What the book needs of a configuration.
pub record Sound (b : Object) (n : ℕ) (c : Config) (k : Book) : Type 0 where
  pub safe : Safe c
  pub formed : Formed b n c
  pub related : Related c k

module _ (b : Object) (n : ℕ) where
  pub sound_start : {q : ℕ} → Opens b q → Sound b n (start q) (blank q)
  sound_start {q} g = record { safe = safe_start q; formed = formed_start b n g; related = related_start q }

  sound_serve : (place : ℕ) (x : Call) {c : Config} {k : Book} → Sound b n c k → Sound b n (serve b n x c).config (keep b n place x c k)
  sound_serve place x {c} {k} s = record {
    safe = safe_serve b n x c s.safe;
    formed = formed_serve b n x c s.safe s.formed;
    related = related_serve b n place c k s.related s.safe s.formed x;
  }

  pub sound_from : (place : ℕ) (xs : List Call) {c : Config} {k : Book} → Sound b n c k → Sound b n (run b n xs c) (book_after b n place xs c k)
  sound_from place [] s = s
  sound_from place (x ∷ xs) s = sound_from (suc place) xs (sound_serve place x s)

  pub kept_from : (place : ℕ) (xs : List Call) {c : Config} {k : Book} → Sound b n c k → Kept b n place k (history b n xs c) (book_after b n place xs c k)
  kept_from place [] s = rest
  kept_from place (x ∷ xs) {c} {k} s = then (legal_serve b n place c k s.related s.safe s.formed x) (kept_from (suc place) xs (sound_serve place x s))

  -- A list that goes on: configuration, history and book are those from where the first part led.
  pub run_append : (xs ys : List Call) (c : Config) → run b n (xs ++ ys) c ≡ run b n ys (run b n xs c)
  run_append [] ys c = refl
  run_append (x ∷ xs) ys c = run_append xs ys (serve b n x c).config

  pub history_append : (xs ys : List Call) (c : Config) → history b n (xs ++ ys) c ≡ history b n xs c ++ history b n ys (run b n xs c)
  history_append [] ys c = refl
  history_append (x ∷ xs) ys c = ap (λ (es : List Event). record { call = x; answer = (serve b n x c).answer } ∷ es) (history_append xs ys (serve b n x c).config)

  pub book_grows : (place : ℕ) (xs ys : List Call) (c : Config) (k : Book)
      → book_after b n place (xs ++ ys) c k ≡ book_after b n (place + length xs) ys (run b n xs c) (book_after b n place xs c k)
  book_grows place [] ys c k = rw add-zero refl
  book_grows place (x ∷ xs) ys c k = book_grows (suc place) xs ys (serve b n x c).config (keep b n place x c k) ∙ ap (λ p. book_after b n p ys (run b n xs (serve b n x c).config) (book_after b n (suc place) xs (serve b n x c).config (keep b n place x c k))) shift
    where
      shift : suc place + length xs ≡ place + suc (length xs)
      shift = omega arith

module _ (b : Object) (n q : ℕ) (good : Opens b q) where
  pub sound : (xs : List Call) → Sound b n (run b n xs (start q)) (book_of b n q xs)
  sound xs = sound_from b n 0 xs (sound_start b n good)

  -- Every call of the list with its answer is a legal step of the plain book.
  pub kept : (xs : List Call) → Kept b n 0 (blank q) (history b n xs (start q)) (book_of b n q xs)
  kept xs = kept_from b n 0 xs (sound_start b n good)

  -- The book's order linearizes the history, and its replay leads to the book's state.
  pub run_linearizable : (xs : List Call) → Linearizes b q (history b n xs (start q)) (book_of b n q xs).order
  run_linearizable xs = linearizable b n q _ _ (kept xs)

  pub state_reached : (xs : List Call) → (book_of b n q xs).state ≡ reached b q (book_of b n q xs).order
  state_reached xs = (kept_agrees b n q _ _ (kept xs)).state

  -- What was entered stands when the list goes on.
  pub order_stands : (xs ys : List Call) → Extends (book_of b n q xs).order (book_of b n q (xs ++ ys)).order
  order_stands xs ys = rw (book_grows b n 0 xs ys (start q) (blank q)) (order_grows (kept_from b n (0 + length xs) ys (sound xs)))
