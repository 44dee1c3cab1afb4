-- The cells: a head, and an announcement for each task. A cell is a value with marks.
use Rattle.std.specs.Prelude.{◌≡◌, ℕ}
use Rattle.std.proofs.Common.{ap}
use Rattle.std.proofs.Math.Bool.{Bool-discrete}
use Rattle.std.proofs.Math.Decide.{ℕ_discrete}
use Rattle.laws.specs.Decision.{both}
use Rattle.machine.specs.Outcome.{Outcome, no_outcome}

-- The head's value: a state, with the task whose operation was applied and its outcome until they are cleared.
pub data HeadValue : Type 0 where
  Free : (state : ℕ) → HeadValue
  Held : (state holder : ℕ) (outcome : Outcome) → HeadValue
  deriving Discrete as HeadValue-discrete

-- The content of an announcement: nothing, an operation that waits, or the outcome of it.
pub data Content : Type 0 where
  Empty : Content
  Op : (operation : ℕ) → Content
  Resp : (outcome : Outcome) → Content
  deriving Discrete as Content-discrete

-- A cell: a value and, as a number, the set of the tasks that are linked to it.
pub record Cell (A : Type 0) : Type 0 where
  pub value : A
  pub marks : ℕ

pub record Memory : Type 0 where
  pub head : Cell HeadValue
  pub announcement : ℕ → Cell Content

-- The state in the head.
abbrev pub state_of : HeadValue → ℕ
state_of (Free q) = q
state_of (Held q j r) = q

-- The outcome in the head, none with no holder.
abbrev pub outcome_of : HeadValue → Outcome
outcome_of (Free q) = no_outcome
outcome_of (Held q j r) = r

-- A cell with no mark.
abbrev pub unmarked : {A : Type 0} → A → Cell A
unmarked v = record { value = v; marks = 0 }

-- The image of a state: the head holds the state alone, every announcement is empty, and nobody is linked.
abbrev pub image : ℕ → Memory
image q = record { head = unmarked (Free q); announcement = λ _. unmarked Empty }

-- Equality of outcomes is decided.
pub outcome_dec : (a b : Outcome) → Dec (a ≡ b)
outcome_dec a b =
    both (λ e f. λ i. record { response = e i; moved = f i }) (ap (λ x. x.response)) (ap (λ x. x.moved)) (ℕ_discrete a.response b.response) (Bool-discrete a.moved b.moved)

-- Equality of cells is decided: this is what a compare-and-swap tests.
pub cell_dec : {A : Type 0} → ((x y : A) → Dec (x ≡ y)) → (a b : Cell A) → Dec (a ≡ b)
cell_dec dec a b =
    both (λ e f. λ i. record { value = e i; marks = f i }) (ap (λ x. x.value)) (ap (λ x. x.marks)) (dec a.value b.value) (ℕ_discrete a.marks b.marks)

abbrev pub head_dec : (a b : Cell HeadValue) → Dec (a ≡ b)
head_dec a b = cell_dec (HeadValue-discrete ℕ_discrete outcome_dec) a b

abbrev pub announcement_dec : (a b : Cell Content) → Dec (a ≡ b)
announcement_dec a b = cell_dec (Content-discrete ℕ_discrete outcome_dec) a b
