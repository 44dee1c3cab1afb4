-- What a record in form has, and when it is refused with 11.
use Rattle.std.specs.Prelude.{Result, Ok, Err}
use mathlib.Core.Path.{◌≡◌, refl, ap, sym, subst, ◌∙◌}
use mathlib.Core.Bool.{Bool, true, false, ◌&&◌, ◌||◌, and-eq-true_iff}
use mathlib.Core.Logic.{◌↔◌, ◌≢◌}
use Prim.Native.Nat.{ℕ, ◌%◌, ◌<◌, ◌≤◌}
use borrow.Author.Tests.{eqb-true, eq-eqb, ne_eqb, ltb-true, ltb-false, lt-ltb, le-ltb, leb-true, le-leb}
use lib.Dec.{eqb, ltb, leb}
use Rattle.laws.proofs.Choice.{choice_by}
use Rattle.laws.proofs.Clash.{never}
use Rattle.refusal.specs.declared.Refusal.{Refusal}
use Rattle.refusal.specs.declared.Refusal.TheVariants as cause
use Rattle.cells.specs.Form.{head_in_form, announcement_in_form}
use Rattle.table.specs.declared.Shape.{Shape}
use Rattle.records.specs.declared.record.Task.{Task}
use Rattle.records.specs.declared.phase.Phase.{Phase}
use Rattle.records.specs.Phase.{phase_of}
use Rattle.records.specs.Record.{idle_in_form, names_task, saved_payload_in_form, numbers_in_form, words_in_form, pending_in_form, record_in_form, read_in_form, read_record, RecordFits}
use Rattle.records.specs.Statement.{PendingPoints, PendingByPoint, IdleByPoint}
use Rattle.records.proofs.Phases.{WorksBelow, works, number_known, known_number, refused_read}
use Rattle.records.proofs.Saved.{idle_read}

-- A record is read as a phase only if it is in form and its number is that phase's.
parts : (fits : Bool) (read : Result Phase Refusal) (f : Phase) → read_in_form fits read ≡ Ok f → (fits ≡ true) × (read ≡ Ok f)
parts true (Ok g) f e = (refl, e)
parts false (Ok g) f e = never cc
parts fits (Err reason) f e = never cc

-- It is refused with no other cause than 11, if a number that is no phase's is.
record_cause : (fits : Bool) (read : Result Phase Refusal) → ((c : Refusal) → read ≡ Err c → c ≡ cause.Record) → (reason : Refusal) → read_in_form fits read ≡ Err reason → reason ≡ cause.Record
record_cause true (Ok g) only reason e = never cc
record_cause false (Ok g) only reason e = cc
record_cause fits (Err c) only reason e = let same : c ≡ reason = cc in sym same ∙ only c refl

-- The tests of the named task and of the payload, and what they say.
names_point : (n k : ℕ) → (names_task n k ≡ true) ↔ (16 ≤ k → k % 8 < n)
unfolding names_task
names_point n k = (λ e low. ltb-true (k % 8) n (rw (le-ltb k 16 low) at e), λ f. by f (ltb k 16) refl)
  where
    by : (16 ≤ k → k % 8 < n) → (b : Bool) → ltb k 16 ≡ b → b || ltb (k % 8) n ≡ true
    by f true e = refl
    by f false e = lt-ltb (k % 8) n (f (ltb-false k 16 e))

payload_point : (m : ℕ) (t : Task) → (saved_payload_in_form m t ≡ true) ↔ (16 ≤ t.phase → t.phase ≤ 31 → t.payload < m)
unfolding saved_payload_in_form
payload_point m t = (
  λ e low high. ltb-true t.payload m (rw (le-leb 16 t.phase low, le-leb t.phase 31 high) at e),
  λ f. choice_by (λ (b : Bool). b ≡ true) (leb 16 t.phase && leb t.phase 31)
      (λ e. let both = (and-eq-true_iff (leb 16 t.phase) (leb t.phase 31)).0 e in lt-ltb t.payload m (f (leb-true 16 t.phase both.0) (leb-true t.phase 31 both.1)))
      (λ e. refl),
)

module _ (shape : Shape) (n c : ℕ) (t : Task) where
  pub read_parts : (f : Phase) → read_record shape n c t ≡ Ok f → (record_in_form shape n c t ≡ true) × (phase_of t.phase ≡ Ok f)
  unfolding read_record
  read_parts f e = parts (record_in_form shape n c t) (phase_of t.phase) f e

  pub cause_read : (reason : Refusal) → read_record shape n c t ≡ Err reason → reason ≡ cause.Record
  unfolding read_record
  cause_read = record_cause (record_in_form shape n c t) (phase_of t.phase) (refused_read t.phase)

  -- The tests of the pending form, and what they say; it asks for nothing else.
  pending_points : t.phase ≤ 87 → t.phase ≢ 15 → pending_in_form shape n c t ≡ true → PendingPoints shape n c t
  unfolding pending_in_form numbers_in_form words_in_form
  pending_points numbered used e =
      let a = names_task n t.phase in
      let b = a && ltb t.operation shape.operations in
      let d = b && ltb t.priority n in
      let f = d && ltb t.steps c in
      let all = (and-eq-true_iff (numbers_in_form shape n c t) (words_in_form shape n t)).0 e in
      let words = (and-eq-true_iff (head_in_form shape.states n t.head) (announcement_in_form shape.operations n t.announcement)).0 all.1 in
      let numbers = (and-eq-true_iff f (saved_payload_in_form shape.operations t)).0 all.0 in
      let counted = (and-eq-true_iff d (ltb t.steps c)).0 numbers.0 in
      let placed = (and-eq-true_iff b (ltb t.priority n)).0 counted.0 in
      let known = (and-eq-true_iff a (ltb t.operation shape.operations)).0 placed.0 in
      record {
        numbered = numbered;
        used = used;
        named = (names_point n t.phase).0 known.0;
        operation = ltb-true t.operation shape.operations known.1;
        priority = ltb-true t.priority n placed.1;
        steps = ltb-true t.steps c counted.1;
        payload = (payload_point shape.operations t).0 numbers.1;
        head = words.0;
        announcement = words.1;
      }

  points_pending : PendingPoints shape n c t → pending_in_form shape n c t ≡ true
  unfolding pending_in_form numbers_in_form words_in_form
  points_pending p =
      simp ((names_point n t.phase).1 p.named, lt-ltb _ _ p.operation, lt-ltb _ _ p.priority, lt-ltb _ _ p.steps, (payload_point shape.operations t).1 p.payload, p.head, p.announcement)

  pub pending_by_point : PendingByPoint shape n c t
  unfolding read_record record_in_form
  pending_by_point pending = (
    λ (f, e). let read = read_parts f e in let number = known_number t.phase f read.1 in pending_points number.0 number.1 (rw (ne_eqb t.phase 0 pending) at read.0),
    λ p. let known = number_known t.phase p.numbered p.used in (known.0, rw (ne_eqb t.phase 0 pending, points_pending p, known.1)),
  )

  -- The idle form.
  idle_points : idle_in_form n t ≡ true → (t.priority < n) × (t.head ≡ 0) × (t.announcement ≡ 0) × (t.payload ≡ 0) × (t.steps ≡ 0) × (t.operation ≡ 0)
  unfolding idle_in_form
  idle_points e =
      let a = ltb t.priority n in
      let b = a && eqb t.head 0 in
      let d = b && eqb t.announcement 0 in
      let f = d && eqb t.payload 0 in
      let g = f && eqb t.steps 0 in
      let all = (and-eq-true_iff g (eqb t.operation 0)).0 e in
      let counted = (and-eq-true_iff f (eqb t.steps 0)).0 all.0 in
      let paid = (and-eq-true_iff d (eqb t.payload 0)).0 counted.0 in
      let announced = (and-eq-true_iff b (eqb t.announcement 0)).0 paid.0 in
      let headed = (and-eq-true_iff a (eqb t.head 0)).0 announced.0 in
      (ltb-true t.priority n headed.0, eqb-true _ 0 headed.1, eqb-true _ 0 announced.1, eqb-true _ 0 paid.1, eqb-true _ 0 counted.1, eqb-true _ 0 all.1)

  pub idle_by_point : IdleByPoint shape n c t
  unfolding record_in_form
  idle_by_point idle = (
    λ (f, e). let (priority, head, announcement, payload, steps, operation) = idle_points (rw (eq-eqb t.phase 0 idle) at (read_parts f e).0) in
        (priority, λ k. record { head = head k; announcement = announcement k; payload = payload k; steps = steps k; operation = operation k; priority = t.priority; phase = idle k }),
    λ (priority, same). subst (RecordFits shape n c) (sym same) (_, idle_read shape n c t.priority priority),
  )

  -- A pending record that is read keeps its points, and its phase works for a task below n.
  module _ (pending : t.phase ≢ 0) (f : Phase) (e : read_record shape n c t ≡ Ok f) where
    pub read_points : PendingPoints shape n c t
    read_points = (pending_by_point pending).0 (f, e)

    pub read_works : WorksBelow n f
    read_works = works n t.phase ((names_point n t.phase).1 read_points.named) f (read_parts f e).1

  -- A record that isn't in form is refused with 11, and no other is.
  pub record_refused : (RecordFits shape n c t → ⊥) ↔ (read_record shape n c t ≡ Err cause.Record)
  record_refused = (λ bad. by bad (read_record shape n c t) refl, λ e (f, d). never (cc (sym e ∙ d)))
    where
      by : (RecordFits shape n c t → ⊥) → (read : Result Phase Refusal) → read_record shape n c t ≡ read → read_record shape n c t ≡ Err cause.Record
      by bad (Ok f) e = absurd (bad (f, e))
      by bad (Err reason) e = e ∙ ap Err (cause_read reason e)
