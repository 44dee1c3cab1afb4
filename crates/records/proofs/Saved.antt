-- Records that are read back: an idle one, and one that has saved in its phase what that phase's form allows.
use Rattle.std.specs.Prelude.{Ok}
use mathlib.Core.Path.{◌≡◌, refl}
use mathlib.Core.Bool.{Bool, true, false, cond, ◌&&◌, or-true}
use Prim.Native.Nat.{ℕ, ◌+◌, ◌*◌, ◌%◌, ◌<◌, ◌≤◌}
use native.Mathlib.Omega.{arith}
use borrow.Author.Tests.{lt-ltb, lt-leb, ne_eqb}
use lib.Dec.{eqb, leb, ltb}
use Rattle.laws.proofs.Choice.{choice}
use Rattle.cells.specs.Form.{head_in_form, announcement_in_form}
use Rattle.cells.proofs.Images.{no_announcement}
use Rattle.table.specs.declared.Shape.{Shape}
use Rattle.records.specs.declared.phase.Phase.{Phase}
use Rattle.records.specs.declared.phase.Phase.TheVariants.{Idle, Apply, ReloadApply, LoadHelped, LinkHelped, Validate, HandOver, ReloadHandOver, Release, ReloadRelease}
use Rattle.records.specs.Phase.{phase_number, phase_of}
use Rattle.records.specs.Record.{idle_task, idle_in_form, names_task, saved_payload_in_form, numbers_in_form, words_in_form, pending_in_form, record_in_form, read_record}
use Rattle.records.proofs.Phases.{WorksBelow, known}

-- A phase of a pending operation, the payload, and the head and the announcement that it has saved, in form.
pub record Saved (shape : Shape) (n : ℕ) (f : Phase) (payload head announcement : ℕ) : Type 0 where
  pub read : phase_of (phase_number f) ≡ Ok f
  pub pending : eqb (phase_number f) 0 ≡ false
  pub names : names_task n (phase_number f) ≡ true
  pub ranged : cond (leb 16 (phase_number f) && leb (phase_number f) 31) (ltb payload shape.operations) true ≡ true
  pub head_formed : head_in_form shape.states n head ≡ true
  pub announcement_formed : announcement_in_form shape.operations n announcement ≡ true

module _ (shape : Shape) (n : ℕ) where
  -- A phase that names no task, and has saved no announcement.
  pub plain : {f : Phase} {v h : ℕ} → WorksBelow 8 f → eqb (phase_number f) 0 ≡ false → phase_number f < 16 → head_in_form shape.states n h ≡ true → Saved shape n f v h 0
  unfolding names_task
  plain {f} w p l head = record {
    read = known f w;
    pending = p;
    names = rw (lt-ltb (phase_number f) 16 l);
    ranged = rw (lt-leb 16 (phase_number f) l);
    head_formed = head;
    announcement_formed = no_announcement shape.operations n;
  }

  -- A phase that works for task j: its range of numbers starts at 8 × c.
  module _ (few : n ≤ 8) (j : ℕ) (below : j < n) {v h a : ℕ} (range : v < shape.operations) (head : head_in_form shape.states n h ≡ true) (announcement : announcement_in_form shape.operations n a ≡ true) where
    naming : (f : ℕ → Phase) (c : ℕ) → 2 ≤ c → ((j : ℕ) → phase_number (f j) ≡ 8 * c + j) → ((j : ℕ) → j < 8 → WorksBelow 8 (f j)) → Saved shape n (f j) v h a
    unfolding names_task
    naming f c first number for_task =
        let named : phase_number (f j) % 8 ≡ j = omega (arith, number j) in
        record {
          read = known (f j) (for_task j (omega arith));
          pending = ne_eqb (phase_number (f j)) 0 (λ z. omega (arith, number j));
          names = rw (named, lt-ltb j n below) (or-true (ltb (phase_number (f j)) 16));
          ranged = choice (λ (b : Bool). b ≡ true) (leb 16 (phase_number (f j)) && leb (phase_number (f j)) 31) _ _ (lt-ltb v shape.operations range) refl;
          head_formed = head;
          announcement_formed = announcement;
        }

    pub applies : Saved shape n (Apply j) v h a
    applies = naming Apply 2 (omega arith) (λ _. refl) (λ _ l. l)

    pub reloads_apply : Saved shape n (ReloadApply j) v h a
    reloads_apply = naming ReloadApply 3 (omega arith) (λ _. refl) (λ _ l. l)

    pub loads_helped : Saved shape n (LoadHelped j) v h a
    loads_helped = naming LoadHelped 4 (omega arith) (λ _. refl) (λ _ l. l)

    pub links_helped : Saved shape n (LinkHelped j) v h a
    links_helped = naming LinkHelped 5 (omega arith) (λ _. refl) (λ _ l. l)

    pub validates : Saved shape n (Validate j) v h a
    validates = naming Validate 6 (omega arith) (λ _. refl) (λ _ l. l)

    pub hands_over : Saved shape n (HandOver j) v h a
    hands_over = naming HandOver 7 (omega arith) (λ _. refl) (λ _ l. l)

    pub reloads_hand_over : Saved shape n (ReloadHandOver j) v h a
    reloads_hand_over = naming ReloadHandOver 8 (omega arith) (λ _. refl) (λ _ l. l)

    pub releases : Saved shape n (Release j) v h a
    releases = naming Release 9 (omega arith) (λ _. refl) (λ _ l. l)

    pub reloads_release : Saved shape n (ReloadRelease j) v h a
    reloads_release = naming ReloadRelease 10 (omega arith) (λ _. refl) (λ _ l. l)

  -- The record that has saved this, with operation, priority and steps in range, is read as its phase.
  pub saved_read : {f : Phase} {v h a : ℕ} → Saved shape n f v h a → (o p k c : ℕ) → o < shape.operations → p < n → k < c
      → read_record shape n c (record { head = h; announcement = a; payload = v; steps = k; operation = o; priority = p; phase = phase_number f }) ≡ Ok f
  unfolding read_record record_in_form pending_in_form numbers_in_form words_in_form saved_payload_in_form
  saved_read s o p k c operation priority steps =
      simp (s.read, s.pending, s.names, lt-ltb _ _ operation, lt-ltb _ _ priority, lt-ltb _ _ steps, s.ranged, s.head_formed, s.announcement_formed)

  -- An idle record is read as idle.
  pub idle_read : (c p : ℕ) → p < n → read_record shape n c (idle_task p) ≡ Ok Idle
  unfolding read_record record_in_form idle_in_form phase_of
  idle_read c p below = rw (lt-ltb p n below)
