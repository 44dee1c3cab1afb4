-- What the call that writes an object's file answers and leaves, and what that says of two calls.
use Rattle.std.specs.Prelude.{Result, Ok, Err}
use mathlib.Core.Path.{◌≡◌, refl, sym, ap, subst, ◌∙◌}
use mathlib.Core.Logic.{inl, inr}
use mathlib.Core.List.{List}
use Prim.Native.Nat.{ℕ, ◌<◌, ◌≤◌}
use native.Mathlib.Decide.{dec_lt}
use native.Mathlib.Nat.{mul-le-mul_right}
use native.Mathlib.Omega.{arith}
use lib.ListN.{length, take}
use lib.Seq.{sets}
use Rattle.laws.proofs.Lists.{written_over}
use Rattle.refusal.specs.declared.Refusal.{Refusal}
use Rattle.refusal.specs.declared.Refusal.TheVariants.{Room}
use Rattle.refusal.specs.Number.{Said, refused_by}
use Rattle.refusal.specs.Written.{Writing, written_said, not_written, written_into}
use Rattle.refusal.specs.Statement.{Writes}
use Rattle.refusal.proofs.Numbers.{numbers_apart}
use Rattle.refusal.proofs.Writes.{not_written_lem, fully_written, writes_into}
use Rattle.table.specs.declared.Shape.{Shape}
use Rattle.table.specs.File.{Bytes, shape_of}
use Rattle.table.specs.Layout.{file_length}
use Rattle.table.specs.Check.{check_of, check_said}
use Rattle.table.proofs.Fitting.{refused}
use Rattle.table.proofs.Accepted.{accepted_fitting}
use Rattle.table.proofs.Answers.{check_answered}
use Rattle.table_writer.proofs.ReadsBack.{written_length}
use Rattle.reach.specs.Order.{order_of}
use Rattle.reach.proofs.Turns.{order_few}
use Rattle.reach.proofs.Ordered.{accepted_closed}
use Rattle.canonical.specs.Canonical.{renumbered_entry, renumbered_shape, renumbered, canonical_of, when_checked, canonical_written}
use Rattle.canonical.specs.Statement.{Served, Renumbered, CanonicalAnswered, Wrote, WroteRenumbered, WroteShort, OneFile, WrittenAgain}
use Rattle.canonical.proofs.Renumbered.{written_served, served_canonical}
use Rattle.canonical.proofs.OneFile.{same_files, settled}

-- ---- Case by case

-- The file of an accepted table, by the shape that check found.
module _ (file : List ℕ) (shape : Shape) (e : check_of file ≡ Ok shape) where
  shape_found : shape ≡ shape_of file
  shape_found = (accepted_fitting file shape e).shape_is

  file_is : canonical_of file ≡ renumbered file shape (order_of file shape)
  unfolding canonical_of
  file_is = ap (λ (s : Shape). renumbered file s (order_of file s)) (sym shape_found)

  file_long : length (canonical_of file) ≡ file_length (renumbered_shape shape (order_of file shape))
  unfolding renumbered
  file_long = ap length file_is ∙ written_length (length (order_of file shape)) shape.operations 0 (renumbered_entry file shape (order_of file shape))

  pub length_small : file_length (renumbered_shape shape (order_of file shape)) ≤ 16400
  length_small =
      let fits = accepted_fitting file shape e in
      let few : length (order_of file shape) ≤ 256 = omega (arith, order_few file shape (accepted_closed file shape e), fits.few_states) in
      omega (arith, mul-le-mul_right shape.operations few, fits.few_operations)

module _ (file room : List ℕ) where
  checked_written : (checked : Result Shape Refusal) → check_of file ≡ checked → canonical_written file room ≡ when_checked file room checked
  unfolding canonical_written
  checked_written checked e = ap (when_checked file room) e

  pub refused_written : (cause : Refusal) → check_of file ≡ Err cause → canonical_written file room ≡ not_written cause room
  refused_written cause e = checked_written (Err cause) e

  module _ (shape : Shape) (e : check_of file ≡ Ok shape) where
    accepted_written : canonical_written file room ≡ written_into (canonical_of file) room
    accepted_written = checked_written (Ok shape) e

    -- A room that is too short, and one that isn't.
    pub written_no_room : length room < file_length (renumbered_shape shape (order_of file shape)) → canonical_written file room ≡ not_written Room room
    written_no_room short = accepted_written ∙ not_written_lem (canonical_of file) room (omega (arith, short, file_long file shape e))

    pub written_fits : file_length (renumbered_shape shape (order_of file shape)) ≤ length room
        → canonical_written file room ≡ record { answer = Ok (file_length (renumbered_shape shape (order_of file shape))); room = sets room 0 (renumbered file shape (order_of file shape)) }
    written_fits fits =
        let enough : length (canonical_of file) ≤ length room = omega (arith, fits, file_long file shape e) in
        accepted_written ∙ fully_written (canonical_of file) room enough
        ∙ pair (ap Ok (file_long file shape e)) (sym (written_over (canonical_of file) room enough) ∙ ap (sets room 0) (file_is file shape e))
      where
        pair : {a b : (Result ℕ Refusal)} {x y : List ℕ} → a ≡ b → x ≡ y → ◌≡◌ {A = Writing} (record { answer = a; room = x }) (record { answer = b; room = y })
        pair p q = rw (p, q)

-- ---- What is answered

module _ (file room : List ℕ) where
  -- It is refused with 16, or a length is answered.
  not_refused : {new : List ℕ} {out : Writing} → Writes new room out → (number : ℕ) → 1 ≤ number → written_said out.answer ≡ refused_by number → Dec (length room < length new) → number ≡ 16
  not_refused whole number some f (yes short) = sym (ap (λ (s : Said). s.number) (sym (whole.no_room.1 short) ∙ f))
  not_refused whole number some f (no n) = absurd (numbers_apart (sym f ∙ (whole.length_written _).1 (omega arith, refl)) (λ z. omega arith))

  served_answered : (shape : Shape) → check_of file ≡ Ok shape → CanonicalAnswered file room
  served_answered shape e =
      let whole = subst (Writes (canonical_of file) room) (sym (accepted_written file room shape e)) (writes_into (canonical_of file) room) in
      let room_short : (number : ℕ) → 1 ≤ number → written_said (canonical_written file room).answer ≡ refused_by number → number ≡ 16 = λ number some f. not_refused whole number some f (dec_lt (length room) (length (canonical_of file))) in
      let accepts : (number : ℕ) → 1 ≤ number → check_said (check_of file) ≡ refused_by number → ⊥ = λ number some f. numbers_apart (ap check_said (sym e) ∙ f) (λ z. omega arith) in
      record {
        refused = λ number some few. (λ f. absurd (omega (arith, few, room_short number some f)), λ f. absurd (accepts number some f));
        unchanged = λ number some f. absurd (accepts number some f);
        entries = (λ f. absurd (omega (arith, room_short 4 (omega arith) f)), λ bad. absurd (accepts 4 (omega arith) ((check_answered file).entries.1 bad)));
        writes = λ _ _. whole;
        only = λ number some f. inr (room_short number some f);
      }

  refused_answered : (cause : Refusal) → check_of file ≡ Err cause → CanonicalAnswered file room
  refused_answered cause e =
      let out = refused_written file room cause e in
      let both : written_said (canonical_written file room).answer ≡ check_said (check_of file) = ap (λ (w : Writing). written_said w.answer) out ∙ sym (ap check_said e) in
      record {
        refused = λ number _ _. (λ f. sym both ∙ f, λ f. both ∙ f);
        unchanged = λ _ _ _. ap (λ (w : Writing). w.room) out;
        entries = (λ f. (check_answered file).entries.0 (sym both ∙ f), λ bad. both ∙ (check_answered file).entries.1 bad);
        writes = λ shape f. absurd (refused cause shape (sym e ∙ f));
        only = λ number some f. inl ((check_answered file).only number some (sym both ∙ f));
      }

  pub canonical_answered : CanonicalAnswered file room
  canonical_answered = by (check_of file) refl
    where
      by : (checked : Result Shape Refusal) → check_of file ≡ checked → CanonicalAnswered file room
      by (Ok shape) e = served_answered shape e
      by (Err cause) e = refused_answered cause e

-- ---- What is written

-- A length is answered only for an accepted table, and then its file is written.
module _ (file room written : List ℕ) (bytes : Bytes file) (wrote : Wrote file room written) where
  both_known : Served file × (written ≡ canonical_of file)
  both_known = by (check_of file) refl
    where
      by : (checked : Result Shape Refusal) → check_of file ≡ checked → Served file × (written ≡ canonical_of file)
      by (Err cause) e =
          let none : ◌≡◌ {A = ℕ} 0 1 = ap (λ (s : Said). length s.values) (sym (ap (λ (w : Writing). written_said w.answer) (refused_written file room cause e)) ∙ wrote.0) in
          absurd (omega arith)
      by (Ok shape) e =
          let whole = (canonical_answered file room).writes shape e in
          let fits = (whole.length_written (length written)).0 wrote.0 in
          ((bytes, e ∙ ap Ok (shape_found file shape e)), sym wrote.1 ∙ ap (λ (k : ℕ). take k (canonical_written file room).room) fits.1 ∙ whole.front fits.0)

  served : Served file
  served = both_known.0

  file_written : written ≡ canonical_of file
  file_written = both_known.1

  short : (length written ≤ length file) × (length written ≤ 16400)
  short =
      let shape : Shape = shape_of file in
      let closed = accepted_closed file shape served.1 in
      let long : length written ≡ file_length (renumbered_shape shape (order_of file shape)) = ap length file_written ∙ file_long file shape served.1 in
      let fits = accepted_fitting file shape served.1 in
      (omega (arith, long, mul-le-mul_right shape.operations (order_few file shape closed), fits.adds_up), omega (arith, long, length_small file shape served.1))

pub wrote_renumbered : WroteRenumbered
wrote_renumbered file room written order bytes wrote of_kind =
    subst (Renumbered file order) (sym (file_written file room written bytes wrote)) ((served_canonical file (served file room written bytes wrote)).renumbered order of_kind)

pub wrote_short : WroteShort
wrote_short = short

pub one_file : OneFile
one_file one other one_room other_room one_written other_written bytes other_bytes first second =
    let same = same_files one other (served one one_room one_written bytes first) (served other other_room other_written other_bytes second) in
    let a = file_written one one_room one_written bytes first in
    let b = file_written other other_room other_written other_bytes second in
    (λ e. same.1 (sym a ∙ e ∙ b), λ s. a ∙ same.0 s ∙ sym b)

pub written_again : WrittenAgain
written_again file room written again bytes first fits =
    let known = served file room written bytes first in
    let is = file_written file room written bytes first in
    let accepted_written = subst Served (sym is) (written_served file known) in
    let same : canonical_of written ≡ written = ap canonical_of is ∙ settled file known ∙ sym is in
    let whole = subst (λ x. Writes x again (canonical_written written again)) same ((canonical_answered written again).writes (shape_of written) accepted_written.1) in
    ((whole.length_written (length written)).1 (fits, refl), whole.front fits)
