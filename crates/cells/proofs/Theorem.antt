-- The theorems about the bits of a word and the form of a head: a proof of each statement of specs/Statement.antt.
use mathlib.Core.Path.{◌≡◌, refl, ap}
use mathlib.Core.Bool.{Bool, true, false, ◌&&◌, cond, and-eq-true_iff, not-eq-not}
use mathlib.Core.Logic.{◌↔◌}
use Prim.Native.Nat.{ℕ, ◌+◌, ◌*◌, ◌/◌, ◌%◌, ◌^◌, ◌≤◌}
use native.Mathlib.Omega.{arith}
use borrow.Author.Tests.{eqb-true, eq-eqb, ltb-true, lt-ltb, leb-true, le-leb}
use lib.Dec.{eqb, ltb, leb}
use lib.ListN.{get_or}
use lib.Pow.{pow_pos}
use native.Mathlib.Nat.{pow-le-pow_right}
use Rattle.laws.proofs.Choice.{choice_by}
use Rattle.laws.proofs.Decision.{same_tests}
use Rattle.cells.specs.Field.{total}
use Rattle.cells.specs.Form.{holder_bound, outcome_in_form, head_fields_in_form, head_in_form}
use Rattle.cells.specs.Layout.{head_widths, announcement_widths, holder_in, has_mark}
use Rattle.cells.specs.Marks.{has}
use Rattle.cells.specs.Statement.{ReadInBits, EmptyIsMarks, HeadPoints, PointByPoint, HolderIsTask, WithinEight, ForMore, Sharp}
use Rattle.cells.proofs.Fields.{unpack_at, unpack_places}
use Rattle.cells.proofs.Forms.{form_of}
use Rattle.cells.proofs.HeadLaws.{head_formed, head_range}
use Rattle.cells.proofs.Untraced.{empty_word}

-- Each field by its place value.
pub read_in_bits : (w : ℕ) → ReadInBits w
unfolding unpack_at has_mark has
read_in_bits w = record {
  state = ap (λ vs. get_or vs 1 0) (unpack_places head_widths w);
  holder = ap (λ vs. get_or vs 3 0) (unpack_places head_widths w);
  kind = ap (λ vs. get_or vs 1 0) (unpack_places announcement_widths w);
  mark = λ i. below (ltb i 8) (has i w);
}
  where
    below : (b m : Bool) → cond b m false ≡ (b && m)
    below true m = refl
    below false m = refl

-- An empty announcement is its marks.
pub empty_is_marks : (m n w : ℕ) → EmptyIsMarks m n w
empty_is_marks m n w formed kind = omega (arith, empty_word m n w formed kind)

-- Response and moved are 0 without a holder, and the test says no less.
outcome_points : (h r v : ℕ) → (outcome_in_form h r v ≡ true) ↔ (h ≡ 0 → (r ≡ 0) × (v ≡ 0))
unfolding outcome_in_form
outcome_points h r v = (λ e z. let both = (and-eq-true_iff (eqb r 0) (eqb v 0)).0 (rw (eq-eqb h 0 z) at e) in (eqb-true r 0 both.0, eqb-true v 0 both.1), holds)
  where
    holds : (h ≡ 0 → (r ≡ 0) × (v ≡ 0)) → cond (eqb h 0) (eqb r 0 && eqb v 0) true ≡ true
    holds f = choice_by (λ (b : Bool). b ≡ true) (eqb h 0) (λ z. let both = f (eqb-true h 0 z) in rw (eq-eqb r 0 both.0, eq-eqb v 0 both.1)) (λ z. refl)

-- A head is in form exactly if it keeps each point.
pub point_by_point : (s n w : ℕ) → PointByPoint s n w
unfolding head_in_form head_fields_in_form total unpack_at
point_by_point s n w = (points, holds)
  where
    state : ℕ
    state = w / 256 % 256

    holder : ℕ
    holder = w / 16777216 % 16

    outcome : Bool
    outcome = outcome_in_form holder (w / 65536 % 256) (w / 268435456 % 2)

    points : head_in_form s n w ≡ true → HeadPoints s n w
    points e =
        let f = head_formed s n w e in
        let t = rw (unpack_places head_widths w) at f.passed in
        let first = (and-eq-true_iff (ltb state s) (leb holder (holder_bound n) && outcome)).0 t in
        let second = (and-eq-true_iff (leb holder (holder_bound n)) outcome).0 first.1 in
        let bounded : holder ≤ holder_bound n = leb-true holder (holder_bound n) second.0 in
        record {
          named = f.small;
          marked = f.few;
          state = rw (read_in_bits w).state (ltb-true state s first.0);
          holder = omega (arith, bounded, (read_in_bits w).holder);
          most = omega (arith, bounded, (read_in_bits w).holder);
          free = rw (read_in_bits w).holder ((outcome_points holder (w / 65536 % 256) (w / 268435456 % 2)).0 second.1);
        }

    holds : HeadPoints s n w → head_in_form s n w ≡ true
    holds p =
        let bounded : holder ≤ holder_bound n = omega (arith, p.holder, p.most, (read_in_bits w).holder) in
        let kept = (outcome_points holder (w / 65536 % 256) (w / 268435456 % 2)).1 (rw (read_in_bits w).holder at p.free) in
        form_of head_widths (head_fields_in_form s n) n w
        (record {
          small = p.named;
          few = p.marked;
          passed = rw (unpack_places head_widths w) (rw (lt-ltb state s (rw (read_in_bits w).state at p.state), le-leb holder (holder_bound n) bounded, kept));
        })

-- The holder of a head in form is a task.
pub holder_is_task : (s n w : ℕ) → HolderIsTask s n w
holder_is_task s n w e q j r moved held =
    let ranged : ltb q s && ltb j (holder_bound n) ≡ true = rw held at (head_range s n w e) in
    omega (arith, ltb-true j (holder_bound n) ((and-eq-true_iff (ltb q s) (ltb j (holder_bound n))).0 ranged).1)

-- More tasks, and the bound is sharp.
pub for_more : (s n k w : ℕ) → ForMore s n k w
for_more s n k w more e =
    let p = (point_by_point s n w).0 e in
    let wider : 2 ^ n ≤ 2 ^ k = pow-le-pow_right (omega arith) more in
    (point_by_point s k w).1
    (record { named = p.named; marked = omega (arith, wider, p.marked); state = p.state; holder = omega (arith, p.holder); most = p.most; free = p.free })

pub sharp : (s n : ℕ) → Sharp s n
sharp s n some few = (
  (point_by_point s (n + 1) w).1 (record {
    named = omega (arith, few);
    marked = omega (arith, pow_pos (n + 1));
    state = omega (arith, some, bits.state);
    holder = omega (arith, few, bits.holder);
    most = omega (arith, few, bits.holder);
    free = λ z. absurd (omega (arith, few, bits.holder));
  }),
  (not-eq-not {b = false}).0 (λ e. omega (arith, few, bits.holder, ((point_by_point s n w).0 e).holder)),
)
  where
    w : ℕ
    w = (n + 1) * 16777216

    bits : ReadInBits w
    bits = read_in_bits w

-- With at most 8 tasks: the form for 8, with marks and holder of tasks below n.
pub within_eight : (s n w : ℕ) → WithinEight s n w
within_eight s n w few = same_tests (head_in_form s n w) (marked && (head_in_form s 8 w && held)) narrow wide
  where
    marked : Bool
    marked = ltb (w % 256) (2 ^ n)

    held : Bool
    held = leb (holder_in w) n

    narrow : head_in_form s n w ≡ true → marked && (head_in_form s 8 w && held) ≡ true
    narrow e =
        let p = (point_by_point s n w).0 e in
        rw (lt-ltb (w % 256) (2 ^ n) p.marked, for_more s n 8 w few e, le-leb (holder_in w) n p.holder)

    wide : marked && (head_in_form s 8 w && held) ≡ true → head_in_form s n w ≡ true
    wide e =
        let first = (and-eq-true_iff marked (head_in_form s 8 w && held)).0 e in
        let second = (and-eq-true_iff (head_in_form s 8 w) held).0 first.1 in
        let p = (point_by_point s 8 w).0 second.0 in
        (point_by_point s n w).1
        (record { named = p.named; marked = ltb-true (w % 256) (2 ^ n) first.0; state = p.state; holder = leb-true (holder_in w) n second.1; most = p.most; free = p.free })
