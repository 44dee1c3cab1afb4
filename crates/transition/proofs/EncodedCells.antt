-- The words of cells in range: what is read in them, their marks, their form, and that different cells have different words.
use mathlib.Core.Path.{◌≡◌, refl, ap, sym, ◌∙◌}
use mathlib.Core.Bool.{true, ◌&&◌}
use mathlib.Core.Logic.{◌↔◌}
use mathlib.Core.List.{List}
use Prim.Native.Nat.{ℕ, ◌+◌, ◌*◌, ◌^◌, ◌<◌, ◌≤◌}
use native.Mathlib.Decide.{dec_lt}
use native.Mathlib.Nat.{pow-le-pow_right}
use native.Mathlib.Omega.{arith}
use borrow.Author.Tests.{lt-ltb, eq-eqb, ne_eqb}
use lib.Dec.{eqb, ltb}
use lib.ListN.{get_or}
use Rattle.laws.specs.Decision.{decided}
use Rattle.laws.proofs.Bits.{bit_below}
use Rattle.laws.proofs.Clash.{clash}
use Rattle.cells.specs.Field.{pack, Fit}
use Rattle.cells.specs.Form.{holder_bound, head_in_form, announcement_in_form}
use Rattle.cells.specs.Layout.{marks_width, marks, value, has_mark, add_mark, remove_mark, head_widths, head_values, head_word, head_of, state_in_word, holder_in, announcement_widths, announcement_values, announcement_word, announcement_of, kind_in}
use Rattle.cells.specs.Marks.{has, add, remove}
use Rattle.cells.proofs.MarkLaws.{SetsBit, adds, removes, set_below, has_low}
use Rattle.cells.proofs.HeadLaws.{head_in_range, head_decode, head_state, head_holder, head_marks, head_injective, head_form}
use Rattle.cells.proofs.AnnouncementLaws.{announcement_in_range, announcement_decode, announcement_kind, announcement_marks, announcement_injective, announcement_form}
use Rattle.cells.proofs.WordMarks.{has_mark_lem, no_mark, add_mark_lem, remove_mark_lem, set_value, set_marks}
use Rattle.table.specs.declared.Shape.{Shape}
use Rattle.table.proofs.Fitting.{Fitting}
use Rattle.table.proofs.Accepted.{accepted_fitting}
use Rattle.machine.specs.Object.{Object}
use Rattle.machine.specs.Outcome.{Outcome}
use Rattle.machine.specs.Memory.{HeadValue, Free, Held, Content, Empty, Op, Resp, Cell, state_of, outcome_of, head_dec, announcement_dec}
use Rattle.machine.specs.Machine.{linked, released}
use Rattle.machine.specs.Form.{CellFormed, HeadFormed, AnnouncementFormed, HeadValueFormed, ContentFormed}
use Rattle.transition.specs.Transition.{state_in, response_in, moved_in}
use Rattle.transition.specs.Object.{ObjectTable, object_of}
use Rattle.transition.specs.Encoding.{head_in, announcement_in, encode_head, encode_announcement}
use Rattle.transition.proofs.Lawful.{good_below}

-- ---- Cells of any kind of value

-- Link and release of a word that is made of marks and a rest: the rest stays.
set_word : {c : ℕ} {f : ℕ → ℕ → ℕ} → SetsBit c f → (i : ℕ) → i < marks_width → (m r : ℕ) → m < 2 ^ marks_width → f i (m + 2 ^ marks_width * r) ≡ f i m + 2 ^ marks_width * r
set_word {c} {f} sets i few m r h =
    let w : ℕ = m + 2 ^ marks_width * r in
    let low : marks w ≡ m = omega arith in
    let small : f i m < 2 ^ marks_width = set_below sets i marks_width m few h in
    let marked : marks (f i w) ≡ f i m = set_marks sets i w few ∙ ap (f i) low in
    let stays : value (f i w) ≡ value w = set_value sets i w few in
    omega arith

-- Words of values with marks of n tasks, from which values and marks can be told.
record Coding {A : Type 0} (n : ℕ) (Ranged : A → Type 0) (word : A → ℕ → ℕ) : Type 0 where
  few : (m : ℕ) → m < 2 ^ n → m < 2 ^ marks_width
  marks_in_lem : (v : A) (m : ℕ) → Ranged v → m < 2 ^ n → marks (word v m) ≡ m
  injective : (v u : A) (m k : ℕ) → Ranged v → Ranged u → m < 2 ^ n → k < 2 ^ n → word v m ≡ word u k → (v ≡ u) × (m ≡ k)
  sets : {c : ℕ} {f : ℕ → ℕ → ℕ} → SetsBit c f → (i : ℕ) → i < marks_width → (v : A) (m : ℕ) → m < 2 ^ marks_width → f i (word v m) ≡ word v (f i m)

module _ {A : Type 0} {n : ℕ} {Ranged : A → Type 0} {word : A → ℕ → ℕ} (coding : Coding n Ranged word) (c : Cell A) (ranged : CellFormed n Ranged c) where
  -- A task's mark is seen, added and removed in the word as in the cell.
  module _ (i : ℕ) (few : i < marks_width) where
    cell_has : has_mark i (word c.value c.marks) ≡ has i c.marks
    cell_has = has_mark_lem i _ few ∙ sym (has_low i marks_width _ few) ∙ ap (has i) (coding.marks_in_lem _ _ ranged.value ranged.marks)

    cell_linked : add_mark i (word c.value c.marks) ≡ word c.value (add i c.marks)
    cell_linked = add_mark_lem i _ few ∙ coding.sets adds i few _ _ (coding.few _ ranged.marks)

    cell_released : remove_mark i (word c.value c.marks) ≡ word c.value (remove i c.marks)
    cell_released = remove_mark_lem i _ few ∙ coding.sets removes i few _ _ (coding.few _ ranged.marks)

  -- A mark that is seen in the word, of whatever task, stands in the cell.
  cell_mark : (i : ℕ) → has_mark i (word c.value c.marks) ≡ true → has i c.marks ≡ true
  cell_mark i e = by (dec_lt i marks_width)
    where
      by : Dec (i < marks_width) → has i c.marks ≡ true
      by (yes few) = sym (cell_has i few) ∙ e
      by (no beyond) = clash e (no_mark i _ (omega (arith, beyond)))

  -- Two words are equal exactly if the cells are: a swap compares the one or the other.
  cell_same : (g : Cell A) → CellFormed n Ranged g → (d : Dec (c ≡ g)) → eqb (word c.value c.marks) (word g.value g.marks) ≡ decided d
  cell_same g r (yes e) = eq-eqb _ _ (ap (λ (x : Cell A). word x.value x.marks) e)
  cell_same g r (no apart) =
      ne_eqb _ _ (λ e. apart (let same = coding.injective _ _ _ _ ranged.value r.value ranged.marks r.marks e in λ k. record { value = same.0 k; marks = same.1 k }))

-- ---- Heads and announcements

-- An outcome is its response and whether the state moved.
same_outcome : (r s : Outcome) → r.response ≡ s.response → r.moved ≡ s.moved → r ≡ s
same_outcome r s e f = λ i. record { response = e i; moved = f i }

-- Different values are different heads, and different announcements.
pub head_same_value : (v u : HeadValue) → head_in v ≡ head_in u → v ≡ u
head_same_value (Free q) (Free p) e = cc
head_same_value (Free q) (Held p j r) e = cc
head_same_value (Held q j r) (Free p) e = cc
head_same_value (Held q j r) (Held p k s) e =
    let response : r.response ≡ s.response = cc in
    let moved : r.moved ≡ s.moved = cc in
    let same = same_outcome r s response moved in
    cc

pub content_same_value : (v u : Content) → announcement_in v ≡ announcement_in u → v ≡ u
content_same_value Empty Empty e = cc
content_same_value Empty (Op p) e = cc
content_same_value Empty (Resp s) e = cc
content_same_value (Op o) Empty e = cc
content_same_value (Op o) (Op p) e = cc
content_same_value (Op o) (Resp s) e = cc
content_same_value (Resp r) Empty e = cc
content_same_value (Resp r) (Op p) e = cc
content_same_value (Resp r) (Resp s) e =
    let response : r.response ≡ s.response = cc in
    let moved : r.moved ≡ s.moved = cc in
    ap Resp (same_outcome r s response moved)

-- The state and the outcome that a head's word says.
pub state_in_lem : (v : HeadValue) → state_in (head_in v) ≡ state_of v
state_in_lem (Free q) = refl
state_in_lem (Held q j r) = refl

pub response_in_lem : (v : HeadValue) → response_in (head_in v) ≡ (outcome_of v).response
response_in_lem (Free q) = refl
response_in_lem (Held q j r) = refl

pub moved_in_lem : (v : HeadValue) → moved_in (head_in v) ≡ (outcome_of v).moved
moved_in_lem (Free q) = refl
moved_in_lem (Held q j r) = refl

-- Link and release of a head's word and of an announcement's.
module _ {c : ℕ} {f : ℕ → ℕ → ℕ} (sets : SetsBit c f) (i : ℕ) (few : i < marks_width) where
  set_head : (v : HeadValue) (m : ℕ) → m < 2 ^ marks_width → f i (head_word (head_in v) m) ≡ head_word (head_in v) (f i m)
  unfolding head_word pack
  set_head (Free q) m h = set_word sets i few m _ h
  set_head (Held q j r) m h = set_word sets i few m _ h

  set_announcement : (v : Content) (m : ℕ) → m < 2 ^ marks_width → f i (announcement_word (announcement_in v) m) ≡ announcement_word (announcement_in v) (f i m)
  unfolding announcement_word pack
  set_announcement Empty m h = set_word sets i few m 0 h
  set_announcement (Op o) m h = set_word sets i few m _ h
  set_announcement (Resp v) m h = set_word sets i few m _ h

module _ (file : List ℕ) (shape : Shape) (table : ObjectTable file shape) (n : ℕ) (most : n ≤ marks_width) where
  abbrev object : Object
  object = object_of file shape

  fitting : Fitting file shape
  fitting = accepted_fitting file shape table.accepted

  few_marks : (m : ℕ) → m < 2 ^ n → m < 2 ^ marks_width
  few_marks m h = let p : 2 ^ n ≤ 2 ^ marks_width = pow-le-pow_right (omega arith) most in omega arith

  -- Values and marks in range fit their fields.
  head_fits : (v : HeadValue) (m : ℕ) → HeadValueFormed object n v → m < 2 ^ n → Fit head_widths (head_values (head_in v) m)
  head_fits (Free q) m f l = let s : q < shape.states = good_below table q f in omega (arith, few_marks m l, fitting)
  head_fits (Held q j r) m f l = let s : q < shape.states = good_below table q f.0 in omega (arith, few_marks m l, fitting, bit_below r.moved)

  content_fits : (v : Content) (m : ℕ) → ContentFormed object v → m < 2 ^ n → Fit announcement_widths (announcement_values (announcement_in v) m)
  content_fits Empty m f l = omega (arith, few_marks m l)
  content_fits (Op o) m f l = omega (arith, few_marks m l, fitting)
  content_fits (Resp v) m f l = omega (arith, few_marks m l, bit_below v.moved)

  -- So heads and announcements are cells of the kind above.
  head_coding : Coding n (HeadValueFormed object n) (λ v m. head_word (head_in v) m)
  head_coding = record {
    few = few_marks;
    marks_in_lem = λ v m f l. head_marks (head_in v) m (head_fits v m f l);
    injective = λ v u m k f g l r e. let same = head_injective (head_in v) m (head_fits v m f l) (head_in u) k (head_fits u k g r) e in (head_same_value v u same.0, same.1);
    sets = set_head;
  }

  content_coding : Coding n (ContentFormed object) (λ v m. announcement_word (announcement_in v) m)
  content_coding = record {
    few = few_marks;
    marks_in_lem = λ v m f l. announcement_marks (announcement_in v) m (content_fits v m f l);
    injective = λ v u m k f g l r e. let same = announcement_injective (announcement_in v) m (content_fits v m f l) (announcement_in u) k (content_fits u k g r) e in (content_same_value v u same.0, same.1);
    sets = set_announcement;
  }

  -- A head in range.
  module _ (h : Cell HeadValue) (ranged : HeadFormed object n h) where
    pub head_read_lem : head_of (encode_head h) ≡ head_in h.value
    head_read_lem = head_decode (head_in h.value) h.marks (head_fits h.value h.marks ranged.value ranged.marks)

    -- The state in its word, and the holder: a number j + 1 is that of task j.
    pub state_seen : state_in_word (encode_head h) ≡ state_of h.value
    state_seen = head_state (head_in h.value) h.marks (head_fits h.value h.marks ranged.value ranged.marks) ∙ by h.value
      where
        by : (v : HeadValue) → get_or (head_values (head_in v) h.marks) 1 0 ≡ state_of v
        by (Free q) = refl
        by (Held q j r) = refl

    pub holder_seen : (j : ℕ) → holder_in (encode_head h) ≡ j + 1 → (q : ℕ) × (r : Outcome) × (h.value ≡ Held q j r)
    holder_seen j e = by h.value (sym (head_holder (head_in h.value) h.marks (head_fits h.value h.marks ranged.value ranged.marks)) ∙ e)
      where
        by : (v : HeadValue) → get_or (head_values (head_in v) h.marks) 3 0 ≡ j + 1 → (q : ℕ) × (r : Outcome) × (v ≡ Held q j r)
        by (Free q) f = absurd (omega (arith, f))
        by (Held q k r) f = let same : k ≡ j = omega (arith, f) in (q, r, ap (λ x. Held q x r) same)

    pub head_mark : (i : ℕ) → has_mark i (encode_head h) ≡ true → has i h.marks ≡ true
    head_mark = cell_mark head_coding h ranged

    pub head_has : (i : ℕ) → i < n → has_mark i (encode_head h) ≡ has i h.marks
    head_has i below = cell_has head_coding h ranged i (omega arith)

    pub head_linked : (i : ℕ) → i < n → add_mark i (encode_head h) ≡ encode_head (linked i h)
    head_linked i below = cell_linked head_coding h ranged i (omega arith)

    pub head_released : (i : ℕ) → i < n → remove_mark i (encode_head h) ≡ encode_head (released i h)
    head_released i below = cell_released head_coding h ranged i (omega arith)

    pub head_same : (g : Cell HeadValue) → HeadFormed object n g → eqb (encode_head h) (encode_head g) ≡ decided (head_dec h g)
    head_same g r = cell_same head_coding h ranged g r (head_dec h g)

    pub head_in_form_lem : head_in_form shape.states n (encode_head h) ≡ true
    head_in_form_lem = head_form (head_in h.value) h.marks (head_fits h.value h.marks ranged.value ranged.marks) shape.states n ∙ both h.value ranged.value
      where
        both : (v : HeadValue) → HeadValueFormed object n v → (ltb h.marks (2 ^ n) && head_in_range shape.states n (head_in v)) ≡ true
        both (Free q) f = rw (lt-ltb h.marks (2 ^ n) ranged.marks, lt-ltb q shape.states (good_below table q f))
        both (Held q j r) f = rw (lt-ltb h.marks (2 ^ n) ranged.marks, lt-ltb q shape.states (good_below table q f.0), lt-ltb j (holder_bound n) (omega (arith, f.1, most)))

  -- An announcement in range.
  module _ (a : Cell Content) (ranged : AnnouncementFormed object n a) where
    pub announcement_read_lem : announcement_of (encode_announcement a) ≡ announcement_in a.value
    announcement_read_lem = announcement_decode (announcement_in a.value) a.marks (content_fits a.value a.marks ranged.value ranged.marks)

    -- Its kind is 0 exactly if it is empty.
    pub announcement_empty : (kind_in (encode_announcement a) ≡ 0) ↔ (a.value ≡ Empty)
    announcement_empty = by a.value (announcement_kind (announcement_in a.value) a.marks (content_fits a.value a.marks ranged.value ranged.marks))
      where
        by : (v : Content) {k : ℕ} → k ≡ get_or (announcement_values (announcement_in v) a.marks) 1 0 → (k ≡ 0) ↔ (v ≡ Empty)
        by Empty e = (λ _. refl, λ _. e)
        by (Op o) e = (λ z. absurd (omega arith), λ z. cc)
        by (Resp r) e = (λ z. absurd (omega arith), λ z. cc)

    pub announcement_mark : (i : ℕ) → has_mark i (encode_announcement a) ≡ true → has i a.marks ≡ true
    announcement_mark = cell_mark content_coding a ranged

    pub announcement_has : (i : ℕ) → i < n → has_mark i (encode_announcement a) ≡ has i a.marks
    announcement_has i below = cell_has content_coding a ranged i (omega arith)

    pub announcement_linked : (i : ℕ) → i < n → add_mark i (encode_announcement a) ≡ encode_announcement (linked i a)
    announcement_linked i below = cell_linked content_coding a ranged i (omega arith)

    pub announcement_released : (i : ℕ) → i < n → remove_mark i (encode_announcement a) ≡ encode_announcement (released i a)
    announcement_released i below = cell_released content_coding a ranged i (omega arith)

    pub announcement_same : (g : Cell Content) → AnnouncementFormed object n g → eqb (encode_announcement a) (encode_announcement g) ≡ decided (announcement_dec a g)
    announcement_same g r = cell_same content_coding a ranged g r (announcement_dec a g)

    pub announcement_in_form_lem : announcement_in_form shape.operations n (encode_announcement a) ≡ true
    announcement_in_form_lem = announcement_form (announcement_in a.value) a.marks (content_fits a.value a.marks ranged.value ranged.marks) shape.operations n ∙ both a.value ranged.value
      where
        both : (v : Content) → ContentFormed object v → (ltb a.marks (2 ^ n) && announcement_in_range shape.operations (announcement_in v)) ≡ true
        both Empty f = rw (lt-ltb a.marks (2 ^ n) ranged.marks)
        both (Op o) f = rw (lt-ltb a.marks (2 ^ n) ranged.marks, lt-ltb o shape.operations f)
        both (Resp v) f = rw (lt-ltb a.marks (2 ^ n) ranged.marks)
