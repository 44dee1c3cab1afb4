-- The potential of an operation that has its response, when the cells and the record of one task i change.
use mathlib.Core.Path.{◌≡◌, refl, sym, ◌∙◌, ap}
use mathlib.Core.Bool.{Bool, true, false, ◌||◌, not, cond}
use mathlib.Core.Logic.{◌≢◌, if_neg}
use Prim.Native.Nat.{ℕ, ◌+◌, ◌*◌, ◌≤◌, ◌<◌}
use native.Mathlib.Decide.{ℕ_discrete}
use native.Mathlib.Omega.{arith}
use Rattle.laws.specs.Bit.{bit}
use Rattle.laws.specs.Update.{update}
use Rattle.laws.specs.Decision.{decided}
use Rattle.laws.specs.Sum.{but}
use Rattle.laws.proofs.Clash.{clash}
use Rattle.laws.proofs.Update.{update_same, update_other}
use Rattle.laws.proofs.Sums.{but_change, but_others, but_most}
use Rattle.laws.proofs.Choice.{pick_le, pick_mono}
use Rattle.machine.specs.Outcome.{Outcome}
use Rattle.machine.specs.Memory.{HeadValue, Free, Held, Content, Cell, Memory, head_dec, announcement_dec}
use Rattle.machine.specs.Machine.{Phase, Idle, ReadOnly, Announce, Poll, LoadHead, LinkHead, LoadPriority, LoadOwn, Apply, ReloadApply, LoadHelped, LinkHelped, Validate, HandOver, ReloadHandOver, Release, ReloadRelease, ClearHead, ReloadClear, LoadExit, LinkExit, ClearExit, ReleaseExit, Retract, Task}
use Rattle.machine.specs.Run.{Config}
use Rattle.machine.specs.Invariant.{is_in_head, is_in_announcement, head_value, content, OwnSaved}
use Rattle.machine.specs.Potential.{row, Work, Elsewhere, Linking, Passing, Applying, Approaching, Marking, Finishing, HeadWord, AnnouncementWord, stale, holds, unanswered, linking, counts, changes_left, at_head, head_load, changes_by_others, head_part, mark_part, announcement_aside, lasts, answered_potential}
use Rattle.machine.proofs.Invariant.Guarantee.{value_found, mark_found}
use Rattle.machine.proofs.Potential.Readings.{lost_word}
use Rattle.machine.proofs.Potential.EffectTable.{EffectRow}
use Rattle.machine.proofs.Potential.EffectOnOthers.{stale_most, Ordinary, AnnouncementChange, rewritten, kept}
use Rattle.machine.proofs.Potential.RowBounds.{row_bounds}
use Rattle.machine.proofs.Potential.ChangesLeft.{changes_most}
use Rattle.machine.proofs.Potential.SeenByItself.{held_own}
use Rattle.machine.proofs.Potential.Waiting.{with, Pays, share, ranks_most, ranks_fall}

-- ---- A part that is due

-- A part s that is due while a holds, with the words o that may go stale: it falls away, or it goes on and pays for them.
pub data Due {W : Type 0} (a a' : Bool) (s s' : ℕ) (o o' : W → ℕ) : Type 0 where
  over : a' ≡ false → Due a a' s s' o o'
  goes_on : (k : ℕ) → a' ≡ a → s' + k ≤ s → ((w : W) → o' w ≤ o w + k) → Due a a' s s' o o'

module _ {W : Type 0} {a a' : Bool} {s s' : ℕ} {o o' : W → ℕ} where
  pub due_part : Due a a' s s' o o' → cond a' s' 0 ≤ cond a s 0
  due_part (over e) = rw e (omega arith)
  due_part (goes_on k e h f) = rw e (pick_mono a s' s (omega arith))

  -- A word that is in its cell is backed by the part.
  pub due_word : (u : ℕ) (w : W) → Due a a' s s' o o' → u ≤ s → o' w ≤ u → (a ≡ false → o w ≡ u) → cond a' s' 0 + o' w ≤ cond a s 0 + o w
  due_word u w (over e) l h g = rw e (go a g)
    where
      go : (x : Bool) → (x ≡ false → o w ≡ u) → 0 + o' w ≤ cond x s 0 + o w
      go true g = omega arith
      go false g = omega (arith, g refl)
  due_word u w (goes_on k e m f) l h g = rw e (go a g)
    where
      go : (x : Bool) → (x ≡ false → o w ≡ u) → cond x s' 0 + o' w ≤ cond x s 0 + o w
      go true g = omega (arith, f w)
      go false g = omega (arith, g refl)

-- The parts of p's potential at the head and at the announcement of task t, from c to c'.
abbrev pub HeadDue : ℕ → (c c' : Config) → ℕ → Type 0
HeadDue n c c' p = Due (at_head c.memory p) (at_head c'.memory p) (head_load n c p) (head_load n c' p)
    (λ h. stale c.memory (HeadWord h)) (λ h. stale c'.memory (HeadWord h))

abbrev pub MarkDue : ℕ → (c c' : Config) → (p t : ℕ) → Type 0
MarkDue n c c' p t = Due (is_in_announcement c.memory p t) (is_in_announcement c'.memory p t) (5 * (1 + changes_by_others n c p t)) (5 * (1 + changes_by_others n c' p t))
    (λ a. stale c.memory (AnnouncementWord t a)) (λ a. stale c'.memory (AnnouncementWord t a))

-- Neither rises.
pub record NeitherRises (n : ℕ) (c c' : Config) (p : ℕ) : Type 0 where
  pub head : HeadDue n c c' p
  pub marks : (t : ℕ) → MarkDue n c c' p t

module _ (n : ℕ) (c c' : Config) (p : ℕ) (y : NeitherRises n c c' p) where
  abbrev m : Memory
  m = c.memory

  head_part_lem : head_part n c' p ≤ head_part n c p
  head_part_lem = due_part y.head

  -- The compared head is backed by holding it, or by the own mark in it.
  word : (x : Cell HeadValue) → (m.head ≡ x → at_head m p ≡ true) → head_part n c' p + stale c'.memory (HeadWord x) ≤ head_part n c p + stale m (HeadWord x)
  word x f = due_word 3 x y.head (omega arith) (omega (arith, pick_le (not (decided (head_dec c'.memory.head x))) 1)) (λ e. ap (λ k. 3 * k) (lost_word (head_dec m.head x) (λ z. clash (f z) e)))

  linked_word : (x : Cell HeadValue) → (m.head ≡ x → is_in_head m p ≡ true) → head_part n c' p + stale c'.memory (HeadWord x) ≤ head_part n c p + stale m (HeadWord x)
  linked_word x f = word x (λ z. rw (f z) refl)

  mark : (t : ℕ) → mark_part n c' p t ≤ mark_part n c p t
  mark t = due_part (y.marks t)

  marked_word : (t : ℕ) (a : Cell Content) → (m.announcement t ≡ a → is_in_announcement m p t ≡ true) → mark_part n c' p t + stale c'.memory (AnnouncementWord t a) ≤ mark_part n c p t + stale m (AnnouncementWord t a)
  marked_word t a f = due_word 5 a (y.marks t) (omega arith) (stale_most c'.memory (AnnouncementWord t a)) (λ e. ap (λ k. 5 * k) (lost_word (announcement_dec (m.announcement t) a) (λ z. clash (f z) e)))

  pub lasts_no_longer : (f : Phase) → OwnSaved m p f → lasts n (head_part n c' p) (mark_part n c' p) c'.memory (row f) ≤ lasts n (head_part n c p) (mark_part n c p) m (row f)
  lasts_no_longer Idle s = omega (arith, head_part_lem)
  lasts_no_longer ReadOnly s = omega (arith, head_part_lem)
  lasts_no_longer Announce s = omega (arith, head_part_lem)
  lasts_no_longer Poll s = omega (arith, head_part_lem)
  lasts_no_longer LoadHead s = omega (arith, head_part_lem)
  lasts_no_longer (LinkHead x) s = omega (arith, head_part_lem)
  lasts_no_longer (LoadPriority x) s = omega (arith, linked_word x (λ z. mark_found p z s.1.saved.mine))
  lasts_no_longer (LoadOwn x) s = omega (arith, linked_word x (λ z. mark_found p z s.1.saved.mine))
  lasts_no_longer (Apply x j o) s = omega (arith, linked_word x (λ z. mark_found p z s.1.head.saved.mine))
  lasts_no_longer (ReloadApply x j o) s = omega (arith, head_part_lem)
  lasts_no_longer (LoadHelped x j) s = omega (arith, head_part_lem)
  lasts_no_longer (LinkHelped x j a) s = omega (arith, head_part_lem)
  lasts_no_longer (Validate x j a) s = omega (arith, head_part_lem, marked_word j a (λ z. mark_found p z s.1.noted.mine))
  lasts_no_longer (HandOver x j a) s = omega (arith, head_part_lem, marked_word j a (λ z. mark_found p z s.1.helping.noted.mine))
  lasts_no_longer (ReloadHandOver x j a) s = omega (arith, head_part_lem, mark j)
  lasts_no_longer (Release x j a) s = omega (arith, head_part_lem, marked_word j a (λ z. mark_found p z s.1.noted.mine))
  lasts_no_longer (ReloadRelease x j a) s = omega (arith, head_part_lem, mark j)
  lasts_no_longer (ClearHead x j) s = omega (arith, linked_word x (λ z. mark_found p z s.1.head.saved.mine))
  lasts_no_longer (ReloadClear x j) s = omega (arith, head_part_lem)
  lasts_no_longer (LoadExit v) s = omega (arith, head_part_lem)
  lasts_no_longer (LinkExit x v) s = omega (arith, word x (λ z. held_own m (value_found z ∙ s.1.2)))
  lasts_no_longer (ClearExit x v) s = omega (arith, word x (λ z. held_own m (value_found z ∙ s.1.2)))
  lasts_no_longer (ReleaseExit x v) s = omega (arith, linked_word x (λ z. mark_found p z s.1.1))
  lasts_no_longer (Retract v) s = omega (arith, head_part_lem)

-- ---- The most that it may be

module _ (n : ℕ) (c : Config) (p : ℕ) (lt : p < n) where
  pub head_most : head_load n c p ≤ 39 * n
  head_most = omega (arith, ranks_most n c p lt, pick_le (unanswered c.memory (head_value c.memory)) 26)

  pub mark_most : (t : ℕ) → mark_part n c p t ≤ 20 * n
  mark_most t =
      let F : ℕ → ℕ = (λ x. changes_left c.memory x t (row (c.task x).phase).work) in
      omega (arith, pick_le (is_in_announcement c.memory p t) (5 * (1 + changes_by_others n c p t)), but_most n p 4 F lt (λ x. changes_most c.memory x t (row (c.task x).phase).work))

  announcement_most : (w : Work) → announcement_aside n (mark_part n c p) w ≤ 20 * n + 5
  announcement_most Elsewhere = omega arith
  announcement_most Linking = omega arith
  announcement_most Passing = omega arith
  announcement_most (Applying j) = omega arith
  announcement_most (Approaching j) = omega arith
  announcement_most (Marking j) = omega (arith, mark_most j)
  announcement_most (Finishing j) = omega arith

  pub answered_most : answered_potential n c p ≤ head_load n c p + 59 * n + 28
  answered_most =
      let r = row (c.task p).phase in
      omega (
        arith,
        pick_le (at_head c.memory p) (head_load n c p),
        pick_le (linking r.work) (39 * n),
        announcement_most r.work,
        pick_le (counts r.work) (stale c.memory r.compared),
        stale_most c.memory r.compared,
        (row_bounds (c.task p).phase true true true).last,
      )

-- ---- The changes of its parts

-- Whether the holder waits goes by the value of the head and by the content of the holder's announcement.
unanswered_stays : (m m' : Memory) (h : HeadValue) {h' : HeadValue} → h' ≡ h → ((q j : ℕ) (r : Outcome) → h ≡ Held q j r → content m' j ≡ content m j) → unanswered m' h' ≡ unanswered m h
unanswered_stays m m' (Free q) e f = rw e refl
unanswered_stays m m' (Held q j r) e f = rw (e, f q j r refl) refl

module _ (n i : ℕ) (lt : i < n) (c : Config) (m' : Memory) (t' : Task) (p : ℕ) where
  abbrev pub c' : Config
  c' = with i c m' t'

  -- An ordinary change: task i pays with its rank.
  pub load_stays : {s : EffectRow} → Ordinary c.memory m' i s → Pays i c m' t' s → head_load n c' p + share i c s p ≤ head_load n c p
  load_stays o r =
      omega (
        arith,
        ranks_fall n i lt c m' t' o r p,
        ap {B = ℕ} (λ (x : Bool). cond x 26 0) (unanswered_stays c.memory m' (head_value c.memory) o.value o.holder),
      )

  -- Seen by another task p.
  pub head_stays : {s : EffectRow} → i ≢ p → Ordinary c.memory m' i s → Pays i c m' t' s → HeadDue n c c' p
  head_stays {s} d o r =
      goes_on (s.cost (is_in_head c.memory i)) (λ t. o.marks p (λ z. d (sym z)) t || holds p (o.value t))
      (rw (if_neg (ℕ_discrete i p) d 0 (s.cost (is_in_head c.memory i))) at (load_stays o r))
      (λ h. o.words (HeadWord h))

  -- The changes of the announcement of task t that the others, but for p, can still make.
  pub changes_fall : (t k : ℕ) → ((x : ℕ) → x ≢ i → (w : Work) → changes_left m' x t w ≤ changes_left c.memory x t w) → changes_left m' i t (row t'.phase).work + k ≤ changes_left c.memory i t (row (c.task i).phase).work
      → changes_by_others n c' p t + but p (λ _. k) i ≤ changes_by_others n c p t
  changes_fall t k f h =
      but_change n p (λ x. changes_left c.memory x t (row (c.task x).phase).work) (λ x. changes_left m' x t (row (c'.task x).phase).work) i k lt
      (λ x d. rw (update_other c.task i t' x (λ z. d (sym z))) (f x d (row (c.task x).phase).work))
      (rw (update_same c.task i t') h)

  -- The announcement of task t, seen by another task p.
  pub marks_stay : {s : EffectRow} (t : ℕ) → i ≢ p → AnnouncementChange c.memory m' i t s
      → ((x : ℕ) → x ≢ i → (w : Work) → content m' t ≡ content c.memory t → is_in_announcement m' x t ≡ is_in_announcement c.memory x t → changes_left m' x t w ≤ changes_left c.memory x t w)
      → changes_left m' i t (row t'.phase).work + bit (s.marks i t) ≤ changes_left c.memory i t (row (c.task i).phase).work + 4 * bit (s.writes i t)
      → MarkDue n c c' p t
  marks_stay t d (rewritten w f) g h = over (f p)
  marks_stay {s} t d (kept w v a f) g h =
      goes_on (5 * bit (s.marks i t)) (a p (λ z. d (sym z)))
      (omega (arith, rw (if_neg (ℕ_discrete i p) d 0 (bit (s.marks i t))) at (changes_fall t (bit (s.marks i t)) (λ x k u. g x k u v (a x k)) (omega (arith, rw w at h)))))
      f

  -- Its own announcement part stays while the cells do.
  pub mark_same : m' ≡ c.memory → (t : ℕ) → mark_part n (with i c m' t') i t ≤ mark_part n c i t
  mark_same e t =
      rw e (pick_mono (is_in_announcement c.memory i t) _ _ (omega (
        arith,
        but_others n i (λ x. changes_left c.memory x t (row (c.task x).phase).work) (λ x. changes_left c.memory x t (row (update c.task i t' x).phase).work)
            (λ x d. rw (update_other c.task i t' x (λ z. d (sym z))) (omega arith)),
      )))
