-- The potential of an operation: a bound of the own steps that it may still take, whatever the other tasks do.
use Rattle.std.specs.Prelude.{Bool, true, false, ◌||◌, ◌&&◌, not, cond, ℕ, ◌+◌, ◌*◌, ◌-◌, ◌≤◌, ◌<◌}
use Rattle.std.proofs.Math.Logic.{ite}
use Rattle.std.proofs.Math.Decide.{ℕ_discrete, dec_le}
use Rattle.laws.specs.Bit.{bit}
use Rattle.laws.specs.Decision.{decided}
use Rattle.laws.specs.Sum.{sum, but}
use Rattle.machine.specs.Memory.{HeadValue, Free, Held, Content, Empty, Op, Resp, Cell, Memory, head_dec, announcement_dec}
use Rattle.machine.specs.Machine.{Phase, Idle, ReadOnly, Announce, Poll, LoadHead, LinkHead, LoadPriority, LoadOwn, Apply, ReloadApply, LoadHelped, LinkHelped, Validate, HandOver, ReloadHandOver, Release, ReloadRelease, ClearHead, ReloadClear, LoadExit, LinkExit, ClearExit, ReleaseExit, Retract}
use Rattle.machine.specs.Kind.{Kind, Off, Reading, Opening, Looping, Exiting, Retracting, kind}
use Rattle.machine.specs.Run.{Config}
use Rattle.machine.specs.Invariant.{is_in_head, is_in_announcement, head_value, content}

-- ---- What a change by another task may cost, in own steps

-- A change of the head, and one of an announcement: a saved word is stale then.
abbrev pub head_weight : ℕ
head_weight = 3

abbrev pub announcement_weight : ℕ
announcement_weight = 5

-- A lost mark in the head: the way back to Poll.
abbrev pub lost_weight : ℕ
lost_weight = 13

-- ---- The phases, by what the potential needs of them

-- The word that the next swap compares with, where one is saved.
pub data Compared : Type 0 where
  NoWord : Compared
  HeadWord : (h : Cell HeadValue) → Compared
  AnnouncementWord : (j : ℕ) (a : Cell Content) → Compared

-- What the task is about: to link the head; past its priority; to apply task j; to link the announcement of task j; with
-- a mark there; to clear the head for task j; none of these.
pub data Work : Type 0 where
  Elsewhere Linking Passing : Work
  Applying Approaching Marking Finishing : (j : ℕ) → Work

-- A row: the place in the loop, by whether the own operation has its response; the rank, by whether the head is held, the
-- own mark stands in it and the own operation has its response; the compared word; whether the head was linked; the work.
pub record Row : Type 0 where
  pub position : Bool → ℕ
  pub rank : Bool → Bool → Bool → ℕ
  pub compared : Compared
  pub linked : Bool
  pub work : Work

abbrev pub always : ℕ → Bool → ℕ
always k answered = k

-- What a held head adds to a rank: once it is linked, the announcement of its holder can be marked and unmarked.
abbrev pub helping : Bool → ℕ
helping held = cond held 10 0

abbrev pub fixed : ℕ → Bool → Bool → Bool → ℕ
fixed k held marked answered = k + helping held

-- What the own response, the own mark in the head and having linked it add to a rank. Without the mark the head can be
-- linked (3); with the response it can be released (3), the operation retracted (5), and the next one announced (5) and
-- the head linked for it (3).
abbrev pub extra : (held answered marked linked : Bool) → ℕ
extra held true true linked = 16 + helping held
extra held true false linked = 19 + helping held
extra held false true linked = 0
extra held false false true = 3 + helping held
extra held false false false = 3

abbrev pub leaving : Bool → Bool → Bool → ℕ
leaving held marked answered = extra held answered marked false

abbrev pub past : ℕ → Bool → Bool → Bool → ℕ
past k held marked answered = k + extra held answered marked true

abbrev pub looping : ℕ → Bool → Bool → Bool → ℕ
looping k held marked answered = cond answered k (helping held) + extra held answered marked false

abbrev pub columns : (Bool → ℕ) → (Bool → Bool → Bool → ℕ) → Compared → Bool → Work → Row
columns p r c l w = record { position = p; rank = r; compared = c; linked = l; work = w }

abbrev pub row : Phase → Row
row Idle = columns (always 0) (fixed 8) NoWord false Elsewhere
row ReadOnly = columns (always 0) (fixed 8) NoWord false Elsewhere
row Announce = columns (always 0) (fixed 8) NoWord false Elsewhere
row Poll = columns (λ answered. cond answered 5 19) (looping 0) NoWord false Elsewhere
row LoadHead = columns (always 18) (looping 10) NoWord false Linking
row (LinkHead h) = columns (always 17) (looping 10) (HeadWord h) false Linking
row (LoadPriority h) = columns (always 9) (past 0) (HeadWord h) true Elsewhere
row (LoadOwn h) = columns (always 8) (past 0) (HeadWord h) true Passing
row (Apply h j o) = columns (always 6) (past 0) (HeadWord h) true (Applying j)
row (ReloadApply h j o) = columns (always 7) (past 0) NoWord true (Applying j)
row (LoadHelped h j) = columns (always 16) (past 10) NoWord true (Approaching j)
row (LinkHelped h j a) = columns (always 15) (past 10) (AnnouncementWord j a) true (Approaching j)
row (Validate h j a) = columns (always 14) (past 5) (AnnouncementWord j a) true (Marking j)
row (HandOver h j a) = columns (always 12) (past 0) (AnnouncementWord j a) true (Marking j)
row (ReloadHandOver h j a) = columns (always 13) (past 0) NoWord true (Marking j)
row (Release h j a) = columns (always 12) (past 5) (AnnouncementWord j a) true (Marking j)
row (ReloadRelease h j a) = columns (always 13) (past 5) NoWord true (Marking j)
row (ClearHead h j) = columns (always 6) (past 0) (HeadWord h) true (Finishing j)
row (ReloadClear h j) = columns (always 7) (past 0) NoWord true (Finishing j)
row (LoadExit v) = columns (always 4) leaving NoWord false Elsewhere
row (LinkExit h v) = columns (always 3) leaving (HeadWord h) false Elsewhere
row (ClearExit h v) = columns (always 2) leaving (HeadWord h) false Elsewhere
row (ReleaseExit h v) = columns (always 2) leaving (HeadWord h) false Elsewhere
row (Retract v) = columns (always 1) (fixed 13) NoWord false Elsewhere

-- ---- Readings of the cells

abbrev pub answered : Content → Bool
answered Empty = false
answered (Op o) = false
answered (Resp v) = true

abbrev pub waiting : Content → Bool
waiting Empty = false
waiting (Op o) = true
waiting (Resp v) = false

-- What it may cost that the compared word is not in its cell any more.
abbrev pub stale : Memory → Compared → ℕ
stale m NoWord = 0
stale m (HeadWord h) = head_weight * bit (not (decided (head_dec m.head h)))
stale m (AnnouncementWord j a) = announcement_weight * bit (not (decided (announcement_dec (m.announcement j) a)))

-- The head is held.
abbrev pub held : HeadValue → Bool
held (Free q) = false
held (Held q j r) = true

-- Task i holds the head.
abbrev pub holds : ℕ → HeadValue → Bool
holds i (Free q) = false
holds i (Held q j r) = decided (ℕ_discrete j i)

-- The holder of the head still waits for its response: stage B0.
abbrev pub unanswered : Memory → HeadValue → Bool
unanswered m (Free q) = false
unanswered m (Held q j r) = waiting (content m j)

-- ---- Sums over the tasks

-- What the changes of cells by a task before the next stage change may still cost another.
abbrev pub rank_of : Config → ℕ → ℕ
rank_of c x = (row (c.task x).phase).rank (held (head_value c.memory)) (is_in_head c.memory x) (answered (content c.memory x))

abbrev pub ranks : ℕ → Config → ℕ → ℕ
ranks n c p = sum n (but p (rank_of c))

-- A task whose priority is p goes on to another task than p.
abbrev pub skips : ℕ → Work → Bool
skips p Elsewhere = false
skips p Linking = false
skips p Passing = true
skips p (Applying j) = not (decided (ℕ_discrete j p))
skips p (Approaching j) = false
skips p (Marking j) = false
skips p (Finishing j) = false

-- From the priority k up to task p, around the n tasks.
abbrev pub gap : (n p k : ℕ) → ℕ
gap n p k = ite (dec_le k p) (p - k) (p + n - k)

-- How often a task can still apply somebody else before it applies p.
abbrev pub dist : (n p k : ℕ) → Work → ℕ
dist n p k w = ite (ℕ_discrete k p) (cond (skips p w) n 0) (gap n p k)

abbrev pub dist_of : (n p : ℕ) → Config → ℕ → ℕ
dist_of n p c x = dist n p (c.task x).priority (row (c.task x).phase).work

abbrev pub dists : (n p : ℕ) → Config → ℕ
dists n p c = sum n (dist_of n p c)

-- ---- The weights

-- The greatest rank, and the most by which a rank rises when the own response comes.
abbrev pub greatest_rank : ℕ
greatest_rank = 39

abbrev pub response_rise : ℕ
response_rise = 26

-- What an apply and a clear may cost. They take all marks off the head: the ranks of the n - 1 others may rise, by 13 each
-- at an apply and by 3 at a clear; the own word may go stale, and the own mark may be lost.
abbrev pub apply_weight : ℕ → ℕ
apply_weight n = 13 * n + 3

abbrev pub clear_weight : ℕ → ℕ
clear_weight n = 3 * n + 13

-- What a hand-over to another task may cost: the rank of that task may rise, and the own word may go stale.
abbrev pub hand_over_weight : ℕ
hand_over_weight = response_rise + announcement_weight

-- What a cycle of the head may cost: an apply, a hand-over and a clear.
abbrev pub cycle_weight : ℕ → ℕ
cycle_weight n = apply_weight n + hand_over_weight + clear_weight n

-- ---- An operation that waits for its response

-- What an operation may take once it has its response, but for the ranks.
abbrev pub reserve : ℕ → ℕ
reserve n = 59 * n + 32

-- What the stage changes up to the apply of task p may cost, by the sum d of the distances.
abbrev pub stage_weights : (n p d : ℕ) → Memory → HeadValue → ℕ
stage_weights n p d m (Free q) = d * cycle_weight n + apply_weight n
stage_weights n p d m (Held q j r) = ite (ℕ_discrete j p) 0 (d * cycle_weight n + apply_weight n + clear_weight n + cond (waiting (content m j)) hand_over_weight 0)

-- The own place: in the loop, with a stale word, with the mark in the head lost.
abbrev pub place_of : Memory → ℕ → Row → ℕ
place_of m i r = r.position false + stale m r.compared + lost_weight * bit (r.linked && not (is_in_head m i))

abbrev pub waiting_potential : ℕ → Config → ℕ → ℕ
waiting_potential n c p =
    stage_weights n p (dists n p c) c.memory (head_value c.memory)
    + ranks n c p
    + place_of c.memory p (row (c.task p).phase)
    + reserve n

-- ---- An operation that has its response

-- The task is about to link the head; works for task t; is about to link the announcement of t.
abbrev pub linking : Work → Bool
linking Elsewhere = false
linking Linking = true
linking Passing = false
linking (Applying j) = false
linking (Approaching j) = false
linking (Marking j) = false
linking (Finishing j) = false

abbrev pub works_for : ℕ → Work → Bool
works_for t Elsewhere = false
works_for t Linking = false
works_for t Passing = false
works_for t (Applying j) = false
works_for t (Approaching j) = decided (ℕ_discrete j t)
works_for t (Marking j) = decided (ℕ_discrete j t)
works_for t (Finishing j) = decided (ℕ_discrete j t)

abbrev pub approaches : ℕ → Work → Bool
approaches t Elsewhere = false
approaches t Linking = false
approaches t Passing = false
approaches t (Applying j) = false
approaches t (Approaching j) = decided (ℕ_discrete j t)
approaches t (Marking j) = false
approaches t (Finishing j) = false

-- A stale word counts but in LinkHead and LinkHelped.
abbrev pub counts : Work → Bool
counts Elsewhere = true
counts Linking = false
counts Passing = true
counts (Applying j) = true
counts (Approaching j) = false
counts (Marking j) = true
counts (Finishing j) = true

-- The changes that help for task t still takes: 2 while it waits or holds the head.
abbrev pub changes_due : Memory → ℕ → ℕ
changes_due m t = cond (waiting (content m t) || holds t (head_value m)) 2 0

-- How often task x can still change the announcement of t while a mark of p stands there: by the help that it is giving,
-- and by the help that t still takes, unless x gives that already and works for the holder with its mark in the head.
abbrev pub changes_left : Memory → (x t : ℕ) → Work → ℕ
changes_left m x t w =
    cond (approaches t w) 2 (bit (is_in_announcement m x t))
    + cond (works_for t w && (holds t (head_value m) && is_in_head m x)) 0 (changes_due m t)

-- The part of the head: due while the own mark stands in it or the task holds it.
abbrev pub at_head : Memory → ℕ → Bool
at_head m i = is_in_head m i || holds i (head_value m)

abbrev pub head_load : ℕ → Config → ℕ → ℕ
head_load n c i = ranks n c i + head_weight + cond (unanswered c.memory (head_value c.memory)) response_rise 0

abbrev pub head_part : ℕ → Config → ℕ → ℕ
head_part n c i = cond (at_head c.memory i) (head_load n c i) 0

-- The part of the announcement of task t: due while the own mark stands in it.
abbrev pub changes_by_others : ℕ → Config → (i t : ℕ) → ℕ
changes_by_others n c i t = sum n (but i (λ x. changes_left c.memory x t (row (c.task x).phase).work))

abbrev pub mark_part : ℕ → Config → (i t : ℕ) → ℕ
mark_part n c i t = cond (is_in_announcement c.memory i t) (announcement_weight * (1 + changes_by_others n c i t)) 0

-- What is set aside before the links of the head and of an announcement, by the parts that are due then.
abbrev pub head_aside : ℕ → Work → ℕ
head_aside n w = cond (linking w) (greatest_rank * n) 0

abbrev pub announcement_aside : ℕ → (ℕ → ℕ) → Work → ℕ
announcement_aside n marks Elsewhere = 0
announcement_aside n marks Linking = 20 * n + 5
announcement_aside n marks Passing = 0
announcement_aside n marks (Applying j) = 0
announcement_aside n marks (Approaching j) = 20 * n + 5
announcement_aside n marks (Marking j) = marks j
announcement_aside n marks (Finishing j) = 0

-- The own place, with the part of the head and the parts of the announcements.
abbrev pub lasts : (n head : ℕ) → (ℕ → ℕ) → Memory → Row → ℕ
lasts n head marks m r =
    head + head_aside n r.work + announcement_aside n marks r.work + cond (counts r.work) (stale m r.compared) 0 + r.position true

abbrev pub answered_potential : ℕ → Config → ℕ → ℕ
answered_potential n c i = lasts n (head_part n c i) (mark_part n c i) c.memory (row (c.task i).phase)

-- ---- The potential of the operation of task i

-- The proved bound of own steps.
abbrev pub bound : ℕ → ℕ
bound n = n * n * cycle_weight n + greatest_rank * n + reserve n

abbrev pub announced_potential : ℕ → Config → ℕ → Content → ℕ
announced_potential n c i Empty = waiting_potential n c i
announced_potential n c i (Op o) = waiting_potential n c i
announced_potential n c i (Resp v) = answered_potential n c i

abbrev pub potential_by : ℕ → Config → ℕ → Kind → Content → ℕ
potential_by n c i Off a = 0
potential_by n c i Reading a = 1
potential_by n c i Opening a = bound n
potential_by n c i Looping a = announced_potential n c i a
potential_by n c i (Exiting v) a = announced_potential n c i a
potential_by n c i (Retracting v) a = announced_potential n c i a

abbrev pub potential : ℕ → Config → ℕ → ℕ
potential n c i = potential_by n c i (kind (c.task i).phase) (content c.memory i)

-- The own steps that an operation has taken, and those that it may still take, are within the bound.
abbrev pub Bounded : ℕ → Config → Type 0
Bounded n c = (t : ℕ) → t < n → (c.task t).steps + potential n c t ≤ bound n
