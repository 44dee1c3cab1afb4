-- How the plain book and a configuration are related: what stands on a task's page follows from its record and the cells.
use mathlib.Core.Path.{◌≡◌, refl, sym, ◌∙◌, ap, subst}
use mathlib.Core.Logic.{◌≢◌, ite, if_pos, if_neg}
use Prim.Native.Nat.{ℕ}
use native.Mathlib.Decide.{ℕ_discrete}
use Rattle.laws.specs.Update.{update}
use Rattle.laws.proofs.Update.{update_all, update_other}
use Rattle.machine.specs.Outcome.{Outcome}
use Rattle.machine.specs.Object.{Object}
use Rattle.machine.specs.Memory.{HeadValue, Free, Held, Content, Empty, Op, Resp, Cell, Memory, state_of}
use Rattle.machine.specs.Machine.{Phase, Task}
use Rattle.machine.specs.Kind.{Kind, Off, Reading, Opening, Looping, Exiting, Retracting, kind}
use Rattle.machine.specs.Run.{Config, start}
use Rattle.machine.specs.Book.{Book, Page, Waiting, Done, blank}
use Rattle.machine.specs.Invariant.{head_value, content, IsResp, NotHolder}
use Rattle.machine.proofs.Steps.Effect.{Effect, Unchanged, Linked, Released, Cleared, Retracted, Applied, LinkedAt, ReleasedAt, HandedOver, Announced, effect, Allowed}

-- Where a task stands: it has no operation, its operation waits, or it has been entered and has its outcome.
pub data Standing : Type 0 where
  Out Waits : Standing
  Answered : (outcome : Outcome) → Standing

-- An announced operation waits until the task holds the head, which then has its outcome.
abbrev pub by_head : HeadValue → ℕ → Standing
by_head (Free q) t = Waits
by_head (Held q j r) t = ite (ℕ_discrete j t) (Answered r) Waits

abbrev pub by_content : Content → HeadValue → ℕ → Standing
by_content Empty h t = Waits
by_content (Op o) h t = by_head h t
by_content (Resp v) h t = Answered v

abbrev pub standing : Kind → Content → HeadValue → ℕ → Standing
standing Off a h t = Out
standing Reading a h t = Waits
standing Opening a h t = Waits
standing Looping a h t = by_content a h t
standing (Exiting v) a h t = Answered v
standing (Retracting v) a h t = Answered v

-- The standing of task t over the cells m, by the kind of its phase.
abbrev pub stands_at : Memory → ℕ → Kind → Standing
stands_at m t d = standing d (content m t) (head_value m) t

-- The page of task t, whose operation is o, after s steps.
abbrev pub Shows : Standing → (t o s : ℕ) → Page → Type 0
Shows Out t o s p = p ≡ Page.Idle
Shows Waits t o s p = (place : ℕ) × (p ≡ Waiting (record { place = place; task = t; operation = o }) s)
Shows (Answered r) t o s p = p ≡ Done r s

-- The page of task t shows where the task stands over the cells m.
abbrev pub Paged : Memory → ℕ → Task → Page → Type 0
Paged m t x p = Shows (stands_at m t (kind x.phase)) t x.operation x.steps p

-- The book's state is the head's, and every page shows where its task stands.
pub record Related (c : Config) (k : Book) : Type 0 where
  pub state : k.state ≡ state_of (head_value c.memory)
  pub page : (t : ℕ) → Paged c.memory t (c.task t) (k.page t)

-- Equal standings show the same.
pub shows_same : {s s' : Standing} → s ≡ s' → (t o c : ℕ) (p : Page) → Shows s t o c p → Shows s' t o c p
shows_same e t o c p y = subst (λ (s : Standing). Shows s t o c p) e y

-- The page of task t, by its phase.
pub page_by : {c : Config} {k : Book} → Related c k → (t : ℕ) {f : Phase} → (c.task t).phase ≡ f → Shows (stands_at c.memory t (kind f)) t (c.task t).operation (c.task t).steps (k.page t)
page_by {c} {k} rel t e = shows_same (ap (λ (f : Phase). stands_at c.memory t (kind f)) e) t (c.task t).operation (c.task t).steps (k.page t) (rel.page t)

pub related_start : (q : ℕ) → Related (start q) (blank q)
related_start q = record { state = refl; page = λ t. refl }

-- ---- What an effect does to a standing

-- The effect of a step of task i is no matter of the standing of task t.
abbrev pub Aside : (i t : ℕ) → Effect → Type 0
Aside i t Unchanged = Unit {0}
Aside i t Linked = Unit {0}
Aside i t Released = Unit {0}
Aside i t Cleared = Unit {0}
Aside i t Retracted = i ≢ t
Aside i t (Applied q j r) = j ≢ t
Aside i t (LinkedAt j) = Unit {0}
Aside i t (ReleasedAt j) = Unit {0}
Aside i t (HandedOver j r) = Unit {0}
Aside i t (Announced o) = i ≢ t

-- A task that doesn't hold the head waits.
pub not_held : (h : HeadValue) (t : ℕ) → NotHolder h t → by_head h t ≡ Waits
not_held (Free q) t n = refl
not_held (Held q j r) t n = if_neg (ℕ_discrete j t) (λ e. n q r (ap (λ x. Held q x r) e)) (Answered r) Waits

-- To a task that has its response or isn't j, a head held by j is as a free one.
as_free : (a : Content) (c q j : ℕ) (r : Outcome) (t : ℕ) → (j ≡ t → IsResp a) → by_content a (Held q j r) t ≡ by_content a (Free c) t
as_free Empty c q j r t f = refl
as_free (Op x) c q j r t f = if_neg (ℕ_discrete j t) f (Answered r) Waits
as_free (Resp v) c q j r t f = refl

module _ (b : Object) (m : Memory) (i t : ℕ) where
  same_content : (j : ℕ) (x : Cell Content) → x.value ≡ content m j → by_content (update m.announcement j x t).value (head_value m) t ≡ by_content (content m t) (head_value m) t
  same_content j x e = ap (λ (a : Content). by_content a (head_value m) t) (update_all m.announcement j x (λ k (a : Cell Content). a.value ≡ content m k) e (λ k _. refl) t)

  other_content : (x : Cell Content) → i ≢ t → by_content (update m.announcement i x t).value (head_value m) t ≡ by_content (content m t) (head_value m) t
  other_content x n = ap (λ (a : Cell Content). by_content a.value (head_value m) t) (update_other m.announcement i x t n)

  content_aside : (e : Effect) → Allowed b m i e → Aside i t e → by_content (content (effect i e m) t) (head_value (effect i e m)) t ≡ by_content (content m t) (head_value m) t
  content_aside Unchanged u n = refl
  content_aside Linked u n = refl
  content_aside Released u n = refl
  content_aside Cleared (q, j, r, e, y) n = sym (ap (λ (h : HeadValue). by_content (content m t) h t) e ∙ as_free (content m t) _ q j r t (λ z. rw z at y))
  content_aside Retracted u n = other_content _ n
  content_aside (Applied q j r) (c, x, e, y, _, _) n = as_free (content m t) c q j r t (λ z. absurd (n z)) ∙ ap (λ (h : HeadValue). by_content (content m t) h t) (sym e)
  content_aside (LinkedAt j) u n = same_content j _ refl
  content_aside (ReleasedAt j) u n = same_content j _ refl
  content_aside (HandedOver j r) (q, x, e, y) n =
      update_all m.announcement j _ (λ k (a : Cell Content). by_content a.value (head_value m) k ≡ by_content (content m k) (head_value m) k) (rw (e, y) (sym (if_pos (ℕ_discrete j j) refl (Answered r) Waits))) (λ k _. refl) t
  content_aside (Announced o) u n = other_content _ n

  -- An effect that is no matter of a task leaves its standing.
  pub stands_aside : (e : Effect) → Allowed b m i e → Aside i t e → (d : Kind) → stands_at (effect i e m) t d ≡ stands_at m t d
  stands_aside e u n Off = refl
  stands_aside e u n Reading = refl
  stands_aside e u n Opening = refl
  stands_aside e u n Looping = content_aside e u n
  stands_aside e u n (Exiting v) = refl
  stands_aside e u n (Retracting v) = refl
