-- What the step of another task leaves true for task i, and that each of the ten effects does.
use mathlib.Core.Path.{◌≡◌, refl, sym, ◌∙◌}
use mathlib.Core.Bool.{true, false}
use mathlib.Core.Logic.{◌≢◌}
use Prim.Native.Nat.{ℕ}
use Rattle.laws.proofs.Clash.{clash, never}
use Rattle.laws.proofs.Update.{update_all}
use Rattle.cells.specs.Marks.{has}
use Rattle.cells.proofs.MarkLaws.{has_none, has_add_other, has_remove_other}
use Rattle.machine.specs.Outcome.{Outcome}
use Rattle.machine.specs.Object.{Object}
use Rattle.machine.specs.Memory.{HeadValue, Free, Held, Content, Empty, Op, Resp, Cell, Memory, unmarked}
use Rattle.machine.specs.Machine.{linked, released, cleared}
use Rattle.machine.specs.Invariant.{is_in_head, is_in_announcement, head_value, content, IsResp, Announces, Agrees, NotHolder, HolderAnnounces}
use Rattle.machine.proofs.Steps.Effect.{Effect, Unchanged, Linked, Released, Cleared, Retracted, Applied, LinkedAt, ReleasedAt, HandedOver, Announced, effect, with_head, with_announcement, Allowed}
use Rattle.machine.proofs.Steps.Coverage.{free_not_holder}

-- A cell as task i sees it while others step: if the own mark stands, it stood before, beside the same value.
abbrev pub Stays : {A : Type 0} → ℕ → Cell A → Cell A → Type 0
Stays i c c' = has i c'.marks ≡ true → (has i c.marks ≡ true) × (c'.value ≡ c.value)

-- A cell that is alike for task i: the same value, and the own mark as before.
abbrev Alike : {A : Type 0} → ℕ → Cell A → Cell A → Type 0
Alike i c c' = (c'.value ≡ c.value) × (has i c'.marks ≡ has i c.marks)

-- An announcement as its owner sees it while others step: an operation may turn into a response.
abbrev pub Grows : Content → Content → Type 0
Grows Empty a = a ≡ Empty
Grows (Op o) a = Announces a o
Grows (Resp v) a = a ≡ Resp v

pub record Rely (i : ℕ) (m m' : Memory) : Type 0 where
  pub head : Stays i m.head m'.head
  pub announcement : (j : ℕ) → Stays i (m.announcement j) (m'.announcement j)
  pub own : Grows (content m i) (content m' i)
  -- A task with a response that doesn't hold the head isn't made its holder.
  pub unheld : {v : Outcome} → content m i ≡ Resp v → NotHolder (head_value m) i → NotHolder (head_value m') i
  -- With no holder, a waiting operation waits on.
  pub waits : {q j o : ℕ} → head_value m ≡ Free q → content m j ≡ Op o → content m' j ≡ Op o
  -- The holder keeps its response, and the own mark vanishes from its announcement only with a response.
  pub done : {q j : ℕ} {r : Outcome} → head_value m ≡ Held q j r → IsResp (content m j) → IsResp (content m' j)
  pub lost : {q j : ℕ} {r : Outcome} → head_value m ≡ Held q j r → is_in_announcement m i j ≡ true → is_in_announcement m' i j ≡ false → IsResp (content m' j)
  -- While the holder waits, the own mark stays in the head.
  pub kept : {q j : ℕ} {r : Outcome} {o : ℕ} → head_value m ≡ Held q j r → content m j ≡ Op o → is_in_head m i ≡ true → is_in_head m' i ≡ true

pub grows_same : (a : Content) → Grows a a
grows_same Empty = refl
grows_same (Op o) = refl
grows_same (Resp v) = refl

-- There is no mark in 0.
pub no_mark : {A : Type 0} (i : ℕ) → has i 0 ≡ true → A
no_mark i e = clash e (has_none i)

not_response : {a : Content} {o : ℕ} → a ≡ Op o → IsResp a → ⊥
not_response {a} {o} e y = let z : IsResp (Op o) = rw e at y in z

module _ {i : ℕ} {m : Memory} where
  -- Another head.
  rely_head : (h : Cell HeadValue) → Stays i m.head h
      → ((v : Outcome) → content m i ≡ Resp v → NotHolder (head_value m) i → NotHolder h.value i)
      → ((q j : ℕ) (r : Outcome) (o : ℕ) → head_value m ≡ Held q j r → content m j ≡ Op o → is_in_head m i ≡ true → has i h.marks ≡ true)
      → Rely i m (with_head m h)
  rely_head h head unheld kept = record {
    head = head;
    announcement = λ j e. (e, refl);
    own = grows_same (content m i);
    unheld = λ {v}. unheld v;
    waits = λ e f. f;
    done = λ e f. f;
    lost = λ e f g. clash f g;
    kept = λ {q} {j} {r} {o}. kept q j r o;
  }

  -- Another announcement of task k.
  rely_announcement : (k : ℕ) (a : Cell Content) → Stays i (m.announcement k) a
      → (k ≡ i → Grows (content m k) a.value)
      → ((q o : ℕ) → head_value m ≡ Free q → content m k ≡ Op o → a.value ≡ Op o)
      → ((q : ℕ) (r : Outcome) → head_value m ≡ Held q k r → IsResp (content m k) → IsResp a.value)
      → ((q : ℕ) (r : Outcome) → head_value m ≡ Held q k r → is_in_announcement m i k ≡ true → has i a.marks ≡ false → IsResp a.value)
      → Rely i m (with_announcement m k a)
  rely_announcement k a stays own waits done lost = record {
    head = λ e. (e, refl);
    announcement = changed (λ j (c : Cell Content). Stays i (m.announcement j) c) stays (λ j _ e. (e, refl));
    own = changed (λ j (c : Cell Content). j ≡ i → Grows (content m j) c.value) own (λ j _ _. grows_same (content m j)) i refl;
    unheld = λ e f. f;
    waits = λ {q} {j} {o}. changed (λ j (c : Cell Content). head_value m ≡ Free q → content m j ≡ Op o → c.value ≡ Op o) (waits q o) (λ j _ e f. f) j;
    done = λ {q} {j} {r}. changed (λ j (c : Cell Content). head_value m ≡ Held q j r → IsResp (content m j) → IsResp c.value) (done q r) (λ j _ e f. f) j;
    lost = λ {q} {j} {r}. changed (λ j (c : Cell Content). head_value m ≡ Held q j r → is_in_announcement m i j ≡ true → has i c.marks ≡ false → IsResp c.value) (lost q r) (λ j _ e f g. clash f g) j;
    kept = λ e f g. g;
  }
    where
      changed : (P : ℕ → Cell Content → Type 0) → P k a → ((j : ℕ) → k ≢ j → P j (m.announcement j)) → (j : ℕ) → P j ((with_announcement m k a).announcement j)
      changed = update_all m.announcement k a

  -- A head, and an announcement, that is alike for task i.
  alike_head : (h : Cell HeadValue) → Alike i m.head h → Rely i m (with_head m h)
  alike_head h (v, y) = rely_head h (λ z. (sym y ∙ z, v)) (λ _ e n. rw v n) (λ _ _ _ _ e f z. y ∙ z)

  alike_announcement : (k : ℕ) (a : Cell Content) → Alike i (m.announcement k) a → Rely i m (with_announcement m k a)
  alike_announcement k a (v, y) = rely_announcement k a (λ z. (sym y ∙ z, v)) (λ _. rw v (grows_same (content m k))) (λ _ _ _ f. v ∙ f) (λ _ _ _ f. rw v f) (λ _ _ _ f g. clash f (sym y ∙ g))

  -- Another task, not the holder and not waiting, writes its own announcement.
  rely_writer : {k : ℕ} → i ≢ k → (v : Content) → NotHolder (head_value m) k → ((o : ℕ) → content m k ≡ Op o → v ≡ Op o) → Rely i m (with_announcement m k (unmarked v))
  rely_writer {k} n v f g = rely_announcement k (unmarked v) (no_mark i) (λ z. absurd (n (sym z))) (λ _ o _. g o) (λ _ _ e _. absurd (f _ _ e)) (λ _ _ e _ _. absurd (f _ _ e))

module _ (b : Object) (m : Memory) {i k : ℕ} (n : i ≢ k) where
  -- Another task's mark, added or taken away.
  alike_linked : {A : Type 0} (c : Cell A) → Alike i c (linked k c)
  alike_linked c = (refl, has_add_other i k _ n)

  alike_released : {A : Type 0} (c : Cell A) → Alike i c (released k c)
  alike_released c = (refl, has_remove_other i k _ n)

  pub relies : (e : Effect) → Allowed b m k e → Rely i m (effect k e m)
  relies Unchanged u = alike_head m.head (refl, refl)
  relies Linked u = alike_head (linked k m.head) (alike_linked m.head)
  relies Released u = alike_head (released k m.head) (alike_released m.head)
  relies Cleared (q, j, r, e, y) = rely_head (cleared m.head) (no_mark i) (λ _ _ _. free_not_holder refl) (λ _ j' _ _ f g _. let z : j ≡ j' = cc in absurd (not_response g (rw z at y)))
  relies Retracted (v, e, f) = rely_writer n Empty f (λ o g. cc)
  relies (Applied q j r) (c, x, e, f, _, _) = rely_head (unmarked (Held q j r)) (no_mark i) (λ _ g _ q' r' z. never cc) (λ _ _ _ _ g _ _. cc)
  relies (LinkedAt j) u = alike_announcement j (linked k (m.announcement j)) (alike_linked (m.announcement j))
  relies (ReleasedAt j) u = alike_announcement j (released k (m.announcement j)) (alike_released (m.announcement j))
  relies (HandedOver j r) (q, x, e, f) = rely_announcement j (unmarked (Resp r)) (no_mark i) (λ _. rw f tt) (λ _ _ g _. cc) (λ _ _ _ _. tt) (λ _ _ _ _ _. tt)
  relies (Announced o) (e, f) = rely_writer n (Op o) f (λ o' g. cc)

-- G1 stands after each effect.
module _ (b : Object) (m : Memory) (i : ℕ) (all : (j : ℕ) → HolderAnnounces m j) where
  holders_with : (k : ℕ) (a : Cell Content) → ((q : ℕ) (r : Outcome) → head_value m ≡ Held q k r → Agrees a.value r) → (j : ℕ) → HolderAnnounces (with_announcement m k a) j
  holders_with k a y = update_all m.announcement k a (λ j (c : Cell Content). (q : ℕ) (r : Outcome) → head_value m ≡ Held q j r → Agrees c.value r) y (λ j _. all j)

  pub holders : (e : Effect) → Allowed b m i e → (j : ℕ) → HolderAnnounces (effect i e m) j
  holders Unchanged u = all
  holders Linked u = all
  holders Released u = all
  holders Cleared u = λ j q r e. absurd (free_not_holder refl q r e)
  holders Retracted (v, e, f) = holders_with i _ (λ q r g. absurd (f q r g))
  holders (Applied q j r) (c, x, e, f, _, _) = λ k q' r' g. let z : content m k ≡ Op x = cc in rw z tt
  holders (LinkedAt j) u = holders_with j _ (all j)
  holders (ReleasedAt j) u = holders_with j _ (all j)
  holders (HandedOver j r) (q, x, e, f) = holders_with j _ (λ q' r' g. cc)
  holders (Announced o) (e, f) = holders_with i _ (λ q r g. tt)
