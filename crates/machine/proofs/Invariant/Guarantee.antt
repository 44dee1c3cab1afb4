-- What a step of task i guarantees: its effect is allowed, and the invariant of task i stands after it.
use mathlib.Core.Path.{◌≡◌, refl, sym, ◌∙◌, ap}
use mathlib.Core.Bool.{true, false}
use Prim.Native.Nat.{ℕ}
use Rattle.laws.proofs.Clash.{clash}
use Rattle.laws.proofs.Update.{update_all, update_same}
use Rattle.cells.specs.Marks.{has}
use Rattle.cells.proofs.MarkLaws.{has_none, has_add, has_remove}
use Rattle.machine.specs.Outcome.{Outcome}
use Rattle.machine.specs.Object.{Object}
use Rattle.machine.specs.Memory.{HeadValue, Held, Content, Empty, Op, Resp, Cell, Memory}
use Rattle.machine.specs.Machine.{Phase, linked, Next, phase_of}
use Rattle.machine.specs.Kind.{kind}
use Rattle.machine.specs.Invariant.{is_in_head, is_in_announcement, head_value, content, IsResp, IsOp, Announces, Agrees, NotHolder, HolderAnnounces, NoMark, OnlyMark, Saved, SavedFree, SavedHeld, OwnSaved, TaskSafe}
use Rattle.machine.proofs.Steps.Effect.{Effect, Unchanged, Linked, Released, Cleared, Retracted, Applied, LinkedAt, ReleasedAt, HandedOver, Announced, effect, with_announcement, Allowed}
use Rattle.machine.proofs.Steps.Branch.{Branch, stay_idle, read_only, announce, poll_response, poll_waits, load_head, link_free, link_held, link_fails, priority_waits, priority_rests, own_waits, own_response, own_empty, apply, apply_fails, reload_apply, reload_apply_lost, load_helped, link_helped, link_rested, link_helped_fails, validate, validate_fails, hand_over, hand_over_fails, reload_hand_over, reload_hand_over_lost, release, release_fails, reload_release, reload_release_lost, clear, clear_fails, reload_clear, reload_clear_lost, exit_clear, exit_release, exit_link, exit_retract, link_exit, link_exit_fails, clear_exit, clear_exit_fails, release_exit, release_exit_fails, retract}
use Rattle.machine.proofs.Steps.Coverage.{free_not_holder}
use Rattle.machine.proofs.Invariant.Rely.{no_mark}

-- ---- Contents

pub operation_of : (a : Content) → IsOp a → (o : ℕ) × (a ≡ Op o)
operation_of Empty u = absurd u
operation_of (Op o) u = (o, refl)
operation_of (Resp v) u = absurd u

pub is_response : {a : Content} {v : Outcome} → a ≡ Resp v → IsResp a
is_response e = rw e tt

announces : {a : Content} {o : ℕ} → a ≡ Op o → Announces a o
announces e = rw e refl

pub not_empty : {a : Content} (o : ℕ) → Announces a o → a ≡ Empty → ⊥
not_empty o y e = let z : Announces Empty o = rw e at y in z

-- What agrees with an outcome and is no operation is a response.
agrees_response : (a : Content) (r : Outcome) → Agrees a r → (IsOp a → ⊥) → IsResp a
agrees_response Empty r y n = absurd y
agrees_response (Op o) r y n = absurd (n tt)
agrees_response (Resp v) r y n = tt

-- ---- Cells

module _ {A : Type 0} where
  pub value_found : {c d : Cell A} → c ≡ d → c.value ≡ d.value
  value_found e = ap (λ s. s.value) e

  -- The swap found the saved cell, so the mark in it stands.
  pub mark_found : {c d : Cell A} (i : ℕ) → c ≡ d → has i d.marks ≡ true → has i c.marks ≡ true
  mark_found i e f = rw e f

  -- A cell that was read with the mark in it, and one that was linked.
  saved_read : (i : ℕ) (c : Cell A) → has i c.marks ≡ true → Saved c i c
  saved_read i c e = record { mine = e; keeps = λ _. refl }

  saved_linked : (i : ℕ) {c d : Cell A} → c ≡ d → Saved (linked i c) i (linked i d)
  saved_linked i e = record { mine = has_add i _; keeps = λ _. value_found e }

-- The saved head read again, with the mark in it.
free_read : {i : ℕ} {now h : Cell HeadValue} → SavedFree now i h → has i now.marks ≡ true → SavedFree now i now
free_read {i} {now} s e = record { q = s.q; saved = saved_read i now e; form = s.saved.keeps e ∙ s.form }

held_read : {i j : ℕ} {now h : Cell HeadValue} → SavedHeld now i h j → has i now.marks ≡ true → SavedHeld now i now j
held_read {i} {j} {now} s e = record { q = s.q; r = s.r; saved = saved_read i now e; form = s.saved.keeps e ∙ s.form }

-- While the mark stands in the head, the head is the saved one.
pub held_now : {i j : ℕ} {now h : Cell HeadValue} (s : SavedHeld now i h j) → has i now.marks ≡ true → now.value ≡ Held s.q j s.r
held_now s e = s.saved.keeps e ∙ s.form

-- ---- The announcement of task j changed to a

module _ (m : Memory) (i j : ℕ) (a : Cell Content) where
  -- A cell with its old value, and one with a response, announce as before.
  same_content : a.value ≡ content m j → (k : ℕ) → content (with_announcement m j a) k ≡ content m k
  same_content e = update_all m.announcement j a (λ k (c : Cell Content). c.value ≡ content m k) e (λ k _. refl)

  answered_content : (o : ℕ) {v : Outcome} → a.value ≡ Resp v → Announces (content m i) o → Announces (content (with_announcement m j a) i) o
  answered_content o e y = update_all m.announcement j a (λ k (c : Cell Content). k ≡ i → Announces c.value o) (λ _. rw e tt) (λ k _ z. rw z y) i refl

  -- The own mark: only there, or taken away from there.
  only_there : NoMark m i → OnlyMark (with_announcement m j a) i j
  only_there none = update_all m.announcement j a (λ k (c : Cell Content). has i c.marks ≡ true → k ≡ j) (λ _. refl) (λ k _ e. absurd (none k e))

  taken_there : OnlyMark m i j → has i a.marks ≡ false → NoMark (with_announcement m j a) i
  taken_there only e = update_all m.announcement j a (λ k (c : Cell Content). has i c.marks ≡ true → ⊥) (λ z. clash z e) (λ k n z. n (sym (only k z)))

module _ (m : Memory) (i j : ℕ) where
  only_none : NoMark m i → OnlyMark m i j
  only_none none k e = absurd (none k e)

  none_only : OnlyMark m i j → is_in_announcement m i j ≡ false → NoMark m i
  none_only only e k z = clash (rw (only k z) at z) e

module _ (b : Object) (m : Memory) (i p x : ℕ) (all : (j : ℕ) → HolderAnnounces m j) where
  empty_free : (j : ℕ) → content m j ≡ Empty → NotHolder (head_value m) j
  empty_free j e q r f = let z : Agrees Empty r = rw e at (all j q r f) in z

  -- The holder of the saved head has a response if it has no operation.
  holder_answered : {j : ℕ} {h : Cell HeadValue} → SavedHeld m.head i h j → (IsOp (content m j) → ⊥) → is_in_head m i ≡ true → IsResp (content m j)
  holder_answered {j} s n e = agrees_response (content m j) s.r (all j s.q s.r (held_now s e)) n

  -- ---- The effect is allowed

  allowed_cleared : {f : Phase} {y : Next} → Branch b m i p x f Cleared y → TaskSafe m i x f → Allowed b m i Cleared
  allowed_cleared (clear e) s = let c = s.saved.1 in (c.head.q, _, c.head.r, value_found e ∙ c.head.form, c.done (mark_found i e c.head.saved.mine))
  allowed_cleared (clear_exit e) s = let (q, r, f) = s.saved.1 in (q, i, r, value_found e ∙ f, is_response s.own)

  allowed_by : {f : Phase} (e : Effect) {y : Next} → Branch b m i p x f e y → TaskSafe m i x f → Allowed b m i e
  allowed_by Unchanged v s = tt
  allowed_by Linked v s = tt
  allowed_by Released v s = tt
  allowed_by Cleared v s = allowed_cleared v s
  allowed_by Retracted retract s = (_, s.own, s.head.1)
  allowed_by (Applied q j r) (apply e) s =
      let c = s.saved.1 in
      (c.head.q, _, value_found e ∙ c.head.form, c.waits (mark_found i e c.head.saved.mine), rw c.head.form, rw c.head.form)
  allowed_by (LinkedAt j) v s = tt
  allowed_by (ReleasedAt j) v s = tt
  allowed_by (HandedOver j r) (hand_over {a = a} e) s =
      let c = s.saved.1.helping in
      let o = operation_of a.value c.operation in
      (c.head.q, o.0, held_now c.head (s.saved.1.both (mark_found i e c.noted.mine)) ∙ rw c.head.form, value_found e ∙ o.1)
  allowed_by (Announced o) announce s = (s.own, empty_free i s.own)

  pub allowed : {f : Phase} {e : Effect} {y : Next} → Branch b m i p x f e y → TaskSafe m i x f → Allowed b m i e
  allowed {e = e} v s = allowed_by e v s

  -- ---- The invariant stands

  -- The cells and the kind are as before.
  still : {f g : Phase} → kind g ≡ kind f → TaskSafe m i x f → OwnSaved m i g → TaskSafe m i x g
  still e s y = record { own = rw e s.own; head = rw e s.head; saved = y }

  -- The own mark is added to the announcement of task j.
  linked_noted : {j : ℕ} {a : Cell Content} → m.announcement j ≡ a → Saved ((effect i (LinkedAt j) m).announcement j) i (linked i a)
  linked_noted {j} e = rw (update_same m.announcement j (linked i (m.announcement j))) (saved_linked i e)

  linked_there : (j : ℕ) → is_in_announcement (effect i (LinkedAt j) m) i j ≡ true
  linked_there j = rw (update_same m.announcement j (linked i (m.announcement j))) (has_add i _)

  linked_content : (j k : ℕ) → content (effect i (LinkedAt j) m) k ≡ content m k
  linked_content j = same_content m i j _ refl

  released_content : (j k : ℕ) → content (effect i (ReleasedAt j) m) k ≡ content m k
  released_content j = same_content m i j _ refl

  pub own_safe : {f : Phase} {e : Effect} {y : Next} → Branch b m i p x f e y → TaskSafe m i x f → TaskSafe (effect i e m) i x (phase_of y)
  own_safe stay_idle s = s
  own_safe read_only s = record { own = s.own; head = s.head; saved = s.saved }
  own_safe announce s = record {
    own = announces (value_found (update_same m.announcement i _));
    head = tt;
    saved = (taken_there m i i _ (only_none m i i s.saved.0) (has_none i), tt);
  }
  own_safe (poll_response e) s = record { own = e; head = tt; saved = s.saved }
  own_safe (poll_waits _) s = still refl s s.saved
  own_safe load_head s = still refl s s.saved
  own_safe (link_free {q = q} e f) s = record { own = s.own; head = tt; saved = (s.saved.0, record { q = q; saved = saved_linked i e; form = f }) }
  own_safe (link_held {q = q} {r = r} e f) s = record { own = s.own; head = tt; saved = (s.saved.0, record { q = q; r = r; saved = saved_linked i e; form = f }) }
  own_safe (link_fails _) s = still refl s s.saved
  own_safe (priority_waits e) s = still refl s (s.saved.0, record { head = s.saved.1; waits = λ _. e })
  own_safe (priority_rests _) s = still refl s s.saved
  own_safe (own_waits e) s = still refl s (s.saved.0, record { head = s.saved.1; waits = λ _. e })
  own_safe (own_response e) s = record { own = e; head = tt; saved = (s.saved.0, tt) }
  own_safe (own_empty e) s = absurd (not_empty x s.own e)
  own_safe (apply e) s = record { own = s.own; head = tt; saved = (s.saved.0, tt) }
  own_safe (apply_fails _) s = still refl s s.saved
  own_safe (reload_apply e) s = still refl s (s.saved.0, record { head = free_read s.saved.1.head e; waits = s.saved.1.waits })
  own_safe (reload_apply_lost _) s = still refl s (s.saved.0, tt)
  own_safe load_helped s = still refl s s.saved
  own_safe (link_helped {j = j} e f) s = record {
    own = rw (linked_content j i) s.own;
    head = tt;
    saved = (only_there m i j _ s.saved.0, record { head = s.saved.1; noted = linked_noted e; operation = rw f tt; lost = λ _ z. clash (linked_there j) z });
  }
  own_safe (link_rested {j = j} e n) s = record {
    own = rw (linked_content j i) s.own;
    head = tt;
    saved = (
      only_there m i j _ s.saved.0,
      record {
        clearing = record { head = s.saved.1; done = λ z. rw (linked_content j j) (holder_answered s.saved.1 (λ u. n (rw (value_found e) at u)) z) };
        noted = linked_noted e;
      },
    );
  }
  own_safe (link_helped_fails _) s = still refl s (s.saved.0, tt)
  own_safe (validate e) s = still refl s (s.saved.0, record { helping = s.saved.1; both = λ _. e })
  own_safe (validate_fails e) s = let c = s.saved.1 in still refl s (s.saved.0, record { clearing = record { head = c.head; done = λ z. clash z e }; noted = c.noted })
  own_safe (hand_over {j = j} e) s = record {
    own = answered_content m i j _ x refl s.own;
    head = tt;
    saved = (taken_there m i j _ s.saved.0 (has_none i), record { head = s.saved.1.helping.head; done = λ _. is_response (value_found (update_same m.announcement j _)) });
  }
  own_safe (hand_over_fails _) s = still refl s s.saved
  own_safe (reload_hand_over {j = j} e) s =
      let c = s.saved.1.helping in
      still refl s (
        s.saved.0,
        record {
          helping = record { head = c.head; noted = saved_read i (m.announcement j) e; operation = rw (c.noted.keeps e) c.operation; lost = c.lost };
          both = s.saved.1.both;
        },
      )
  own_safe (reload_hand_over_lost {j = j} e) s =
      let c = s.saved.1.helping in
      still refl s (none_only m i j s.saved.0 e, record { head = c.head; done = λ z. c.lost z e })
  own_safe (release {j = j} e) s =
      let c = s.saved.1.clearing in
      record {
        own = rw (released_content j i) s.own;
        head = tt;
        saved = (taken_there m i j _ s.saved.0 (has_remove i _), record { head = c.head; done = λ z. rw (released_content j j) (c.done z) });
      }
  own_safe (release_fails _) s = still refl s s.saved
  own_safe (reload_release {j = j} e) s = still refl s (s.saved.0, record { clearing = s.saved.1.clearing; noted = saved_read i (m.announcement j) e })
  own_safe (reload_release_lost {j = j} e) s = still refl s (none_only m i j s.saved.0 e, s.saved.1.clearing)
  own_safe (clear e) s = record { own = s.own; head = tt; saved = (s.saved.0, tt) }
  own_safe (clear_fails _) s = still refl s s.saved
  own_safe (reload_clear e) s = still refl s (s.saved.0, record { head = held_read s.saved.1.head e; done = s.saved.1.done })
  own_safe (reload_clear_lost _) s = still refl s (s.saved.0, tt)
  own_safe (exit_clear {q = q} {r = r} c e) s = still refl s (s.saved.0, (q, r, e))
  own_safe (exit_release c n) s = still refl s (s.saved.0, (n, c))
  own_safe (exit_link {q = q} {r = r} c e) s = still refl s (s.saved.0, (q, r, e))
  own_safe (exit_retract c n) s = record { own = s.own; head = (λ z. clash z c, n); saved = s.saved }
  own_safe (link_exit e) s = record { own = s.own; head = tt; saved = s.saved }
  own_safe (link_exit_fails _) s = still refl s (s.saved.0, tt)
  own_safe (clear_exit e) s = record { own = s.own; head = (no_mark i, free_not_holder refl); saved = (s.saved.0, tt) }
  own_safe (clear_exit_fails _) s = still refl s (s.saved.0, tt)
  own_safe (release_exit e) s = record { own = s.own; head = (λ z. clash z (has_remove i _), λ q r z. s.saved.1.0 q r (sym (value_found e) ∙ z)); saved = (s.saved.0, tt) }
  own_safe (release_exit_fails _) s = still refl s (s.saved.0, tt)
  own_safe retract s = record {
    own = value_found (update_same m.announcement i _);
    head = s.head.0;
    saved = (taken_there m i i _ (only_none m i i s.saved.0) (has_none i), tt);
  }
