-- The invariant of task i stands after a step of another task.
use mathlib.Core.Path.{◌≡◌, refl, ◌∙◌}
use mathlib.Core.Bool.{Bool, true, false}
use Prim.Native.Nat.{ℕ}
use Rattle.machine.specs.Memory.{HeadValue, Held, Content, Empty, Op, Resp, Cell, Memory}
use Rattle.machine.specs.Machine.{Phase, Idle, ReadOnly, Announce, Poll, LoadHead, LinkHead, LoadPriority, LoadOwn, Apply, ReloadApply, LoadHelped, LinkHelped, Validate, HandOver, ReloadHandOver, Release, ReloadRelease, ClearHead, ReloadClear, LoadExit, LinkExit, ClearExit, ReleaseExit, Retract}
use Rattle.machine.specs.Kind.{Kind, Off, Reading, Opening, Looping, Exiting, Retracting, kind}
use Rattle.machine.specs.Invariant.{is_in_head, is_in_announcement, head_value, content, IsResp, Announces, OwnContent, Unlinked, OwnHead, NoMark, OnlyMark, Saved, SavedFree, SavedHeld, Applying, Helping, HandingOver, Clearing, Releasing, OwnSaved, TaskSafe}
use Rattle.machine.proofs.Invariant.Rely.{Stays, Grows, Rely}
use Rattle.machine.proofs.Invariant.Guarantee.{operation_of, held_now}

announces_grows : (a a' : Content) (o : ℕ) → Grows a a' → Announces a o → Announces a' o
announces_grows Empty a' o g y = absurd y
announces_grows (Op x) a' o g y = rw y at g
announces_grows (Resp v) a' o g y = rw g tt

-- T1, by kind.
own_stable : (a a' : Content) (o : ℕ) (k : Kind) → Grows a a' → OwnContent a o k → OwnContent a' o k
own_stable a a' o Off g e = rw e at g
own_stable a a' o Reading g e = rw e at g
own_stable a a' o Opening g e = rw e at g
own_stable a a' o Looping g y = announces_grows a a' o g y
own_stable a a' o (Exiting v) g e = rw e at g
own_stable a a' o (Retracting v) g e = rw e at g

saved_stable : {A : Type 0} {i : ℕ} {now now' saved : Cell A} → Stays i now now' → Saved now i saved → Saved now' i saved
saved_stable stays s = record { mine = s.mine; keeps = λ e. (stays e).1 ∙ s.keeps (stays e).0 }

free_stable : {i : ℕ} {now now' h : Cell HeadValue} → Stays i now now' → SavedFree now i h → SavedFree now' i h
free_stable stays s = record { q = s.q; saved = saved_stable stays s.saved; form = s.form }

held_stable : {i j : ℕ} {now now' h : Cell HeadValue} → Stays i now now' → SavedHeld now i h j → SavedHeld now' i h j
held_stable stays s = record { q = s.q; r = s.r; saved = saved_stable stays s.saved; form = s.form }

module _ {i : ℕ} {m m' : Memory} (rely : Rely i m m') where
  none_stable : NoMark m i → NoMark m' i
  none_stable none j e = none j (rely.announcement j e).0

  only_stable : {j : ℕ} → OnlyMark m i j → OnlyMark m' i j
  only_stable only k e = only k (rely.announcement k e).0

  unlinked_stable : Unlinked m i → Unlinked m' i
  unlinked_stable n e = n (rely.head e).0

  -- T2 and T3, by kind.
  head_stable : (o : ℕ) (k : Kind) → OwnContent (content m i) o k → OwnHead m i k → OwnHead m' i k
  head_stable o Off e n = unlinked_stable n
  head_stable o Reading e n = unlinked_stable n
  head_stable o Opening e n = unlinked_stable n
  head_stable o Looping e n = n
  head_stable o (Exiting v) e n = n
  head_stable o (Retracting v) e (n, u) = (unlinked_stable n, rely.unheld e u)

  applying_stable : {h : Cell HeadValue} {j o : ℕ} → Applying m i h j o → Applying m' i h j o
  applying_stable s = record {
    head = free_stable rely.head s.head;
    waits = λ e. rely.waits (s.head.saved.keeps (rely.head e).0 ∙ s.head.form) (s.waits (rely.head e).0);
  }

  -- The holder of the saved head was the same before the step.
  held_before : {h : Cell HeadValue} {j : ℕ} (s : SavedHeld m.head i h j) → is_in_head m' i ≡ true → head_value m ≡ Held s.q j s.r
  held_before s e = held_now s (rely.head e).0

  clearing_stable : {h : Cell HeadValue} {j : ℕ} → Clearing m i h j → Clearing m' i h j
  clearing_stable s = record { head = held_stable rely.head s.head; done = λ e. rely.done (held_before s.head e) (s.done (rely.head e).0) }

  releasing_stable : {h : Cell HeadValue} {j : ℕ} {a : Cell Content} → Releasing m i h j a → Releasing m' i h j a
  releasing_stable {j = j} s = record { clearing = clearing_stable s.clearing; noted = saved_stable (rely.announcement j) s.noted }

  helping_stable : {h : Cell HeadValue} {j : ℕ} {a : Cell Content} → Helping m i h j a → Helping m' i h j a
  helping_stable {j = j} s = record {
    head = held_stable rely.head s.head;
    noted = saved_stable (rely.announcement j) s.noted;
    operation = s.operation;
    lost = λ e f. by e f (is_in_announcement m i j) refl;
  }
    where
      -- The mark in the announcement vanished in this step, or earlier.
      by : is_in_head m' i ≡ true → is_in_announcement m' i j ≡ false → (t : Bool) → is_in_announcement m i j ≡ t → IsResp (content m' j)
      by e f true g = rely.lost (held_before s.head e) g f
      by e f false g = rely.done (held_before s.head e) (s.lost (rely.head e).0 g)

  handing_over_stable : {h : Cell HeadValue} {j : ℕ} {a : Cell Content} → HandingOver m i h j a → HandingOver m' i h j a
  handing_over_stable {j = j} {a = a} s = record { helping = helping_stable s.helping; both = both }
    where
      both : is_in_announcement m' i j ≡ true → is_in_head m' i ≡ true
      both e =
          let c = s.helping in
          let stood = (rely.announcement j e).0 in
          rely.kept (held_now c.head (s.both stood)) (c.noted.keeps stood ∙ (operation_of a.value c.operation).1) (s.both stood)

  -- T2 and T4 to T7, by phase.
  own_saved_stable : (f : Phase) → OwnSaved m i f → OwnSaved m' i f
  own_saved_stable Idle s = (none_stable s.0, tt)
  own_saved_stable ReadOnly s = (none_stable s.0, tt)
  own_saved_stable Announce s = (none_stable s.0, tt)
  own_saved_stable Poll s = (none_stable s.0, tt)
  own_saved_stable LoadHead s = (none_stable s.0, tt)
  own_saved_stable (LinkHead h) s = (none_stable s.0, tt)
  own_saved_stable (LoadPriority h) s = (none_stable s.0, free_stable rely.head s.1)
  own_saved_stable (LoadOwn h) s = (none_stable s.0, free_stable rely.head s.1)
  own_saved_stable (Apply h j o) s = (none_stable s.0, applying_stable s.1)
  own_saved_stable (ReloadApply h j o) s = (none_stable s.0, applying_stable s.1)
  own_saved_stable (LoadHelped h j) s = (none_stable s.0, held_stable rely.head s.1)
  own_saved_stable (LinkHelped h j a) s = (none_stable s.0, held_stable rely.head s.1)
  own_saved_stable (Validate h j a) s = (only_stable s.0, helping_stable s.1)
  own_saved_stable (HandOver h j a) s = (only_stable s.0, handing_over_stable s.1)
  own_saved_stable (ReloadHandOver h j a) s = (only_stable s.0, handing_over_stable s.1)
  own_saved_stable (Release h j a) s = (only_stable s.0, releasing_stable s.1)
  own_saved_stable (ReloadRelease h j a) s = (only_stable s.0, releasing_stable s.1)
  own_saved_stable (ClearHead h j) s = (none_stable s.0, clearing_stable s.1)
  own_saved_stable (ReloadClear h j) s = (none_stable s.0, clearing_stable s.1)
  own_saved_stable (LoadExit v) s = (none_stable s.0, tt)
  own_saved_stable (LinkExit h v) s = (none_stable s.0, s.1)
  own_saved_stable (ClearExit h v) s = (none_stable s.0, s.1)
  own_saved_stable (ReleaseExit h v) s = (none_stable s.0, s.1)
  own_saved_stable (Retract v) s = (none_stable s.0, tt)

  pub stable : {o : ℕ} {f : Phase} → TaskSafe m i o f → TaskSafe m' i o f
  stable {o} {f} s = record {
    own = own_stable (content m i) (content m' i) o (kind f) rely.own s.own;
    head = head_stable o (kind f) s.own s.head;
    saved = own_saved_stable f s.saved;
  }
