-- The access rule: a step that is not refused makes the access that was planned, and follows from what it gave back.
use mathlib.Core.Path.{◌≡◌, refl, ap, sym, ◌∙◌}
use mathlib.Core.List.{List}
use Prim.Native.Nat.{ℕ}
use Rattle.records.specs.declared.record.Task.{Task}
use Rattle.transition.specs.declared.access.Next.{Next}
use Rattle.transition.specs.Transition.{next_of}
use Rattle.stepping.specs.declared.call.Admission.{Admission}
use Rattle.stepping.specs.Step.{perform_of, advance_of, answer_of, TaskOutcome}
use Rattle.stepping.specs.Call.{step_task}
use Rattle.stepping.specs.Access.{access_of, given_back}
use Rattle.stepping.specs.Statement.{MakesAccess, FollowsResult}
use Rattle.stepping.proofs.Passed.{Passed, passed, step_served, step_access}

module _ (file cells : List ℕ) (n i : ℕ) (t : Task) where
  pub makes_access : MakesAccess file cells n i t
  makes_access u =
      let p = passed file cells n i t u in
      ap (λ (out : TaskOutcome). out.cells) (step_served file cells n i t p) ∙ ap (perform_of cells) (sym (step_access file cells n i t p))

  -- What follows is what the phase makes of what came back.
  module _ (p : Passed file cells n i t) where
    abbrev following : Next
    following = next_of file p.shape i t.priority t p.phase (given_back cells (access_of file n i t))

    follows : ((step_task file cells n i t).answer ≡ answer_of t following) × ((step_task file cells n i t).task ≡ advance_of n t following)
    follows = rw (step_served file cells n i t p, step_access file cells n i t p) (refl, refl)

pub follows_result : (file cells others : List ℕ) (n i : ℕ) (t : Task) → FollowsResult file cells others n i t
follows_result file cells others n i t u v e =
    let p = passed file cells n i t u in
    let q = passed file others n i t v in
    let admitted = sym p.admits ∙ q.admits in
    let both : ◌≡◌ {A = Admission} (record { ceiling = p.ceiling; shape = p.shape }) (record { ceiling = q.ceiling; shape = q.shape }) = cc admitted in
    let high : p.ceiling ≡ q.ceiling = ap (λ (a : Admission). a.ceiling) both in
    let shape : p.shape ≡ q.shape = ap (λ (a : Admission). a.shape) both in
    let phase : p.phase ≡ q.phase = cc (p.read, q.read, high, shape) in
    let same : following file cells n i t p ≡ following file others n i t q = cc (shape, phase, e) in
    let one = follows file cells n i t p in
    let other = follows file others n i t q in
    (one.0 ∙ ap (answer_of t) same ∙ sym other.0, one.1 ∙ ap (advance_of n t) same ∙ sym other.1)
