-- The theorems about the bench as a whole: a proof of each statement of specs/Statement.antt.
use Rattle.std.specs.Prelude.{Result, Ok, Err}
use mathlib.Core.Path.{◌≡◌, refl, sym, ap, subst, ◌∙◌}
use mathlib.Core.Bool.{Bool, true, false}
use mathlib.Core.List.{List, [], ◌∷◌, ◌++◌}
use Prim.Native.Nat.{ℕ, zero, suc, ◌+◌, ◌-◌, ◌≤◌}
use native.Mathlib.Omega.{arith}
use borrow.Author.Tests.{ne_eqb}
use Rattle.laws.proofs.Clash.{never}
use Rattle.table.specs.Layout.{layout_of}
use Rattle.cells.specs.Ceiling.{greatest_ceiling, ceiling_of}
use Rattle.machine.specs.Calls.{Call, Step}
use Rattle.machine.specs.History.{Pends, pending}
use Rattle.machine.specs.Demand.{StepAccepted}
use Rattle.records.specs.declared.record.Task.{Task}
use Rattle.stepping.specs.Call.{with_row, admit_of, step_in, step_task, step_of, step_said, task_at}
use Rattle.stepping.specs.Opening.{Opening}
use Rattle.stepping.specs.Runs.{Store, serve_of, run_of, history_of}
use Rattle.stepping.proofs.Continued.{run_append, accepted_pends}
use Rattle.bench_row.specs.First.{step_first}
use Rattle.bench_lines.specs.Line.{cells_line}
use Rattle.bench_session.specs.declared.run.Bench.{Bench}
use Rattle.bench_session.specs.Run.{Handled, lent, step_reply, step_held, step_bench, runs_on, finish_from, most_turns, finish_bench, serve_command}
use Rattle.bench_session.specs.Statement.{EndsBy, bench_after, Finishes, WholeOutput, CutAnywhere, ServedUnfinished, PrintsPoint, PrintsPoints}
use Rattle.bench_session.proofs.Feeds.{feed_parts}
use Rattle.bench_session.proofs.Outputs.{whole_output, output_unfinished}
use Rattle.bench_session.proofs.Runs.{finish_more, finish_last, most_turns_lem}
use Rattle.bench_session.proofs.Openings.{pending_timely, pending_longer}
use Rattle.bench_session.proofs.Situations.{NineHeld, nine_step, lent_step, Situation, before, during}
use Rattle.bench_session.proofs.Consistency.{consistent_after}
use Rattle.table.specs.declared.Shape.{Shape}
use Rattle.refusal.specs.declared.Refusal.{Refusal}
use Rattle.stepping.specs.declared.answer.Progress.{Progress}
use Rattle.stepping.specs.declared.answer.Progress.TheVariants as progress
use Rattle.bench_lines.specs.declared.reply.Reply.{Reply}
use Rattle.bench_lines.specs.declared.reply.Reply.TheVariants as reply

-- What a step on the lent cells and records answers.
abbrev answer_on : List ℕ → Bench → ℕ → Result Progress Refusal
answer_on file bench t = (step_of file (lent bench).cells (lent bench).row t).answer

step_reply_lem : (file : List ℕ) (bench : Bench) (t : ℕ) (a : Result Progress Refusal) → answer_on file bench t ≡ a → (step_bench file bench t).reply ≡ step_reply t a
unfolding step_bench step_held step_first
step_reply_lem file bench t a e = ap (step_reply t) e

-- ---- From a step that has answered running

-- `d t` ends with a response from here on.
abbrev Responds : List ℕ → (k t : ℕ) → Handled → Type 0
Responds file k t out = (r : ℕ) × (v : Bool) × ((finish_from k file t out).reply ≡ (Ok (reply.Ended t r v)))

-- The first answer that is not running is the last.
ended_responds : (file : List ℕ) (k t : ℕ) (bench : Bench) (r : ℕ) (v : Bool) (i : ℕ) → answer_on file bench t ≡ (Ok (progress.Ended r v i)) → Responds file k t (step_bench file bench t)
ended_responds file k t bench r v i e =
    let told = step_reply_lem file bench t (Ok (progress.Ended r v i)) e in
    (r, v, ap (λ (h : Handled). h.reply) (finish_last k file t (step_bench file bench t) (ap runs_on told)) ∙ told)

module _ {file : List ℕ} {n q : ℕ} {s : Store} (o : Opening file n q s) (t x : ℕ) where
  -- An accepted step ends the operation, or answers running, and then more steps end it.
  accepted_responds : (k : ℕ) (bench : Bench) → StepAccepted (step_said (answer_on file bench t)) → (a : Result Progress Refusal) → answer_on file bench t ≡ a
      → (answer_on file bench t ≡ (Ok progress.Running) → Responds file k t (step_bench file bench t)) → Responds file k t (step_bench file bench t)
  accepted_responds k bench h (Ok progress.Running) e more = more e
  accepted_responds k bench h (Ok (progress.Ended r v i)) e more = ended_responds file k t bench r v i e
  accepted_responds k bench h (Err c) e more = absurd (rw e at h)

  -- Operation x of task t is pending after j own steps, and k more steps would reach the greatest ceiling.
  running_responds : (k j : ℕ) (out : Handled) (xs : List Call) → NineHeld out.bench → run_of file xs s ≡ lent out.bench → runs_on out.reply ≡ true
      → pending (history_of file xs s) t ≡ Pends x j → greatest_ceiling ≤ j + k → Responds file k t out
  running_responds zero j out xs nine same runs p enough = absurd (omega (arith, (pending_timely o xs t x j p).below))
  running_responds (suc k) j out xs nine same runs p enough =
      let bench = out.bench in
      let told = ap (λ (z : Store). (serve_of file (Step t) z).answer) same in
      let one : suc k - 1 ≡ k = omega arith in
      let more = rw one at (finish_more (suc k) file t out (omega arith) runs) in
      let next = ap (λ (z : Store). (serve_of file (Step t) z).store) same ∙ lent_step file bench nine t in
      let ends = accepted_responds k bench (rw told at (pending_timely o xs t x j p).accepted) (answer_on file bench t) refl (λ e.
      running_responds k (suc j) (step_bench file bench t) (xs ++ (Step t ∷ [])) (nine_step file bench nine t) (run_append file xs (Step t ∷ []) s ∙ next)
      (ap runs_on (step_reply_lem file bench t (Ok progress.Running) e)) (pending_longer o xs t x j p (told ∙ ap step_said e)) (omega arith)) in
      (ends.0, ends.1, ap (λ (h : Handled). h.reply) more ∙ ends.2)

-- ---- From the first step

-- Without tasks every step is refused.
no_tasks : (file cells : List ℕ) (t : ℕ) → (step_of file cells [] t).answer ≡ (Ok progress.Running) → ⊥
unfolding step_of step_task admit_of ceiling_of
no_tasks file cells t e = at (layout_of file) e
  where
    at : (c : Result Shape Refusal) → (step_in file cells 0 t (task_at [] t) (with_row 0 c)).answer ≡ (Ok progress.Running) → ⊥
    at (Ok shape) f = never (cc f)
    at (Err c) f = never (cc f)

no_records : (bench : Bench) → bench.tasks ≡ 0 → (lent bench).row ≡ []
no_records bench e = rw e

pub finishes : (file : List ℕ) → Finishes file
finishes file bytes input t = at (answer_on file bench t) refl
  where
    bench : Bench
    bench = bench_after file input

    ends : (a : Result Progress Refusal) → answer_on file bench t ≡ a → EndsBy t (step_reply t a) (finish_bench file bench t).reply → EndsBy t (step_bench file bench t).reply (finish_bench file bench t).reply
    ends a e h = subst (λ (first : Result Reply Refusal). EndsBy t first (finish_bench file bench t).reply) (sym (step_reply_lem file bench t a e)) h

    last : (a : Result Progress Refusal) → answer_on file bench t ≡ a → runs_on (step_reply t a) ≡ false → (finish_bench file bench t).reply ≡ step_reply t a
    last a e h = let told = step_reply_lem file bench t a e in ap (λ (z : Handled). z.reply) (finish_last most_turns file t (step_bench file bench t) (ap runs_on told ∙ h)) ∙ told

    during_responds : {q : ℕ} {s : Store} → Opening file bench.tasks q s → (xs : List Call) → NineHeld bench → run_of file xs s ≡ lent bench → answer_on file bench t ≡ (Ok progress.Running) → Responds file most_turns t (step_bench file bench t)
    during_responds {s = s} o xs nine same e =
        let told = ap (λ (z : Store). (serve_of file (Step t) z).answer) same ∙ ap step_said e in
        let (x, (j, p)) = accepted_pends o xs t (λ k z. never cc) in
        let next = ap (λ (z : Store). (serve_of file (Step t) z).store) same ∙ lent_step file bench nine t in
        running_responds o t x most_turns (suc j) (step_bench file bench t) (xs ++ (Step t ∷ [])) (nine_step file bench nine t) (run_append file xs (Step t ∷ []) s ∙ next)
        (ap runs_on (step_reply_lem file bench t (Ok progress.Running) e)) (pending_longer o xs t x j p told) (omega (arith, most_turns_lem))

    responds : NineHeld bench → Situation file bench.tasks (lent bench) → answer_on file bench t ≡ (Ok progress.Running) → Responds file most_turns t (step_bench file bench t)
    responds nine (before z) e = absurd (no_tasks file (lent bench).cells t (subst (λ (row : List Task). (step_of file (lent bench).cells row t).answer ≡ (Ok progress.Running)) (no_records bench z) e))
    responds nine (during o xs same) e = during_responds o xs nine same e

    at : (a : Result Progress Refusal) → answer_on file bench t ≡ a → EndsBy t (step_bench file bench t).reply (finish_bench file bench t).reply
    at (Ok progress.Running) e = ends (Ok progress.Running) e (let c = consistent_after file bytes input in responds c.nine c.situation e)
    at (Ok (progress.Ended r v i)) e = ends (Ok (progress.Ended r v i)) e (last (Ok (progress.Ended r v i)) e refl)
    at (Err c) e = ends (Err c) e (last (Err c) e refl)

-- ---- What is printed

pub output_whole : (file input : List ℕ) → WholeOutput file input
output_whole = whole_output

pub cut_anywhere : (file : List ℕ) → CutAnywhere file
cut_anywhere = feed_parts

pub served_unfinished : (file input : List ℕ) → ServedUnfinished file input
served_unfinished = output_unfinished

-- The cells that are printed are those that are lent to the calls.
pub prints_points : (file : List ℕ) → PrintsPoints file
unfolding serve_command
prints_points file bytes input some = at (consistent_after file bytes input).situation
  where
    bench : Bench
    bench = bench_after file input

    at : Situation file bench.tasks (lent bench) → PrintsPoint file input
    at (before z) = absurd (some z)
    at (during {first} o xs same) = record {
      store = first;
      opening = o;
      calls = xs;
      left = same;
      line = rw (ne_eqb bench.tasks 0 some) (ap (λ (z : Store). cells_line z.cells) (sym same));
    }
