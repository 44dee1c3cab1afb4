-- The bench stays consistent, whatever is fed.
use mathlib.Core.Path.{refl}
use mathlib.Core.Bool.{not, ◌&&◌}
use mathlib.Core.List.{List, [], ◌∷◌}
use Prim.Native.Nat.{ℕ}
use lib.Dec.{eqb}
use Rattle.laws.proofs.Choice.{choice}
use Rattle.table.specs.File.{Bytes}
use Rattle.bench_lines.specs.declared.command.Command.{Command}
use Rattle.bench_lines.specs.declared.command.Command.TheVariants as command
use Rattle.bench_lines.specs.Command.{command_of}
use Rattle.bench_lines.specs.Line.{newline}
use Rattle.bench_session.specs.declared.run.Bench.{Bench}
use Rattle.bench_session.specs.Run.{Printing, unstarted_bench, reply_printed, refuse_line, most_turns, step_bench, act_of, is_start, serve_command}
use Rattle.bench_session.specs.Session.{Fed, Consumed, new_session, keep_byte, end_line, feed_byte, feed}
use Rattle.bench_session.specs.Statement.{bench_after}
use Rattle.bench_session.proofs.Situations.{Consistent, before, consistent_step, consistent_begin, consistent_finish}
use Rattle.bench_session.proofs.Started.{consistent_start}

-- Before the first line.
consistent_new : (file : List ℕ) → Consistent file unstarted_bench
consistent_new file = record { nine = record { cells = refl; row = refl }; situation = before refl }

module _ (file : List ℕ) (bytes : Bytes file) where
  consistent_act : (bench : Bench) → Consistent file bench → (c : Command) → Consistent file (act_of file bench c).bench
  consistent_act bench h (command.Start k) = consistent_start file bytes bench h k
  consistent_act bench h (command.Begin t o) = consistent_begin file bench h t o
  consistent_act bench h (command.Step t) = consistent_step file bench h t
  consistent_act bench h (command.Finish t) = consistent_finish file most_turns t (step_bench file bench t) (consistent_step file bench h t)
  consistent_act bench h command.Print = h
  consistent_act bench h command.Unknown = h

  consistent_serve : (bench : Bench) → Consistent file bench → (c : Command) → Consistent file (serve_command file bench c).bench
  unfolding serve_command
  consistent_serve bench h c = choice (λ (x : Printing). Consistent file x.bench) (eqb bench.tasks 0 && not (is_start c)) (reply_printed (refuse_line bench)) (act_of file bench c) h (consistent_act bench h c)

  consistent_byte : (fed : Fed) → Consistent file fed.bench → (b : ℕ) → Consistent file (feed_byte file fed b).fed.bench
  unfolding feed_byte
  consistent_byte fed h b = choice (λ (x : Consumed). Consistent file x.fed.bench) (eqb b newline) (end_line file fed) (keep_byte fed b) (consistent_serve fed.bench h (command_of fed.line)) h

  consistent_feed : (fed : Fed) → Consistent file fed.bench → (bs : List ℕ) → Consistent file (feed file fed bs).fed.bench
  unfolding feed
  consistent_feed fed h [] = h
  consistent_feed fed h (b ∷ bs) = consistent_feed (feed_byte file fed b).fed (consistent_byte fed h b) bs

  -- After any input.
  pub consistent_after : (input : List ℕ) → Consistent file (bench_after file input)
  consistent_after input = consistent_feed new_session (consistent_new file) input
