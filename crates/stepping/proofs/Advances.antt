-- The record and the answer that follow from what a step of an encoded record leads to.
use mathlib.Core.Path.{◌≡◌, refl}
use Prim.Native.Nat.{ℕ}
use native.Mathlib.Numerals.{add-one}
use Rattle.machine.specs.Machine as machine
use Rattle.machine.specs.Machine.{advance}
use Rattle.machine.specs.Run as run
use Rattle.transition.specs.declared.access.Next.{Next}
use Rattle.transition.specs.Encoding.{encode_task}
use Rattle.transition.proofs.Nexts.{Encodes, goes, turns, ends}
use Rattle.stepping.specs.Step.{advance_of, answer_of}
use Rattle.stepping.specs.Call.{step_said}

module _ (n : ℕ) (t : machine.Task) where
  pub advance_simulates : {y : machine.Next} {z : Next} → Encodes y z → advance_of n (encode_task t) z ≡ encode_task (advance n t y)
  advance_simulates (goes f) = rw (add-one t.steps)
  advance_simulates turns = rw (add-one t.steps, add-one t.priority)
  advance_simulates (ends v) = refl

  pub answer_simulates : {y : machine.Next} {z : Next} → Encodes y z → step_said (answer_of (encode_task t) z) ≡ run.answer_of t.steps y
  answer_simulates (goes f) = refl
  answer_simulates turns = refl
  answer_simulates (ends v) = rw (add-one t.steps)
