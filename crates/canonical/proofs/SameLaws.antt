-- Being the same object goes both ways and further.
use mathlib.Core.Path.{sym, ap, ◌∙◌}
use mathlib.Core.List.{List}
use Prim.Native.Nat.{ℕ, ◌<◌}
use native.Mathlib.Omega.{arith}
use Rattle.table.specs.File.{shape_of}
use Rattle.reach.proofs.Search.{start_reached, next_reached}
use Rattle.canonical.specs.Same.{operations_of, start_state_of, next_in, response_in, Same}

pub same_back : {one other : List ℕ} → Same one other → Same other one
same_back {one} {other} s =
    record {
      to = s.from;
      from = s.to;
      operations = sym s.operations;
      start = ap s.from (sym s.start) ∙ s.from_to (start_state_of one) (start_reached one (shape_of one));
      reached = s.reached_back;
      reached_back = s.reached;
      from_to = s.to_from;
      to_from = s.from_to;
      next = λ state operation r l.
          let before : ℕ = s.from state in
          let known = s.reached_back state r in
          let below : operation < operations_of one = omega (arith, l, s.operations) in
          ap (λ (q : ℕ). s.from (next_in other q operation)) (sym (s.to_from state r))
          ∙ ap s.from (sym (s.next before operation known below))
          ∙ s.from_to (next_in one before operation) (next_reached one (shape_of one) before operation known below);
      response = λ state operation r l.
          let below : operation < operations_of one = omega (arith, l, s.operations) in
          ap (λ (q : ℕ). response_in other q operation) (sym (s.to_from state r)) ∙ sym (s.response (s.from state) operation (s.reached_back state r) below);
    }

pub same_further : {one other third : List ℕ} → Same one other → Same other third → Same one third
same_further {one} {other} {third} s t =
    record {
      to = λ q. t.to (s.to q);
      from = λ q. s.from (t.from q);
      operations = s.operations ∙ t.operations;
      start = ap t.to s.start ∙ t.start;
      reached = λ q r. t.reached (s.to q) (s.reached q r);
      reached_back = λ q r. s.reached_back (t.from q) (t.reached_back q r);
      from_to = λ q r. ap s.from (t.from_to (s.to q) (s.reached q r)) ∙ s.from_to q r;
      to_from = λ q r. ap t.to (s.to_from (t.from q) (t.reached_back q r)) ∙ t.to_from q r;
      next = λ q o r l. ap t.to (s.next q o r l) ∙ t.next (s.to q) o (s.reached q r) (omega (arith, l, s.operations));
      response = λ q o r l. s.response q o r l ∙ t.response (s.to q) o (s.reached q r) (omega (arith, l, s.operations));
    }
