-- Begin and step on a row are the calls for its task's record alone, which is put back.
use mathlib.Core.Path.{refl}
use mathlib.Core.List.{List}
use Prim.Native.Nat.{ℕ}
use lib.ListN.{length-set, set}
use lib.Seq.{get_or-set_same, get_or-set_other}
use Rattle.records.specs.declared.record.Task.{Task}
use Rattle.records.specs.Record.{idle_task}
use Rattle.stepping.specs.Call.{begin_of, step_of}
use Rattle.stepping.specs.Statement.{PutBack, BeginByRecord, StepByRecord}

put_back : (row : List Task) (i : ℕ) (own : Task) → PutBack row i own (set row i own)
put_back row i own = record {
  long = length-set row i own;
  named = λ below. get_or-set_same row i own (idle_task 0) below;
  others = λ j apart. get_or-set_other row i j own (idle_task 0) apart;
}

pub begin_by_record : (file : List ℕ) (row : List Task) (i o : ℕ) → BeginByRecord file row i o
unfolding begin_of
begin_by_record file row i o = (refl, put_back row i _)

pub step_by_record : (file cells : List ℕ) (row : List Task) (i : ℕ) → StepByRecord file cells row i
unfolding step_of
step_by_record file cells row i = (refl, refl, put_back row i _)
