-- What an operation answers, and what the cells carry of it: response and moved of the entry that it used.
use mathlib.Core.Path.{◌≡◌, ap, sym, subst, ◌∙◌}
use mathlib.Core.Bool.{Bool, false}
use mathlib.Core.List.{List}
use Prim.Native.Nat.{ℕ, ◌<◌, ◌≤◌}
use native.Mathlib.Decide.{dec_lt}
use Rattle.laws.proofs.Clash.{never}
use Rattle.cells.specs.Field.{unpack}
use Rattle.cells.specs.Image.{image}
use Rattle.cells.specs.Layout.{announcement_of}
use Rattle.cells.specs.declared.announcement.Announcement.TheVariants as content
use Rattle.table.specs.Entries.{moves}
use Rattle.reach.specs.Walk.{Reachable}
use Rattle.reach.specs.Changing.{changing}
use Rattle.reach.proofs.Changing.{accepted_changing, keeps_unmoved}
use Rattle.machine.specs.Outcome.{Outcome}
use Rattle.machine.specs.Memory.{state_of}
use Rattle.machine.specs.Calls.{Call}
use Rattle.machine.specs.Book.{Operation}
use Rattle.machine.specs.Demand.{Shown, Demand}
use Rattle.machine.specs.Potential.{bound}
use Rattle.machine.specs.Keeping.{book_of}
use Rattle.machine.proofs.Book.Agreement as agreement
use Rattle.machine.proofs.Book.Keeping.{sound}
use Rattle.machine.proofs.Book.Replay.{replayed_at}
use Rattle.machine.proofs.Invariant.Ranges.{state_good}
use Rattle.machine.proofs.Points.Carried as machine
use Rattle.machine.proofs.Whole.Demands.{demand}
use Rattle.transition.proofs.Lawful.{good_reached}
use Rattle.transition.proofs.EncodedCells.{head_same_value, content_same_value, head_read_lem, announcement_read_lem}
use Rattle.stepping.specs.Runs.{Store}
use Rattle.stepping.specs.Encoding.{encode_cells}
use Rattle.stepping.specs.Opening.{Opening, object_in, shown}
use Rattle.stepping.specs.Print.{Print}
use Rattle.stepping.specs.Statement.{Demands, DemandsWithin, EntryUsed, Answered, CarriedFor, in_head, in_announcement, CarriedAlong}
use Rattle.stepping.proofs.Accesses.{cell_at, cell_beyond}
use Rattle.stepping.proofs.Demands.{machine_run, opens, in_range, encoded_shows, shown_same, encoded_demands}

-- A word of 0 holds no response.
no_response : (r : ℕ) (moved : Bool) → announcement_of 0 ≡ content.Response r moved → ⊥
unfolding announcement_of unpack
no_response r moved e = never cc

module _ {file : List ℕ} {n q : ℕ} {s : Store} (o : Opening file n q s) where
  -- An operation with its outcome by replay used the entry of that outcome.
  used : (order : List Operation) (x : Operation) (v : Outcome) → agreement.Answered (object_in o) q order x v → EntryUsed file o.shape q order x v.response v.moved
  used order x v (i, at, e) =
      let same = sym e ∙ replayed_at (object_in o) q at in
      record { place = i; stands = at; response_used = ap (λ w. w.response) same; moved_used = ap (λ w. w.moved) same }

  -- By the replay of demand 2.
  pub answered : (d : Demands o) → Answered o d
  answered d xs x p r moved begins ends = used (d.book xs).order x (record { response = r; moved = moved }) ((d.linearizes xs).every x p _ begins ends)

  -- What the words carry, the machine's cells hold.
  module _ (xs : List Call) where
    held : (j r : ℕ) (moved : Bool) → CarriedFor (encode_cells n (machine_run o xs).memory) j r moved → machine.Holds (machine_run o xs).memory j (record { response = r; moved = moved })
    held j r moved (in_head {p = p} e) =
        let m = (machine_run o xs).memory in
        let ranged = (in_range o xs).formed.memory in
        machine.in_head (head_same_value m.head.value _ (sym (head_read_lem file o.shape o.table n o.few m.head ranged.head) ∙ e))
    held j r moved (in_announcement e) = by (dec_lt j n)
      where
        by : Dec (j < n) → machine.Holds (machine_run o xs).memory j (record { response = r; moved = moved })
        by (yes below) =
            let m = (machine_run o xs).memory in
            let ranged = (in_range o xs).formed.memory in
            let read = announcement_read_lem file o.shape o.table n o.few (m.announcement j) (ranged.announcement j) in
            machine.in_announcement (content_same_value (m.announcement j).value _ (sym read ∙ ap announcement_of (sym (cell_at n m j below)) ∙ e))
        by (no beyond) = absurd (no_response r moved (ap announcement_of (sym (cell_beyond n (machine_run o xs).memory j beyond)) ∙ e))

  encoded_carried : CarriedAlong file o.shape q (encoded_shows o) (book_of (object_in o) n q)
  encoded_carried xs j r moved c =
      let v : Outcome = record { response = r; moved = moved } in
      let (x, own, open_still, a) = machine.carried (object_in o) n q (opens o) xs j v (held xs j r moved c) in
      (x, own, open_still, used (book_of (object_in o) n q xs).order x v a)

  -- The head's state can be reached.
  pub head_reachable : (xs : List Call) → Reachable file o.shape (state_of (machine_run o xs).memory.head.value)
  head_reachable xs =
      (good_reached o.table (state_of (machine_run o xs).memory.head.value)).0 (state_good (object_in o) n (machine_run o xs).memory.head.value (in_range o xs).formed.memory.head.value)

  -- One book serves the demands, with any bound that the proved one doesn't pass, and agrees with what the cells carry.
  pub met : (c : ℕ) → bound n ≤ c → (d : DemandsWithin c o) × CarriedAlong file o.shape q (shown o) d.book
  unfolding encoded_demands demand
  met c h =
      subst (λ (run : Shown (List ℕ)). (d : Demand (object_in o) n q c (image n) (Print (object_in o) n q) run) × CarriedAlong file o.shape q run d.book) (sym (shown_same o))
      (encoded_demands o c (demand (object_in o) n q (opens o) c h), encoded_carried)

  -- A reading operation finds a state that it doesn't move.
  pub unmoved : (xs : List Call) (x : ℕ) → changing file o.shape x ≡ false → moves file o.shape (book_of (object_in o) n q xs).state x ≡ false
  unmoved xs x reads =
      let state = (sound (object_in o) n q (opens o) xs).related.state in
      keeps_unmoved file o.shape (book_of (object_in o) n q xs).state x ((accepted_changing file o.shape o.table.accepted x).reads.0 reads _ (rw state (head_reachable xs)))
