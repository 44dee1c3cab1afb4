-- The form decides, by its parts; a record in form tells what the step needs.
use Rattle.std.specs.Prelude.{Ok}
use Rattle.std.proofs.Common.{◌≡◌, ◌∙◌, sym, ap, length}
use Rattle.records.specs.Record.{pending_in_form, read_record}
use Rattle.stepping.specs.Call.{step_from}
use Rattle.stepping.proofs.Parts.{in_form_lem}
use Rattle.stepping.proofs.Ready.{ready}
use Rattle.stepping.proofs.call.Place.step_known.Goals as goal

pub step_from-requires : goal.step_from-requires
unfolding pending_in_form
step_from-requires c =
    let a = c.args in
    let s = a.self.now in
    let numbers = sym c.numbers_in_form.ensures ∙ c.if-not-numbers_in_form.false in
    let words = sym c.words_in_form.ensures ∙ c.if-not-words_in_form.false in
    let known : read_record s.table.shape s.tasks s.ceiling a.own ≡ Ok a.phase = in_form_lem s.table.file.now s.table.shape a.cells.now s.tasks s.task a.own a.phase s.ceiling c.requires.1 c.if-own-eq0.false (simp (numbers, words)) in
    let r = ready s.table.file.now s.table.shape s.tasks s.ceiling (length a.cells.now) s.task a.own a.phase s.low c.requires.0 s.within c.if-own-eq0.false known in
    (r.priority, r.steps, r.cell, c.if-own-eq0.false)

pub returns : goal.returns
unfolding pending_in_form
returns c =
    let a = c.args in
    let s = a.self.now in
    let numbers = sym c.numbers_in_form.ensures ∙ c.if-not-numbers_in_form.false in
    let words = sym c.words_in_form.ensures ∙ c.if-not-words_in_form.false in
    let known : read_record s.table.shape s.tasks s.ceiling a.own ≡ Ok a.phase = in_form_lem s.table.file.now s.table.shape a.cells.now s.tasks s.task a.own a.phase s.ceiling c.requires.1 c.if-own-eq0.false (simp (numbers, words)) in
    c.step_from.ensures ∙ ap (step_from s.table.file.now s.table.shape a.cells.now s.tasks s.task a.own) (sym known)
