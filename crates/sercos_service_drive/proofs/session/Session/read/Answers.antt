use Rattle.std.proofs.Common.{◌≡◌, ◌==◌, false, sym, arith}
use Rattle.std.proofs.lemmas.Bool.Decides.{nat_tests}
use Rattle.sercos_service_drive.specs.Log.{processed_step}
use Rattle.sercos_service_drive.proofs.SessionLemmas.{is_refused}
use Rattle.sercos_service_drive.proofs.ReadAnswers.{read_refused, read_good}
use Rattle.sercos_service_drive.proofs.session.Session.read.Goals as goal

pub returns-in_err-select : goal.returns-in_err-select
returns-in_err-select c = λ phase mhs log commands stood stands open_is.
    let s = rw (← c.self.view_is) at stood in
    let some : (c.args.step.element == 0) ≡ false = grind (arith, nat_tests) in
    is_refused _ _ _ _ _ c.from_residual.ensures.1
    (read_refused _ (processed_step c.args.cycle phase mhs c.args.step c.args.store.now commands) log c.args.idn.raw s open_is c.requires.read some
    c.place_in-place.result _ c.select.new.buffer c.place_in-place.ensures (sym c.in_err-select.ensures.fault))

pub returns : goal.returns
returns c = λ phase mhs log commands stood stands open_is.
    let s = rw (← c.self.view_is) at stood in
    let some : (c.args.step.element == 0) ≡ false = grind (arith, nat_tests) in
    rw c.selected-self-inside.ensures
    (read_good _ (processed_step c.args.cycle phase mhs c.args.step c.args.store.now commands) log c.args.idn.raw s open_is c.requires.read some
    c.place_in-place.result c.word_at.result c.select.new.buffer c.place_in-place.ensures (sym c.in_ok-select.ensures.fault) (c.select.ensures.copy commands stands) c.select.ensures.same
    (rw c.as_slice.ensures.value at c.as_slice.ensures.bound) (rw c.as_slice.ensures.value at c.word_at.ensures))
