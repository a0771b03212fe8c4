use Rattle.std.proofs.Common.{option_map, ap}
use Rattle.std.specs.Result.{result_err}
use Rattle.sercos_service_drive.specs.Log.{processed_step}
use Rattle.sercos_service_drive.proofs.SessionLemmas.{is_refused}
use Rattle.sercos_service_drive.proofs.WriteAnswers.{write_refused, write_good, write_effect}
use Rattle.sercos_service_drive.proofs.session.Session.write.Goals as goal

pub returns-in_err-write_word-clause-answered : goal.returns-in_err-write_word-clause-answered
returns-in_err-write_word-clause-answered c = λ mhs log commands stood open_is with.
    let s = rw (← c.self.view_is) at stood in
    is_refused _ _ _ _ _ c.from_residual.ensures.1
    (write_refused _ (processed_step c.args.cycle c.args.phase mhs c.args.step c.args.store.now commands) log c.args.idn.raw s open_is c.requires.write c.if-step-ne-DATA.false with
    c.place_in-place.result c.place_in-place.ensures c.start.new.buffer c.write_word.new.buffer c.start.ensures _ c.write_word.new.store c.args.commands.now c.write_word.new.commands
    c.write_word.ensures.word c.write_word.ensures.none _ (ap (λ r. option_map (λ code. code.raw) (result_err r)) c.in_err-write_word.was))

pub returns-in_err-write_word-clause-effect : goal.returns-in_err-write_word-clause-effect
returns-in_err-write_word-clause-effect c = λ mhs log commands stood open_is with.
    let s = rw (← c.self.view_is) at stood in
    write_effect _ (processed_step c.args.cycle c.args.phase mhs c.args.step c.args.store.now commands) log c.args.idn.raw s open_is c.requires.write c.if-step-ne-DATA.false with
    c.place_in-place.result c.place_in-place.ensures c.start.new.buffer c.write_word.new.buffer c.start.ensures _ c.write_word.new.store c.args.commands.now c.write_word.new.commands
    c.write_word.ensures.word c.write_word.ensures.none

pub returns-clause-answered : goal.returns-clause-answered
returns-clause-answered c = λ mhs log commands stood open_is with.
    let s = rw (← c.self.view_is) at stood in
    rw c.selected-self-inside.ensures
    (write_good _ (processed_step c.args.cycle c.args.phase mhs c.args.step c.args.store.now commands) log c.args.idn.raw s open_is c.requires.write c.if-step-ne-DATA.false with
    c.place_in-place.result c.place_in-place.ensures c.start.new.buffer c.write_word.new.buffer c.start.ensures _ c.write_word.new.store c.args.commands.now c.write_word.new.commands
    c.write_word.ensures.word c.write_word.ensures.none (ap (λ r. option_map (λ code. code.raw) (result_err r)) c.in_ok-write_word.was))

pub returns-clause-effect : goal.returns-clause-effect
returns-clause-effect c = λ mhs log commands stood open_is with.
    let s = rw (← c.self.view_is) at stood in
    write_effect _ (processed_step c.args.cycle c.args.phase mhs c.args.step c.args.store.now commands) log c.args.idn.raw s open_is c.requires.write c.if-step-ne-DATA.false with
    c.place_in-place.result c.place_in-place.ensures c.start.new.buffer c.write_word.new.buffer c.start.ensures _ c.write_word.new.store c.args.commands.now c.write_word.new.commands
    c.write_word.ensures.word c.write_word.ensures.none
