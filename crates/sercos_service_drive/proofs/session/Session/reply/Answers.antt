use Rattle.std.proofs.Common.{◌≡◌, ◌==◌, true, option_map, refl, ap, sym, ◌∙◌, arith}
use Rattle.std.proofs.lemmas.Bool.Decides.{nat_tests}
use Rattle.sercos_service_drive.specs.Log.{processed_step}
use Rattle.sercos_service_drive.proofs.session.Session.reply.Goals as goal

pub returns-then-opens-clause-answered : goal.returns-then-opens-clause-answered
returns-then-opens-clause-answered c = λ mhs log commands stood stands with.
    c.open.ensures (processed_step c.args.cycle c.args.phase mhs c.args.step c.args.store.now commands) log (sym c.opens.ensures ∙ c.if-opens.true) refl refl

pub returns-then-step-eq0-clause-answered : goal.returns-then-step-eq0-clause-answered
returns-then-step-eq0-clause-answered c = λ mhs log commands stood stands with.
    let none : (c.args.step.element == 0) ≡ true = grind (arith, nat_tests) in
    c.close.ensures.answered (processed_step c.args.cycle c.args.phase mhs c.args.step c.args.store.now commands) log (sym c.opens.ensures ∙ c.if-opens.false) none

pub returns-then-step-clause-answered : goal.returns-then-step-clause-answered
returns-then-step-clause-answered c = λ mhs log commands stood stands with.
    let s = rw (← c.self.view_is) at stood in
    c.write.ensures.answered mhs log commands stood (sym s.opened_is ∙ ap (option_map (λ idn. idn.raw)) c.in-Some.is) with

pub returns-else-step-clause-answered : goal.returns-else-step-clause-answered
returns-else-step-clause-answered c = λ mhs log commands stood stands with.
    let s = rw (← c.self.view_is) at stood in
    c.read.ensures c.args.phase mhs log commands stood stands (sym s.opened_is ∙ ap (option_map (λ idn. idn.raw)) c.in-Some.is)
