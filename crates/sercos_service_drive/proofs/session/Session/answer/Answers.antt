use Rattle.sercos_service_drive.proofs.session.Session.answer.Goals as goal

pub returns-in-Ok-clause-answered : goal.returns-in-Ok-clause-answered
returns-in-Ok-clause-answered c = λ mhs log commands stood stands with.
    c.in-Ok.ensures.answered mhs log commands stood stands with

pub returns-in-Err-clause-answered : goal.returns-in-Err-clause-answered
returns-in-Err-clause-answered c = λ mhs log commands stood stands with.
    rw (← c.self.view_is) at (c.in-Err.ensures.answered mhs log commands stood stands with)
