use Rattle.std.proofs.Common.{refl}
use Rattle.sercos_service_master.specs.Calls.{begun_by}
use Rattle.sercos_service_master.proofs.Hearings.{answered}
use Rattle.sercos_service_master.proofs.channel.MasterChannel.take.Goals as goal

pub returns-clause-stands : goal.returns-clause-stands
returns-clause-stands c = λ h status word stood it answer_is.
    let s = rw (← c.self.view_is) at stood in
    let some = rw (← c.self.view_is) at c.requires in
    answered c.steps_law.ensures.next _ _ h status word c.answer_with-outcome.result s it c.answer_with-outcome.ensures.left
    (rw (← answer_is) (c.answer_with-outcome.ensures.work (begun_by h) s.work_is))
    (rw (← answer_is) (c.answer_with-outcome.ensures.outcome (begun_by h) some s.work_is))
    (rw (← c.is_some.ensures) c.mhs_after-self-inside.ensures) refl
