use Rattle.sercos_master.proofs.Words.{◌∙◌, tasks_for, past}
use Rattle.sercos_master.proofs.Laws.{jobs_waiting}
use Rattle.sercos_master.proofs.Configured.{leaves, phase_low}
use Rattle.sercos_master.proofs.Planned.{is_planned}
use Rattle.sercos_master.proofs.master.Master.mdt.Goals as goal

pub returns-clause-stands : goal.returns-clause-stands
returns-clause-stands g c = λ n s jobs h t. record {
  stands = c.mdt.ensures.stands s (past s (tasks_for s jobs) h) t.known (jobs_waiting s jobs h) (phase_low s (tasks_for s jobs) h)
      (rw c.deref_mut.ensures.value (rw c.self.view_is t.stands));
  known = t.known;
  phase_is = (leaves s (past s (tasks_for s jobs) h)).phase ∙ t.phase_is;
}

pub returns-clause-said : goal.returns-clause-said
returns-clause-said g c = λ n s jobs h t.
    c.mdt.ensures.said s (past s (tasks_for s jobs) h) t.known (jobs_waiting s jobs h) (phase_low s (tasks_for s jobs) h)
    (is_planned s (tasks_for s jobs) h) (rw c.deref_mut.ensures.value (rw c.self.view_is t.stands))
