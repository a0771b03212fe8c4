use Rattle.sercos_master.proofs.Words.{◌≤◌, length, arith, refl, tasks_for, past}
use Rattle.sercos_master.proofs.master.AnyMaster.restart.Goals as goal

pub returns-clause-stands : goal.returns-clause-stands
returns-clause-stands c = λ s jobs h stands.
    let t = c.fallen.ensures.stands s (past s (tasks_for s jobs) h) (c.into_ring.ensures.stands s (past s (tasks_for s jobs) h) stands) in
    record { stands = rw c.in_state.ensures t; known = c.into_ring.ensures.known s (past s (tasks_for s jobs) h) stands; phase_is = refl }

pub returns-clause-told : goal.returns-clause-told
returns-clause-told c = λ s jobs h stands short.
    let few : length s.drives ≤ 64 = (c.into_ring.ensures.known s (past s (tasks_for s jobs) h) stands).few in
    c.fallen.ensures.told s (past s (tasks_for s jobs) h) (c.into_ring.ensures.stands s (past s (tasks_for s jobs) h) stands) (omega (arith, short, few))
