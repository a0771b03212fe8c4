use Rattle.sercos_master.proofs.master.AnyMaster.mdt.Goals as goal

pub returns-in-P0-clause-stands : goal.returns-in-P0-clause-stands
returns-in-P0-clause-stands c = λ s jobs h t. c.mdt.ensures.stands 0 s jobs h (rw c.in-P0.is at t)

pub returns-in-P0-clause-said : goal.returns-in-P0-clause-said
returns-in-P0-clause-said c = λ s jobs h t. c.mdt.ensures.said 0 s jobs h (rw c.in-P0.is at t)

pub returns-in-P1-clause-stands : goal.returns-in-P1-clause-stands
returns-in-P1-clause-stands c = λ s jobs h t. c.mdt-in-P1.ensures.stands 1 s jobs h (rw c.in-P1.is at t)

pub returns-in-P1-clause-said : goal.returns-in-P1-clause-said
returns-in-P1-clause-said c = λ s jobs h t. c.mdt-in-P1.ensures.said 1 s jobs h (rw c.in-P1.is at t)

pub returns-in-P2-clause-stands : goal.returns-in-P2-clause-stands
returns-in-P2-clause-stands c = λ s jobs h t. c.mdt-in-P2.ensures.stands 2 s jobs h (rw c.in-P2.is at t)

pub returns-in-P2-clause-said : goal.returns-in-P2-clause-said
returns-in-P2-clause-said c = λ s jobs h t. c.mdt-in-P2.ensures.said 2 s jobs h (rw c.in-P2.is at t)

pub returns-in-P3-clause-stands : goal.returns-in-P3-clause-stands
returns-in-P3-clause-stands c = λ s jobs h t. c.mdt-in-P3.ensures.stands 3 s jobs h (rw c.in-P3.is at t)

pub returns-in-P3-clause-said : goal.returns-in-P3-clause-said
returns-in-P3-clause-said c = λ s jobs h t. c.mdt-in-P3.ensures.said 3 s jobs h (rw c.in-P3.is at t)

pub returns-in-P4-clause-stands : goal.returns-in-P4-clause-stands
returns-in-P4-clause-stands c = λ s jobs h t. c.mdt-in-P4.ensures.stands 4 s jobs h (rw c.in-P4.is at t)

pub returns-in-P4-clause-said : goal.returns-in-P4-clause-said
returns-in-P4-clause-said c = λ s jobs h t. c.mdt-in-P4.ensures.said 4 s jobs h (rw c.in-P4.is at t)
