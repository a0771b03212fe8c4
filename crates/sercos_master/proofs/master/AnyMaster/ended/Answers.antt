use Rattle.sercos_master.proofs.Words.{Err, refl}
use Rattle.sercos_master.proofs.Closing.{rose, stayed, fell, none_in_0, none_due}
use Rattle.sercos_master.proofs.master.AnyMaster.ended.Goals as goal

pub returns-in-Ok : goal.returns-in-Ok
returns-in-Ok c = λ s jobs h t. rose s jobs h 0 (rw c.in-P0.is at t) (none_in_0 s jobs h) c.rise.ensures.exactly c.rise.ensures.up
    c.in-Ok.is c.close.ensures

pub returns-in-Err : goal.returns-in-Err
returns-in-Err c = λ s jobs h t. stayed s jobs h 0 (rw c.in-P0.is at t) (none_in_0 s jobs h) c.rise.ensures.exactly c.rise.ensures.same
    c.in-Err.is c.close-in-Err.ensures

pub returns-in-Some : goal.returns-in-Some
returns-in-Some c = λ s jobs h t. fell s jobs h 1 (rw c.in-P1.is at t) c.fall_due.ensures c.in-Some.is c.close-in-Some.ensures
    c.fall.ensures.stands c.fall.ensures.told

pub returns-in-Ok-rise : goal.returns-in-Ok-rise
returns-in-Ok-rise c = λ s jobs h t. rose s jobs h 1 (rw c.in-P1.is at t) (none_due s jobs h c.fall_due.ensures c.in-None.is)
    c.rise-in-None.ensures.exactly c.rise-in-None.ensures.up c.in-Ok-rise.is c.close-in-Ok-rise.ensures

pub returns-in-Err-rise : goal.returns-in-Err-rise
returns-in-Err-rise c = λ s jobs h t. stayed s jobs h 1 (rw c.in-P1.is at t) (none_due s jobs h c.fall_due.ensures c.in-None.is)
    c.rise-in-None.ensures.exactly c.rise-in-None.ensures.same c.in-Err-rise.is c.close-in-Err-rise.ensures

pub returns-in-Some-fall_due : goal.returns-in-Some-fall_due
returns-in-Some-fall_due c = λ s jobs h t. fell s jobs h 2 (rw c.in-P2.is at t) c.fall_due-in-P2.ensures c.in-Some-fall_due.is
    c.close-in-Some-fall_due.ensures c.fall-in-Some-fall_due.ensures.stands c.fall-in-Some-fall_due.ensures.told

pub returns-in-Ok-rise-2 : goal.returns-in-Ok-rise-2
returns-in-Ok-rise-2 c = λ s jobs h t. rose s jobs h 2 (rw c.in-P2.is at t)
    (none_due s jobs h c.fall_due-in-P2.ensures c.in-None-fall_due.is) c.rise-in-None-fall_due.ensures.exactly
    c.rise-in-None-fall_due.ensures.up c.in-Ok-rise-2.is c.close-in-Ok-rise-2.ensures

pub returns-in-Err-rise-2 : goal.returns-in-Err-rise-2
returns-in-Err-rise-2 c = λ s jobs h t. stayed s jobs h 2 (rw c.in-P2.is at t)
    (none_due s jobs h c.fall_due-in-P2.ensures c.in-None-fall_due.is) c.rise-in-None-fall_due.ensures.exactly
    c.rise-in-None-fall_due.ensures.same c.in-Err-rise-2.is c.close-in-Err-rise-2.ensures

pub returns-in-Some-fall_due-2 : goal.returns-in-Some-fall_due-2
returns-in-Some-fall_due-2 c = λ s jobs h t. fell s jobs h 3 (rw c.in-P3.is at t) c.fall_due-in-P3.ensures c.in-Some-fall_due-2.is
    c.close-in-Some-fall_due-2.ensures c.fall-in-Some-fall_due-2.ensures.stands c.fall-in-Some-fall_due-2.ensures.told

pub returns-in-Ok-rise-3 : goal.returns-in-Ok-rise-3
returns-in-Ok-rise-3 c = λ s jobs h t. rose s jobs h 3 (rw c.in-P3.is at t)
    (none_due s jobs h c.fall_due-in-P3.ensures c.in-None-fall_due-2.is) c.rise-in-None-fall_due-2.ensures.exactly
    c.rise-in-None-fall_due-2.ensures.up c.in-Ok-rise-3.is c.close-in-Ok-rise-3.ensures

pub returns-in-Err-rise-3 : goal.returns-in-Err-rise-3
returns-in-Err-rise-3 c = λ s jobs h t. stayed s jobs h 3 (rw c.in-P3.is at t)
    (none_due s jobs h c.fall_due-in-P3.ensures c.in-None-fall_due-2.is) c.rise-in-None-fall_due-2.ensures.exactly
    c.rise-in-None-fall_due-2.ensures.same c.in-Err-rise-3.is c.close-in-Err-rise-3.ensures

pub returns-in-Some-fall_due-3 : goal.returns-in-Some-fall_due-3
returns-in-Some-fall_due-3 c = λ s jobs h t. fell s jobs h 4 (rw c.in-P4.is at t) c.fall_due-in-P4.ensures c.in-Some-fall_due-3.is
    c.close-in-Some-fall_due-3.ensures c.fall-in-Some-fall_due-3.ensures.stands c.fall-in-Some-fall_due-3.ensures.told

pub returns-in-None-fall_due-3 : goal.returns-in-None-fall_due-3
returns-in-None-fall_due-3 c = λ s jobs h t. stayed s jobs h 4 {r = Err c.in-P4.m} (rw c.in-P4.is at t)
    (none_due s jobs h c.fall_due-in-P4.ensures c.in-None-fall_due-3.is) (λ s p t. refl) refl refl c.close-in-None-fall_due-3.ensures
