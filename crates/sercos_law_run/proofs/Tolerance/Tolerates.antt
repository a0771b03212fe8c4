-- From the opening on, or from a record with a fall, the ring bears sparse faults.
use Rattle.sercos_law_run.proofs.Words.{List, [], ◌∷◌, ◌++◌, subst, Job, RingView, CycleView, Carry, Restarts, IsClear, IsRun, StartsEpoch, BeginsAnew, Tolerates, OneOfThreeIsSparse}
use Rattle.sercos_law_run.proofs.Undisturbed.PhaseZero.{starts_at_opening}
use Rattle.sercos_law_run.proofs.Recovery.AfterFalls.{epoch_begins}
use Rattle.sercos_law_run.proofs.Recovery.Stretches.{rest_runs}
use Rattle.sercos_law_run.proofs.Tolerance.BearsSparse.{bears_sparse}
use Rattle.sercos_law_run.proofs.Tolerance.Settles.{newest_of}

pub one_of_three : OneOfThreeIsSparse
one_of_three r carry restarts t j goes_on spaced = record {
  goes_on = goes_on;
  early = λ disturbed one low. spaced disturbed;
  late = λ disturbed high. newest_of r carry restarts j (spaced disturbed);
}

-- where an epoch begins, phase 0 is commanded next
begins : (r : RingView) (jobs : List Job) (carry : Carry) (restarts : Restarts) (before : List CycleView)
    → IsRun r jobs carry restarts before → BeginsAnew before → StartsEpoch r jobs carry restarts before
begins r jobs carry restarts [] run anew = (starts_at_opening r jobs carry restarts).0
begins r jobs carry restarts (f ∷ before) run (x, told) = epoch_begins r jobs carry restarts f before x run.1 told

pub tolerates : Tolerates
tolerates r jobs carry restarts t j opened run clear cycles before is anew sparse =
    let run_is : IsRun r jobs carry restarts (t ∷ (cycles ++ before)) =
    subst (λ (l : List CycleView). IsRun r jobs carry restarts (t ∷ l)) is run in
    bears_sparse r jobs carry restarts opened t cycles before run_is (subst (λ (l : List CycleView). IsClear (t ∷ l)) is clear)
    (begins r jobs carry restarts before (rest_runs r jobs carry restarts (t ∷ cycles) before run_is) anew) sparse
