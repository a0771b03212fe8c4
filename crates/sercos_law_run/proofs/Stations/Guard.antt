-- In phases 3 and 4 a drive's data record lies within its MDT.
use Rattle.sercos_law_run.proofs.Words.{◌≡◌, true, List, refl, Block, number_at, carried_len, store_at, lies_within, AlwaysLies, joint_in}
use Rattle.sercos_law_run.proofs.Stations.FitInThree.{fit_in_three}
use Rattle.sercos_law_run.proofs.Stations.Times.{empty_keeps_times}

pub always_lies : AlwaysLies
unfolding joint_in
always_lies d rate h content none store high =
    let blocks : List Block = store_at d rate h in
    let lies : lies_within (number_at blocks 10) (number_at blocks 9) (carried_len blocks 24) ≡ true =
    (empty_keeps_times rate blocks (fit_in_three d rate h none store high)).lies in
    rw lies refl
