-- Whatever a drive is given, its blocks are its store, whatever was written to it.
use Rattle.sercos_law_run.proofs.Words.{◌≡◌, ℕ, true, List, [], ◌∷◌, refl, Block, store_of, are_ascending, DriveView, added_on, DriveCall, Mst, Mdt, mdt_got, phase_in, records_in, blocks_in, blocks_after, commands_in, annals, IsStoreOf, allowed, DriveRestart}
use Rattle.sercos_law_run.proofs.Cited.{handed_those}
use Rattle.sercos_law_run.proofs.Held.Processed.{processed_keeps, taken_at}
use Rattle.sercos_law_run.proofs.Start.LaterLemmas.{blocks_keep}

abbrev pub IsOf : DriveView → List Block → Type 0
IsOf d blocks = IsStoreOf d blocks × (are_ascending blocks ≡ true)

pub store_of_so : (d : DriveView) (rate : ℕ) (h : List DriveCall) → are_ascending (store_of d) ≡ true → IsOf d (blocks_in d (annals d rate h))
store_of_so d rate [] ascending = (refl, ascending)
store_of_so d rate (Mst cycle content ∷ h) ascending = store_of_so d rate h ascending
store_of_so d rate (DriveRestart ∷ h) ascending = store_of_so d rate h ascending
store_of_so d rate (Mdt content ∷ h) ascending =
    let past = annals d rate h in
    let before = store_of_so d rate h ascending in
    processed_keeps (λ o. IsOf d (blocks_after o (records_in past) (blocks_in d past))) d rate
    (mdt_got d.address (phase_in past) (blocks_in d past) content) past before (λ t.
    let one = taken_at d rate past t in
    blocks_keep d (blocks_in d past) (added_on one (records_in past)) (commands_in d rate past) (phase_in past) before.1 before.0
    (allowed one (records_in past) (handed_those d rate h)))
