-- What each drive of a ring keeps in a cycle.
use Rattle.sercos_law_run.proofs.Words.{◌≡◌, ℕ, List, [], ◌∷◌, None, blocks_fault, store_of, IsStore, DriveView, DriveCall, drive_at, given_mst, given_mdt, KeepsAlways, ArePlain, AlwaysPlain, given_start}
use Rattle.sercos_law_run.proofs.Held.Runs.{drive_rules}
use Rattle.sercos_law_run.proofs.Stations.FitInThree.{fit_in_three}
use Rattle.sercos_law_run.proofs.Stations.FitInFour.{fit_in_four}
use Rattle.sercos_law_run.proofs.Stations.Times.{empty_keeps_times}
use Rattle.sercos_law_run.proofs.Stations.Phases.{stands_by_mst, rises_by_one, drops_by_cause}

are_plain : (d : DriveView) (rate : ℕ) (h : List DriveCall) → blocks_fault [] d.blocks ≡ None → IsStore (store_of d) → ArePlain d rate h
are_plain d rate [] none store = tt
are_plain d rate (call ∷ h) none store = record {
  times = λ high. empty_keeps_times rate _ (fit_in_three d rate (call ∷ h) none store high);
  limits = fit_in_four d rate (call ∷ h) none store;
  stands = stands_by_mst d rate (call ∷ h);
  rises = rises_by_one d rate call h;
  drops = drops_by_cause d rate call h;
}

pub always_plain : KeepsAlways → AlwaysPlain
always_plain always r jobs carry restarts t j opened k below =
    let none = drive_rules r k opened.valid below in
    let store = (always r carry restarts [] k opened.valid opened.typed below).store in (
      are_plain (drive_at r k) r.rate (given_start carry restarts j k) none store,
      are_plain (drive_at r k) r.rate (given_mst carry restarts t.sent j k) none store,
      are_plain (drive_at r k) r.rate (given_mdt carry restarts t.sent j k) none store,
    )
