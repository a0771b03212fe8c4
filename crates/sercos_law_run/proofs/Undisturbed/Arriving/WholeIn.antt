-- An undisturbed cycle is whole for each drive.
use Rattle.sercos_law_run.proofs.Words.{◌≡◌, ℕ, ◌<◌, ◌≤◌, true, List, [], ◌∷◌, length, refl, nat_le, is_some, Job, RingView, open_in, CycleView, Carry, Restarts, standing, stood_in, epoch_begun, IsRun, IsClear, view_of, views_of, IsOpened, was_addressed, IsWhole, staying, IsUndisturbed, cases_Bool, inl, inr}
use Rattle.sercos_law_run.proofs.Undisturbed.Arriving.Phases.{late_so, early_so}
use Rattle.sercos_law_run.proofs.Undisturbed.Arriving.Sending.{joint_in, sends_in}
use Rattle.sercos_law_run.proofs.Undisturbed.Arriving.MdtComes.{drive_in, master_in, mst_came, mdt_came}
use Rattle.sercos_law_run.proofs.Undisturbed.Arriving.AtsCome.{listens_in}
use Rattle.sercos_law_run.proofs.Undisturbed.Arriving.Hears.{hears_early}

module _ (r : RingView) (jobs : List Job) (carry : Carry) (restarts : Restarts) (opened : IsOpened r jobs) where
  pub hears_in : (t : CycleView) (j : List CycleView) (run : IsRun r jobs carry restarts (t ∷ j)) (clear : IsClear (t ∷ j)) → IsUndisturbed r carry restarts t j → (k : ℕ) → k < length r.drives
      → is_some (open_in (epoch_begun (views_of r jobs carry restarts k j))) ≡ true → was_addressed (views_of r jobs carry restarts k j) ≡ true
      → 1 ≤ stood_in (view_of r jobs carry restarts k t j) (standing (views_of r jobs carry restarts k j)) → is_some (view_of r jobs carry restarts k t j).heard ≡ true
  hears_in t [] run clear undisturbed k below opens addressed up = cc
  hears_in t (u ∷ j) run clear undisturbed k below opens addressed up = elim (cases_Bool (nat_le 3 t.phase)) [
    | inl is ↦ listens_in r jobs carry restarts opened t (u ∷ j) run clear undisturbed k below (late_so t.phase is) up
    | inr is ↦ hears_early r jobs carry restarts opened t u j run clear undisturbed k below opens addressed up (early_so t.phase is)
  ]

  -- Every cycle of a clear run in which nothing is disturbed.
  pub whole_in : (t : CycleView) (j : List CycleView) → IsRun r jobs carry restarts (t ∷ j) → IsClear (t ∷ j) → IsUndisturbed r carry restarts t j → (k : ℕ) → k < length r.drives
      → IsWhole (staying (view_of r jobs carry restarts k t j)) (views_of r jobs carry restarts k j)
  whole_in t j run clear undisturbed k below = record {
    mst = mst_came r jobs carry restarts opened t j run clear undisturbed k below;
    drive = drive_in r jobs carry restarts opened t j run clear undisturbed k below;
    master = master_in r jobs carry restarts opened t j run clear undisturbed;
    stays = refl;
    sends = λ opens. sends_in r jobs carry restarts opened t j run clear k below opens;
    joint = λ late. joint_in r jobs carry restarts opened t j run clear k below late;
    mdt = λ some up. mdt_came r jobs carry restarts opened t j run clear undisturbed k below some up;
    hears = λ opens addressed up. hears_in t j run clear undisturbed k below opens addressed up;
    listens = λ late up. listens_in r jobs carry restarts opened t j run clear undisturbed k below late up;
  }
