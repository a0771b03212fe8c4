-- Which drive sends in the phases 0 to 2.
use Rattle.std.specs.Prelude.{◌≡◌, ◌⊎◌, ℕ, ◌≤◌, List, [], ◌∷◌, Some, slice_index}
use Rattle.sercos_step.specs.declared.request.Job.{Job}
use Rattle.sercos_block.specs.Views.{RingView}
use Rattle.sercos_trace.specs.Views.{CycleView}
use Rattle.sercos_script.specs.Links.{Carry, Restarts}
use Rattle.sercos_law_run.specs.Journal.Records.{ats_in, mdt_in}
use Rattle.sercos_law_run.specs.Journal.Runs.{IsRun, IsClear}
use Rattle.sercos_law_run.specs.Held.Opened.{IsOpened}

-- One AT is sent. It is that of the drive with the address of the MDT of the cycle before, and phase 0 isn't commanded.
pub record IsAnswer (t : CycleView) (j : List CycleView) : Type 0 where
  pub phase : 1 ≤ t.phase
  pub at : List ℕ
  pub one : ats_in t.sent ≡ at ∷ []
  pub before : CycleView
  pub older : List CycleView
  pub follows : j ≡ before ∷ older
  pub mdt : List ℕ
  pub told : mdt_in before.sent ≡ Some mdt
  pub same : slice_index mdt 0 ≡ slice_index at 0

-- With phase 0, 1 or 2 commanded no AT is sent, or such a one.
abbrev pub IsAlone : CycleView → List CycleView → Type 0
IsAlone t j = t.phase ≤ 2 → (ats_in t.sent ≡ []) ⊎ IsAnswer t j

-- So it is in each cycle of a run, as long as nothing was undetected.
abbrev pub SendsAlone : Type 0
SendsAlone = (r : RingView) (jobs : List Job) (carry : Carry) (restarts : Restarts) (t : CycleView) (j : List CycleView)
    → IsOpened r jobs → IsRun r jobs carry restarts (t ∷ j) → IsClear (t ∷ j) → IsAlone t j
