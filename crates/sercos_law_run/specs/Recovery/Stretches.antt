-- Cycles of a run in which nothing is disturbed and the ring doesn't fall, regardless of losses before them. The newest cycle of a
-- journal comes first.
use Rattle.std.specs.Prelude.{◌≡◌, List, [], ◌∷◌, None, ℕ}
use Rattle.sercos_step.specs.declared.request.Job.{Job}
use Rattle.sercos_block.specs.Views.{RingView}
use Rattle.sercos_trace.specs.Views.{CycleView}
use Rattle.sercos_seat.specs.Ring.{known_of}
use Rattle.sercos_master.specs.Annals.{fall_of}
use Rattle.sercos_script.specs.Links.{Carry, Restarts}
use Rattle.sercos_law_channel.specs.Handshake.Views.{View, standing}
use Rattle.sercos_law_channel.specs.Pace.Passages.{IsUp}
use Rattle.sercos_law_run.specs.Views.RingViews.{behind_mdt, views_of}
use Rattle.sercos_law_run.specs.Undisturbed.StartUps.{NoneFalls}
use Rattle.sercos_law_run.specs.Undisturbed.Undisturbed.{AreUndisturbed, IsUndisturbed}

-- The cycle `first` and the later ones are undisturbed, and the ring falls at the end of none of them.
pub record IsStretch (r : RingView) (jobs : List Job) (carry : Carry) (restarts : Restarts) (cycles : List CycleView) (first : CycleView)
    (before : List CycleView) : Type 0 where
  pub calm : AreUndisturbed r carry restarts cycles (first ∷ before)
  pub stays : NoneFalls r jobs carry restarts cycles (first ∷ before)
  pub first_calm : IsUndisturbed r carry restarts first before
  pub first_stays : fall_of (known_of r) (behind_mdt r jobs carry restarts first.sent before) ≡ None

-- the drive at place k is in phase 0 at the end of these cycles
abbrev pub IsDown : RingView → List Job → Carry → Restarts → ℕ → List CycleView → Type 0
IsDown r jobs carry restarts k j = (standing (views_of r jobs carry restarts k j)).ended ≡ 0

-- in the newest of these cycles it is in the commanded phase, after the MST's place and at the end
abbrev pub IsUpNow : List View → Type 0
IsUpNow [] = Unit {0}
IsUpNow (v ∷ past) = IsUp v past
