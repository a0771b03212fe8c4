-- A ring of a valid setup.
use Rattle.std.specs.Prelude.{◌≡◌, true, List}
use Rattle.sercos_step.specs.declared.request.Job.{Job}
use Rattle.sercos_timing.specs.Views.{WishesView}
use Rattle.sercos_block.specs.Views.{RingView}
use Rattle.sercos_block.specs.Rings.{is_ring, wishes_of}
use Rattle.sercos_script.specs.Links.{Carry, Restarts}
use Rattle.sercos_trace.specs.Views.{CycleView}

-- a ring of a valid setup, of which these are the wishes, with the cycles that it has made
pub record IsRingOf {R : Type 0} (stands : R → RingView → List Job → Carry → Restarts → List CycleView → Type 0) (ring : R) (w : WishesView)
    (j : List CycleView) : Type 0 where
  pub setup : RingView
  pub jobs : List Job
  pub carry : Carry
  pub restarts : Restarts
  pub valid : is_ring setup ≡ true
  pub wishes : w ≡ wishes_of setup
  pub stands_for : stands ring setup jobs carry restarts j
