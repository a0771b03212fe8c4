-- The views of some cycles of a run that are later than others. The newest cycle of a journal comes
-- first.
use Rattle.std.specs.Prelude.{ℕ, List, [], ◌∷◌, ◌++◌}
use Rattle.sercos_step.specs.declared.request.Job.{Job}
use Rattle.sercos_block.specs.Views.{RingView}
use Rattle.sercos_trace.specs.Views.{CycleView}
use Rattle.sercos_script.specs.Links.{Carry, Restarts}
use Rattle.sercos_law_channel.specs.Handshake.Views.{View}
use Rattle.sercos_law_run.specs.Views.RingViews.{view_of}

-- what these cycles are for the drive at a place
abbrev pub views_since : RingView → List Job → Carry → Restarts → ℕ → List CycleView → List CycleView → List View
views_since r jobs carry restarts k [] before = []
views_since r jobs carry restarts k (t ∷ cycles) before = view_of r jobs carry restarts k t (cycles ++ before) ∷
    views_since r jobs carry restarts k cycles before
