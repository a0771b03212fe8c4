-- The ranges of a ring's numbers, at opening.
use Rattle.std.specs.Prelude.{ℕ, ◌<◌, length}
use Rattle.sercos_block.specs.Stores.{IsTyped}
use Rattle.sercos_block.specs.Views.{RingView}
use Rattle.sercos_law_run.specs.Journal.Runs.{drive_at}

abbrev pub AreTyped : RingView → Type 0
AreTyped r = (k : ℕ) → k < length r.drives → IsTyped (drive_at r k)
