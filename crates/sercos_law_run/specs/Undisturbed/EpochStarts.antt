-- Where an epoch of the master begins. The newest cycle of a journal comes first.
use Rattle.std.specs.Prelude.{◌≡◌, ◌≤◌, true, ℕ, List, [], ◌∷◌, length, is_some}
use Rattle.sercos_step.specs.declared.request.Job.{Job}
use Rattle.sercos_block.specs.Views.{RingView}
use Rattle.sercos_trace.specs.Views.{CycleView}
use Rattle.sercos_seat.specs.Ring.{known_of}
use Rattle.sercos_master.specs.Annals.{fall_of, whole_row}
use Rattle.sercos_script.specs.Links.{Carry, Restarts}
use Rattle.sercos_law_run.specs.Journal.Runs.{looks_back, master_calls}
use Rattle.sercos_law_run.specs.Views.RingViews.{behind_mdt}

-- After these cycles phase 0 is commanded, unless the master restarts: an epoch begins, or is still in phase 0.
abbrev pub StartsEpoch : RingView → List Job → Carry → Restarts → List CycleView → Type 0
StartsEpoch r jobs carry restarts before = (looks_back r jobs (master_calls r carry restarts before)).now.phase ≡ 0

-- how many MSTs in a row came back whole up to the end of these cycles, of those of the epoch
abbrev pub came_back : RingView → List Job → Carry → Restarts → List CycleView → ℕ
came_back r jobs carry restarts before = whole_row (looks_back r jobs (master_calls r carry restarts before)).turns

-- the ring falls at the end of cycle t, which is later than the others
abbrev pub Falls : RingView → List Job → Carry → Restarts → CycleView → List CycleView → Type 0
Falls r jobs carry restarts t j = is_some (fall_of (known_of r) (behind_mdt r jobs carry restarts t.sent j)) ≡ true

-- An epoch starts at the opening and after a fall, without an MST of it that came back; and with a cycle in which the master restarts, and
-- after it phase 0 is commanded still, and its MST came back at most.
abbrev pub StartsAtOpening : Type 0
StartsAtOpening = (r : RingView) (jobs : List Job) (carry : Carry) (restarts : Restarts) →
    StartsEpoch r jobs carry restarts [] × (came_back r jobs carry restarts [] ≡ 0)

abbrev pub StartsAtFall : Type 0
StartsAtFall = (r : RingView) (jobs : List Job) (carry : Carry) (restarts : Restarts) (t : CycleView) (j : List CycleView) →
    Falls r jobs carry restarts t j →
    StartsEpoch r jobs carry restarts (t ∷ j) × (came_back r jobs carry restarts (t ∷ j) ≡ 0)

abbrev pub StartsAtRestart : Type 0
StartsAtRestart = (r : RingView) (jobs : List Job) (carry : Carry) (restarts : Restarts) (t : CycleView) (j : List CycleView) →
    restarts (length j) 0 ≡ true →
    StartsEpoch r jobs carry restarts (t ∷ j) × (came_back r jobs carry restarts (t ∷ j) ≤ 1)
