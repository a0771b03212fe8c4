-- In undisturbed cycles a drive is in the commanded phase, or in phase 0. The newest cycle of a journal comes first.
use Rattle.std.specs.Prelude.{◌≡◌, ◌⊎◌, ℕ, ◌+◌, ◌<◌, ◌≤◌, true, false, List, ◌∷◌, ◌++◌, length, None, is_some}
use Rattle.sercos_step.specs.declared.request.Job.{Job}
use Rattle.sercos_block.specs.Views.{RingView}
use Rattle.sercos_service_master.specs.Begun.{open_in}
use Rattle.sercos_trace.specs.Views.{CycleView}
use Rattle.sercos_seat.specs.Ring.{known_of}
use Rattle.sercos_master.specs.Annals.{fall_of}
use Rattle.sercos_script.specs.Links.{Carry, Restarts}
use Rattle.sercos_law_channel.specs.Handshake.Epochs.{epoch_begun}
use Rattle.sercos_law_channel.specs.Pace.Ages.{age_in}
use Rattle.sercos_law_channel.specs.Pace.Passages.{IsDead}
use Rattle.sercos_law_channel.specs.Pace.Stretches.{AreClean}
use Rattle.sercos_law_run.specs.Journal.Runs.{IsClear, IsRun}
use Rattle.sercos_law_run.specs.Views.RingViews.{behind_mdt, view_of, views_of}
use Rattle.sercos_law_run.specs.Held.Opened.{IsOpened}
use Rattle.sercos_law_run.specs.Undisturbed.EpochStarts.{Falls}
use Rattle.sercos_law_run.specs.Undisturbed.ViewsSince.{views_since}
use Rattle.sercos_law_run.specs.Recovery.Stretches.{IsDown, IsStretch, IsUpNow}

-- The drive at place k keeps up: it is in the commanded phase in the newest of these cycles and at its end, and nothing of its channel was
-- lost since the first.
pub record KeepsUp (r : RingView) (jobs : List Job) (carry : Carry) (restarts : Restarts) (k : ℕ) (cycles : List CycleView)
    (first : CycleView) (before : List CycleView) : Type 0 where
  pub up : IsUpNow (views_of r jobs carry restarts k (cycles ++ first ∷ before))
  pub clean : AreClean (views_since r jobs carry restarts k cycles (first ∷ before)) (views_of r jobs carry restarts k (first ∷ before))

-- UP OR DOWN. In cycles in which nothing is disturbed and the ring doesn't fall, each drive keeps up, or it is in phase 0 at the end of the
-- newest; regardless of losses before them, and of the phases of the drives, if nothing was undetected.
abbrev pub UpOrDown : Type 0
UpOrDown = (r : RingView) (jobs : List Job) (carry : Carry) (restarts : Restarts) (cycles : List CycleView) (first : CycleView)
    (before : List CycleView) → IsOpened r jobs → IsRun r jobs carry restarts (cycles ++ first ∷ before) →
    IsClear (cycles ++ first ∷ before) → IsStretch r jobs carry restarts cycles first before → (k : ℕ) → k < length r.drives →
    IsDown r jobs carry restarts k (cycles ++ first ∷ before) ⊎ KeepsUp r jobs carry restarts k cycles first before

-- A drive in phase 0 stays there while 2 to 4 is commanded, in every run without undetected damage: the master receives nothing of it,
-- takes no answer, and a step that is open stays open.
abbrev pub StaysDown : Type 0
StaysDown = (r : RingView) (jobs : List Job) (carry : Carry) (restarts : Restarts) (t : CycleView) (j : List CycleView) → IsOpened r jobs →
    IsRun r jobs carry restarts (t ∷ j) → IsClear (t ∷ j) → (k : ℕ) → k < length r.drives →
    IsDown r jobs carry restarts k j → 2 ≤ t.phase → IsDead (view_of r jobs carry restarts k t j) (views_of r jobs carry restarts k j)

-- Then an open step gets older with each cycle, as long as the master neither falls nor restarts.
abbrev pub AgesDown : Type 0
AgesDown = (r : RingView) (jobs : List Job) (carry : Carry) (restarts : Restarts) (t : CycleView) (j : List CycleView) → IsOpened r jobs →
    IsRun r jobs carry restarts (t ∷ j) → IsClear (t ∷ j) → (k : ℕ) → k < length r.drives →
    IsDown r jobs carry restarts k j → 2 ≤ t.phase → fall_of (known_of r) (behind_mdt r jobs carry restarts t.sent j) ≡ None →
    restarts (length j) 0 ≡ false →
    is_some (open_in (epoch_begun (views_of r jobs carry restarts k j))) ≡ true →
    (age_in (views_of r jobs carry restarts k (t ∷ j)) ≡ age_in (views_of r jobs carry restarts k j) + 1) ×
    (is_some (open_in (epoch_begun (views_of r jobs carry restarts k (t ∷ j)))) ≡ true)

-- In every run in which nothing was unseen no step is open at the ends of more than 64 cycles: then the ring falls.
abbrev pub AgesToLimit : Type 0
AgesToLimit = (r : RingView) (jobs : List Job) (carry : Carry) (restarts : Restarts) (j : List CycleView) → IsOpened r jobs →
    IsRun r jobs carry restarts j → IsClear j → (k : ℕ) → k < length r.drives →
    age_in (views_of r jobs carry restarts k j) ≤ 64

-- A drive that is in phase 0 before a cycle of phase 3 or 4 makes the ring fall at the end of the next one at the latest, if the master
-- doesn't restart: the master doesn't hear it in either.
abbrev pub FallsIfDown : Type 0
FallsIfDown = (r : RingView) (jobs : List Job) (carry : Carry) (restarts : Restarts) (t u : CycleView) (j : List CycleView) →
    IsOpened r jobs → IsRun r jobs carry restarts (t ∷ u ∷ j) → IsClear (t ∷ u ∷ j) →
    fall_of (known_of r) (behind_mdt r jobs carry restarts u.sent j) ≡ None → restarts (length (u ∷ j)) 0 ≡ false → 3 ≤ u.phase → (k : ℕ) →
    k < length r.drives → IsDown r jobs carry restarts k j →
    Falls r jobs carry restarts t (u ∷ j)
