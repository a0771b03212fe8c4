-- Within how many cycles of an undisturbed epoch phase 4 begins, or a stop occurs. The newest cycle of a journal comes first.
use Rattle.std.specs.Prelude.{◌≡◌, ◌⊎◌, ℕ, ◌+◌, ◌*◌, ◌<◌, ◌≤◌, true, false, List, ◌∷◌, ◌++◌, length, is_some}
use Rattle.sercos_step.specs.declared.request.Job.{Job}
use Rattle.sercos_block.specs.Startup.{startup_bound}
use Rattle.sercos_block.specs.Views.{RingView}
use Rattle.sercos_law_run.specs.Bounds.Bounds.{stop_cycles}
use Rattle.sercos_trace.specs.Views.{CycleView}
use Rattle.sercos_seat.specs.Agenda.{reads_count, is_ready}
use Rattle.sercos_seat.specs.Ring.{known_of, member}
use Rattle.sercos_master.specs.Annals.{Past, outcomes}
use Rattle.sercos_script.specs.Links.{Carry, Restarts}
use Rattle.sercos_law_run.specs.Journal.Runs.{master_calls, looks_back, IsRun, IsClear}
use Rattle.sercos_law_run.specs.Views.RingViews.{behind_mdt}
use Rattle.sercos_law_run.specs.Held.Opened.{IsOpened}
use Rattle.sercos_law_run.specs.Undisturbed.Undisturbed.{AreUndisturbed}
use Rattle.sercos_law_run.specs.Undisturbed.EpochStarts.{StartsEpoch}

-- The check for phase 4 of some drive has ended, and not well: it is the request after the reads, the eleven writes and the check for
-- phase 3.
pub record HasBadCheck (r : RingView) (p : Past) : Type 0 where
  pub place : ℕ
  pub there : place < length r.drives
  pub ended : reads_count (member (known_of r) place) + 12 < length (outcomes p place)
  pub badly : is_ready (member (known_of r) place) (outcomes p place) ≡ false

-- After the cycles of a start-up in an undisturbed epoch, phase 4 is commanded, or there is a stop, or one is to follow, since a check for
-- phase 4 hasn't ended well.
abbrev pub ComesToPhaseFour : Type 0
ComesToPhaseFour = (r : RingView) (jobs : List Job) (carry : Carry) (restarts : Restarts) (t : CycleView) (cycles before : List CycleView) →
    IsOpened r jobs → IsRun r jobs carry restarts (t ∷ (cycles ++ before)) →
    IsClear (t ∷ (cycles ++ before)) → StartsEpoch r jobs carry restarts before → AreUndisturbed r carry restarts (t ∷ cycles) before →
    startup_bound r ≤ length cycles →
    (t.phase ≡ 4) ⊎ ((is_some (behind_mdt r jobs carry restarts t.sent (cycles ++ before)).stop ≡ true) ⊎
    HasBadCheck r (looks_back r jobs (master_calls r carry restarts (cycles ++ before))))

-- And if that one has had its time, which is that of 41 steps more of the slowest drive, phase 4 is commanded, or there is a stop.
abbrev pub ComesToAnEnd : Type 0
ComesToAnEnd = (r : RingView) (jobs : List Job) (carry : Carry) (restarts : Restarts) (t : CycleView) (cycles before : List CycleView) →
    IsOpened r jobs → IsRun r jobs carry restarts (t ∷ (cycles ++ before)) →
    IsClear (t ∷ (cycles ++ before)) → StartsEpoch r jobs carry restarts before → AreUndisturbed r carry restarts (t ∷ cycles) before →
    startup_bound r + stop_cycles r ≤ length cycles →
    (t.phase ≡ 4) ⊎ (is_some (behind_mdt r jobs carry restarts t.sent (cycles ++ before)).stop ≡ true)

-- Both stay: phase 4 is commanded in each later cycle of the epoch, and a stop is the same in each.
abbrev pub StaysAtItsEnd : Type 0
StaysAtItsEnd = (r : RingView) (jobs : List Job) (carry : Carry) (restarts : Restarts) (t u : CycleView) (cycles before : List CycleView) →
    IsOpened r jobs → IsRun r jobs carry restarts (t ∷ u ∷ (cycles ++ before)) →
    IsClear (t ∷ u ∷ (cycles ++ before)) → StartsEpoch r jobs carry restarts before →
    AreUndisturbed r carry restarts (t ∷ u ∷ cycles) before →
    (u.phase ≡ 4 → t.phase ≡ 4)
    × (is_some (behind_mdt r jobs carry restarts u.sent (cycles ++ before)).stop ≡ true →
    (behind_mdt r jobs carry restarts t.sent (u ∷ (cycles ++ before))).stop ≡
    (behind_mdt r jobs carry restarts u.sent (cycles ++ before)).stop)
