-- How long a channel is at work in a stretch of cycles in which nothing of it is lost, regardless of the cycles before. A stretch is the
-- newest `cycles` of a run, after those of `past`. Each list has its newest item first.
use Rattle.std.specs.Prelude.{◌≡◌, ℕ, ◌+◌, ◌*◌, ◌<◌, ◌≤◌, false, List, [], ◌∷◌, ◌++◌, length, Some, None, is_some}
use Rattle.sercos_service_drive.specs.Log.{Entry}
use Rattle.sercos_service_master.specs.Begun.{open_in, steps_in, answers_in}
use Rattle.sercos_law_channel.specs.Handshake.InStep.{log_steps}
use Rattle.sercos_law_channel.specs.Handshake.Views.{View}
use Rattle.sercos_law_channel.specs.Handshake.Epochs.{epoch_begun, begun_in, epoch_log}
use Rattle.sercos_law_channel.specs.Handshake.Runs.{IsRun}
use Rattle.sercos_law_channel.specs.Pace.Times.{IsUndisturbed, one_more, time_for}

-- In a cycle nothing of the channel is lost, and the master neither falls nor restarts.
pub record IsClean (v : View) (past : List View) : Type 0 where
  pub stays : v.falls ≡ false
  pub goes_on : v.master_restarts ≡ false
  pub undisturbed : IsUndisturbed v past

-- .. and so it is in each cycle of the stretch
abbrev pub AreClean : List View → List View → Type 0
AreClean [] past = Unit {0}
AreClean (v ∷ cycles) past = AreClean cycles past × IsClean v (cycles ++ past)

-- in how many cycles of the stretch a step was open at the end
abbrev pub open_since : List View → List View → ℕ
open_since [] past = 0
open_since (v ∷ cycles) past = one_more (is_some (open_in (begun_in v (cycles ++ past)))) (open_since cycles past)

-- these cycles, with the time for the answers that the master took before the stretch
abbrev pub spent_since : ℕ → List View → List View → ℕ
spent_since busy cycles past = open_since cycles past + time_for busy (answers_in (epoch_begun past))

-- No step is open, and the answers so far account for the cycles spent. Or one is open: the drive accepted it at most its busy time ago,
-- and the answers account for the cycles before that.
pub data IsInTime (busy : ℕ) (cycles past : List View) : Type 0 where
  RestsNow : open_in (epoch_begun (cycles ++ past)) ≡ None →
      spent_since busy cycles past ≤ time_for busy (answers_in (epoch_begun (cycles ++ past))) → IsInTime busy cycles past
  WaitsNow : (e : Entry) (log : List Entry) → epoch_log (cycles ++ past) ≡ e ∷ log →
      open_in (epoch_begun (cycles ++ past)) ≡ Some e.processed.step →
      steps_in (epoch_begun (cycles ++ past)) ≡ log_steps (epoch_log (cycles ++ past)) →
      e.processed.cycle < length (cycles ++ past) → length (cycles ++ past) ≤ e.processed.cycle + (busy + 1) →
      spent_since busy cycles past + e.processed.cycle ≤ time_for busy (answers_in (epoch_begun (cycles ++ past))) +
      length (cycles ++ past) → IsInTime busy cycles past

-- The same holds after a stretch of one cycle or more, regardless of losses before it. A step that was open before it counts as one of
-- the stretch.
abbrev pub ComesInTime : ℕ → Type 0
ComesInTime busy = (v : View) (cycles past : List View) → IsRun busy (v ∷ (cycles ++ past)) → AreClean (v ∷ cycles) past →
    IsInTime busy (v ∷ cycles) past

-- So the cycles of the stretch in which a step was open are at most busy time and one for each step begun that had no answer before the
-- stretch.
abbrev pub TakesTimeSince : ℕ → Type 0
TakesTimeSince busy = (cycles past : List View) → IsRun busy (cycles ++ past) → AreClean cycles past →
    open_since cycles past + (busy + 1) * length (answers_in (epoch_begun past)) ≤
    (busy + 1) * length (steps_in (epoch_begun (cycles ++ past)))
