-- Cycles in which every telegram arrives and nothing restarts: the drive is in the commanded phase, and nothing of its channel is lost;
-- or the drive is in phase 0, and its channel rests. Each list has its newest item first.
use Rattle.std.specs.Prelude.{◌≡◌, ◌⊎◌, ℕ, ◌+◌, ◌*◌, ◌≤◌, Bool, true, false, ◌&&◌, List, [], ◌∷◌, ◌++◌, length, None, is_some}
use Rattle.sercos_service_master.specs.Begun.{open_in, steps_in, answers_in}
use Rattle.sercos_law_channel.specs.Handshake.Views.{View, got_in, standing, stood_in}
use Rattle.sercos_law_channel.specs.Handshake.Epochs.{command, epoch_begun, begun_in, unless_restart}
use Rattle.sercos_law_channel.specs.Handshake.Runs.{IsRun}
use Rattle.sercos_law_channel.specs.Pace.Stretches.{AreClean, open_since}

-- whether the drive got the MST and a record of the newest cycle
abbrev pub was_addressed : List View → Bool
was_addressed [] = false
was_addressed (v ∷ past) = v.mst_comes && is_some (got_in v)

-- A cycle is whole: every telegram that is sent arrives, nothing restarts, and the master doesn't fall at its end.
pub record IsWhole (v : View) (past : List View) : Type 0 where
  pub mst : v.mst_comes ≡ true
  pub drive : v.drive_restarts ≡ false
  pub master : v.master_restarts ≡ false
  pub stays : v.falls ≡ false
  -- the master sends the drive a record if a step of its channel is open, and in phases 3 and 4 always
  pub sends : is_some (open_in (begun_in v past)) ≡ true → is_some v.sent ≡ true
  pub joint : 3 ≤ v.phase → is_some v.sent ≡ true
  -- a record that is sent arrives at a drive that isn't in phase 0
  pub mdt : is_some v.sent ≡ true → 1 ≤ stood_in v (standing past) → v.mdt_comes ≡ true
  -- a drive that isn't in phase 0 is heard in phases 3 and 4 always, and before that if a step is open and a record arrived at it in the
  -- cycle before
  pub hears : is_some (open_in (epoch_begun past)) ≡ true → was_addressed past ≡ true → 1 ≤ stood_in v (standing past) →
      is_some v.heard ≡ true
  pub listens : 3 ≤ v.phase → 1 ≤ stood_in v (standing past) → is_some v.heard ≡ true

-- .. and so is each cycle of a stretch
abbrev pub AreWhole : List View → List View → Type 0
AreWhole [] past = Unit {0}
AreWhole (v ∷ cycles) past = AreWhole cycles past × IsWhole v (cycles ++ past)

-- If phase 3 or 4 is commanded and the drive is still in the phase below, its check for the new phase counts as passed.
abbrev pub IsPassed : View → List View → Type 0
IsPassed v past = 3 ≤ v.phase → (standing past).ended + 1 ≡ v.phase → v.checked ≡ true

abbrev pub ArePassed : List View → List View → Type 0
ArePassed [] past = Unit {0}
ArePassed (v ∷ cycles) past = ArePassed cycles past × IsPassed v (cycles ++ past)

-- the drive is in the commanded phase, and is still in it at the end of the cycle
abbrev pub IsUp : View → List View → Type 0
IsUp v past = (stood_in v (standing past) ≡ v.phase) × ((standing (v ∷ past)).ended ≡ v.phase)

abbrev pub AreUp : List View → List View → Type 0
AreUp [] past = Unit {0}
AreUp (v ∷ cycles) past = AreUp cycles past × IsUp v (cycles ++ past)

-- After these cycles phase 0 is commanded, unless the master restarts: an epoch begins, or is still in phase 0. So it is before the first
-- cycle, after a fall, and after a cycle in which the master restarted.
abbrev pub BeginsEpoch : List View → Type 0
BeginsEpoch past = command past ≡ 0

-- From phase 0 of an epoch on, regardless of the cycles before: if every cycle is whole and the checks are passed, the drive is in the
-- commanded phase in every cycle ..
abbrev pub StandsThroughout : ℕ → Type 0
StandsThroughout busy = (cycles past : List View) → IsRun busy (cycles ++ past) → BeginsEpoch past → AreWhole cycles past →
    ArePassed cycles past → AreUp cycles past

-- .. nothing is lost ..
abbrev pub StaysClean : ℕ → Type 0
StaysClean busy = (cycles past : List View) → IsRun busy (cycles ++ past) → BeginsEpoch past → AreWhole cycles past →
    ArePassed cycles past → AreClean cycles past

-- .. and the master hears the drive in every cycle of phases 3 and 4.
abbrev pub AreHeard : List View → List View → Type 0
AreHeard [] past = Unit {0}
AreHeard (v ∷ cycles) past = AreHeard cycles past × (3 ≤ v.phase → is_some v.heard ≡ true)

abbrev pub HearsThroughout : ℕ → Type 0
HearsThroughout busy = (cycles past : List View) → IsRun busy (cycles ++ past) → BeginsEpoch past → AreWhole cycles past →
    ArePassed cycles past → AreHeard cycles past

-- Regardless of losses, and of the phase of the drive: after a first whole cycle and more of them, either the drive is in phase 0 by now,
-- or nothing was lost since the first.
abbrev pub IsCleanOrDown : ℕ → Type 0
IsCleanOrDown busy = (cycles : List View) (first : View) (past : List View) → IsRun busy (cycles ++ first ∷ past) → IsWhole first past →
    AreWhole cycles (first ∷ past) →
    ((standing (cycles ++ first ∷ past)).ended ≡ 0) ⊎ AreClean cycles (first ∷ past)

-- In the second case the cycles with an open step since the first are at most busy time and one for each step begun that had no answer
-- by then.
abbrev pub RecoversInTime : ℕ → Type 0
RecoversInTime busy = (cycles : List View) (first : View) (past : List View) → IsRun busy (cycles ++ first ∷ past) → IsWhole first past →
    AreWhole cycles (first ∷ past) →
    ((standing (cycles ++ first ∷ past)).ended ≡ 0)
    ⊎ (open_since cycles (first ∷ past) + (busy + 1) * length (answers_in (epoch_begun (first ∷ past))) ≤
    (busy + 1) * length (steps_in (epoch_begun (cycles ++ first ∷ past))))

-- The drive is in phase 0 in a cycle and at its end, and the master receives nothing of it and takes no answer. A step that is open stays
-- open.
pub record IsDead (v : View) (past : List View) : Type 0 where
  pub stands : stood_in v (standing past) ≡ 0
  pub ended : (standing (v ∷ past)).ended ≡ 0
  pub heard : v.heard ≡ None
  pub answers : answers_in (begun_in v past) ≡ answers_in (unless_restart v (epoch_begun past))
  pub waits : is_some (open_in (unless_restart v (epoch_begun past))) ≡ true → begun_in v past ≡ unless_restart v (epoch_begun past)

-- So it is with a drive in phase 0 while 2 to 4 is commanded.
abbrev pub StaysDead : ℕ → Type 0
StaysDead busy = (v : View) (past : List View) → IsRun busy (v ∷ past) → (standing past).ended ≡ 0 → 2 ≤ v.phase → IsDead v past
