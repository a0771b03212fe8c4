-- The laws of a run on phases and on the handshake. Each list has its newest item first.
use Rattle.std.specs.Prelude.{◌≡◌, ℕ, ◌+◌, ◌<◌, ◌≤◌, ◌==◌, true, false, if◌then◌else◌, List, [], ◌∷◌, length, max, Some, is_some, ◌⊎◌}
use Rattle.sercos_service_drive.specs.Log.{Processed, Entry}
use Rattle.sercos_service_drive.specs.Replies.{log_of}
use Rattle.sercos_law_channel.specs.Handshake.InStep.{AreInStep}
use Rattle.sercos_law_channel.specs.Handshake.Views.{View, got_in, standing, stood_in, processed_in, since_reset}
use Rattle.sercos_law_channel.specs.Handshake.Epochs.{command, epoch_begun, begun_in, epoch_records, records_in_views, epoch_log, log_in}
use Rattle.sercos_law_channel.specs.Handshake.Runs.{IsRun}
use Rattle.sercos_law_channel.specs.Handshake.WholeRun.{all_entries}

-- the phase that was commanded in the newest cycle, and 0 before the first
abbrev pub phase_commanded : List View → ℕ
phase_commanded [] = 0
phase_commanded (v ∷ past) = v.phase

-- No drive is in a higher phase than the later one commanded in this cycle or the one before. It needs no run: it holds of all
-- cycles.
abbrev pub StandsNoLater : Type 0
StandsNoLater = (v : View) (past : List View) → stood_in v (standing past) ≤ max v.phase (phase_commanded past)

-- A drive that gets the MST is then in the commanded phase, or in 0.
abbrev pub StandsAsCommanded : Type 0
StandsAsCommanded = (v : View) (past : List View) → v.mst_comes ≡ true → (stood_in v (standing past) ≡ 0) ⊎
    (stood_in v (standing past) ≡ v.phase)

-- While 2 to 4 is commanded, a drive in phase 0 stays there.
abbrev pub StaysDown : Type 0
StaysDown = (v : View) (past : List View) → (standing past).ended ≡ 0 → 2 ≤ v.phase → (standing (v ∷ past)).ended ≡ 0

-- While 0 or 1 is commanded, a drive that gets the MST is in that phase.
abbrev pub ComesUp : ℕ → Type 0
ComesUp busy = (v : View) (past : List View) → IsRun busy (v ∷ past) → v.phase ≤ 1 → v.mst_comes ≡ true →
    stood_in v (standing past) ≡ v.phase

-- A drive that is in the commanded phase, or in the one below with its check passed, keeps up with it in a cycle in which it
-- doesn't restart and nothing for it is lost.
abbrev pub KeepsUp : Type 0
KeepsUp = (v : View) (past : List View) → v.mst_comes ≡ true → v.drive_restarts ≡ false → v.checked ≡ true →
    ((standing past).ended ≡ v.phase) ⊎ ((standing past).ended + 1 ≡ v.phase) → (3 ≤ v.phase → is_some (got_in v) ≡ true) →
    (stood_in v (standing past) ≡ v.phase) × ((standing (v ∷ past)).ended ≡ v.phase)

-- The drive accepts at most one step in a cycle: the cycles of accepted steps descend, and all are before this one.
abbrev pub AreBefore : ℕ → List Entry → Type 0
AreBefore cycle [] = Unit {0}
AreBefore cycle (e ∷ entries) = (e.processed.cycle < cycle) × AreBefore e.processed.cycle entries

abbrev pub AcceptsInOrder : Type 0
AcceptsInOrder = (past : List View) → AreBefore (length past) (all_entries past)

-- A record is processed in the cycle in which it arrives, in the phase that is commanded in it.
abbrev pub ProcessesInPhase : Type 0
ProcessesInPhase = (v : View) (past : List View) (t : Processed) → processed_in v past ≡ Some t →
    (t.phase ≡ v.phase) × (t.cycle ≡ length past) × (2 ≤ t.phase)

-- how many cycles in a row, up to now, were commanded phase 0, in any epoch
abbrev pub zero_run : List View → ℕ
zero_run [] = 0
zero_run (v ∷ past) = if v.phase == 0 then zero_run past + 1 else 0

-- From the second cycle in a row commanded 0 on, every drive is in phase 0; so it is at the rise to phase 1.
abbrev pub ComesToZero : ℕ → Type 0
ComesToZero busy = (past : List View) → IsRun busy past → 2 ≤ zero_run past → (standing past).ended ≡ 0

-- While 0 or 1 is commanded next, no request was begun in this epoch, and the drive has accepted nothing of it.
abbrev pub BeginsEmpty : ℕ → Type 0
BeginsEmpty busy = (past : List View) → IsRun busy past → command past ≤ 1 → (epoch_begun past ≡ []) × (epoch_records past ≡ [])

-- After every cycle the master is in step with what the drive accepted in this epoch, also if the drive has fallen since.
abbrev pub AreInStepInEpoch : ℕ → Type 0
AreInStepInEpoch busy = (past : List View) → IsRun busy past → AreInStep (epoch_begun past) (epoch_log past)

-- .. and so it is in a cycle at whose end the master falls
abbrev pub AreInStepInCycle : ℕ → Type 0
AreInStepInCycle busy = (v : View) (past : List View) → IsRun busy (v ∷ past) → AreInStep (begun_in v past) (log_in v past)

-- In a cycle commanded 1 or later, what a drive took since its reset is what it took in this epoch, unless it is in phase 0.
abbrev pub IsOfEpoch : ℕ → Type 0
IsOfEpoch busy = (v : View) (past : List View) → IsRun busy (v ∷ past) → 1 ≤ v.phase →
    ((standing (v ∷ past)).ended ≡ 0) ⊎ (since_reset (v ∷ past) ≡ records_in_views v past)

-- The handshake: in a cycle commanded 2 to 4, at whose end the drive is in 2 to 4, the steps that it accepted since its reset are
-- all that the master began in this epoch, or all but the last; and each answer that was taken is the reply to that very step.
abbrev pub Handshake : ℕ → Type 0
Handshake busy = (v : View) (past : List View) → IsRun busy (v ∷ past) → 2 ≤ v.phase → 2 ≤ (standing (v ∷ past)).ended →
    AreInStep (begun_in v past) (log_of (since_reset (v ∷ past)))
