-- The result of a complete check for phase 3. Each list has its newest item first.
use Rattle.std.specs.Prelude.{◌≡◌, ℕ, true, List, [], ◌∷◌, ◌++◌, Some}
use Rattle.sercos_step.specs.declared.request.Request.TheVariants as request
use Rattle.sercos_step.specs.declared.request.Outcome.TheVariants as outcome
use Rattle.sercos_step.specs.Steps.{outcome_of}
use Rattle.sercos_block.specs.declared.block.Block.{Block}
use Rattle.sercos_command.specs.Settings.{is_command}
use Rattle.sercos_service_master.specs.Begun.{Begun}
use Rattle.sercos_seat.specs.Agenda.{idn}
use Rattle.sercos_law_channel.specs.Handshake.Views.{View}
use Rattle.sercos_law_channel.specs.Handshake.Epochs.{epoch_begun}
use Rattle.sercos_law_channel.specs.Handshake.Runs.{IsRun}
use Rattle.sercos_law_channel.specs.Handshake.WholeRun.{AreSound}
use Rattle.sercos_law_run.specs.Settings.SetByWrites.{SettingsFollow}
use Rattle.sercos_law_run.specs.Settings.WellSet.{AreSetWell, StandWell, HaveStores}

-- In a run of a drive with these blocks: if the settings follow, and each check for phase 3 was set well, each complete check for
-- phase 3 of the epoch returns 3.
abbrev pub ChecksGive3 : ℕ → Type 0
ChecksGive3 busy = (blocks : List Block) (past : List View) → IsRun busy past → AreSound blocks past → SettingsFollow past →
    AreSetWell past → HaveStores (λ blocks. is_command blocks 127 ≡ true) past →
    (newer older : List Begun) (b : Begun) (bytes : List ℕ) → epoch_begun past ≡ newer ++ b ∷ older →
    b.request ≡ request.Command (idn 127) → outcome_of b.request b.answers ≡ Some (outcome.Complete bytes) → bytes ≡ 3 ∷ 0 ∷ []

-- If each check for phase 3 was set well, each that is set ends well.
abbrev pub StayWell : Type 0
StayWell = (past : List View) → AreSetWell past → StandWell past
