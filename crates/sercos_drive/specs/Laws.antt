-- What a drive passes to its channel and its procedure commands, over any calls.
use Rattle.std.specs.Prelude.{◌≡◌, ℕ, ◌≤◌, List, [], ◌∷◌, Some, None}
use Rattle.sercos_block.specs.Views.{DriveView}
use Rattle.sercos_service_drive.specs.Log.{Processed}
use Rattle.sercos_service_drive.specs.Writes.{AreThose}
use Rattle.sercos_drive.specs.Heard.{DriveCall}
use Rattle.sercos_drive.specs.Moments.{Moment, AtMst, AtMdt, AtRestart, phase_in, cycle_in, records_in, blocks_in, commands_in}
use Rattle.sercos_drive.specs.Annals.{annals, phase_at}

-- A record was processed in the cycle of the newest MST's time slot and in the phase of the drive,
-- 2 to 4, with the data blocks and the procedure commands as they were.
pub record WasHanded (d : DriveView) (rate : ℕ) (t : Processed) (past : List Moment) : Type 0 where
  pub cycle_is : t.cycle ≡ cycle_in past
  pub phase_is : t.phase ≡ phase_in past
  pub processed : (2 ≤ t.phase) × (t.phase ≤ 4)
  pub blocks_are : t.blocks ≡ blocks_in d past
  pub commands_are : t.commands ≡ commands_in d rate past

-- each record of these moments was processed so
abbrev pub WereHanded : DriveView → ℕ → List Moment → Type 0
WereHanded d rate [] = Unit {0}
WereHanded d rate (AtMst cycle got phase ∷ past) = WereHanded d rate past
WereHanded d rate (AtMdt took None phase ∷ past) = WereHanded d rate past
WereHanded d rate (AtMdt took (Some t) phase ∷ past) = WasHanded d rate t past × WereHanded d rate past
WereHanded d rate (AtRestart ∷ past) = WereHanded d rate past

-- each record of every list of calls was processed so
abbrev pub Handed : Type 0
Handed = (d : DriveView) (rate : ℕ) (h : List DriveCall) → WereHanded d rate (annals d rate h)

-- except for their operation data, the blocks of each record since the drive was last in phase 0
-- are those of the drive
abbrev pub HandedThose : Type 0
HandedThose = (d : DriveView) (rate : ℕ) (h : List DriveCall) → AreThose (blocks_in d (annals d rate h)) (records_in (annals d rate h))

-- the phase is at most 4
abbrev pub StandsBelow5 : Type 0
StandsBelow5 = (d : DriveView) (rate : ℕ) (h : List DriveCall) → phase_at d rate h ≤ 4
