-- What a drive's lists of invalid operation data contain. Each list of calls has its newest call first.
use Rattle.std.specs.Prelude.{◌≡◌, ℕ, ◌==◌, not, ◌&&◌, if◌then◌else◌, List, [], ◌∷◌, None}
use Rattle.sercos_idn.specs.declared.idn.Idn.{Idn}
use Rattle.sercos_idn.specs.Commands.{to_cancel}
use Rattle.sercos_block.specs.Rules.{blocks_fault}
use Rattle.sercos_block.specs.Stores.{store_of, IsStore}
use Rattle.sercos_block.specs.Views.{DriveView}
use Rattle.sercos_command.specs.Checks.{data_at, list_bytes, unfit_for_phase_3, unfit_for_phase_4}
use Rattle.sercos_command.specs.Calls.{CommandCall, Wrote, Other, Reset, is_set}
use Rattle.sercos_drive.specs.Heard.{DriveCall}
use Rattle.sercos_drive.specs.Moments.{calls_in}
use Rattle.sercos_drive.specs.Annals.{annals, store_at}

-- What the check for phase 3 found in the drive's blocks when S-0-0127 was last set while it wasn't; nothing before that.
abbrev pub found_for_3 : ℕ → List CommandCall → List Idn
found_for_3 rate [] = []
found_for_3 rate (Reset ∷ h) = found_for_3 rate h
found_for_3 rate (Other cycle ∷ h) = found_for_3 rate h
found_for_3 rate (Wrote raw value cycle blocks ∷ h) =
    if (raw == 127) && (not (value == to_cancel) && not (is_set raw h))
    then unfit_for_phase_3 rate blocks else found_for_3 rate h

-- And what that for phase 4 found, by S-0-0128.
abbrev pub found_for_4 : ℕ → List CommandCall → List Idn
found_for_4 rate [] = []
found_for_4 rate (Reset ∷ h) = found_for_4 rate h
found_for_4 rate (Other cycle ∷ h) = found_for_4 rate h
found_for_4 rate (Wrote raw value cycle blocks ∷ h) =
    if (raw == 128) && (not (value == to_cancel) && not (is_set raw h))
    then unfit_for_phase_4 blocks else found_for_4 rate h

-- S-0-0021 and S-0-0022 contain this, whatever arrives.
abbrev pub ListsAreFound : Type 0
ListsAreFound = (d : DriveView) (rate : ℕ) (h : List DriveCall) → blocks_fault [] d.blocks ≡ None → IsStore (store_of d) →
    (data_at (store_at d rate h) 21 ≡ list_bytes (found_for_3 rate (calls_in (annals d rate h))))
    × (data_at (store_at d rate h) 22 ≡ list_bytes (found_for_4 rate (calls_in (annals d rate h))))
