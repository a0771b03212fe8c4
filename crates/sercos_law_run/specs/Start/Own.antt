-- Which of a drive's own blocks are outside their limits doesn't change during the start-up.
use Rattle.std.specs.Prelude.{◌≡◌, true, List, [], Some, None}
use Rattle.std.specs.List.{list_any, filter}
use Rattle.sercos_block.specs.declared.block.Block.{Block}
use Rattle.sercos_block.specs.BuiltIns.{is_built_in}
use Rattle.sercos_block.specs.Rules.{blocks_fault}
use Rattle.sercos_block.specs.Stores.{store_of}
use Rattle.sercos_block.specs.Views.{DriveView}
use Rattle.sercos_command.specs.Checks.{is_outside}
use Rattle.sercos_command.specs.Calls.{CommandHistory}
use Rattle.sercos_service_drive.specs.Writes.{Write, blocks_with}
use Rattle.sercos_law_run.specs.Start.Kept.{is_own_outside}

-- A write to a built-in block, as each write of the start-up is, leaves the own blocks that are outside their limits; and so does
-- the list that a check writes when it is set.
abbrev pub OwnStay : Type 0
OwnStay = (w : Write) (c : CommandHistory) (blocks : List Block) → is_built_in w.raw ≡ true →
    filter is_own_outside (blocks_with (Some w) c blocks) ≡ filter is_own_outside blocks

-- At opening there is one exactly if one of the blocks of the drive's description is outside its limits.
abbrev pub OwnAtOpening : Type 0
OwnAtOpening = (d : DriveView) → blocks_fault [] d.blocks ≡ None → list_any is_own_outside (store_of d) ≡ list_any is_outside d.blocks
