-- The stores of a drive through a run, newest first.
use Rattle.std.specs.Prelude.{List, [], ◌∷◌}
use Rattle.sercos_block.specs.declared.block.Block.{Block}
use Rattle.sercos_block.specs.Stores.{IsStore}
use Rattle.sercos_block.specs.Views.{DriveView}
use Rattle.sercos_law_run.specs.Start.StartUp.{IsStoreOf}
use Rattle.sercos_law_channel.specs.Handshake.Views.{View}

-- these blocks are the drive's store, regardless of what was written to it
abbrev pub IsStored : DriveView → List Block → Type 0
IsStored d blocks = IsStore blocks × IsStoreOf d blocks

-- and so in each cycle
abbrev pub AreStored : DriveView → List View → Type 0
AreStored d [] = Unit {0}
AreStored d (v ∷ past) = AreStored d past × IsStored d v.blocks
