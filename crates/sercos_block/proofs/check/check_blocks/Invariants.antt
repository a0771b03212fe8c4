use Rattle.std.proofs.Common.{◌≡◌, [], take, drop}
use Rattle.sercos_block.specs.Rules.{blocks_fault}
use Rattle.sercos_block.proofs.check.check_blocks.Given as goal

abbrev pub invariant-loop-index : goal.invariant-loop-index
invariant-loop-index l = blocks_fault (take l.index l.blocks) (drop l.index l.blocks) ≡ blocks_fault [] l.blocks
