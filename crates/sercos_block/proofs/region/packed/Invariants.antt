use Rattle.sercos_block.proofs.PackLemmas.{IsPacking}
use Rattle.sercos_block.proofs.region.packed.Given as goal

abbrev pub invariant-loop-block : goal.invariant-loop-block
invariant-loop-block l = IsPacking l.blocks l.region.items l.entries.items l.block-index
