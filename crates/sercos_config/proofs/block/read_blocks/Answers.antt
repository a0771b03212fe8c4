use Rattle.std.proofs.Common.{arith}
use Rattle.std.proofs.lemmas.Grind.{common_steps}
use Rattle.sercos_config.specs.Block.{blocks_onto}
use Rattle.sercos_config.proofs.BlockLemmas.{blocks_more, typed_more}
use Rattle.sercos_config.proofs.block.read_blocks.Goals as goal

pub loop-table-preserved : goal.loop-table-preserved
unfolding blocks_onto
loop-table-preserved c =
    let valid = rw c.as_slice.ensures.value at c.in_ok-block.ensures.valid in (
      rw c.in_ok-push.ensures.items (blocks_more c.loop-table.blocks.items c.in_ok-block.block c.loop-table.invariant.0 valid),
      rw c.in_ok-push.ensures.items (typed_more c.loop-table.blocks.items c.in_ok-block.block c.loop-table.invariant.1 c.in_ok-block.ensures.typed),
      grind (arith, common_steps),
      grind (arith, common_steps),
    )
