use Rattle.sercos_block.proofs.PackLemmas.{packed_none, packed_more}
use Rattle.sercos_block.proofs.region.packed.Goals as goal

pub loop-block-init : goal.loop-block-init
loop-block-init c = packed_none c.args.blocks.now c.in_ok-region.ensures.items c.in_ok-entries.ensures.items

pub loop-block-preserved : goal.loop-block-preserved
loop-block-preserved c = packed_more c.block-item.result c.in_ok-entry.entry c.loop-block.invariant c.requires c.loop-block-test.true c.block-item.is c.in_ok-entry.ensures c.in_ok-push.ensures.items
