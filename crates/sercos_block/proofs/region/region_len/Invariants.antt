use Rattle.std.proofs.Common.{◌≡◌, ◌+◌, ◌*◌, ◌≤◌, drop}
use Rattle.std.specs.List.{sum_by}
use Rattle.sercos_block.specs.Regions.{room_of}
use Rattle.sercos_block.proofs.region.region_len.Given as goal

abbrev pub invariant-loop-block : goal.invariant-loop-block
invariant-loop-block l = (l.len + sum_by room_of (drop l.block-index l.blocks) ≡ sum_by room_of l.blocks) × (l.len ≤ 4096 * l.block-index)
