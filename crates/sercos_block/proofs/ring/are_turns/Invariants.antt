use Rattle.std.proofs.Common.{◌≡◌, [], take, drop}
use Rattle.sercos_block.specs.Rings.{are_turns}
use Rattle.sercos_block.proofs.ring.are_turns.Given as goal

abbrev pub invariant-loop-index : goal.invariant-loop-index
invariant-loop-index l = are_turns l.drives (take l.index l.order) (drop l.index l.order) ≡ are_turns l.drives [] l.order
