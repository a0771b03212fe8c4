use Rattle.std.proofs.Common.{◌≡◌, [], take, drop}
use Rattle.sercos_block.specs.Rings.{are_drives}
use Rattle.sercos_block.proofs.ring.are_drives.Given as goal

abbrev pub invariant-loop-index : goal.invariant-loop-index
invariant-loop-index l = are_drives (take l.index l.drives) (drop l.index l.drives) ≡ are_drives [] l.drives
