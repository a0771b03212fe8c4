use Rattle.std.proofs.Common.{◌≡◌, ◌*◌, ◌≤◌, take}
use Rattle.sercos_block.specs.Rings.{mdt_len}
use Rattle.sercos_block.proofs.carried.mdt_len.Given as goal

abbrev pub invariant-loop-drive : goal.invariant-loop-drive
invariant-loop-drive l = (l.len ≡ mdt_len (take l.drive-index l.drives)) × (l.len ≤ 68 * l.drive-index)
