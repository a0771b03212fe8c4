use Rattle.std.proofs.Common.{◌≡◌, ◌+◌, ◌*◌, ◌≤◌, take}
use Rattle.sercos_block.specs.Rings.{listed_len}
use Rattle.sercos_block.proofs.carried.listed_len.Given as goal

abbrev pub invariant-loop-idn : goal.invariant-loop-idn
invariant-loop-idn l = (l.len ≡ listed_len l.blocks (take l.idn-index l.idns)) × (l.len ≤ 4 + 4 * l.idn-index) × (4 ≤ l.len)
