use Rattle.std.proofs.Common.{◌≡◌, drop}
use Rattle.sercos_block.specs.Rings.{row_in}
use Rattle.sercos_block.proofs.carried.row_in.Given as goal

abbrev pub invariant-loop-row : goal.invariant-loop-row
invariant-loop-row l = row_in (drop l.row-index l.rows) l.idn.raw ≡ row_in l.rows l.idn.raw
