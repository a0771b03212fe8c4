use Rattle.std.proofs.Common.{◌≡◌, take}
use Rattle.sercos_margin.proofs.changes.wishes_of.Given as goal

abbrev pub invariant-loop-drive : goal.invariant-loop-drive
invariant-loop-drive l = l.wishes.items ≡ take l.drive-index l.drives
