use Rattle.std.proofs.Common.{◌≡◌, map, take}
use Rattle.sercos_c.specs.Slots.{wish_of}
use Rattle.sercos_c.proofs.slots.drives_of.Given as goal

abbrev pub invariant-loop-drive : goal.invariant-loop-drive
invariant-loop-drive l = l.wishes.items ≡ map wish_of (take l.drive-index l.drives)
