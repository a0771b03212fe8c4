use Rattle.std.proofs.Common.{◌≡◌, take}
use Rattle.sercos_timing.specs.Valid.{addresses}
use Rattle.sercos_timing.proofs.validity.addresses.Given as goal

abbrev pub invariant-loop-drive : goal.invariant-loop-drive
invariant-loop-drive l = l.addresses.items ≡ addresses (take l.drive-index l.drives)
