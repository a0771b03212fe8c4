use Rattle.std.proofs.Common.{◌≡◌, drop}
use Rattle.sercos_check.specs.Seen.{drive_with}
use Rattle.sercos_check.proofs.drives.drive_with.Given as goal

abbrev pub invariant-loop-drive : goal.invariant-loop-drive
invariant-loop-drive l = drive_with (drop l.drive-index l.drives) l.address ≡ drive_with l.drives l.address
