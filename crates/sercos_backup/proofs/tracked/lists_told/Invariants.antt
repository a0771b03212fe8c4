use Rattle.std.proofs.Common.{◌≡◌, map, take}
use Rattle.sercos_backup.specs.Tracking.{list_told}
use Rattle.sercos_backup.proofs.tracked.lists_told.Given as goal

abbrev pub invariant-loop-request : goal.invariant-loop-request
invariant-loop-request l = l.lists.items ≡ map list_told (take l.request-index l.list)
