use Rattle.std.proofs.Common.{◌≡◌, map, take}
use Rattle.sercos_backup.specs.Jobs.{list_number, reads_data}
use Rattle.sercos_backup.proofs.jobs.list_jobs.Given as goal

abbrev pub invariant-loop-drive : goal.invariant-loop-drive
invariant-loop-drive l = l.jobs.items ≡ map (λ d. reads_data d.address list_number) (take l.drive-index l.drive-items)
