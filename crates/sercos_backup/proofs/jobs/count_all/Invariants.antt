use Rattle.std.proofs.Common.{◌≡◌, ◌*◌, ◌≤◌, length, take}
use Rattle.sercos_backup.specs.Jobs.{data_jobs}
use Rattle.sercos_backup.proofs.jobs.count_all.Given as goal

abbrev pub invariant-loop-list : goal.invariant-loop-list
invariant-loop-list l = (l.count ≡ length (data_jobs (take l.list-index l.lists))) × (l.count ≤ 512 * l.list-index)
