use Rattle.std.proofs.Common.{◌≡◌, take}
use Rattle.std.specs.List.{flat_map}
use Rattle.sercos_step.specs.Steps.{AreTypedJobs}
use Rattle.sercos_backup.specs.Jobs.{listed_jobs}
use Rattle.sercos_backup.proofs.jobs.all_listed.Given as goal

abbrev pub invariant-loop-list : goal.invariant-loop-list
invariant-loop-list l = (l.jobs.items ≡ flat_map listed_jobs (take l.list-index l.lists)) × AreTypedJobs l.jobs.items
