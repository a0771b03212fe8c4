use Rattle.std.proofs.Common.{◌≡◌, ◌*◌, ◌++◌, map, drop}
use Rattle.sercos_step.specs.Steps.{AreTypedJobs}
use Rattle.sercos_backup.specs.Jobs.{reads_data, numbers_in}
use Rattle.sercos_backup.proofs.jobs.push_listed.Given as goal

abbrev pub invariant-loop-place : goal.invariant-loop-place
invariant-loop-place l =
    (l.jobs.items ++ map (reads_data l.address) (numbers_in (drop (2 * l.place) l.bytes)) ≡ l.initial.jobs.items ++ map (reads_data l.address) (numbers_in l.bytes))
    × (AreTypedJobs l.initial.jobs.items → AreTypedJobs l.jobs.items)
