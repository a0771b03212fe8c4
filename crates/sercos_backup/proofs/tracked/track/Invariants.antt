use Rattle.std.proofs.Common.{◌≡◌, map, take, None}
use Rattle.sercos_backup.specs.Tracking.{with_outcome}
use Rattle.sercos_backup.proofs.tracked.track.Given as goal

abbrev pub invariant-loop-job : goal.invariant-loop-job
invariant-loop-job l = l.list.items ≡ map (with_outcome None) (take l.job-index l.jobs)
