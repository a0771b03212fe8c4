use Rattle.std.proofs.Common.{◌≤◌, length, ◌∙◌, sym, ap, map, None, arith}
use Rattle.std.proofs.lemmas.List.{take_all}
use Rattle.sercos_backup.specs.Tracking.{with_outcome}
use Rattle.sercos_backup.proofs.TrackLemmas.{none_told}
use Rattle.sercos_backup.proofs.tracked.track.Goals as goal

pub returns : goal.returns
returns c =
    let ended : length c.args.jobs.now ≤ c.loop-job.job-index = omega (arith, c.loop-job-test.false) in
    c.loop-job.invariant ∙ ap (map (with_outcome None)) (take_all c.loop-job.job-index c.args.jobs.now ended) ∙ sym (none_told 1 c.args.jobs.now)
