use Rattle.std.proofs.Common.{◌≡◌, map}
use Rattle.std.specs.List.{range_with_len}
use Rattle.sercos_config.specs.Generated.{generated_job}
use Rattle.sercos_config.proofs.generated.generated_jobs.Given as goal

abbrev pub invariant-loop-place : goal.invariant-loop-place
invariant-loop-place l = l.jobs.items ≡ map generated_job (range_with_len 1 l.place)
