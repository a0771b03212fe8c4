use Rattle.std.proofs.Common.{◌≡◌, map}
use Rattle.std.specs.List.{range_with_len}
use Rattle.sercos_config.specs.Generated.{generated_fault}
use Rattle.sercos_config.proofs.generated.generated_faults.Given as goal

abbrev pub invariant-loop-place : goal.invariant-loop-place
invariant-loop-place l = l.faults.items ≡ map (generated_fault l.n) (range_with_len 1 l.place)
