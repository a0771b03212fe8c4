use Rattle.std.proofs.Common.{◌≡◌, map}
use Rattle.std.specs.List.{range_with_len}
use Rattle.sercos_config.specs.Generated.{generated_drive}
use Rattle.sercos_config.proofs.generated.generated_drives.Given as goal

abbrev pub invariant-loop-place : goal.invariant-loop-place
invariant-loop-place l = l.drives.items ≡ map generated_drive (range_with_len 1 l.place)
