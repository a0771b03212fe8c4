use Rattle.std.proofs.Common.{◌≡◌, length}
use Rattle.sercos_layer_tests.proofs.backups.lists.Given as goal

abbrev pub invariant-loop-place : goal.invariant-loop-place
invariant-loop-place l = length l.lists.items ≡ l.place
