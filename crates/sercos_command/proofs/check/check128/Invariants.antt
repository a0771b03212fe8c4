use Rattle.std.proofs.Common.{◌≡◌, ◌≤◌, length, take}
use Rattle.sercos_command.specs.Checks.{unfit_for_phase_4}
use Rattle.sercos_command.proofs.check.check128.Given as goal

abbrev pub invariant-loop-index : goal.invariant-loop-index
invariant-loop-index l = record {
  found : l.unfit.items ≡ unfit_for_phase_4 (take l.index l.store);
  few : length l.unfit.items ≤ l.index;
}
