use Rattle.std.proofs.Common.{◌≡◌, ◌*◌, length}
use Rattle.sercos_script.specs.Stretches.{AreDone}
use Rattle.sercos_script.proofs.stretches.gather.Given as goal

abbrev pub invariant-loop-group : goal.invariant-loop-group
invariant-loop-group l = record {
  done : AreDone l.script l.cycle l.soonest (16 * l.group) l.acting.items;
  long : length l.soonest ≡ 512;
}
