use Rattle.std.proofs.Common.{◌≡◌, length}
use Rattle.sercos_script.specs.Stretches.{AreDone}
use Rattle.sercos_script.proofs.stretches.gather_group.Given as goal

abbrev pub invariant-loop-k : goal.invariant-loop-k
invariant-loop-k l = record {
  done : AreDone l.script l.cycle l.soonest l.k l.acting.items;
  long : length l.soonest ≡ 512;
}
