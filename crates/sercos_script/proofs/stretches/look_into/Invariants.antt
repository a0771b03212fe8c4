use Rattle.std.proofs.Common.{◌≡◌, ◌++◌, ◌+◌, ◌≤◌, ◌<◌, ℕ, [], take}
use Rattle.std.specs.List.{filter}
use Rattle.sercos_script.specs.Scripts.{acts}
use Rattle.sercos_script.proofs.stretches.look_into.Given as goal

abbrev pub invariant-loop-fault : goal.invariant-loop-fault
invariant-loop-fault l = record {
  acting : l.acting.items ≡ l.initial.acting.items ++ filter (acts l.cycle) (take l.fault-index l.faults);
  soonest : (c : ℕ) → l.cycle + 1 ≤ c → c < l.soonest → filter (acts c) (take l.fault-index l.faults) ≡ [];
}
