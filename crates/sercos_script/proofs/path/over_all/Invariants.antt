use Rattle.std.proofs.Common.{◌≡◌, drop}
use Rattle.sercos_script.specs.Ways.{over_passage, over_all}
use Rattle.sercos_script.proofs.path.over_all.Given as goal

-- what is left of the faults leaves the same
abbrev pub invariant-loop-fault : goal.invariant-loop-fault
invariant-loop-fault l = over_all (over_passage l.p l.way) (drop l.fault-index l.faults) l.bits ≡ over_all (over_passage l.p l.way) l.faults l.initial.bits
