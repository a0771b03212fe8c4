-- The last place so far and the faults of the kinds that are left give the fault of all, and the first kind is among these.
use Rattle.std.proofs.Common.{◌≡◌, ◌≤◌, ◌+◌, Some, drop, length}
use Rattle.sercos_trace.specs.Kinds.{kinds_fault, later, first_kind}
use Rattle.sercos_trace.proofs.kind.read_kinds.Given as goal

abbrev pub invariant-loop-kind : goal.invariant-loop-kind
invariant-loop-kind l = record {
  fault : kinds_fault l.kinds l.line ≡ later (Some l.last) (kinds_fault (drop l.kind-index l.kinds) l.line);
  first : first_kind (drop l.kind-index l.kinds) l.line ≡ first_kind l.kinds l.line;
  within : l.last ≤ length l.line + 1;
}
