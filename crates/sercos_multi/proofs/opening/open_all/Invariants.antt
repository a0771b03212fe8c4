use Rattle.std.proofs.Common.{◌≡◌, ◌<◌, drop}
use Rattle.sercos_multi.specs.Divided.{parts_of}
use Rattle.sercos_multi.specs.Opening.{AreOpened}
use Rattle.sercos_script.specs.Scripts.{carried, restarts_at}
use Rattle.sercos_script.specs.declared.script.Scripted.{Scripted}
use Rattle.sercos_multi.proofs.opening.open_all.Given as goal

abbrev pub invariant-loop-k : goal.invariant-loop-k
invariant-loop-k l = record {
  text : l.k < l.count → drop l.k (parts_of l.bytes) ≡ parts_of l.rest;
  opened : AreOpened (λ (s : Scripted). carried s.stations s.faults) (λ (s : Scripted). restarts_at s.faults) (parts_of l.bytes) l.k l.parts.items;
}
