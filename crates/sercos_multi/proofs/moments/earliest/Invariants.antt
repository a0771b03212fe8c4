use Rattle.std.proofs.Common.{◌<◌, List, take, IfSome}
use Rattle.sercos_multi.specs.Merged.{Voice}
use Rattle.sercos_multi.specs.Going.{AreFrom}
use Rattle.sercos_multi.specs.Parts.{AllAt, IsEarliest}
use Rattle.sercos_multi.proofs.moments.earliest.Given as goal

abbrev pub invariant-loop-k : goal.invariant-loop-k
invariant-loop-k g l = record {
  is : (voices : List Voice) → AllAt g.L.BitLink.carry g.L.BitLink.restart l.parts voices → AreFrom l.from voices → IsEarliest l.best (take l.k voices);
  soon : IfSome l.best (λ m. m < 50000000);
}
