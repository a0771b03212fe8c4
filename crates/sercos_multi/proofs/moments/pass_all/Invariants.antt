use Rattle.std.proofs.Common.{◌≡◌, List, length}
use Rattle.sercos_trace.specs.Written.{seen}
use Rattle.sercos_multi.specs.Merged.{Voice}
use Rattle.sercos_multi.specs.Going.{AreFrom}
use Rattle.sercos_multi.specs.Parts.{AllAt, ArePassing}
use Rattle.sercos_multi.proofs.moments.pass_all.Given as goal

abbrev pub invariant-loop-k : goal.invariant-loop-k
invariant-loop-k g l = record {
  count : length l.parts.items ≡ length l.initial.parts.items;
  all : (voices : List Voice) → AllAt g.L.BitLink.carry g.L.BitLink.restart l.initial.parts.items voices → AreFrom l.moment voices →
      ArePassing g.L.BitLink.carry g.L.BitLink.restart l.time l.moment l.parts.items (seen g.K.Sink.held g.K.Sink.faults g.K.Sink.room l.initial.sink) (seen g.K.Sink.held g.K.Sink.faults g.K.Sink.room l.sink) l.timed l.k voices;
}
