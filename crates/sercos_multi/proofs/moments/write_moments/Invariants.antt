use Rattle.std.proofs.Common.{◌-◌, ◌<◌, ◌≤◌, List, length}
use Rattle.std.specs.List.{sum_by}
use Rattle.sercos_trace.specs.Written.{seen}
use Rattle.sercos_multi.specs.Merged.{Voice, over_by, rest_text}
use Rattle.sercos_multi.specs.Parts.{AllAt, AreOn}
use Rattle.sercos_multi.proofs.moments.write_moments.Given as goal

abbrev pub invariant-moments : goal.invariant-moments
invariant-moments g l = record {
  on : (voices : List Voice) → AllAt g.L.BitLink.carry g.L.BitLink.restart l.initial.parts.items voices → 0 < length voices →
      AreOn g.L.BitLink.carry g.L.BitLink.restart l.time l.from l.together l.parts.items (seen g.K.Sink.held g.K.Sink.faults g.K.Sink.room l.initial.sink) (seen g.K.Sink.held g.K.Sink.faults g.K.Sink.room l.sink) (rest_text l.time voices 0 (sum_by (over_by l.time) voices) 0);
  few : l.together ≤ l.from;
  soon : l.from ≤ 50000000;
}

abbrev pub decreases-moments : goal.decreases-moments
decreases-moments g l = 50000001 - l.from
