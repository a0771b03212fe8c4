use Rattle.std.proofs.Common.{List, take}
use Rattle.std.specs.List.{flat_map}
use Rattle.sercos_trace.specs.Written.{seen, HasTaken}
use Rattle.sercos_multi.specs.Merged.{Voice, head_lines}
use Rattle.sercos_multi.specs.Parts.{AllAt}
use Rattle.sercos_multi.proofs.moments.write_heads.Given as goal

abbrev pub invariant-loop-k : goal.invariant-loop-k
invariant-loop-k g l =
    (voices : List Voice) → AllAt g.L.BitLink.carry g.L.BitLink.restart l.parts voices →
    HasTaken (seen g.K.Sink.held g.K.Sink.faults g.K.Sink.room l.initial.sink) (seen g.K.Sink.held g.K.Sink.faults g.K.Sink.room l.sink) (flat_map head_lines (take l.k voices))
