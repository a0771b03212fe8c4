use Rattle.std.proofs.Common.{◌≤◌}
use Rattle.sercos_trace.specs.Written.{seen}
use Rattle.sercos_ring.specs.Kept.{RingStandsFor, cycles_made}
use Rattle.sercos_app.specs.Journals.{HasWritten}
use Rattle.sercos_app.proofs.running.write_cycles.Given as goal

abbrev pub invariant-loop-k : goal.invariant-loop-k
invariant-loop-k g l = record {
  written : HasWritten (RingStandsFor g.L.BitLink.carry g.L.BitLink.restart) l.w l.initial.ring l.ring l._k (seen g.K.Sink.held g.K.Sink.faults g.K.Sink.room l.initial.sink) (seen g.K.Sink.held g.K.Sink.faults g.K.Sink.room l.sink) l.totals;
  made : cycles_made l.ring ≤ l._k;
}
