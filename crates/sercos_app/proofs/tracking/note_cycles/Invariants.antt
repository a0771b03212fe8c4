use Rattle.std.proofs.Common.{◌≤◌}
use Rattle.sercos_ring.specs.Kept.{RingStandsFor, cycles_made}
use Rattle.sercos_app.specs.Tracking.{HasNoted}
use Rattle.sercos_app.proofs.tracking.note_cycles.Given as goal

abbrev pub invariant-loop-k : goal.invariant-loop-k
invariant-loop-k g l = record {
  noted : HasNoted (RingStandsFor g.L.BitLink.carry g.L.BitLink.restart) l.initial.ring l.ring l._k l.initial.list l.list;
  made : cycles_made l.ring ≤ l._k;
}
