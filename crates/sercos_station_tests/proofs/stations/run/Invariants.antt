use Rattle.std.proofs.Common.{◌≡◌, ◌+◌, ◌≤◌}
use Rattle.sercos_ring.specs.Kept.{cycles_made, drives_in}
use Rattle.sercos_station_tests.proofs.stations.run.Given as goal

abbrev pub invariant-loop-k : goal.invariant-loop-k
invariant-loop-k g l = (cycles_made l.ring ≤ cycles_made l.initial.ring + l._k) × (drives_in l.ring ≡ drives_in l.initial.ring)
