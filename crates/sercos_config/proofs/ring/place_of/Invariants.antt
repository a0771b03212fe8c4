use Rattle.std.proofs.Common.{◌≡◌, drop}
use Rattle.sercos_config.specs.Ring.{place_from}
use Rattle.sercos_config.proofs.ring.place_of.Given as goal

abbrev pub invariant-loop-place : goal.invariant-loop-place
invariant-loop-place l = place_from l.place l.address (drop l.place l.drives) ≡ place_from 0 l.address l.drives
