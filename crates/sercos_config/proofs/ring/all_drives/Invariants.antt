use Rattle.std.proofs.Common.{◌≡◌, length}
use Rattle.sercos_config.specs.Ring.{places_below}
use Rattle.sercos_config.proofs.ring.all_drives.Given as goal

abbrev pub invariant-loop-place : goal.invariant-loop-place
invariant-loop-place l = (l.order.items ≡ places_below l.place) × (length l.order.items ≡ l.place)
