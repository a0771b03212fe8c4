use Rattle.std.proofs.Common.{◌≡◌, map, take}
use Rattle.sercos_c.specs.Slots.{link_of}
use Rattle.sercos_c.proofs.slots.write_links.Given as goal

abbrev pub invariant-loop-place : goal.invariant-loop-place
invariant-loop-place l = map link_of (take l.place l.links) ≡ take l.place l.from
