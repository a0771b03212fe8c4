use Rattle.std.proofs.Common.{◌≡◌, map, take}
use Rattle.sercos_c.specs.declared.slots.SercosSlot.{SercosSlot}
use Rattle.sercos_c.proofs.slots.write_slots.Given as goal

abbrev pub invariant-loop-place : goal.invariant-loop-place
invariant-loop-place l = record {
  t1 : map (λ (s : SercosSlot). s.t1) (take l.place l.slots) ≡ take l.place l.t1;
  position : map (λ (s : SercosSlot). s.position) (take l.place l.slots) ≡ take l.place l.position;
}
