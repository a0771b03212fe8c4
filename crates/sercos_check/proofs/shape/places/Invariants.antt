use Rattle.std.proofs.Common.{◌≡◌, length, take}
use Rattle.sercos_check.specs.Shape.{places}
use Rattle.sercos_check.proofs.shape.places.Given as goal

abbrev pub invariant-loop-address : goal.invariant-loop-address
invariant-loop-address l = record {
  items : l.order.items ≡ places l.drives (take l.address-index l.addresses);
  count : length l.order.items ≡ l.address-index;
}
