use Rattle.std.proofs.Common.{rules, refl}
use Rattle.std.proofs.lemmas.List.{map_more}
use Rattle.sercos_check.specs.Shape.{drive_place}
use Rattle.sercos_check.proofs.shape.places.Goals as goal

pub loop-address-preserved : goal.loop-address-preserved
loop-address-preserved c = record {
  items = rw (c.push.ensures.items, c.loop-address.invariant.items, c.place.ensures.value, map_more (drive_place c.args.drives.now) c.args.addresses.now c.loop-address.address-index 0 (search rules)) refl;
  count = search rules;
}
