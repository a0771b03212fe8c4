use Rattle.std.proofs.Common.{◌≡◌, length, take, map}
use Rattle.sercos_trace.specs.Texts.{address_at}
use Rattle.sercos_trace.proofs.writing.addresses_of.Given as goal

abbrev pub invariant-loop-place : goal.invariant-loop-place
invariant-loop-place l = record {
  items : l.addresses.items ≡ map (address_at l.wishes) (take l.place-index l.places);
  count : length l.addresses.items ≡ l.place-index;
}
