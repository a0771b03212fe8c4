use Rattle.std.proofs.Common.{◌≡◌, true, [], drop, length}
use Rattle.sercos_block.specs.Rings.{are_turns}
use Rattle.sercos_config.specs.Ring.{turns_onto}
use Rattle.sercos_config.proofs.ring.read_turns.Given as goal

abbrev pub invariant-loop-address : goal.invariant-loop-address
invariant-loop-address l =
    (are_turns (length l.drives) [] l.order.items ≡ true)
    × (length l.order.items ≡ l.address-index)
    × (turns_onto l.drives l.keys.place l.key l.order.items (drop l.address-index l.addresses) ≡ turns_onto l.drives l.keys.place l.key [] l.addresses)
