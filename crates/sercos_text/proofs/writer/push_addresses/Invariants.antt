use Rattle.std.proofs.Common.{◌≡◌, ◌+◌, ◌*◌, ◌≤◌, ◌++◌, length, drop, map}
use Rattle.sercos_text.specs.Lists.{list_text}
use Rattle.sercos_text.specs.declared.list.Item.TheVariants.{Address}
use Rattle.sercos_text.proofs.writer.push_addresses.Given as goal

abbrev pub invariant-loop-address : goal.invariant-loop-address
invariant-loop-address l = record {
  whole : l.line ++ list_text Address (map (λ x. x) (drop l.address-index l.addresses)) ≡ l.initial.line ++ list_text Address (map (λ x. x) l.addresses);
  room : length l.line ≤ length l.initial.line + 4 * l.address-index;
}
