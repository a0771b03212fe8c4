use Rattle.std.proofs.Common.{ap, ◌∙◌, ◌++◌, arith}
use Rattle.sercos_text.specs.Lists.{list_text}
use Rattle.sercos_text.specs.declared.list.Item.TheVariants.{Address}
use Rattle.sercos_text.proofs.WriteSteps.{item_written, list_end, map_same}
use Rattle.sercos_text.proofs.writer.push_addresses.Goals as goal

pub loop-address-preserved : goal.loop-address-preserved
loop-address-preserved c = record {
  whole = item_written (λ x. x) Address c.args.addresses.now c.loop-address.address-index 0 _ _ _ (omega arith) c.loop-address.invariant.whole c.push_address.ensures.value;
  room = omega (arith, c.loop-address.invariant.room, c.push_address.ensures.bound);
}

pub returns-clause-value : goal.returns-clause-value
returns-clause-value c =
    list_end (λ x. x) Address c.args.addresses.now c.loop-address.address-index _ _ (omega arith) c.loop-address.invariant.whole
    ∙ ap (λ t. c.args.line.now ++ list_text Address t) (map_same c.args.addresses.now)
