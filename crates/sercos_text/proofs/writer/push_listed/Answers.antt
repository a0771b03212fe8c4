use Rattle.std.proofs.Common.{arith}
use Rattle.sercos_idn.specs.declared.idn.Idn.{Idn}
use Rattle.sercos_text.specs.declared.list.Item.TheVariants.{Ident}
use Rattle.sercos_text.proofs.WriteSteps.{item_written, list_end}
use Rattle.sercos_text.proofs.writer.push_listed.Goals as goal

pub loop-idn-preserved : goal.loop-idn-preserved
loop-idn-preserved c = record {
  whole = item_written (λ (idn : Idn). idn.raw) Ident c.args.idns.now c.loop-idn.idn-index _ _ _ _ (omega arith) c.loop-idn.invariant.whole c.push_ident.ensures.value;
  room = omega (arith, c.loop-idn.invariant.room, c.push_ident.ensures.bound);
}

pub returns-clause-value : goal.returns-clause-value
returns-clause-value c = list_end (λ (idn : Idn). idn.raw) Ident c.args.idns.now c.loop-idn.idn-index _ _ (omega arith) c.loop-idn.invariant.whole
