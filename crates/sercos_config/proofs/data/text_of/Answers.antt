use Rattle.std.proofs.Common.{sym, subst, arith}
use Rattle.sercos_model.specs.Bits.{AreBytes}
use Rattle.sercos_model.proofs.BitLemmas.{AreBytes-by_index}
use Rattle.sercos_config.proofs.data.text_of.Goals as goal

pub returns-clause-typed : goal.returns-clause-typed
returns-clause-typed c = subst AreBytes (sym c.assign.ensures) (AreBytes-by_index c.args.bytes.now (λ i. omega (arith, c.type_inv.bytes i)))
