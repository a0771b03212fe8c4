use Rattle.std.proofs.Common.{rules, Fits, w32}
use Rattle.sercos_config.proofs.BlockLemmas.{typed_by}
use Rattle.sercos_config.proofs.block.read_block.Goals as goal

pub returns-clause-typed : goal.returns-clause-typed
returns-clause-typed c =
    let step : Fits w32 c.in_ok-step.step = search rules in
    typed_by _ c.in_ok-idn.ensures.typed c.in_ok-attribute.ensures.typed step.fits c.in_ok-value.ensures.typed
