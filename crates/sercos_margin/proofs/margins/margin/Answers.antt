use Rattle.sercos_margin.proofs.FoundLemmas.{margin_is}
use Rattle.sercos_margin.proofs.margins.margin.Goals as goal

pub returns-clause-value : goal.returns-clause-value
returns-clause-value c =
    margin_is c.args.w.now c.args.index c.args.t c.margin_between.result c.requires.valid c.requires.limit c.requires.fits c.margin_between.ensures
