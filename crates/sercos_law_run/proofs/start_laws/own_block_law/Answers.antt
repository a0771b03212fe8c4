use Rattle.sercos_law_run.proofs.Start.OwnLemmas.{own_stay, own_at_opening}
use Rattle.sercos_law_run.proofs.start_laws.own_block_law.Goals as goal

pub returns : goal.returns
returns c = record { stay = own_stay; opening = own_at_opening }
