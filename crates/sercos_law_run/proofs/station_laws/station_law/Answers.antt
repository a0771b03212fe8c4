use Rattle.sercos_law_run.proofs.Stations.Cycles.{always_plain}
use Rattle.sercos_law_run.proofs.Stations.Senders.{sends_alone}
use Rattle.sercos_law_run.proofs.station_laws.station_law.Goals as goal

pub returns : goal.returns
returns c = record { plain = always_plain c.typed_law.ensures.always; alone = sends_alone c.typed_law.ensures.spelled }
