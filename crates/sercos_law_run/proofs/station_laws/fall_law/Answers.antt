use Rattle.sercos_law_run.proofs.Stations.Falls.{falls_have_cause, mst_comes_first}
use Rattle.sercos_law_run.proofs.station_laws.fall_law.Goals as goal

pub returns : goal.returns
returns c = record { causes = falls_have_cause; first = mst_comes_first }
