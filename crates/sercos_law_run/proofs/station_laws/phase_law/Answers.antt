use Rattle.sercos_law_run.proofs.Stations.Phases.{stands_by_mst, rises_by_one, drops_by_cause}
use Rattle.sercos_law_run.proofs.station_laws.phase_law.Goals as goal

pub returns : goal.returns
returns c = record { stands = stands_by_mst; rises = rises_by_one; drops = drops_by_cause }
