use Rattle.sercos_service_drive.proofs.AllowedWrites.{grows, alike, allowed}
use Rattle.sercos_service_drive.proofs.law.writes_law.Goals as goal

pub returns-clause-grows : goal.returns-clause-grows
returns-clause-grows c = grows

pub returns-clause-alike : goal.returns-clause-alike
returns-clause-alike c = alike

pub returns-clause-allowed : goal.returns-clause-allowed
returns-clause-allowed c = allowed
