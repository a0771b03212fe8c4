use Rattle.sercos_drive.proofs.DriveLemmas.{those_at}
use Rattle.sercos_drive.proofs.RecordLemmas.{handed, phase_below}
use Rattle.sercos_drive.proofs.law.drive_law.Goals as goal

pub returns-clause-handed : goal.returns-clause-handed
returns-clause-handed c = handed

pub returns-clause-those : goal.returns-clause-those
returns-clause-those c = those_at c.writes_law.ensures.alike

pub returns-clause-phases : goal.returns-clause-phases
returns-clause-phases c = phase_below
