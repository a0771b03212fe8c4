use Rattle.sercos_telegram.proofs.Spellings.{record-appended}
use Rattle.sercos_telegram.proofs.law.joint_law.Goals as goal

pub returns : goal.returns
returns c = λ control info before values after some address. record-appended control info before values after some address
