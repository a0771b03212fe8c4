use Rattle.std.proofs.Common.{rules}
use Rattle.sercos_telegram.proofs.Spellings.{at-spelled}
use Rattle.sercos_telegram.proofs.drive.write_at.Goals as goal

pub returns-clause-spells : goal.returns-clause-spells
returns-clause-spells c = at-spelled _ _ _ _ _ (search rules)
