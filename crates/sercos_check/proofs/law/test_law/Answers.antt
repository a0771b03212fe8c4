use Rattle.sercos_check.proofs.TestLemmas.{tells_following}
use Rattle.sercos_check.proofs.law.test_law.Goals as goal

pub returns-clause-follows : goal.returns-clause-follows
returns-clause-follows c = tells_following c.valid_law.ensures
