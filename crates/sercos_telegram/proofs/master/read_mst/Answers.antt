use Rattle.std.proofs.Common.{ap, get_or, length}
use Rattle.sercos_telegram.proofs.Spellings.{no_fault}
use Rattle.sercos_telegram.proofs.master.read_mst.Goals as goal

pub returns-in_err-test_head-clause-only : goal.returns-in_err-test_head-clause-only
returns-in_err-test_head-clause-only c = λ phase low spells.
    absurd (no_fault _ _ _ _ c.in_err-test_head.ensures.fault (ap length spells) (ap (λ xs. get_or xs 0 0) spells))
