use Rattle.sercos_master.proofs.Words.{sym, ◌∙◌}
use Rattle.sercos_master.proofs.master.Master+Cp1.rise.Goals as goal

pub returns-then-is_done-clause-exactly : goal.returns-then-is_done-clause-exactly
returns-then-is_done-clause-exactly c = λ s p stands. sym c.if-is_done.true ∙ c.is_done.ensures 1 s p stands

pub returns-else-is_done-clause-exactly : goal.returns-else-is_done-clause-exactly
returns-else-is_done-clause-exactly c = λ s p stands. sym c.if-is_done.false ∙ c.is_done.ensures 1 s p stands
