use Rattle.sercos_master.proofs.Words.{rules, sym, ◌∙◌, past}
use Rattle.sercos_master.proofs.Followed.{holds_plan}
use Rattle.sercos_master.proofs.master.Master+Cp2.rise.Goals as goal

pub returns-then-is_done-clause-exactly : goal.returns-then-is_done-clause-exactly
returns-then-is_done-clause-exactly c = λ s p stands. sym c.if-is_done.true ∙ c.is_done.ensures 2 s p stands

pub returns-else-is_done-clause-exactly : goal.returns-else-is_done-clause-exactly
returns-else-is_done-clause-exactly c = λ s p stands. sym c.if-is_done.false ∙ c.is_done.ensures 2 s p stands

pub returns-then-is_done-clause-plan : goal.returns-then-is_done-clause-plan
returns-then-is_done-clause-plan c = λ s requests h stands.
    holds_plan s requests h (search rules) stands (sym (c.is_done.ensures 2 s (past s requests h) stands) ∙ c.if-is_done.true)
