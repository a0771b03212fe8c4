use Rattle.sercos_master.proofs.Words.{rules, sym, ◌∙◌, refl}
use Rattle.sercos_master.proofs.Configured.{all_configured}
use Rattle.sercos_master.proofs.Followed.{holds_plan}
use Rattle.sercos_master.proofs.master.Master+Cp3.rise.Goals as goal

pub returns-then-is_done-clause-exactly : goal.returns-then-is_done-clause-exactly
returns-then-is_done-clause-exactly c = λ s p stands. sym c.if-is_done.true ∙ c.is_done.ensures 3 s p stands

pub returns-else-is_done-clause-exactly : goal.returns-else-is_done-clause-exactly
returns-else-is_done-clause-exactly c = λ s p stands. sym c.if-is_done.false ∙ c.is_done.ensures 3 s p stands

pub returns-then-is_done-clause-plan : goal.returns-then-is_done-clause-plan
returns-then-is_done-clause-plan c = λ s requests h stands.
    holds_plan s requests h (search rules) stands (all_configured s requests h (rw stands.phase_is refl))
