use Rattle.sercos_check.proofs.RuleLemmas.{number_rules}
use Rattle.sercos_check.proofs.law.rule_law.Goals as goal

pub returns : goal.returns
returns c = number_rules
