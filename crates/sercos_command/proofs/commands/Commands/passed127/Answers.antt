use Rattle.std.proofs.Common.{◌∙◌, ap}
use Rattle.sercos_command.specs.Kept.{is_from}
use Rattle.sercos_command.proofs.CallLemmas.{passed_127_stands}
use Rattle.sercos_command.proofs.commands.Commands.passed127.Goals as goal

pub returns-clause-rule : goal.returns-clause-rule
returns-clause-rule c h stands order late =
    let s = rw (← c.self.view_is) at stands in
    c.is_from.ensures ∙ passed_127_stands _ h c.args.cycle s order late

pub returns-clause-kept : goal.returns-clause-kept
returns-clause-kept c h stands =
    let s = rw (← c.self.view_is) at stands in
    c.is_from.ensures ∙ ap (λ first. is_from first c.args.cycle) s.passed_127_is
