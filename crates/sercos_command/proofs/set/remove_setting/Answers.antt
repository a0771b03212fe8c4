use Rattle.std.proofs.Common.{◌==◌, not, rules}
use Rattle.arrayvec.proofs.ArrayVecLemmas.{filter-from_retain}
use Rattle.sercos_command.specs.declared.commands.SetCommand.{SetCommand}
use Rattle.sercos_command.proofs.set.remove_setting.Goals as goal

pub returns : goal.returns
returns c =
    filter-from_retain _ (λ (s : SetCommand). not (s.idn.raw == c.args.idn.raw)) _ (λ s kept f' s' called. search rules) _ _ c.retain.ensures.filtered
