use Rattle.std.proofs.Common.{◌≡◌, drop}
use Rattle.sercos_command.specs.Kept.{find_set}
use Rattle.sercos_command.proofs.set.find_set.Given as goal

abbrev pub invariant-loop-command : goal.invariant-loop-command
invariant-loop-command l = find_set l.idn.raw (drop l.command-index l.set) ≡ find_set l.idn.raw l.set
