use Rattle.sercos_show.proofs.SpelledLines.{line_spelled, line_taken}
use Rattle.sercos_show.proofs.WrittenLines.{line_written}
use Rattle.sercos_show.proofs.law.line_law.Goals as goal

pub returns-clause-spelled : goal.returns-clause-spelled
returns-clause-spelled c = line_spelled

pub returns-clause-taken : goal.returns-clause-taken
returns-clause-taken c = line_taken

pub returns-clause-written : goal.returns-clause-written
returns-clause-written c = line_written
