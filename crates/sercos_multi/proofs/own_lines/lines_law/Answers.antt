use Rattle.sercos_multi.proofs.OwnRuns.{lines_are_traces}
use Rattle.sercos_multi.proofs.own_lines.lines_law.Goals as goal

pub returns : goal.returns
returns c = record { traces = lines_are_traces }
