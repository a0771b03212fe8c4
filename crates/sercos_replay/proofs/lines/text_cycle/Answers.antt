use Rattle.std.proofs.Common.{sym, ap, ◌∙◌}
use Rattle.sercos_checking.proofs.CheckingLemmas.{read_good}
use Rattle.sercos_replay.specs.Stations.{mst_cycle}
use Rattle.sercos_replay.proofs.LineLemmas.{unread_cycle}
use Rattle.sercos_replay.proofs.lines.text_cycle.Goals as goal

pub returns-in-Ok : goal.returns-in-Ok
returns-in-Ok c = c.mst_cycle.ensures ∙ ap mst_cycle (sym (read_good _ _ c.in-Ok.ensures.ok))

pub returns-in-Err : goal.returns-in-Err
returns-in-Err c = sym (unread_cycle _ c.in-Err.ensures.ok)
