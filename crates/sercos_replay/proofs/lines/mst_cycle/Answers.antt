use Rattle.std.proofs.Common.{sym, ap, ◌∙◌}
use Rattle.sercos_trace.specs.Views.{SentView}
use Rattle.sercos_replay.specs.Stations.{kind_cycle, mst_cycle}
use Rattle.sercos_replay.proofs.LineLemmas.{other_cycle}
use Rattle.sercos_replay.proofs.lines.mst_cycle.Goals as goal

pub returns-in-Telegram : goal.returns-in-Telegram
unfolding mst_cycle
returns-in-Telegram c = rw c.in-Telegram.is (c.kind_cycle.ensures ∙ ap (λ (s : SentView). kind_cycle s.kind c.in-Telegram.cycle) c.sent.view_is)

pub returns-in_default : goal.returns-in_default
returns-in_default c = sym (other_cycle _ c.in_default.not-Telegram)
