use Rattle.sercos_law_channel.proofs.Pace.OnTimeRuns.{on_time, answers_on_time, takes_time}
use Rattle.sercos_law_channel.proofs.pace_laws.time_law.Goals as goal

pub returns : goal.returns
returns c = record {
  on_time = on_time;
  answers = answers_on_time;
  time = takes_time;
}
