use Rattle.sercos_law_channel.proofs.Pace.LateRuns.{comes_in_time, takes_time_since}
use Rattle.sercos_law_channel.proofs.Pace.AgeRuns.{ages_in_time, opens_always, keeps_time}
use Rattle.sercos_law_channel.proofs.Pace.ExactAges.{answers_at_age}
use Rattle.sercos_law_channel.proofs.pace_laws.stretch_law.Goals as goal

pub returns : goal.returns
returns c = record {
  in_time = comes_in_time;
  since = takes_time_since;
  ages = ages_in_time;
  always = opens_always;
  keeps = keeps_time;
  answers = answers_at_age;
}
