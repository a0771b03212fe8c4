use Rattle.sercos_law_channel.proofs.Pace.CallAges.{stays_a_run, calls_begin, ages_are_those, ages_before_end, none_late}
use Rattle.sercos_law_channel.proofs.pace_laws.calls_law.Goals as goal

pub returns : goal.returns
returns c = record {
  stays = stays_a_run;
  begin = calls_begin;
  ages = ages_are_those;
  before = ages_before_end;
  late = none_late;
}
