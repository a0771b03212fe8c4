use Rattle.sercos_law_channel.proofs.Pace.PassedChecks.{passes_by_setting, passes_last, stays_passed, stays_passed_last}
use Rattle.sercos_law_channel.proofs.pace_laws.passes_law.Goals as goal

pub returns : goal.returns
returns c = record {
  setting = passes_by_setting;
  last = passes_last;
  stays = stays_passed;
  stays_last = stays_passed_last;
}
