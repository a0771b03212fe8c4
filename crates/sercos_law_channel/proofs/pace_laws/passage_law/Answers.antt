use Rattle.sercos_law_channel.proofs.Pace.WholeCycles.{stands_throughout, stays_clean, hears_throughout, is_clean_or_down, recovers_in_time, stays_dead}
use Rattle.sercos_law_channel.proofs.Pace.AgeRuns.{ages_where_dead}
use Rattle.sercos_law_channel.proofs.pace_laws.passage_law.Goals as goal

pub returns : goal.returns
returns c = record {
  throughout = stands_throughout;
  clean = stays_clean;
  down = is_clean_or_down;
  recovers = recovers_in_time;
  dead = stays_dead;
  hears = hears_throughout;
  ages = ages_where_dead;
}
