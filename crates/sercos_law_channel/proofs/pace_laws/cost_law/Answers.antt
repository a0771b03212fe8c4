use Rattle.sercos_law_channel.proofs.Cited.{in_cost, rest_in_cost, rest_since, start_in_cost}
use Rattle.sercos_law_channel.proofs.Handshake.Once.{says_shape}
use Rattle.sercos_law_channel.proofs.Pace.SpacedSteps.{spaces_steps}
use Rattle.sercos_law_channel.proofs.Pace.CostRuns.{opens_in_cost}
use Rattle.sercos_law_channel.proofs.Pace.TimedCommands.{comes_timed}
use Rattle.sercos_law_channel.proofs.pace_laws.cost_law.Goals as goal

pub returns : goal.returns
returns c = record {
  spaced = spaces_steps;
  in_cost = in_cost;
  opens = λ busy time longest blocks cycles past small. opens_in_cost says_shape busy time longest blocks small cycles past;
  starts = start_in_cost;
  recovers = rest_in_cost;
  timed = comes_timed;
  since = rest_since;
}
